use Rattle.std.proofs.Common.{◌≡◌, ℕ, ◌+◌, ◌-◌, ◌≤◌, List, [], ◌∷◌, ◌++◌, length, map, refl, sym, ap, subst, arith, rules}
use Rattle.std.specs.Global.{Vec}
use Rattle.fw_blocks.specs.Width.{max_width}
use Rattle.fw_apdu.specs.Request.{request_bytes}
use Rattle.fw_wrapper.specs.Wrapper.{wrapped, wport}
use Rattle.fw_client.specs.Ask.{request_of, CarriesRequest}
use Rattle.fw_client.specs.State.{invoke_byte}
use Rattle.fw_head.specs.Phase.{block_ask}
use Rattle.fw_head.specs.Row.{bytes_of, datagrams}
use Rattle.fw_head.specs.Private.{Carry}
use Rattle.fw_head.proofs.FreeIds.{none_lately}
use Rattle.fw_head.proofs.Sending.{sent_more, asked_more, lately_more, fewer, no_more, carry_more}
use Rattle.fw_head.proofs.asks.ask_blocks.Goals as goal

none_yet : (sent : List (Vec ℕ)) (numbers : List ℕ) → sent ≡ [] → length numbers ≤ max_width → length sent + length numbers ≤ max_width
none_yet sent numbers none few =
    let empty : length sent ≡ 0 = ap length none in
    omega (arith, empty, few)

pub loop-number-init : goal.loop-number-init
loop-number-init c =
    let h = c.in_ok-sent.ensures.items in
    let ap_few = none_yet c.in_ok-sent.sent.items c.args.numbers.now h c.requires.most in
    let whole : (later : List (List ℕ)) → Carry c.args.client.now (map (block_ask c.args.image.now c.args.geometry) c.args.numbers.now) later → Carry c.args.client.now (map (block_ask c.args.image.now c.args.geometry) c.args.numbers.now) (bytes_of c.in_ok-sent.sent.items ++ later) = λ later carry. subst (λ (l : List (Vec ℕ)). Carry c.args.client.now (map (block_ask c.args.image.now c.args.geometry) c.args.numbers.now) (bytes_of l ++ later)) (sym h) carry in
    (ap (λ (l : List (Vec ℕ)). bytes_of l ++ datagrams c.args.client.now (map (block_ask c.args.image.now c.args.geometry) c.args.numbers.now)) h, refl, none_lately c.args.client.now (max_width - length c.args.numbers.now) c.requires.idle, c.requires.most, ap_few, whole)

pub loop-number-preserved : goal.loop-number-preserved
loop-number-preserved c =
    let f = block_ask c.args.image.now c.args.geometry in
    let so_far = c.loop-number.invariant in
    let next : c.loop-number.rest.now ≡ c.in-Some.number.now ∷ c.in-Some.others.now = search rules in
    let block = c.block-value.ensures.cut in
    let written : c.in_ok-datagram.field-0.items ≡ wrapped wport wport (request_bytes (invoke_byte c.loop-number.client.next) (request_of (f c.in-Some.number.now))) = grind (arith, block, c.in_ok-datagram.ensures.written) in
    let carries : CarriesRequest c.in_ok-datagram.field-0.items (invoke_byte c.loop-number.client.next) (request_of (f c.in-Some.number.now)) = rw (← block) c.in_ok-datagram.ensures.carries in (
      sent_more f c.loop-number.sent.items c.push.new.self.items c.in_ok-datagram.field-0 c.loop-number.client c.datagram.new.client c.loop-number.rest.now c.in-Some.number.now c.in-Some.others.now _ so_far.0 next written c.in_ok-push.ensures.items c.in_ok-datagram.ensures.asked,
      asked_more f c.loop-number.client c.datagram.new.client _ c.loop-number.rest.now c.in-Some.number.now c.in-Some.others.now so_far.1 next c.in_ok-datagram.ensures.asked,
      lately_more f c.loop-number.client c.datagram.new.client c.loop-number.rest.now c.in-Some.number.now c.in-Some.others.now so_far.2 so_far.3 next c.in_ok-datagram.ensures.asked,
      fewer c.loop-number.rest.now c.in-Some.others.now c.in-Some.number.now so_far.3 next,
      no_more c.loop-number.sent.items c.push.new.self.items c.in_ok-datagram.field-0 c.loop-number.rest.now c.in-Some.others.now c.in-Some.number.now so_far.4 next c.in_ok-push.ensures.items,
      carry_more f c.loop-number.sent.items c.push.new.self.items c.in_ok-datagram.field-0 c.loop-number.client c.datagram.new.client c.args.client.now c.args.numbers.now c.loop-number.rest.now c.in-Some.number.now c.in-Some.others.now so_far.5 next c.datagram.ensures.id carries c.in_ok-push.ensures.items c.in_ok-datagram.ensures.asked,
    )
