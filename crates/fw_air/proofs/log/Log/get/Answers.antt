use Rattle.std.proofs.Common.{◌≡◌, ◌++◌, ◌+◌, ◌≤◌, ◌-◌, List, length, slice_get, ap, sym, subst, ◌∙◌, arith, length-append}
use Rattle.fw_world.specs.World.{Datagram}
use Rattle.fw_air.specs.Logs.{IsCopy, Log}
use Rattle.fw_air.specs.Parts.{parts, datagrams_of}
use Rattle.fw_air.proofs.Finding.{finds}
use Rattle.fw_air.proofs.log.Log.get.Goals as goal

pub returns : goal.returns
returns c = λ few.
    let xs : List Datagram = c.self.inside.sent.items in
    let ys : List Datagram = datagrams_of (parts c.self.inside.newer.chain) in
    let is : c.args.self.now.sent ≡ xs ++ ys = ap (λ (l : Log). l.sent) (sym c.self.view_is) in
    let len : length c.args.self.now.sent ≡ length xs + length ys = ap length is ∙ length-append xs ys in
    let first : length c.as_slice-first.result.now ≡ length xs = ap length c.as_slice-first.ensures.value in
    let low : length xs ≤ c.args.number = let h = c.if-number-first.false in omega arith in
    let joined = length-append xs ys in
    let end : c.self.inside.datagrams ≡ length xs + length ys = let h = c.self.invariant.datagrams_are in omega arith in
    let start : length xs ≡ c.self.inside.datagrams - length ys = omega arith in
    let f = finds c.args.self.now.sent xs ys c.self.inside.datagrams (length xs) c.args.number 0 is (omega arith) start (omega arith) in
    let there : slice_get ys (c.args.number - length xs) ≡ slice_get c.args.self.now.sent c.args.number =
    sym (ap (slice_get c.args.self.now.sent) (omega arith) ∙ f.from low) in
    subst (IsCopy c.find.result) there (c.find.ensures (length xs) end low)
