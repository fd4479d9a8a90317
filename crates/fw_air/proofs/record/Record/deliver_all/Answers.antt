use Rattle.std.proofs.Common.{◌≡◌, ℕ, ◌+◌, ◌<◌, [], ◌∷◌, ◌++◌, map, take, length, slice_index_or, subst, sym, ap, ◌∙◌, arith}
use Rattle.std.proofs.lemmas.List.{take_more, get_or-map, length-map}
use Rattle.fw_world.specs.Step.{Event, deliver}
use Rattle.fw_air.specs.Private.{Follows}
use Rattle.fw_air.proofs.Present.{still_sent}
use Rattle.fw_air.proofs.Runs.{follows_on}
use Rattle.fw_air.proofs.record.Record.deliver_all.Goals as goal

pub loop-datagram-preserved : goal.loop-datagram-preserved
loop-datagram-preserved c =
    let datagrams = c.args.datagrams.now in
    let i = c.loop-datagram.datagram-index in
    let inside : i < length datagrams = omega (arith, c.loop-datagram-test.true) in
    let come : ℕ → Event = λ number. deliver number in
    let mapped : i < length (map come datagrams) = omega (arith, length-map datagrams come) in
    let one : Event = deliver (slice_index_or datagrams i 0) in
    let next : take (i + 1) (map come datagrams) ≡ take i (map come datagrams) ++ one ∷ [] =
    take_more (map come datagrams) i one mapped ∙ ap (λ x. take i (map come datagrams) ++ x ∷ []) (get_or-map come datagrams i 0 one inside) in
    let made : Follows c.loop-datagram.self (one ∷ []) c.deliver.new.self = c.in_ok-deliver.ensures.made in (
      subst (λ l. Follows c.args.self.now l c.deliver.new.self) (sym next) (follows_on c.args.self.now c.loop-datagram.self c.deliver.new.self _ (one ∷ []) c.loop-datagram.invariant.0 made),
      still_sent c.loop-datagram.self.world c.deliver.new.self.world (one ∷ []) datagrams made.run c.loop-datagram.invariant.1,
    )
