use Rattle.std.proofs.Common.{Bool, IsTrue, ℕ, ap, ◌∙◌, subst}
use Rattle.fw_counter.specs.Moves.{Counter}
use Rattle.fw_counter.specs.Reserved.{Reserves}
use Rattle.fw_host.proofs.counter_file.make_on.Goals as goal

-- what is made is on the device before it is named
pub finish-requires : goal.finish-requires
finish-requires g c = λ honest.
    let D = g.D.JournalDevice in
    let same = c.device.ensures.value in
    let was : IsTrue (D.honest c.args.device) = subst (λ (b : Bool). IsTrue b) (ap D.honest same ∙ c.in-Ok.ensures.kept.honesty) honest in
    let none = ap (λ (counter : Counter). counter.reserved) c.in-Ok.ensures.counter in
    λ left may. subst (λ (n : ℕ). Reserves left n) none
    (c.device.ensures.each_cut (c.in-Ok.ensures.made was) left (subst (λ d. D.may_leave d left) same may))
