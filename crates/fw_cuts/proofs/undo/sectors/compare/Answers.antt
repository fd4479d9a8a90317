use Rattle.std.proofs.Common.{rules, ◌≡◌, ◌+◌, ◌-◌, ◌*◌, ◌≤◌, ℕ, length, take, drop, sym, ap, ◌∙◌}
use Rattle.fw_cuts.proofs.OneSector.{by_sectors, from_sector, one_alone, rest_same, to_end}
use Rattle.fw_cuts.specs.Sectors.{in_sector}
use Rattle.fw_cuts.proofs.undo.sectors.compare.Goals as goal

pub returns-in_default : goal.returns-in_default
returns-in_default c = sym (by_sectors c.args.at c.args.before.now c.args.after.now (sym c.requires.after)
    (from_sector c.args.at c.args.before.now c.args.after.now c.in_default.ensures.none))

pub returns-then-eq : goal.returns-then-eq
returns-then-eq c =
    let end : ℕ = c.bounds-start.result.1 in
    let within : end ≤ 512 * c.in-Some.sector + 512 - c.args.at = search rules in
    let read : take (length c.args.before.now - end) (drop end c.args.before.now) ≡ take (length c.args.after.now - end) (drop end c.args.after.now) = search rules in
    let rest : drop end c.args.before.now ≡ drop end c.args.after.now = sym (to_end end c.args.before.now) ∙ read ∙ to_end end c.args.after.now in (
      one_alone c.args.at c.in-Some.sector end c.args.before.now c.args.after.now within rest c.in-Some.ensures.first,
      λ same. c.in-Some.ensures.differ (sym (ap (in_sector c.args.at c.in-Some.sector) same)),
    )

pub returns-else-eq : goal.returns-else-eq
returns-else-eq c = λ one.
    let end : ℕ = c.bounds-start.result.1 in
    let same = rest_same c.args.at c.in-Some.sector c.args.before.now c.args.after.now (sym c.requires.after) one c.in-Some.ensures.differ in
    let rest : drop end c.args.before.now ≡ drop end c.args.after.now = search rules in
    let read : take (length c.args.before.now - end) (drop end c.args.before.now) ≡ take (length c.args.after.now - end) (drop end c.args.after.now)
    = to_end end c.args.before.now ∙ rest ∙ sym (to_end end c.args.after.now) in
    search rules
