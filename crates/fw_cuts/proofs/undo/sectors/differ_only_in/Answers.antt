use Rattle.std.proofs.Common.{rules, ◌≡◌, ◌+◌, ◌-◌, ◌*◌, ◌≤◌, List, ℕ, min, length, take, drop, sym, ap, ◌∙◌}
use Rattle.fw_cuts.proofs.OneSector.{one_within, to_end}
use Rattle.fw_cuts.proofs.undo.sectors.differ_only_in.Goals as goal

pub returns-then-eq : goal.returns-then-eq
returns-then-eq c = λ front.
    let start : ℕ = c.bounds-start.result.0 in
    let end : ℕ = c.bounds-start.result.1 in
    let before : List ℕ = c.args.before.now in
    let after : List ℕ = c.args.after.now in
    let within : end ≤ 512 * c.args.sector + 512 - c.args.at = search rules in
    let read : take (length before - end) (drop end before) ≡ take (length after - end) (drop end after) = search rules in
    let rest : drop end before ≡ drop end after = sym (to_end end before) ∙ read ∙ to_end end after in
    let first : take start before ≡ take start after = search rules in
    let place : start ≡ min (512 * c.args.sector - c.args.at) (length before) = search rules in
    one_within c.args.at c.args.sector end before after (sym c.requires.after) within rest
    (ap (λ (n : ℕ). take n before) (sym place) ∙ first ∙ ap (λ (n : ℕ). take n after) place)
