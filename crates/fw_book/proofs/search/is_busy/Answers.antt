use Rattle.std.proofs.Common.{ℕ, ◌||◌, List, refl, sym, ap, ◌∙◌}
use Rattle.fw_book.specs.Contents.{Offered, is_busy}
use Rattle.fw_book.proofs.Walks.{left_step, left_found, left_end}
use Rattle.fw_book.proofs.search.is_busy.Goals as goal

pub returns-then-is_live : goal.returns-then-is_live
returns-then-is_live c = λ list are.
    sym (left_found c.args.version (λ (xs : List (ℕ × Offered)). is_busy xs c.args.meter) list c.in-Some.entry.image.now c.in-Some.entry.rows.now c.in-Some.after.now
    c.loop-entry.rest.now c.in-Some.entry.serial c.in-Some.entry.release c.in-Some.ensures.found c.in-Some.ensures.shorter
    (λ others. ap (λ b. b || is_busy others c.args.meter) (sym c.is_live.ensures ∙ c.if-is_live.true)) (c.loop-entry.invariant list are))

pub loop-entry-preserved : goal.loop-entry-preserved
loop-entry-preserved c = λ list are.
    left_step c.args.version (λ (xs : List (ℕ × Offered)). is_busy xs c.args.meter) list c.in-Some.entry.image.now c.in-Some.entry.rows.now c.in-Some.after.now
    c.loop-entry.rest.now c.in-Some.entry.serial c.in-Some.entry.release c.in-Some.ensures.found c.in-Some.ensures.shorter
    (λ others. ap (λ b. b || is_busy others c.args.meter) (sym c.is_live.ensures ∙ c.if-is_live.false)) (c.loop-entry.invariant list are)

pub returns : goal.returns
returns c = λ list are.
    sym (left_end c.args.version (λ (xs : List (ℕ × Offered)). is_busy xs c.args.meter) list c.loop-entry.rest.now c.in_default.ensures.none refl
    (c.loop-entry.invariant list are))
