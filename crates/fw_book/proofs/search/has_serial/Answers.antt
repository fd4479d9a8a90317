use Rattle.std.proofs.Common.{◌≡◌, ℕ, nat_eq, cond, is_some, true, false, List, Some, refl, sym, ap}
use Rattle.std.proofs.lemmas.Bool.{false_from_ne_true}
use Rattle.std.proofs.lemmas.Bool.Decides.{Decides-eqb}
use Rattle.std.specs.Map.{lookup}
use Rattle.fw_book.specs.Contents.{Offered}
use Rattle.fw_book.specs.Private.{entry_in}
use Rattle.fw_book.proofs.Walks.{left_step, left_found, left_end}
use Rattle.fw_book.proofs.search.has_serial.Goals as goal

pub returns-then-entry-serial : goal.returns-then-entry-serial
returns-then-entry-serial c = λ list are.
    let entry : ℕ × Offered = entry_in c.in-Some.entry.serial c.in-Some.entry.release c.in-Some.entry.image.now c.in-Some.entry.rows.now in
    let same : nat_eq c.args.serial entry.0 ≡ true = (Decides-eqb c.args.serial entry.0).1 (sym c.if-entry-serial.true) in
    sym (left_found c.args.version (λ (xs : List (ℕ × Offered)). is_some (lookup (nat_eq c.args.serial) xs)) list c.in-Some.entry.image.now c.in-Some.entry.rows.now c.in-Some.after.now
    c.loop-entry.rest.now c.in-Some.entry.serial c.in-Some.entry.release c.in-Some.ensures.found c.in-Some.ensures.shorter
    (λ others. ap (λ b. is_some (cond b (Some entry.1) (lookup (nat_eq c.args.serial) others))) same) (c.loop-entry.invariant list are))

pub loop-entry-preserved : goal.loop-entry-preserved
loop-entry-preserved c = λ list are.
    let entry : ℕ × Offered = entry_in c.in-Some.entry.serial c.in-Some.entry.release c.in-Some.entry.image.now c.in-Some.entry.rows.now in
    let other : nat_eq c.args.serial entry.0 ≡ false = false_from_ne_true _ (λ same. c.if-entry-serial.false (sym ((Decides-eqb c.args.serial entry.0).0 same))) in
    left_step c.args.version (λ (xs : List (ℕ × Offered)). is_some (lookup (nat_eq c.args.serial) xs)) list c.in-Some.entry.image.now c.in-Some.entry.rows.now c.in-Some.after.now
    c.loop-entry.rest.now c.in-Some.entry.serial c.in-Some.entry.release c.in-Some.ensures.found c.in-Some.ensures.shorter
    (λ others. ap (λ b. is_some (cond b (Some entry.1) (lookup (nat_eq c.args.serial) others))) other) (c.loop-entry.invariant list are)

pub returns : goal.returns
returns c = λ list are.
    sym (left_end c.args.version (λ (xs : List (ℕ × Offered)). is_some (lookup (nat_eq c.args.serial) xs)) list c.loop-entry.rest.now c.in_default.ensures.none refl
    (c.loop-entry.invariant list are))
