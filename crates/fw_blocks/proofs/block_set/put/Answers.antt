use Rattle.std.proofs.Common.{◌≡◌, ◌+◌, ◌<◌, ◌≤◌, ℕ, List, length, sym, subst, ◌∙◌, ap, arith}
use Rattle.std.proofs.lemmas.Option.{slice_get_within, get_or_from_slice_get}
use Rattle.std.specs.List.{AllWithin, slice_get, insert}
use Rattle.std.specs.Prelude.{Some, None}
use Rattle.fw_blocks.specs.Private.{IsKept, Puts}
use Rattle.fw_blocks.specs.declared.runs.Run.{Run}
use Rattle.fw_blocks.proofs.PutLemmas.{LieApart, below_all, put_alone_at_end, put_alone_before, put_before, put_there, room_for}
use Rattle.fw_blocks.proofs.RunLemmas.{slice_get_none}
use Rattle.fw_blocks.proofs.block_set.put.Goals as goal

some_apart : (n capacity : ℕ) (xs : List Run) → (count : ℕ) × (n < count) × IsKept count xs capacity → LieApart n xs
some_apart n capacity xs kept = (kept.0, kept.1, kept.2.apart)

alone_at_end : (n : ℕ) (xs : List Run) (at : ℕ) → LieApart n xs → at ≤ length xs → slice_get xs at ≡ None → AllWithin (λ run. run.end < n) xs 0 at
    → Puts n xs (insert xs at (record { start = n; end = n + 1 }))
alone_at_end n xs at some within none before =
    let past = slice_get_none xs at none in
    below_all n xs _ some (λ count below apart. put_alone_at_end count n xs at apart below (omega arith) before)

alone_before : (n : ℕ) (xs : List Run) (at : ℕ) (r : Run) → LieApart n xs → slice_get xs at ≡ Some r → AllWithin (λ run. run.end < n) xs 0 at
    → (n + 1 ≡ r.start → ⊥) → n < r.start → Puts n xs (insert xs at (record { start = n; end = n + 1 }))
alone_before n xs at r some there before other below_start =
    below_all n xs _ some (λ count below apart. put_alone_before count n xs at r apart below there before (omega (arith, other)))

pub put_alone-requires-clause-room : goal.put_alone-requires-clause-room
put_alone-requires-clause-room c =
    let xs = c.args.runs.now.items in
    let n = c.args.number in
    let some : LieApart n xs = some_apart n _ xs c.requires in
    let read = c.as_slice.ensures.value in
    let read' = c.as_slice-2.ensures.value in
    let within : c.place_of-at.result ≤ length xs = subst (λ l. c.place_of-at.result ≤ length l) read c.place_of-at.ensures.within in
    let none = sym (ap (λ l. slice_get l c.place_of-at.result) (sym read') ∙ sym c.run_at.ensures) in
    let before = subst (λ l. AllWithin (λ (run : Run). run.end < n) l 0 c.place_of-at.result) read c.place_of-at.ensures.before in
    let puts = alone_at_end n xs c.place_of-at.result some within (ap (λ l. slice_get l c.place_of-at.result) (sym read') ∙ sym c.run_at.ensures ∙ c.in_default.is) before in
    let room = room_for c.requires.0 n _ xs c.place_of-at.result _ c.requires.2 c.requires.1 within puts in
    omega (arith, room, c.as_slice.ensures.len, ap length read)

pub returns-in_default-clause-puts : goal.returns-in_default-clause-puts
returns-in_default-clause-puts c =
    let xs = c.args.runs.now.items in
    let n = c.args.number in
    let read = c.as_slice.ensures.value in
    let read' = c.as_slice-2.ensures.value in
    let within : c.place_of-at.result ≤ length xs = subst (λ l. c.place_of-at.result ≤ length l) read c.place_of-at.ensures.within in
    let before = subst (λ l. AllWithin (λ (run : Run). run.end < n) l 0 c.place_of-at.result) read c.place_of-at.ensures.before in
    rw c.put_alone.ensures.runs
    (alone_at_end n xs c.place_of-at.result (some_apart n _ xs c.requires) within (ap (λ l. slice_get l c.place_of-at.result) (sym read') ∙ sym c.run_at.ensures ∙ c.in_default.is) before)

pub index_mut-requires : goal.index_mut-requires
index_mut-requires c =
    let xs = c.args.runs.now.items in
    let read = c.as_slice.ensures.value in
    let read' = c.as_slice-2.ensures.value in
    let there : slice_get xs c.place_of-at.result ≡ Some c.in-Some.run' = ap (λ l. slice_get l c.place_of-at.result) (sym read') ∙ sym c.run_at.ensures ∙ c.in-Some.is in
    let within = slice_get_within xs c.place_of-at.result c.in-Some.run' there in
    omega (arith, within, c.as_slice.ensures.len, ap length read)

pub put_alone-requires-then-number-run-2-clause-room : goal.put_alone-requires-then-number-run-2-clause-room
put_alone-requires-then-number-run-2-clause-room c =
    let xs = c.args.runs.now.items in
    let n = c.args.number in
    let read = c.as_slice.ensures.value in
    let read' = c.as_slice-2.ensures.value in
    let within : c.place_of-at.result ≤ length xs = subst (λ l. c.place_of-at.result ≤ length l) read c.place_of-at.ensures.within in
    let there : slice_get xs c.place_of-at.result ≡ Some c.in-Some.run' = ap (λ l. slice_get l c.place_of-at.result) (sym read') ∙ sym c.run_at.ensures ∙ c.in-Some.is in
    let before = subst (λ l. AllWithin (λ (run : Run). run.end < n) l 0 c.place_of-at.result) read c.place_of-at.ensures.before in
    let puts = alone_before n xs c.place_of-at.result c.in-Some.run' (some_apart n _ xs c.requires) there before c.if-number-run.false c.if-number-run-2.true in
    let room = room_for c.requires.0 n _ xs c.place_of-at.result _ c.requires.2 c.requires.1 within puts in
    omega (arith, room, c.as_slice.ensures.len, ap length read)

pub returns-then-number-run-clause-puts : goal.returns-then-number-run-clause-puts
returns-then-number-run-clause-puts c =
    let xs = c.args.runs.now.items in
    let n = c.args.number in
    let read = c.as_slice.ensures.value in
    let read' = c.as_slice-2.ensures.value in
    let there : slice_get xs c.place_of-at.result ≡ Some c.in-Some.run' = ap (λ l. slice_get l c.place_of-at.result) (sym read') ∙ sym c.run_at.ensures ∙ c.in-Some.is in
    let before = subst (λ l. AllWithin (λ (run : Run). run.end < n) l 0 c.place_of-at.result) read c.place_of-at.ensures.before in
    below_all n xs _ (some_apart n _ xs c.requires) (λ count below apart. put_before count n xs c.place_of-at.result c.in-Some.run' apart there before c.if-number-run.true)

pub returns-then-number-run-2-clause-puts : goal.returns-then-number-run-2-clause-puts
returns-then-number-run-2-clause-puts c =
    let xs = c.args.runs.now.items in
    let n = c.args.number in
    let read = c.as_slice.ensures.value in
    let read' = c.as_slice-2.ensures.value in
    let there : slice_get xs c.place_of-at.result ≡ Some c.in-Some.run' = ap (λ l. slice_get l c.place_of-at.result) (sym read') ∙ sym c.run_at.ensures ∙ c.in-Some.is in
    let before = subst (λ l. AllWithin (λ (run : Run). run.end < n) l 0 c.place_of-at.result) read c.place_of-at.ensures.before in
    rw c.put_alone-then-number-run-2.ensures.runs
    (alone_before n xs c.place_of-at.result c.in-Some.run' (some_apart n _ xs c.requires) there before c.if-number-run.false c.if-number-run-2.true)

pub returns-else-number-run-2-clause-puts : goal.returns-else-number-run-2-clause-puts
returns-else-number-run-2-clause-puts c =
    let xs = c.args.runs.now.items in
    let n = c.args.number in
    let run = c.in-Some.run' in
    let read = c.as_slice.ensures.value in
    let read' = c.as_slice-2.ensures.value in
    let there : slice_get xs c.place_of-at.result ≡ Some run = ap (λ l. slice_get l c.place_of-at.result) (sym read') ∙ sym c.run_at.ensures ∙ c.in-Some.is in
    let within = slice_get_within xs c.place_of-at.result run there in
    let behind = subst (λ l. AllWithin (λ (run : Run). n ≤ run.end) l c.place_of-at.result (length l)) read c.place_of-at.ensures.behind in
    let ends : n ≤ run.end = subst (λ (r : Run). n ≤ r.end) (get_or_from_slice_get xs c.place_of-at.result run run there) (behind c.place_of-at.result run (omega arith) within) in
    put_there n xs c.place_of-at.result run (some_apart n _ xs c.requires) there (omega (arith, c.if-number-run-2.false)) (omega (arith, ends, c.if-run-number.false))
