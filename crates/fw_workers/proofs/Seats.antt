-- What workers are seated with, one after another.
use Rattle.std.specs.List.{range_with_len}
use Rattle.std.proofs.Common.{◌≡◌, ℕ, zero, suc, ◌+◌, ◌-◌, ◌/◌, List, [], ◌∷◌, ◌++◌, map, ap, sym, ◌∙◌, arith}
use Rattle.std.proofs.lemmas.List.{map_push}
use Rattle.std.proofs.lemmas.List.FromFn.{map-range_with_len_more}
use Rattle.fw_workers.specs.Private.{left_after}

-- one more, whose value is that of its place
pub next_is : {J A : Type 0} (of : J → A) (at : ℕ → A) (jobs : List J) (job : J) (count : ℕ) → map of jobs ≡ map at (range_with_len 0 count)
    → of job ≡ at count → map of (jobs ++ job ∷ []) ≡ map at (range_with_len 0 (count + 1))
next_is of at jobs job count were is =
    map_push of jobs job
    ∙ ap (λ xs. xs ++ of job ∷ []) were
    ∙ ap (λ x. map at (range_with_len 0 count) ++ x ∷ []) is
    ∙ sym (map-range_with_len_more at 0 count count (omega arith))

-- half of what is left is given away once more
pub left_next : (marks count left given next : ℕ) → left ≡ left_after marks count → given ≡ left → next ≡ count + 1
    → left - given / 2 ≡ left_after marks next
left_next marks count left given zero was is more = absurd (omega arith)
left_next marks count left given (suc k) was is more =
    let same : count ≡ k = omega arith in
    ap (λ n. left - n / 2) is ∙ ap (λ n. n - n / 2) (was ∙ ap (left_after marks) same)
