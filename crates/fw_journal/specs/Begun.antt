-- Public vocabulary: which file beside a journal is its own.
use Rattle.std.specs.Prelude.{◌≡◌, ◌⊎◌, ℕ, ◌≤◌, List, length, take}
use Rattle.std.proofs.Common.{◌∙◌, inl, inr, arith}
use Rattle.std.proofs.lemmas.Bool.{cases_lt}
use Rattle.std.proofs.lemmas.List.{length-take, take-take}
use Rattle.fw_journal.specs.Book.{mark}

-- what a cut making leaves of a journal: no more bytes than a new one has, of any value, or bytes that begin as a journal does
abbrev pub IsBegunJournal : List ℕ → Type 0
IsBegunJournal bytes = (length bytes ≤ 5) ⊎ (take 4 bytes ≡ mark)

-- ---- its laws: any bytes of which none other is written yet are ours, and the first bytes of what is ours

pub few_are_begun : (bytes : List ℕ) → length bytes ≤ 5 → IsBegunJournal bytes
few_are_begun bytes few = inl few

pub front_is_begun : (count : ℕ) (bytes : List ℕ) → IsBegunJournal bytes → IsBegunJournal (take count bytes)
front_is_begun count bytes is =
    let size = length-take count bytes in
    elim is [
      | inl few ↦ inl (omega arith)
      | inr begins ↦ elim (cases_lt count 4) [
        | inl short ↦ inl (omega arith)
        | inr long ↦ inr (take-take 4 count bytes long ∙ begins)
      ]
    ]
