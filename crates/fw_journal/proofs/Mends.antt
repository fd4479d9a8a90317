-- What a power cut leaves while a journal is opened: the records that it has.
use Rattle.std.proofs.Common.{◌≡◌, ◌⊎◌, inl, ℕ, Bool, IsTrue, List, length, sym, ◌∙◌, subst}
use Rattle.fw_journal.specs.Device.{IsTorn, IsShortened, IsSynced, LeavesOnly}
use Rattle.fw_journal.specs.Book.{book_front, Stands}
use Rattle.fw_journal.specs.Group.{EndsAt}
use Rattle.fw_journal.proofs.Moments.{weaker, follow}
use Rattle.fw_journal.proofs.Ends.{cut_keeps, torn_end, same_records}

module _ {D : Type 0} (moment : D → ℕ) (left_since : D → ℕ → List ℕ → Type 0) (contents : D → List ℕ) (records : List (List ℕ)) (end : ℕ) (ends : end ≡ length (book_front records)) where
  pub cut_leaves : (old new : D) → Stands (contents old) records → LeavesOnly moment left_since old new (IsShortened end (contents old)) → LeavesOnly moment left_since old new (λ left. Stands left records)
  cut_leaves old new stands moments =
      weaker moment left_since old new (IsShortened end (contents old)) (λ left. Stands left records) moments (λ left cut. cut_keeps (contents old) records end ends stands left cut)

  pub gate_leaves : (old new : D) (file : List ℕ) → Stands file records → contents old ≡ book_front records → LeavesOnly moment left_since old new (IsTorn end 1 (contents old)) → LeavesOnly moment left_since old new (λ left. Stands left records)
  gate_leaves old new file stands is moments =
      weaker moment left_since old new (IsTorn end 1 (contents old)) (λ left. Stands left records) moments
      (λ left torn. torn_end file records end ends stands left (subst (λ (l : List ℕ). IsTorn end 1 l left) is torn))

-- a device that was read, and its records, whose bytes were these
pub ends_at : {D : Type 0} (honest : D → Bool) (contents : D → List ℕ) (may_leave : D → List ℕ → Type 0) (old read : D) (bytes : List ℕ) (records : List (List ℕ)) (end : ℕ) → IsTrue (honest old) → honest read ≡ honest old → contents read ≡ contents old
    → IsSynced contents may_leave read → bytes ≡ contents old → Stands bytes records → end ≡ length (book_front records) → EndsAt honest contents may_leave read end records
ends_at honest contents may_leave old read bytes records end honestly keeps same synced is stands ends = record {
  honesty = subst (λ b. IsTrue b) (sym keeps) honestly;
  stands = subst (λ (l : List ℕ). Stands l records) (is ∙ sym same) stands;
  ends = ends;
  synced = synced;
}

-- what a cut may leave where the device is read and then its end is mended
pub opened_leaves : {D : Type 0} (moment : D → ℕ) (left_since : D → ℕ → List ℕ → Type 0) (honest : D → Bool) (contents : D → List ℕ) (may_leave : D → List ℕ → Type 0) (records : List (List ℕ)) (end : ℕ) (old read new : D)
    → EndsAt honest contents may_leave read end records → contents read ≡ contents old → LeavesOnly moment left_since old read (may_leave old) → LeavesOnly moment left_since read new (λ left. Stands left records)
    → LeavesOnly moment left_since old new (λ left. may_leave old left ⊎ ((others : List (List ℕ)) → Stands (contents old) others → Stands left others))
opened_leaves moment left_since honest contents may_leave records end old read new at same reads mends =
    let P : List ℕ → Type 0 = λ left. may_leave old left ⊎ ((others : List (List ℕ)) → Stands (contents old) others → Stands left others) in
    let stands : Stands (contents old) records = subst (λ (l : List ℕ). Stands l records) same at.stands in
    follow moment left_since old read new P (weaker moment left_since old read (may_leave old) P reads (λ left now. inl now))
    (weaker moment left_since read new (λ left. Stands left records) P mends (λ left is. same_records (contents old) records end at.ends stands (may_leave old) left is))

-- and that of bytes which were read of it, whose records they have
pub recovered_leaves : {D : Type 0} (moment : D → ℕ) (left_since : D → ℕ → List ℕ → Type 0) (honest : D → Bool) (contents : D → List ℕ) (may_leave : D → List ℕ → Type 0) (old read new : D) (bytes : List ℕ) (records : List (List ℕ)) (end : ℕ)
    → IsTrue (honest old) → honest read ≡ honest old → contents read ≡ contents old → IsSynced contents may_leave read → bytes ≡ contents old → Stands bytes records → end ≡ length (book_front records)
    → LeavesOnly moment left_since old read (may_leave old) → (EndsAt honest contents may_leave read end records → LeavesOnly moment left_since read new (λ left. Stands left records))
    → LeavesOnly moment left_since old new (λ left. may_leave old left ⊎ ((others : List (List ℕ)) → Stands (contents old) others → Stands left others))
recovered_leaves moment left_since honest contents may_leave old read new bytes records end honestly keeps same synced is stands ends reads mends =
    let at = ends_at honest contents may_leave old read bytes records end honestly keeps same synced is stands ends in
    opened_leaves moment left_since honest contents may_leave records end old read new at same reads (mends at)
