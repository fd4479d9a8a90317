-- What stands behind the shut gate of a journal.
use Rattle.std.proofs.Common.{◌≡◌, inl, inr, ℕ, zero, suc, ◌≤◌, List, [], ◌∷◌, ◌++◌, length, drop, refl, sym, ◌∙◌, ap, subst, arith, length-append}
use Rattle.std.specs.Int.{w32, to_be_bytes}
use Rattle.std.proofs.lemmas.List.{drop_at}
use Rattle.sha2.specs.Sha256.{sha256}
use Rattle.fw_journal.specs.Book.{body, book_front, Stands, HasBlock, HasBlocks, Drops}
use Rattle.fw_journal.specs.Keeping.{IsUntouched, KeepsFirst}
use Rattle.fw_journal.specs.declared.device.JournalDevice
use Rattle.fw_journal.specs.declared.keeping.Keeper
use Rattle.fw_journal.proofs.BookLemmas.{body_unique, tail_of, stands_unique}

-- one byte is no record behind a byte
lone_gate : (b : ℕ) (rest : List ℕ) → HasBlock (b ∷ []) rest → ⊥
lone_gate b rest block =
    let four : length (to_be_bytes w32 (length block.entry)) ≡ 4 = refl in
    omega (arith, four, ap length block.split, length-append (body block.entry) rest, length-append (to_be_bytes w32 (length block.entry)) (block.entry ++ sha256 block.entry))

pub lone_gates : (n b : ℕ) → HasBlocks n (b ∷ []) → n ≡ 0
lone_gates zero b has = refl
lone_gates (suc n) b has = absurd (lone_gate b has.0 has.1)

block_unique : (bytes r s : List ℕ) → HasBlock bytes r → HasBlock bytes s → r ≡ s
block_unique bytes r s one other =
    let same : one.gate ∷ (body one.entry ++ r) ≡ other.gate ∷ (body other.entry ++ s) = sym one.split ∙ other.split in
    (body_unique one.entry other.entry r s one.short other.short (tail_of one.gate other.gate (body one.entry ++ r) (body other.entry ++ s) same)).1

-- bytes have one number of blocks
pub count_unique : (bytes : List ℕ) (m n : ℕ) → HasBlocks m bytes → HasBlocks n bytes → m ≡ n
count_unique bytes zero zero hm hn = refl
count_unique bytes zero (suc n) hm hn = absurd (hm hn.0 hn.1)
count_unique bytes (suc m) zero hm hn = absurd (hn hm.0 hm.1)
count_unique bytes (suc m) (suc n) hm hn =
    let same = block_unique bytes hm.0 hn.0 hm.1 hn.1 in
    ap (λ (k : ℕ). suc k) (count_unique hn.0 m n (subst (λ (l : List ℕ). HasBlocks m l) same hm.2) hn.2)

-- one block more stands first
pub one_more : (bytes rest : List ℕ) (n : ℕ) → HasBlock bytes rest → HasBlocks n rest → HasBlocks (suc n) bytes
one_more bytes rest n block has = (rest, block, has)

-- what stands behind the records is what is dropped
pub dropped_is : (bytes rest : List ℕ) (count : ℕ) (records : List (List ℕ)) (end : ℕ) → Stands bytes records → end ≡ length (book_front records) → Drops bytes rest count → rest ≡ drop end bytes
dropped_is bytes rest count records end stands ends drops =
    let same : records ≡ drops.records = stands_unique bytes records drops.records stands drops.stands in
    let sized : length (book_front drops.records) ≡ end = sym (ends ∙ ap (λ (l : List (List ℕ)). length (book_front l)) same) in
    drops.rest_is ∙ sym (drop_at (book_front drops.records) drops.stands.end end sized) ∙ ap (λ (l : List ℕ). drop end l) (sym drops.stands.split)

-- and so many whole records are in it
pub drops_of : (bytes : List ℕ) (records : List (List ℕ)) (end count : ℕ) → Stands bytes records → end ≡ length (book_front records) → HasBlocks count (drop end bytes) → Drops bytes (drop end bytes) count
drops_of bytes records end count stands ends counted = record {
  records = records;
  stands = stands;
  rest_is = ap (λ (l : List ℕ). drop end l) stands.split ∙ drop_at (book_front records) stands.end end (sym ends);
  counted = counted;
}

-- what was kept of a device whose bytes are a journal of these records, which end there
module _ {D K : Type 0} (J : JournalDevice.Ghosts D) (Kept : Keeper.Ghosts K) (old new : D) (keeper later : K) (bytes : List ℕ) (records : List (List ℕ)) (end : ℕ)
    (same : bytes ≡ J.contents old) (stands : Stands bytes records) (ends : end ≡ length (book_front records)) (idle : HasBlocks 0 (drop end bytes) → later ≡ keeper) where
  found : (rest : List ℕ) (count : ℕ) → Drops (J.contents old) rest count → rest ≡ drop end bytes
  found rest count drops = dropped_is bytes rest count records end stands ends (subst (λ (l : List ℕ). Drops l rest count) (sym same) drops)

  nothing : (rest : List ℕ) → Drops (J.contents old) rest 0 → later ≡ keeper
  nothing rest drops = idle (subst (λ (l : List ℕ). HasBlocks 0 l) (found rest 0 drops) drops.counted)

  pub held_rest : ((count : ℕ) → HasBlocks count (drop end bytes) → 1 ≤ count → Kept.holds later (drop end bytes)) → (rest : List ℕ) (count : ℕ) → Drops (J.contents old) rest count → 1 ≤ count → Kept.holds later rest
  held_rest held rest count drops some =
      let is = found rest count drops in
      subst (λ (l : List ℕ). Kept.holds later l) (sym is) (held count (subst (λ (l : List ℕ). HasBlocks count l) is drops.counted) some)

  -- a lone shut gate has no record behind it
  pub none_dropped : drop end bytes ≡ 0 ∷ [] → (rest : List ℕ) (count : ℕ) → Drops (J.contents old) rest count → 1 ≤ count → ⊥
  none_dropped whole rest count drops some =
      let none = lone_gates count 0 (subst (λ (l : List ℕ). HasBlocks count l) (found rest count drops ∙ whole) drops.counted) in
      omega (arith, some, none)

  pub held_first : ((count : ℕ) → HasBlocks count (drop end bytes) → 1 ≤ count → Kept.holds later (drop end bytes)) → KeepsFirst J Kept old new keeper later
  held_first held = record { first = λ rest count drops some. inl (held_rest held rest count drops some); nothing_else = nothing }

  pub refused_first : IsUntouched J old new → KeepsFirst J Kept old new keeper later
  refused_first untouched = record { first = λ rest count drops some. inr untouched; nothing_else = nothing }
