-- What is written again of FILE, so far.
use Rattle.std.proofs.Common.{◌≡◌, ◌⊎◌, inl, inr, ℕ, ◌+◌, ◌≤◌, ◌<◌, List, length, slice_range, sym, ◌∙◌, ap, arith}
use Rattle.fw_cuts.specs.Both.{Both, On}
use Rattle.fw_cuts.specs.Cuts.{Seen, Goes, Stays, Cuts, Writes, IsSynced, NoneLost, NoneLostOf, LosesNoMore}
use Rattle.fw_cuts.specs.Private.{IsWrittenAgain}
use Rattle.fw_cuts.specs.declared.files.Part.TheVariants.{Store}
use Rattle.fw_cuts.proofs.Splices.{splice_same}

pub same_both : (a b : Both) → b.store ≡ a.store → b.journal ≡ a.journal → b ≡ a
same_both a b store journal =
    ap (λ (l : List ℕ). record { store = l; journal = b.journal }) store
    ∙ ap (λ (l : List ℕ). record { store = a.store; journal = l }) journal

pub record IsWrittenTo (size at : ℕ) (old now : Seen) : Type 0 where
  pub held : now.held ≡ old.held
  pub all : size ≡ length old.held.store
  pub found : (i : ℕ) → now.lost Store i → at ≤ i

pub begins : (old now : Seen) (size : ℕ) → Goes Stays old now → size ≡ length old.held.store → IsWrittenTo size 0 old now
begins old now size asks all = record { held = asks.reads; all = all; found = λ i lost. omega arith }

-- a piece is read and written
pub goes_on : (old before read now : Seen) (size at count : ℕ) (bytes : List ℕ) → IsWrittenTo size at old before → at + count ≤ size → length bytes ≡ count
    → Goes Stays before read → LosesNoMore before read → bytes ≡ slice_range before.held.store at (at + count)
    → Goes (On Store (Cuts at bytes)) read now → On Store (Writes at bytes) read.held now.held → LosesNoMore read now → NoneLostOf Store at (length bytes) now
    → IsWrittenTo size (at + count) old now
goes_on old before read now size at count bytes so_far within few reads no_more is writes written no_more_now found =
    let same : read.held ≡ before.held = reads.reads in
    let there : slice_range read.held.store at (at + length bytes) ≡ bytes =
    ap (λ (n : ℕ). slice_range read.held.store at (at + n)) few ∙ ap (λ (d : Both). slice_range d.store at (at + count)) same ∙ sym is in
    record {
      held = same_both read.held now.held (written.0 ∙ splice_same read.held.store at bytes there) written.1 ∙ same ∙ so_far.held;
      all = so_far.all;
      found = λ i lost. past i (so_far.found i (no_more Store i (no_more_now Store i lost))) (found i lost);
    }
  where
    past : (i : ℕ) → at ≤ i → (i < at) ⊎ (at + length bytes ≤ i) → at + count ≤ i
    past i from (inl less) = absurd (omega (arith, from, less))
    past i from (inr more) = omega (arith, more, few)

-- all of it is
pub none_lost : (old before : Seen) (size at : ℕ) → IsWrittenTo size at old before → size ≤ at → ((i : ℕ) → before.lost Store i → i < length before.held.store) → NoneLost Store before
none_lost old before size at so_far past there i lost =
    let low : i < length before.held.store = there i lost in
    let high : at ≤ i = so_far.found i lost in
    let same : length before.held.store ≡ size = ap (λ (d : Both). length d.store) so_far.held ∙ sym so_far.all in
    omega (arith, low, high, same, past)

pub ends : (old before now : Seen) (size at : ℕ) → IsWrittenTo size at old before → NoneLost Store before → Goes Stays before now → LosesNoMore before now → IsSynced Store now → IsWrittenAgain old now
ends old before now size at so_far none syncs no_more synced = record {
  held = syncs.reads ∙ so_far.held;
  synced = synced;
  found = λ i lost. none i (no_more Store i lost);
}
