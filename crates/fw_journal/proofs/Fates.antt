-- That each content which a power cut may leave is left where the changes have some fates.
use Rattle.std.proofs.Common.{◌≡◌, inl, inr, ⊎_elim, ℕ, zero, suc, ◌+◌, ◌-◌, ◌%◌, ◌<◌, ◌≤◌, List, [], ◌∷◌, ◌++◌, All, nat_lt, map, min, length, take, drop, refl, sym, ◌∙◌, ap, subst, arith, lt-ltb, le-ltb, append_assoc, take-append-drop, length-take, length-drop}
use Rattle.std.proofs.lemmas.Bool.{cases_lt, cond-true, cond-false}
use Rattle.std.proofs.lemmas.List.{take_all, drop_all, drop-drop, take-map, drop-map, length-map}
use Rattle.fw_journal.specs.Device.{splice, IsTorn, IsShortened}
use Rattle.fw_journal.specs.Past.{LeavesOf, LeavesOfAll, AreBytes, fated, fated_all, first_fate}
use Rattle.fw_journal.specs.Laws.{EachIsCut}
use Rattle.fw_journal.specs.declared.disk.Change.{Change}
use Rattle.fw_journal.specs.declared.disk.Change.TheVariants.{Write, Shorten}

-- ---- what a write with a fate leaves

pub fated_after : (at size : ℕ) (fate old : List ℕ) → length old < at → fated (Write at size) fate old ≡ old
fated_after at size fate old after = cond-true (nat_lt (length old) at) old (splice old at (take size fate)) (lt-ltb (length old) at after)

pub fated_within : (at size : ℕ) (fate old : List ℕ) → at ≤ length old → fated (Write at size) fate old ≡ splice old at (take size fate)
fated_within at size fate old within = cond-false (nat_lt (length old) at) old (splice old at (take size fate)) (le-ltb (length old) at within)

-- what one change more leaves
pub next_fated : (change : Change) (others later : List Change) (rest more : List (List ℕ)) (fate left next last : List ℕ) → later ≡ change ∷ others → more ≡ drop 1 rest → fate ≡ first_fate rest → next ≡ fated change fate left
    → fated_all later rest left ≡ last → fated_all others more next ≡ last
next_fated change others later rest more fate left next last split more_is fate_is next_is was =
    ap (λ (l : List (List ℕ)). fated_all others l next) more_is
    ∙ ap (λ (l : List ℕ). fated_all others (drop 1 rest) l) (next_is ∙ ap (λ (l : List ℕ). fated change l left) fate_is)
    ∙ ap (λ (l : List Change). fated_all l rest left) (sym split)
    ∙ was

-- and what a shortening with one

pub shortened_more : (len kept more : ℕ) (old : List ℕ) → kept ≡ min len (length old) → take (kept + min more (length old - kept)) old ≡ take (min len (length old) + more) old
shortened_more len kept more old is =
    ⊎_elim
    (λ all. take_all (kept + min more (length old - kept)) old (omega (arith, is, all)) ∙ sym (take_all (min len (length old) + more) old (omega (arith, all))))
    (λ part. let same : kept + min more (length old - kept) ≡ min len (length old) + more = omega (arith, is, part) in ap (λ (n : ℕ). take n old) same)
    (cases_lt (length old) (min len (length old) + more))

-- ---- each outcome of a change has its fate

-- the fate of a change that left these bytes
abbrev pub fate_in : Change → List ℕ → List ℕ
fate_in (Write at size) new = drop at new
fate_in (Shorten len) new = drop len new

module _ (at size : ℕ) (old new : List ℕ) (torn : IsTorn at size old new) where
  after_end : length old < at → new ≡ old
  after_end after =
      let front : take at new ≡ old = torn.before ∙ take_all at old (omega (arith, after)) in
      let short : length new ≤ at = omega (arith, after, ap length front, length-take at new) in
      sym (take_all at new short) ∙ front

  abbrev pub mid : List ℕ
  mid = take size (drop at new)

  -- what is left behind the range stands behind the fate too
  rest_is : drop (at + length mid) old ≡ drop (at + size) old
  rest_is =
      let long = length-take size (drop at new) in
      let left = length-drop at new in
      ⊎_elim
      (λ short. drop_all (at + length mid) old (omega (arith, long, left, short, torn.no_shorter)) ∙ sym (drop_all (at + size) old (omega (arith, short, torn.no_shorter))))
      (λ whole. let same : at + length mid ≡ at + size = omega (arith, long, left, whole) in ap (λ (n : ℕ). drop n old) same)
      (cases_lt (length new) (at + size))

  behind : drop size (drop at new) ≡ drop (at + length mid) old
  behind = drop-drop size at new ∙ torn.after ∙ sym rest_is

  within_end : new ≡ splice old at mid
  within_end =
      sym (take-append-drop at new)
      ∙ ap (λ (l : List ℕ). l ++ drop at new) torn.before
      ∙ ap (λ (l : List ℕ). take at old ++ l) (sym (take-append-drop size (drop at new)) ∙ ap (λ (l : List ℕ). mid ++ l) behind)
      ∙ sym (append_assoc (take at old) mid (drop (at + length mid) old))

  pub torn_fated : new ≡ fated (Write at size) (drop at new) old
  torn_fated =
      ⊎_elim
      (λ after. after_end after ∙ sym (fated_after at size (drop at new) old after))
      (λ within. within_end ∙ sym (fated_within at size (drop at new) old within))
      (cases_lt (length old) at)

pub shortened_fated : (len : ℕ) (old new : List ℕ) → IsShortened len old new → new ≡ fated (Shorten len) (drop len new) old
shortened_fated len old new cut =
    let fits : length new ≡ min (length new) (length old) = sym (ap length cut.front) ∙ length-take (length new) old in
    let same : length new ≡ min len (length old) + length (drop len new) = omega (arith, fits, cut.no_shorter, length-drop len new) in
    sym cut.front ∙ ap (λ (n : ℕ). take n old) same

one_fated : (change : Change) (old new : List ℕ) → LeavesOf change old new → new ≡ fated change (fate_in change new) old
one_fated (Write at size) old new torn = torn_fated at size old new torn
one_fated (Shorten len) old new cut = shortened_fated len old new cut

-- ---- and where the bytes are bytes, so are the fates

abbrev pub clamp : ℕ → ℕ
clamp b = b % 256

abbrev pub clamped : List ℕ → List ℕ
clamped bytes = map clamp bytes

clamped_small : (bytes : List ℕ) → AreBytes (clamped bytes)
clamped_small [] k d lt = absurd (omega (arith, lt))
clamped_small (b ∷ bytes) zero d lt = let small : b % 256 < 256 = omega arith in small
clamped_small (b ∷ bytes) (suc k) d lt = clamped_small bytes k d (omega (arith, lt))

clamped_same : (bytes : List ℕ) → AreBytes bytes → clamped bytes ≡ bytes
clamped_same [] are = refl
clamped_same (b ∷ bytes) are =
    let small : b < 256 = are 0 0 (omega arith) in
    let same : b % 256 ≡ b = omega (arith, small) in
    (λ i. same i ∷ clamped_same bytes (λ k d lt. are (suc k) d (omega (arith, lt))) i)

clamped_torn : (at size : ℕ) (old new : List ℕ) → IsTorn at size old new → IsTorn at size (clamped old) (clamped new)
clamped_torn at size old new torn = record {
  before = take-map clamp at new ∙ ap (λ (l : List ℕ). clamped l) torn.before ∙ sym (take-map clamp at old);
  after = drop-map clamp (at + size) new ∙ ap (λ (l : List ℕ). clamped l) torn.after ∙ sym (drop-map clamp (at + size) old);
  no_shorter = omega (arith, length-map old clamp, length-map new clamp, torn.no_shorter);
  no_longer = omega (arith, length-map old clamp, length-map new clamp, torn.no_longer);
}

clamped_shortened : (len : ℕ) (old new : List ℕ) → IsShortened len old new → IsShortened len (clamped old) (clamped new)
clamped_shortened len old new cut = record {
  no_shorter = omega (arith, length-map old clamp, length-map new clamp, cut.no_shorter);
  front = ap (λ (n : ℕ). take n (clamped old)) (length-map new clamp) ∙ take-map clamp (length new) old ∙ ap (λ (l : List ℕ). clamped l) cut.front;
}

clamped_leaves : (change : Change) (old new : List ℕ) → LeavesOf change old new → LeavesOf change (clamped old) (clamped new)
clamped_leaves (Write at size) old new torn = clamped_torn at size old new torn
clamped_leaves (Shorten len) old new cut = clamped_shortened len old new cut

clamped_fate : (change : Change) (new : List ℕ) → AreBytes (fate_in change (clamped new))
clamped_fate (Write at size) new = subst (λ (l : List ℕ). AreBytes l) (sym (drop-map clamp at new)) (clamped_small (drop at new))
clamped_fate (Shorten len) new = subst (λ (l : List ℕ). AreBytes l) (sym (drop-map clamp len new)) (clamped_small (drop len new))

all_cons : (fate : List ℕ) (fates : List (List ℕ)) → AreBytes fate → All AreBytes fates → All AreBytes (fate ∷ fates)
all_cons fate fates first others zero d lt = first
all_cons fate fates first others (suc k) d lt = others k d (omega (arith, lt))

record Fates (changes : List Change) (old new : List ℕ) : Type 0 where
  pub fates : List (List ℕ)
  pub are_bytes : All AreBytes fates
  pub leave : clamped new ≡ fated_all changes fates (clamped old)

all_fated : (changes : List Change) (old new : List ℕ) → LeavesOfAll changes old new → Fates changes old new
all_fated [] old new same = record { fates = []; are_bytes = λ k d lt. absurd (omega (arith, lt)); leave = ap (λ (l : List ℕ). clamped l) same }
all_fated (change ∷ changes) old new leaves =
    let between = leaves.0 in
    let later = all_fated changes between new leaves.2 in
    let fate = fate_in change (clamped between) in
    record {
      fates = fate ∷ later.fates;
      are_bytes = all_cons fate later.fates (clamped_fate change between) later.are_bytes;
      leave = later.leave ∙ ap (λ (l : List ℕ). fated_all changes later.fates l) (one_fated change (clamped old) (clamped between) (clamped_leaves change old between leaves.1));
    }

pub each_is_cut : EachIsCut
each_is_cut held left synced bytes may =
    ⊎_elim (λ same. inl same)
    (λ leaves. let found = all_fated held.changes held.synced left leaves in
    inr (record {
      fates = found.fates;
      are_bytes = found.are_bytes;
      left_is = sym (clamped_same left bytes) ∙ found.leave ∙ ap (λ (l : List ℕ). fated_all held.changes found.fates l) (clamped_same held.synced synced);
    })) may
