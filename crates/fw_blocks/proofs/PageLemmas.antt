-- Pages of marks: the words of the marks, the marks of the words, and how many of them are set.
use Rattle.std.proofs.Common.{◌≡◌, ◌≢◌, ℕ, zero, suc, ◌+◌, ◌-◌, ◌*◌, ◌/◌, ◌%◌, ◌^◌, ◌<◌, ◌≤◌, Bool, true, false, ◌||◌, cond, eqb, w64, bit_or, List, [], ◌∷◌, ◌++◌, length, get_or, set, take, drop, replicate, slice_range, append-nil, refl, sym, ap, subst, ◌∙◌, inl, inr, arith}
use Rattle.std.proofs.Math.Nat.{pow-suc}
use Rattle.std.proofs.Math.Seq.{take-add}
use Rattle.std.proofs.lemmas.Bool.{cases_lt, cases_eq, eq-eqb, ne_eqb}
use Rattle.std.proofs.lemmas.Grind.{flat_map-append}
use Rattle.std.proofs.lemmas.List.{ext_get_or, get_or_default, get_or_past, get_or_append_left, get_or-append_right, get_or-set_same, get_or-set_other, get_or-replicate, length-replicate, length-set, length-append, length-drop, length-take-le, take_all, take_at, drop_at, take-append-drop, take_more, take_more_set}
use Rattle.std.proofs.lemmas.List.FromFn.{length-map-range_with_len, get_or-map-range_with_len}
use Rattle.std.proofs.lemmas.Nat.{shr-shr, shr_high, shr_split}
use Rattle.std.proofs.lemmas.Nat.Bits.{bit_at-suc, bit_at-zero, bit_at_cat_low, bit_at_set_same, bit_at_set_other}
use Rattle.std.specs.Int.{bit_at, to_be_bytes}
use Rattle.std.specs.Int.RustNames.{count_ones}
use Rattle.std.specs.List.{All, flat_map}
use Rattle.fw_axdr.specs.Bits.{byte_bits, bits, packed}
use Rattle.fw_axdr.specs.Laws.{BytesPacked}
use Rattle.fw_blocks.specs.Cuts.{max_blocks}
use Rattle.fw_blocks.specs.Private.{page_count, is_marked, marks_of, word_of, ones_of, page_of, words_of, counts_of, HoldsPages}
use Rattle.fw_blocks.specs.Members.{has, IsFirstMissing, all_marks}
use Rattle.fw_blocks.proofs.BitLemmas.{length-bits, get_or-bits}
use lib.Count.{ones_step, ones-le}

-- ---- a word and its bits, the first one on top

abbrev pub bit_from_top : ℕ → ℕ → ℕ → Bool
bit_from_top w n i = eqb (bit_at w (n - 1 - i)) 1

most : (b : Bool) → cond b 1 0 ≤ 1
most true = omega arith
most false = omega arith

as_digit : (q : ℕ) → q < 2 → cond (eqb q 1) 1 0 ≡ q
as_digit zero h = refl
as_digit (suc zero) h = refl
as_digit (suc (suc q)) h = absurd (omega arith)

word_of-lt : (bit : ℕ → Bool) (n : ℕ) → word_of bit n < 2 ^ n
unfolding word_of
word_of-lt bit zero = omega arith
word_of-lt bit (suc n) = omega (arith, word_of-lt bit n, most (bit n), pow-suc 2 n)

word_of-same : (f g : ℕ → Bool) (n : ℕ) → ((i : ℕ) → i < n → f i ≡ g i) → word_of f n ≡ word_of g n
unfolding word_of
word_of-same f g zero same = refl
word_of-same f g (suc n) same =
    rw (word_of-same f g n (λ i h. same i (omega arith)), same n (omega arith)) refl

ones_of-same : (f g : ℕ → Bool) (n : ℕ) → ((i : ℕ) → i < n → f i ≡ g i) → ones_of f n ≡ ones_of g n
unfolding ones_of
ones_of-same f g zero same = refl
ones_of-same f g (suc n) same =
    rw (ones_of-same f g n (λ i h. same i (omega arith)), same n (omega arith)) refl

-- the word's bits give the word again
word_of-bits : (w n k : ℕ) → w < 2 ^ n → k ≤ n → word_of (bit_from_top w n) k ≡ w / 2 ^ (n - k)
unfolding word_of
word_of-bits w n zero small h =
    let all : n - zero ≡ n = omega arith in
    let low : 0 * 2 ^ n + w ≡ w = omega arith in
    sym (shr_high 0 n w small) ∙ ap (λ (x : ℕ). x / 2 ^ n) low ∙ ap (λ (k : ℕ). w / 2 ^ k) (sym all)
word_of-bits w n (suc k) small h =
    let m : ℕ = n - suc k in
    let here : n - 1 - k ≡ m = omega arith in
    let before : n - k ≡ m + 1 = omega arith in
    let rest = word_of-bits w n k small (omega arith) in
    let half : w / 2 ^ (m + 1) ≡ w / 2 ^ m / 2 = sym (shr-shr w m 1) in
    let digit = as_digit (bit_at w m) (omega arith) in
    rw (rest, before, half, here, digit) (omega arith)

lowest : (w : ℕ) (b : Bool) → eqb (bit_at (2 * w + cond b 1 0) 0) 1 ≡ b
lowest w true =
    let odd : bit_at (2 * w + 1) 0 ≡ 1 = omega arith in
    ap (λ (q : ℕ). eqb q 1) odd
lowest w false =
    let even : bit_at (2 * w + 0) 0 ≡ 0 = omega arith in
    ap (λ (q : ℕ). eqb q 1) even

-- and the bits of a word of bits are those
bit-word_of : (f : ℕ → Bool) (n i : ℕ) → i < n → eqb (bit_at (word_of f n) (n - 1 - i)) 1 ≡ f i
unfolding word_of
bit-word_of f zero i h = absurd (omega arith)
bit-word_of f (suc n) i h =
    let w : ℕ = word_of f n in
    let half : (2 * w + cond (f n) 1 0) / 2 ≡ w = omega (arith, most (f n)) in
    elim (cases_lt i n) [
      | inl before ↦
          let place : suc n - 1 - i ≡ suc (n - 1 - i) = omega arith in
          rw (place, bit_at-suc, half) (bit-word_of f n i before)
      | inr last ↦
          let here : i ≡ n = omega arith in
          let place : suc n - 1 - n ≡ 0 = omega arith in
          rw (here, place) (lowest w (f n))
    ]

-- ---- how many are set

pub ones_of-le : (f : ℕ → Bool) (n : ℕ) → ones_of f n ≤ n
unfolding ones_of
ones_of-le f zero = omega arith
ones_of-le f (suc n) = omega (arith, ones_of-le f n, most (f n))

one_more : (b : Bool) (n : ℕ) → n + cond b 1 0 ≡ suc n → b ≡ true
one_more true n h = refl
one_more false n h = absurd (omega arith)

-- if all are, each is
pub ones_of-all : (f : ℕ → Bool) (n : ℕ) → n ≤ ones_of f n → (i : ℕ) → i < n → f i ≡ true
unfolding ones_of
ones_of-all f zero all i h = absurd (omega arith)
ones_of-all f (suc n) all i h =
    let few = ones_of-le f n in
    let last = most (f n) in
    elim (cases_lt i n) [
      | inl before ↦ ones_of-all f n (omega arith) i before
      | inr at ↦
          let here : i ≡ n = omega arith in
          let exact : ones_of f n + cond (f n) 1 0 ≡ suc (ones_of f n) = omega arith in
          ap f here ∙ one_more (f n) (ones_of f n) exact
    ]

-- one more of them
pub ones_of-more : (f g : ℕ → Bool) (n k : ℕ) → k < n → f k ≡ false → g k ≡ true → ((i : ℕ) → i ≢ k → g i ≡ f i) → ones_of g n ≡ ones_of f n + 1
unfolding ones_of
ones_of-more f g zero k h unset is_set other = absurd (omega arith)
ones_of-more f g (suc n) k h unset is_set other =
    elim (cases_lt k n) [
      | inl before ↦ rw (ones_of-more f g n k before unset is_set other, other n (omega arith)) (omega arith)
      | inr at ↦
          let here : n ≡ k = omega arith in
          let before : ones_of g n ≡ ones_of f n = ones_of-same g f n (λ i h'. other i (omega arith)) in
          rw (before, ap g here ∙ is_set, ap f here ∙ unset) (omega arith)
    ]

-- as a processor counts them
pub count_ones-word : (n w : ℕ) → w < 2 ^ n → count_ones w ≡ ones_of (bit_from_top w n) n
unfolding ones_of
count_ones-word zero w small =
    let none : w ≡ 0 = omega arith in
    let few = ones-le 0 w small in
    omega arith
count_ones-word (suc n) w small =
    let half : w / 2 < 2 ^ n = omega (arith, pow-suc 2 n) in
    let digit = as_digit (bit_at w 0) (omega arith) in
    let last : suc n - 1 - n ≡ 0 = omega arith in
    let rest : ones_of (bit_from_top w (suc n)) n ≡ ones_of (bit_from_top (w / 2) n) n = ones_of-same _ _ n (λ i h.
    let place : suc n - 1 - i ≡ suc (n - 1 - i) = omega arith in
    ap (λ (k : ℕ). eqb (bit_at w k) 1) place ∙ ap (λ (q : ℕ). eqb q 1) (bit_at-suc w (n - 1 - i))) in
    rw (last, rest, digit, ← count_ones-word n (w / 2) half) (omega (arith, ones_step w))

-- ---- the words of pages

past_pages : (words : List ℕ) (i : ℕ) → length words ≡ page_count → max_blocks ≤ i → is_marked words i ≡ false
past_pages words i size past =
    let none : get_or words (i / 64) 0 ≡ 0 = get_or_past words (i / 64) 0 (omega arith) in
    ap (λ (w : ℕ). eqb (bit_at w (63 - i % 64)) 1) none ∙ ap (λ (q : ℕ). eqb q 1) (bit_at-zero (63 - i % 64))

pub length-marks_of : (count : ℕ) (words : List ℕ) → length (marks_of count words) ≡ count
length-marks_of count words = length-map-range_with_len (is_marked words) 0 count

marked_in : (words : List ℕ) (page i : ℕ) → i < 64 → is_marked words (64 * page + i) ≡ bit_from_top (get_or words page 0) 64 i
marked_in words page i h =
    let at : (64 * page + i) / 64 ≡ page = omega arith in
    let in_page : (64 * page + i) % 64 ≡ i = omega arith in
    rw (at, in_page) refl

-- what holds of words that are no marks past the count

module _ (count : ℕ) (words : List ℕ) (size : length words ≡ page_count) (past : (i : ℕ) → count ≤ i → is_marked words i ≡ false) where
  has_is : (i : ℕ) → has (marks_of count words) i ≡ is_marked words i
  has_is i =
      elim (cases_lt i count) [
        | inl below ↦ get_or-map-range_with_len (is_marked words) 0 count i i false below (omega arith)
        | inr above ↦ get_or_past (marks_of count words) i false (omega (arith, length-marks_of count words)) ∙ sym (past i above)
      ]

  page_is : (page i : ℕ) → i < 64 → page_of (marks_of count words) page i ≡ bit_from_top (get_or words page 0) 64 i
  page_is page i h = has_is (64 * page + i) ∙ marked_in words page i h

  words_are : ((page : ℕ) → page < page_count → get_or words page 0 < 2 ^ 64) → words_of (marks_of count words) ≡ words
  unfolding words_of
  words_are small =
      let marks = marks_of count words in
      ext_get_or 0 (words_of marks) words (length-map-range_with_len (λ page. word_of (page_of marks page) 64) 0 page_count ∙ sym size) (λ page h.
      let below : page < page_count = omega (arith, length-map-range_with_len (λ page. word_of (page_of marks page) 64) 0 page_count) in
      get_or-map-range_with_len (λ page. word_of (page_of marks page) 64) 0 page_count page page 0 below (omega arith)
      ∙ word_of-same (page_of marks page) (bit_from_top (get_or words page 0) 64) 64 (page_is page)
      ∙ word_of-bits (get_or words page 0) 64 64 (small page below) (omega arith) ∙ omega arith)

  counts_are : (counts : List ℕ) → length counts ≡ page_count → ((page : ℕ) → page < page_count → get_or counts page 0 ≡ ones_of (bit_from_top (get_or words page 0) 64) 64)
      → counts_of (marks_of count words) ≡ counts
  unfolding counts_of
  counts_are counts many each =
      let marks = marks_of count words in
      ext_get_or 0 (counts_of marks) counts (length-map-range_with_len (λ page. ones_of (page_of marks page) 64) 0 page_count ∙ sym many) (λ page h.
      let below : page < page_count = omega (arith, length-map-range_with_len (λ page. ones_of (page_of marks page) 64) 0 page_count) in
      get_or-map-range_with_len (λ page. ones_of (page_of marks page) 64) 0 page_count page page 0 below (omega arith)
      ∙ ones_of-same (page_of marks page) (bit_from_top (get_or words page 0) 64) 64 (page_is page) ∙ sym (each page below))

-- as far as the words are those of marks, they are

pub record AreWords (count : ℕ) (words counts : List ℕ) : Type 0 where
  pub words_size : length words ≡ page_count
  pub counts_size : length counts ≡ page_count
  pub small : (page : ℕ) → page < page_count → get_or words page 0 < 2 ^ 64
  pub each : (page : ℕ) → page < page_count → get_or counts page 0 ≡ ones_of (bit_from_top (get_or words page 0) 64) 64
  pub past : (i : ℕ) → count ≤ i → is_marked words i ≡ false

pub holds : (count : ℕ) (words counts : List ℕ) → count ≤ max_blocks → AreWords count words counts → HoldsPages words counts count
holds count words counts few are = record {
  most = few;
  size = length-marks_of count words;
  words_again = words_are count words are.words_size are.past are.small;
  counts_again = counts_are count words are.words_size are.past counts are.counts_size are.each;
}

marks_in_words : (marks : List Bool) (i : ℕ) → i < max_blocks → is_marked (words_of marks) i ≡ has marks i
unfolding words_of
marks_in_words marks i h =
    let page : ℕ = i / 64 in
    let whole : 64 * (i / 64) + i % 64 ≡ i = omega arith in
    ap (λ (w : ℕ). eqb (bit_at w (63 - i % 64)) 1) (get_or-map-range_with_len (λ page. word_of (page_of marks page) 64) 0 page_count page page 0 (omega arith) (omega arith))
    ∙ bit-word_of (page_of marks page) 64 (i % 64) (omega arith)
    ∙ ap (has marks) whole

length-words_of : (marks : List Bool) → length (words_of marks) ≡ page_count
unfolding words_of
length-words_of marks = length-map-range_with_len (λ page. word_of (page_of marks page) 64) 0 page_count

length-counts_of : (marks : List Bool) → length (counts_of marks) ≡ page_count
unfolding counts_of
length-counts_of marks = length-map-range_with_len (λ page. ones_of (page_of marks page) 64) 0 page_count

word_small : (marks : List Bool) (page : ℕ) → page < page_count → get_or (words_of marks) page 0 < 2 ^ 64
unfolding words_of
word_small marks page h =
    let P : ℕ → Type 0 = λ w. w < 2 ^ 64 in
    subst P (sym (get_or-map-range_with_len (λ page. word_of (page_of marks page) 64) 0 page_count page page 0 h (omega arith))) (word_of-lt (page_of marks page) 64)

count_in : (marks : List Bool) (page : ℕ) → page < page_count → get_or (counts_of marks) page 0 ≡ ones_of (page_of marks page) 64
unfolding counts_of
count_in marks page h = get_or-map-range_with_len (λ page. ones_of (page_of marks page) 64) 0 page_count page page 0 h (omega arith)

module _ (count : ℕ) (words counts : List ℕ) (h : HoldsPages words counts count) where
  held_size : length words ≡ page_count
  held_size = sym (ap length h.words_again) ∙ length-words_of (marks_of count words)

  held_past : (i : ℕ) → count ≤ i → is_marked words i ≡ false
  held_past i above =
      let marks = marks_of count words in
      elim (cases_lt i max_blocks) [
        | inl below ↦
            sym (ap (λ (ws : List ℕ). is_marked ws i) h.words_again) ∙ marks_in_words marks i below
            ∙ get_or_past marks i false (omega (arith, h.size))
        | inr past ↦ past_pages words i held_size past
      ]

  pub held_has : (i : ℕ) → has (marks_of count words) i ≡ is_marked words i
  held_has i = has_is count words held_size held_past i

  held_small : (page : ℕ) → page < page_count → get_or words page 0 < 2 ^ 64
  held_small page below =
      let P : List ℕ → Type 0 = λ ws. get_or ws page 0 < 2 ^ 64 in
      subst P h.words_again (word_small (marks_of count words) page below)

  held_each : (page : ℕ) → page < page_count → get_or counts page 0 ≡ ones_of (bit_from_top (get_or words page 0) 64) 64
  held_each page below =
      let marks = marks_of count words in
      sym (ap (λ (cs : List ℕ). get_or cs page 0) h.counts_again) ∙ count_in marks page below
      ∙ ones_of-same (page_of marks page) (bit_from_top (get_or words page 0) 64) 64 (page_is count words held_size held_past page)

  pub are_words : AreWords count words counts
  are_words = record {
    words_size = held_size;
    counts_size = sym (ap length h.counts_again) ∙ length-counts_of (marks_of count words);
    small = held_small;
    each = held_each;
    past = held_past;
  }

-- ---- no mark

abbrev zeros : List ℕ
zeros = replicate page_count 0

zero_bit : (page i : ℕ) → get_or zeros page 0 ≡ 0 → eqb (bit_at (get_or zeros page 0) (63 - i % 64)) 1 ≡ false
zero_bit page i e = ap (λ (w : ℕ). eqb (bit_at w (63 - i % 64)) 1) e ∙ ap (λ (q : ℕ). eqb q 1) (bit_at-zero (63 - i % 64))

zero_in : (page : ℕ) → page < page_count → get_or zeros page 0 ≡ 0
zero_in page h = get_or-replicate {A = ℕ} page_count page 0 0 h

no_ones : (n : ℕ) → ones_of (bit_from_top 0 64) n ≡ 0
unfolding ones_of
no_ones zero = refl
no_ones (suc n) = rw (no_ones n, bit_at-zero (64 - 1 - n)) refl

unmarked : (i : ℕ) → is_marked zeros i ≡ false
unmarked i =
    elim (cases_lt (i / 64) page_count) [
      | inl below ↦ zero_bit (i / 64) i (zero_in (i / 64) below)
      | inr past ↦ zero_bit (i / 64) i (get_or_past zeros (i / 64) 0 past)
    ]

pub none_words : (count : ℕ) → AreWords count (replicate page_count 0) (replicate page_count 0)
none_words count = record {
  words_size = length-replicate {A = ℕ} page_count 0;
  counts_size = length-replicate {A = ℕ} page_count 0;
  small = λ page below.
      let P : ℕ → Type 0 = λ w. w < 2 ^ 64 in
      let few : 0 < 2 ^ 64 = omega arith in
      subst P (sym (zero_in page below)) few;
  each = λ page below. zero_in page below ∙ sym (ap (λ (w : ℕ). ones_of (bit_from_top w 64) 64) (zero_in page below) ∙ no_ones 64);
  past = λ i h. unmarked i;
}

pub none_marks : (count : ℕ) → marks_of count (replicate page_count 0) ≡ replicate count false
none_marks count =
    let size = length-marks_of count zeros in
    ext_get_or false (marks_of count zeros) (replicate count false) (omega (arith, length-replicate count false)) (λ i h.
    has_is count zeros (length-replicate {A = ℕ} page_count 0) (λ j above. unmarked j) i ∙ unmarked i ∙ sym (get_or-replicate count i false false (omega arith)))

-- ---- one mark more

pub marks_more : (count n : ℕ) (words words' : List ℕ) → n < count → ((i : ℕ) → is_marked words' i ≡ (eqb i n || is_marked words i))
    → marks_of count words' ≡ set (marks_of count words) n true
marks_more count n words words' below more =
    let size = length-marks_of count words in
    let size' = length-marks_of count words' in
    let at : (ws : List ℕ) (i : ℕ) → i < count → has (marks_of count ws) i ≡ is_marked ws i = λ ws i h. get_or-map-range_with_len (is_marked ws) 0 count i i false h (omega arith) in
    ext_get_or false (marks_of count words') (set (marks_of count words) n true) (omega (arith, length-set (marks_of count words) n true)) (λ i h.
    at words' i (omega arith) ∙ more i
    ∙ elim (cases_eq i n) [
      | inl here ↦
          rw (eq-eqb i n here) (sym (ap (λ (k : ℕ). get_or (set (marks_of count words) n true) k false) here
          ∙ get_or-set_same (marks_of count words) n true false (omega arith)))
      | inr other ↦
          rw (ne_eqb i n other) (sym (get_or-set_other (marks_of count words) n i true false other ∙ at words i (omega arith)))
    ])

pub marks_same : (count n : ℕ) (words : List ℕ) → n < count → is_marked words n ≡ true → marks_of count words ≡ set (marks_of count words) n true
marks_same count n words below there =
    marks_more count n words words below (λ i. elim (cases_eq i n) [
      | inl here ↦ rw (eq-eqb i n here) (ap (is_marked words) here ∙ there)
      | inr other ↦ rw (ne_eqb i n other) refl
    ])

abbrev with_mark : ℕ → ℕ → ℕ
with_mark w k = bit_or w (1 * 2 ^ k % 2 ^ 64)

-- the word with one bit set, in its place
pub marked_set : (words : List ℕ) (n : ℕ) → length words ≡ page_count → n < max_blocks → (i : ℕ)
    → is_marked (set words (n / 64) (with_mark (get_or words (n / 64) 0) (63 - n % 64))) i ≡ (eqb i n || is_marked words i)
marked_set words n size below i =
    let w : ℕ = get_or words (n / 64) 0 in
    let w' : ℕ = with_mark w (63 - n % 64) in
    let place : 63 - n % 64 < 64 = omega arith in
    elim (cases_eq (i / 64) (n / 64)) [
      | inl same_page ↦
          let here : get_or (set words (n / 64) w') (i / 64) 0 ≡ w' =
          ap (λ (page : ℕ). get_or (set words (n / 64) w') page 0) same_page ∙ get_or-set_same words (n / 64) w' 0 (omega arith) in
          ap (λ (x : ℕ). eqb (bit_at x (63 - i % 64)) 1) here
          ∙ elim (cases_eq (i % 64) (n % 64)) [
            | inl same ↦
                let equal : i ≡ n = omega arith in
                rw (eq-eqb i n equal) (ap (λ (k : ℕ). eqb (bit_at w' (63 - k)) 1) same ∙ ap (λ (q : ℕ). eqb q 1) (bit_at_set_same w64 w (63 - n % 64) place))
            | inr other ↦
                let apart : i ≡ n → ⊥ = λ equal. other (ap (λ (k : ℕ). k % 64) equal) in
                let elsewhere : 63 - i % 64 ≢ 63 - n % 64 = λ equal. other (omega arith) in
                rw (ne_eqb i n apart) (ap (λ (q : ℕ). eqb q 1) (bit_at_set_other w64 w (63 - n % 64) place (63 - i % 64) elsewhere)
                ∙ ap (λ (page : ℕ). eqb (bit_at (get_or words page 0) (63 - i % 64)) 1) (sym same_page))
          ]
      | inr other ↦
          let apart : i ≡ n → ⊥ = λ equal. other (ap (λ (k : ℕ). k / 64) equal) in
          rw (ne_eqb i n apart) (ap (λ (x : ℕ). eqb (bit_at x (63 - i % 64)) 1) (get_or-set_other words (n / 64) (i / 64) w' 0 other))
    ]

-- the words and their numbers with one more mark
pub words_more : (count n w : ℕ) (words counts : List ℕ) → n < count → count ≤ max_blocks → AreWords count words counts → is_marked words n ≡ false → w < 2 ^ 64
    → ((i : ℕ) → is_marked (set words (n / 64) w) i ≡ (eqb i n || is_marked words i))
    → AreWords count (set words (n / 64) w) (set counts (n / 64) (get_or counts (n / 64) 0 + 1))
words_more count n w words counts below few are unset small more =
    let words' = set words (n / 64) w in
    let counts' = set counts (n / 64) (get_or counts (n / 64) 0 + 1) in
    let page : ℕ = n / 64 in
    let whole : 64 * (n / 64) + n % 64 ≡ n = omega arith in
    record {
      words_size = length-set words page w ∙ are.words_size;
      counts_size = length-set counts page (get_or counts page 0 + 1) ∙ are.counts_size;
      small = λ p h. elim (cases_eq p page) [
        | inl here ↦
            let at : get_or words' p 0 ≡ w = ap (λ (k : ℕ). get_or words' k 0) here ∙ get_or-set_same words page w 0 (omega (arith, are.words_size)) in
            omega (arith, at, small)
        | inr other ↦
            let at = get_or-set_other words page p w 0 other in
            omega (arith, at, are.small p h)
      ];
      each = λ p h.
          let bits_before : (i : ℕ) → i < 64 → is_marked words (64 * p + i) ≡ bit_from_top (get_or words p 0) 64 i = marked_in words p in
          let bits_after : (i : ℕ) → i < 64 → is_marked words' (64 * p + i) ≡ bit_from_top (get_or words' p 0) 64 i = marked_in words' p in
          let before = are.each p h ∙ sym (ones_of-same (λ i. is_marked words (64 * p + i)) _ 64 bits_before) in
          let after = ones_of-same (λ i. is_marked words' (64 * p + i)) _ 64 bits_after in
          elim (cases_eq p page) [
            | inl here ↦
                let at : get_or counts' p 0 ≡ get_or counts p 0 + 1 =
                ap (λ (k : ℕ). get_or counts' k 0) here ∙ get_or-set_same counts page (get_or counts page 0 + 1) 0 (omega (arith, are.counts_size))
                ∙ ap (λ (k : ℕ). get_or counts k 0 + 1) (sym here) in
                let place : 64 * p + n % 64 ≡ n = ap (λ (k : ℕ). 64 * k + n % 64) here ∙ whole in
                let one = ones_of-more (λ i. is_marked words (64 * p + i)) (λ i. is_marked words' (64 * p + i)) 64 (n % 64) (omega arith)
                (ap (is_marked words) place ∙ unset)
                (ap (is_marked words') place ∙ more n ∙ rw (eq-eqb n n refl) refl)
                (λ i other.
                let apart : 64 * p + i ≡ n → ⊥ = λ equal. other (omega arith) in
                more (64 * p + i) ∙ rw (ne_eqb (64 * p + i) n apart) refl) in
                omega (arith, at, before, after, one)
            | inr other ↦
                let at = get_or-set_other counts page p (get_or counts page 0 + 1) 0 other in
                let same = get_or-set_other words page p w 0 other in
                at ∙ are.each p h ∙ ap (λ (x : ℕ). ones_of (bit_from_top x 64) 64) (sym same)
          ];
      past = λ i above.
          let apart : i ≡ n → ⊥ = λ equal. omega arith in
          more i ∙ rw (ne_eqb i n apart) (are.past i above);
    }

-- ---- the least number that isn't marked

contradicts : {b : Bool} → b ≡ true → b ≡ false → ⊥
contradicts h other = cc

pub pages_full : (count : ℕ) (words counts : List ℕ) → AreWords count words counts → (pages : ℕ) → pages ≤ page_count
    → ((page : ℕ) → page < pages → 64 ≤ get_or counts page 0) → (i : ℕ) → i < 64 * pages → is_marked words i ≡ true
pages_full count words counts are pages few full i h =
    let page : ℕ = i / 64 in
    let whole : 64 * (i / 64) + i % 64 ≡ i = omega arith in
    let all : 64 ≤ ones_of (bit_from_top (get_or words page 0) 64) 64 = omega (arith, full page (omega arith), are.each page (omega arith)) in
    ap (is_marked words) (sym whole) ∙ marked_in words page (i % 64) (omega arith) ∙ ones_of-all (bit_from_top (get_or words page 0) 64) 64 all (i % 64) (omega arith)

pub first_of_pages : (count : ℕ) (words counts : List ℕ) → HoldsPages words counts count → (n : ℕ) → ((i : ℕ) → i < n → is_marked words i ≡ true) → is_marked words n ≡ false
    → IsFirstMissing (marks_of count words) n
first_of_pages count words counts h n before here =
    let has_all = held_has count words counts h in
    let past = (are_words count words counts h).past in
    record {
      within = elim (cases_lt count n) [
        | inl over ↦ absurd (contradicts (before count over) (past count (omega arith)))
        | inr fits ↦ omega (arith, h.size)
      ];
      all_before = λ i below. has_all i ∙ before i below;
      absent = λ below. record { below = below; absent = has_all n ∙ here };
    }

pub marked_below : (words : List ℕ) (i : ℕ) → length words ≡ page_count → is_marked words i ≡ true → i < max_blocks
marked_below words i size there =
    elim (cases_lt i max_blocks) [
      | inl below ↦ below
      | inr past ↦ absurd (contradicts there (past_pages words i size past))
    ]

-- ---- the words' bytes

byte_of_word : (w j : ℕ) → j < 8 → get_or (to_be_bytes w64 w) j 0 ≡ w / 2 ^ (8 * (7 - j)) % 2 ^ 8
byte_of_word w zero h = refl
byte_of_word w (suc zero) h = refl
byte_of_word w (suc (suc zero)) h = refl
byte_of_word w (suc (suc (suc zero))) h = refl
byte_of_word w (suc (suc (suc (suc zero)))) h = refl
byte_of_word w (suc (suc (suc (suc (suc zero))))) h = refl
byte_of_word w (suc (suc (suc (suc (suc (suc zero)))))) h = refl
byte_of_word w (suc (suc (suc (suc (suc (suc (suc zero))))))) h = omega arith
byte_of_word w (suc (suc (suc (suc (suc (suc (suc (suc j)))))))) h = absurd (omega arith)

bit_of_byte : (n b : ℕ) → b < 8 → bit_at (n % 2 ^ 8) b ≡ bit_at n b
bit_of_byte n b h = sym (bit_at_cat_low (n / 2 ^ 8) 8 (n % 2 ^ 8) b h) ∙ ap (λ (x : ℕ). bit_at x b) (shr_split n 8)

bit_of_word : (w i : ℕ) → i < 64 → get_or (bits (to_be_bytes w64 w)) i false ≡ bit_from_top w 64 i
bit_of_word w i h =
    let a : ℕ = 8 * (7 - i / 8) in
    let b : ℕ = 7 - i % 8 in
    let place : a + b ≡ 64 - 1 - i = omega arith in
    get_or-bits (to_be_bytes w64 w) i (omega arith)
    ∙ ap (λ (y : ℕ). eqb (bit_at y b) 1) (byte_of_word w (i / 8) (omega arith))
    ∙ ap (λ (q : ℕ). eqb q 1) (bit_of_byte (w / 2 ^ a) b (omega arith) ∙ ap (λ (x : ℕ). x % 2) (shr-shr w a b ∙ ap (λ (k : ℕ). w / 2 ^ k) place))

bits_of_words : (words : List ℕ) (i : ℕ) → i < 64 * length words → get_or (bits (flat_map (to_be_bytes w64) words)) i false ≡ is_marked words i
bits_of_words [] i h = absurd (omega arith)
bits_of_words (w ∷ ws) i h =
    let front = bits (to_be_bytes w64 w) in
    let back = bits (flat_map (to_be_bytes w64) ws) in
    let apart : bits (flat_map (to_be_bytes w64) (w ∷ ws)) ≡ front ++ back = flat_map-append byte_bits (to_be_bytes w64 w) (flat_map (to_be_bytes w64) ws) in
    ap (λ (bs : List Bool). get_or bs i false) apart
    ∙ elim (cases_lt i 64) [
      | inl here ↦
          let first : i / 64 ≡ 0 = omega arith in
          let same : i % 64 ≡ i = omega arith in
          get_or_append_left front back false i here ∙ bit_of_word w i here
          ∙ sym (ap (λ (k : ℕ). eqb (bit_at (get_or (w ∷ ws) k 0) (63 - i % 64)) 1) first ∙ ap (λ (k : ℕ). eqb (bit_at w (63 - k)) 1) same)
      | inr later ↦
          let next : i / 64 ≡ suc ((i - 64) / 64) = omega arith in
          let same : i % 64 ≡ (i - 64) % 64 = omega arith in
          get_or-append_right front back 64 i false refl later ∙ bits_of_words ws (i - 64) (omega arith)
          ∙ sym (ap (λ (k : ℕ). eqb (bit_at (get_or (w ∷ ws) k 0) (63 - i % 64)) 1) next ∙ ap (λ (k : ℕ). eqb (bit_at (get_or ws ((i - 64) / 64) 0) (63 - k)) 1) same)
    ]

length-words_bytes : (words : List ℕ) → length (flat_map (to_be_bytes w64) words) ≡ 8 * length words
length-words_bytes [] = refl
length-words_bytes (w ∷ ws) = omega (arith, length-append (to_be_bytes w64 w) (flat_map (to_be_bytes w64) ws), length-words_bytes ws)

pub marks_bits : (words : List ℕ) → length words ≡ page_count → marks_of max_blocks words ≡ bits (flat_map (to_be_bytes w64) words)
marks_bits words size =
    let bytes = flat_map (to_be_bytes w64) words in
    let many = length-marks_of max_blocks words in
    ext_get_or false (marks_of max_blocks words) (bits bytes) (omega (arith, length-bits bytes, length-words_bytes words)) (λ i h.
    get_or-map-range_with_len (is_marked words) 0 max_blocks i i false (omega arith) (omega arith) ∙ sym (bits_of_words words i (omega arith)))

-- ---- bytes read page by page, and written

one_word : (words : List ℕ) (page w : ℕ) → page < length words
    → flat_map (to_be_bytes w64) (take (page + 1) (set words page w)) ≡ flat_map (to_be_bytes w64) (take page words) ++ to_be_bytes w64 w
one_word words page w below =
    ap (flat_map (to_be_bytes w64)) (take_more_set words page w below) ∙ flat_map-append (to_be_bytes w64) (take page words) (w ∷ [])

pub record ReadTo (bytes : List ℕ) (page : ℕ) (words counts : List ℕ) : Type 0 where
  pub words_size : length words ≡ page_count
  pub counts_size : length counts ≡ page_count
  pub read : flat_map (to_be_bytes w64) (take page words) ≡ take (8 * page) bytes
  pub small : (k : ℕ) → k < page_count → get_or words k 0 < 2 ^ 64
  pub each : (k : ℕ) → k < page → get_or counts k 0 ≡ count_ones (get_or words k 0)

pub read_none : (bytes : List ℕ) → ReadTo bytes 0 (replicate page_count 0) (replicate page_count 0)
read_none bytes = record {
  words_size = length-replicate {A = ℕ} page_count 0;
  counts_size = length-replicate {A = ℕ} page_count 0;
  read = refl;
  small = (none_words 0).small;
  each = λ k h. absurd (omega arith);
}

pub read_next : (bytes : List ℕ) (page w : ℕ) (words counts : List ℕ) → ReadTo bytes page words counts → page < page_count → w < 2 ^ 64
    → to_be_bytes w64 w ≡ slice_range bytes (8 * page) (8 * page + 8) → ReadTo bytes (page + 1) (set words page w) (set counts page (count_ones w))
read_next bytes page w words counts r below small is = record {
  words_size = length-set words page w ∙ r.words_size;
  counts_size = length-set counts page (count_ones w) ∙ r.counts_size;
  read =
      let eight : 8 * page + 8 - 8 * page ≡ 8 = omega arith in
      let next : 8 * page + 8 ≡ 8 * (page + 1) = omega arith in
      one_word words page w (omega (arith, r.words_size))
      ∙ ap (λ (xs : List ℕ). xs ++ to_be_bytes w64 w) r.read
      ∙ ap (λ (xs : List ℕ). take (8 * page) bytes ++ xs) (is ∙ ap (λ (k : ℕ). take k (drop (8 * page) bytes)) eight)
      ∙ sym (take-add (8 * page) 8 bytes) ∙ ap (λ (k : ℕ). take k bytes) next;
  small = λ k h. elim (cases_eq k page) [
    | inl here ↦
        let at : get_or (set words page w) k 0 ≡ w = ap (λ (j : ℕ). get_or (set words page w) j 0) here ∙ get_or-set_same words page w 0 (omega (arith, r.words_size)) in
        omega (arith, at, small)
    | inr other ↦ omega (arith, get_or-set_other words page k w 0 other, r.small k h)
  ];
  each = λ k h. elim (cases_eq k page) [
    | inl here ↦
        let at : get_or (set words page w) k 0 ≡ w = ap (λ (j : ℕ). get_or (set words page w) j 0) here ∙ get_or-set_same words page w 0 (omega (arith, r.words_size)) in
        let at' : get_or (set counts page (count_ones w)) k 0 ≡ count_ones w =
        ap (λ (j : ℕ). get_or (set counts page (count_ones w)) j 0) here ∙ get_or-set_same counts page (count_ones w) 0 (omega (arith, r.counts_size)) in
        at' ∙ ap count_ones (sym at)
    | inr other ↦
        get_or-set_other counts page k (count_ones w) 0 other ∙ r.each k (omega (arith, other)) ∙ ap count_ones (sym (get_or-set_other words page k w 0 other))
  ];
}

read_words : (bytes : List ℕ) (words counts : List ℕ) → length bytes ≡ 8 * page_count → ReadTo bytes page_count words counts → flat_map (to_be_bytes w64) words ≡ bytes
read_words bytes words counts size r =
    let all : take page_count words ≡ words = take_all page_count words (omega (arith, r.words_size)) in
    let whole : take (8 * page_count) bytes ≡ bytes = take_all (8 * page_count) bytes (omega arith) in
    ap (flat_map (to_be_bytes w64)) (sym all) ∙ r.read ∙ whole

pub read_all : (bytes : List ℕ) (words counts : List ℕ) → ReadTo bytes page_count words counts → AreWords max_blocks words counts
read_all bytes words counts r = record {
  words_size = r.words_size;
  counts_size = r.counts_size;
  small = r.small;
  each = λ page h. r.each page h ∙ count_ones-word 64 (get_or words page 0) (r.small page h);
  past = λ i h. past_pages words i r.words_size h;
}

pub read_marks : (bytes : List ℕ) (words counts : List ℕ) → length bytes ≡ 8 * page_count → ReadTo bytes page_count words counts → marks_of max_blocks words ≡ bits bytes
read_marks bytes words counts size r = marks_bits words r.words_size ∙ ap bits (read_words bytes words counts size r)

pub written_next : (bytes bytes' words : List ℕ) (page : ℕ) → page < length words → take (8 * page) bytes ≡ flat_map (to_be_bytes w64) (take page words)
    → take (8 * (page + 1)) bytes' ≡ take (8 * page) bytes ++ to_be_bytes w64 (get_or words page 0)
    → take (8 * (page + 1)) bytes' ≡ flat_map (to_be_bytes w64) (take (page + 1) words)
written_next bytes bytes' words page below before more =
    let here : take (page + 1) words ≡ take page words ++ get_or words page 0 ∷ [] = take_more words page 0 below in
    more ∙ ap (λ (xs : List ℕ). xs ++ to_be_bytes w64 (get_or words page 0)) before
    ∙ sym (ap (flat_map (to_be_bytes w64)) here ∙ flat_map-append (to_be_bytes w64) (take page words) (get_or words page 0 ∷ []))

small_bytes : (words : List ℕ) → All (λ b. b < 256) (flat_map (to_be_bytes w64) words)
small_bytes [] k d h = absurd (omega arith)
small_bytes (w ∷ ws) k d h =
    let front = to_be_bytes w64 w in
    let back = flat_map (to_be_bytes w64) ws in
    elim (cases_lt k 8) [
      | inl here ↦
          let at = get_or_append_left front back d k here in
          let same = get_or_default front k d 0 here in
          omega (arith, at, same, byte_of_word w k here)
      | inr later ↦
          let at = get_or-append_right front back 8 k d refl later in
          let rest = small_bytes ws (k - 8) d (omega (arith, length-append front back)) in
          omega (arith, at, rest)
    ]

pub length-all_marks : (marks : List Bool) → length marks ≤ max_blocks → length (all_marks marks) ≡ max_blocks
length-all_marks marks few =
    let rest = replicate (max_blocks - length marks) false in
    omega (arith, length-append marks rest, length-replicate (max_blocks - length marks) false)

-- with no others, the marks are those below a greater count
pub marks_grown : (count more : ℕ) (words : List ℕ) → count ≤ more → ((i : ℕ) → count ≤ i → is_marked words i ≡ false)
    → marks_of count words ++ replicate (more - length (marks_of count words)) false ≡ marks_of more words
marks_grown count more words few past =
    let marks = marks_of count words in
    let rest = replicate (more - length marks) false in
    let size = length-marks_of count words in
    let many = length-marks_of more words in
    let all = length-append marks rest in
    let others = length-replicate (more - length marks) false in
    ext_get_or false (marks ++ rest) (marks_of more words) (omega (arith, size, many, all, others)) (λ i h.
    let below : i < more = omega (arith, size, all, others, h) in
    elim (cases_lt i count) [
      | inl here ↦
          get_or_append_left marks rest false i (omega (arith, size)) ∙ get_or-map-range_with_len (is_marked words) 0 count i i false (omega arith) (omega arith)
          ∙ sym (get_or-map-range_with_len (is_marked words) 0 more i i false (omega arith) (omega arith))
      | inr later ↦
          get_or-append_right marks rest count i false size later ∙ get_or-replicate (more - length marks) (i - count) false false (omega (arith, size))
          ∙ sym (past i later) ∙ sym (get_or-map-range_with_len (is_marked words) 0 more i i false (omega arith) (omega arith))
    ])

-- so below a greater count they are still those of the words
pub grown : (count more : ℕ) (words counts : List ℕ) → count ≤ more → AreWords count words counts → AreWords more words counts
grown count more words counts few are = record {
  words_size = are.words_size;
  counts_size = are.counts_size;
  small = are.small;
  each = are.each;
  past = λ i above. are.past i (omega arith);
}

pub all_again : (marks : List Bool) → length marks ≡ max_blocks → all_marks marks ≡ marks
all_again marks size =
    let none : max_blocks - length marks ≡ 0 = omega arith in
    ap (λ (n : ℕ). marks ++ replicate n false) none ∙ append-nil marks

-- words that were all written
pub written_all : (bytes words : List ℕ) (page : ℕ) → page ≡ length words → length bytes ≡ 8 * length words
    → take (8 * page) bytes ≡ flat_map (to_be_bytes w64) (take page words) → bytes ≡ flat_map (to_be_bytes w64) words
written_all bytes words page all size written =
    sym (take_all (8 * page) bytes (omega arith)) ∙ written ∙ ap (flat_map (to_be_bytes w64)) (take_all page words (omega arith))

-- the bytes of the marks are those of the words
pub words_packed : (count : ℕ) (words counts : List ℕ) → count ≤ max_blocks → AreWords count words counts → BytesPacked
    → flat_map (to_be_bytes w64) words ≡ packed (all_marks (marks_of count words))
words_packed count words counts few are comes_back =
    sym (comes_back (flat_map (to_be_bytes w64) words) (small_bytes words))
    ∙ ap packed (sym (marks_bits words are.words_size) ∙ sym (marks_grown count max_blocks words few are.past))

-- and those of some words some of these
words_from : (n : ℕ) (words : List ℕ) → n ≤ length words → drop (8 * n) (flat_map (to_be_bytes w64) words) ≡ flat_map (to_be_bytes w64) (drop n words)
words_from n words within =
    let front = take n words in
    let size : length (flat_map (to_be_bytes w64) front) ≡ 8 * n = omega (arith, length-words_bytes front, length-take-le n words within) in
    ap (λ (ws : List ℕ). drop (8 * n) (flat_map (to_be_bytes w64) ws)) (sym (take-append-drop n words))
    ∙ ap (drop (8 * n)) (flat_map-append (to_be_bytes w64) front (drop n words))
    ∙ drop_at (flat_map (to_be_bytes w64) front) (flat_map (to_be_bytes w64) (drop n words)) (8 * n) size

words_to : (n : ℕ) (words : List ℕ) → n ≤ length words → take (8 * n) (flat_map (to_be_bytes w64) words) ≡ flat_map (to_be_bytes w64) (take n words)
words_to n words within =
    let front = take n words in
    let size : length (flat_map (to_be_bytes w64) front) ≡ 8 * n = omega (arith, length-words_bytes front, length-take-le n words within) in
    ap (λ (ws : List ℕ). take (8 * n) (flat_map (to_be_bytes w64) ws)) (sym (take-append-drop n words))
    ∙ ap (take (8 * n)) (flat_map-append (to_be_bytes w64) front (drop n words))
    ∙ take_at (flat_map (to_be_bytes w64) front) (flat_map (to_be_bytes w64) (drop n words)) (8 * n) size

pub words_range : (words : List ℕ) (first end n : ℕ) → first ≤ end → end ≤ length words → first + n / 8 ≡ end → n % 8 ≡ 0
    → flat_map (to_be_bytes w64) (slice_range words first end) ≡ slice_range (flat_map (to_be_bytes w64) words) (8 * first) (8 * first + n)
words_range words first end n ordered within there whole =
    let some : end - first ≤ length (drop first words) = omega (arith, length-drop first words) in
    let size : 8 * (end - first) ≡ 8 * first + n - 8 * first = omega arith in
    sym (words_to (end - first) (drop first words) some)
    ∙ ap (take (8 * (end - first))) (sym (words_from first words (omega arith)))
    ∙ ap (λ (k : ℕ). take k (drop (8 * first) (flat_map (to_be_bytes w64) words))) size
