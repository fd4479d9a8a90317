-- That a write which changes one sector needs no journal.
use Rattle.std.proofs.Common.{◌≡◌, ◌≢◌, ◌⊎◌, inl, inr, ℕ, ◌+◌, ◌-◌, ◌*◌, ◌/◌, ◌<◌, ◌≤◌, List, [], ◌++◌, length, take, drop, get_or, min, replicate, sym, subst, ◌∙◌, ap, arith, length-drop}
use Rattle.std.proofs.Math.Nat.{mul-div-le, eq-or-lt_of_le, le_of_lt, min-eq_left, min-eq_right}
use Rattle.std.proofs.lemmas.Bool.{cases_lt}
use Rattle.std.proofs.lemmas.List.{ext_get_or, drop-drop, drop-take, take-take, get_or-take, get_or-drop, take_all, append-nil}
use Rattle.fw_cuts.specs.Write.{Write}
use Rattle.fw_cuts.specs.Sectors.{IsEither, IsCut, IsCutAtEnd, Leaves, DifferInOneSector, in_sector, resized, after_of, replaced}
use Rattle.fw_cuts.specs.Laws.{OneSectorIsWhole}
use Rattle.fw_cuts.proofs.Splices.{replaced_same}
use Rattle.fw_cuts.proofs.Mending.{same_or_not}

-- a byte in its sector
byte_in : (at k : ℕ) (xs : List ℕ) (i : ℕ) → 512 * k ≤ at + i → at + i < 512 * k + 512
    → get_or (in_sector at k xs) (i - (512 * k - at)) 0 ≡ get_or xs i 0
byte_in at k xs i from to =
    let a : ℕ = 512 * k - at in
    let count : i - a < 512 * k + 512 - at - a = omega arith in
    let place : a + (i - a) ≡ i = omega arith in
    get_or-take (512 * k + 512 - at - a) (drop a xs) (i - a) 0 count
    ∙ get_or-drop a xs (i - a) 0
    ∙ ap (λ (n : ℕ). get_or xs n 0) place

-- bytes are the same where those of each sector are
pub by_sectors : (at : ℕ) (xs ys : List ℕ) → length xs ≡ length ys → ((k : ℕ) → in_sector at k xs ≡ in_sector at k ys) → xs ≡ ys
by_sectors at xs ys size each = ext_get_or 0 xs ys size (λ i within.
    let k : ℕ = (at + i) / 512 in
    let from : 512 * k ≤ at + i = mul-div-le (at + i) 512 in
    let to : at + i < 512 * k + 512 = omega arith in
    sym (byte_in at k xs i from to)
    ∙ ap (λ (l : List ℕ). get_or l (i - (512 * k - at)) 0) (each k)
    ∙ byte_in at k ys i from to)

-- a sector before the part has none of its bytes
no_bytes : (at k : ℕ) (xs : List ℕ) → k < at / 512 → in_sector at k xs ≡ []
no_bytes at k xs before =
    let below : 512 * (at / 512) ≤ at = mul-div-le at 512 in
    let none : 512 * k + 512 - at - (512 * k - at) ≡ 0 = omega arith in
    ap (λ (n : ℕ). take n (drop (512 * k - at) xs)) none

-- so each sector is the same where those are from the first on that has any
pub from_sector : (at : ℕ) (xs ys : List ℕ) → ((k : ℕ) → at / 512 ≤ k → in_sector at k xs ≡ in_sector at k ys)
    → (k : ℕ) → in_sector at k xs ≡ in_sector at k ys
from_sector at xs ys each k = by_place (cases_lt k (at / 512))
  where
    by_place : (k < at / 512) ⊎ (at / 512 ≤ k) → in_sector at k xs ≡ in_sector at k ys
    by_place (inl before) = no_bytes at k xs before ∙ sym (no_bytes at k ys before)
    by_place (inr from) = each k from

-- all bytes from a place on
pub to_end : (from : ℕ) (xs : List ℕ) → take (length xs - from) (drop from xs) ≡ drop from xs
to_end from xs =
    let count : length (drop from xs) ≡ length xs - from = length-drop from xs in
    let all : length (drop from xs) ≤ length xs - from = omega arith in
    take_all (length xs - from) (drop from xs) all

-- bytes from a later place on
later : (a from : ℕ) (xs : List ℕ) → from ≤ a → drop a xs ≡ drop (a - from) (drop from xs)
later a from xs behind =
    let place : a ≡ from + (a - from) = omega arith in
    ap (λ (n : ℕ). drop n xs) place ∙ sym (drop-drop (a - from) from xs)

-- if what follows a sector is the same, so is each later sector
later_sector : (at s end : ℕ) (xs ys : List ℕ) → end ≤ 512 * s + 512 - at → drop end xs ≡ drop end ys
    → (k : ℕ) → s < k → in_sector at k xs ≡ in_sector at k ys
later_sector at s end xs ys within same k after =
    let a : ℕ = 512 * k - at in
    let from : end ≤ a = omega arith in
    ap (λ (l : List ℕ). take (512 * k + 512 - at - a) l) (later a end xs from ∙ ap (drop (a - end)) same ∙ sym (later a end ys from))

-- where what stands before a sector is the same, so is each earlier sector
earlier_sector : (at s : ℕ) (xs ys : List ℕ) → length xs ≡ length ys
    → take (min (512 * s - at) (length xs)) xs ≡ take (min (512 * s - at) (length xs)) ys
    → (k : ℕ) → k < s → in_sector at k xs ≡ in_sector at k ys
earlier_sector at s xs ys size same k before = by_size (cases_lt (512 * s - at) (length xs))
  where
    a : ℕ
    a = 512 * k - at

    b : ℕ
    b = 512 * k + 512 - at

    start : ℕ
    start = min (512 * s - at) (length xs)

    cut : (l : List ℕ) → b ≤ start → take (b - a) (drop a (take start l)) ≡ in_sector at k l
    cut l few =
        let less : b - a ≤ start - a = omega arith in
        let place : start ≡ a + (start - a) = omega arith in
        ap (λ (n : ℕ). take (b - a) (drop a (take n l))) place ∙ ap (take (b - a)) (drop-take a (start - a) l) ∙ take-take (b - a) (start - a) (drop a l) less

    by_size : (512 * s - at < length xs) ⊎ (length xs ≤ 512 * s - at) → in_sector at k xs ≡ in_sector at k ys
    by_size (inl short) =
        let e : start ≡ 512 * s - at = min-eq_left (le_of_lt short) in
        let few : b ≤ start = omega (arith, e) in
        sym (cut xs few) ∙ ap (λ (l : List ℕ). take (b - a) (drop a l)) same ∙ cut ys few
    by_size (inr all) =
        let e : start ≡ length xs = min-eq_right all in
        let whole : length xs ≤ start = omega (arith, e) in
        let others : length ys ≤ start = omega (arith, e, size) in
        ap (in_sector at k) (sym (take_all start xs whole) ∙ same ∙ take_all start ys others)

-- and where those before it are the same, too, no other differs
pub one_alone : (at s end : ℕ) (xs ys : List ℕ) → end ≤ 512 * s + 512 - at → drop end xs ≡ drop end ys
    → ((k : ℕ) → at / 512 ≤ k → k < s → in_sector at k xs ≡ in_sector at k ys) → DifferInOneSector at xs ys
one_alone at s end xs ys within same first = λ j k here there. is j here ∙ sym (is k there)
  where
    before : (j : ℕ) → j < s → in_sector at j xs ≡ in_sector at j ys
    before j below = by_place (cases_lt j (at / 512))
      where
        by_place : (j < at / 512) ⊎ (at / 512 ≤ j) → in_sector at j xs ≡ in_sector at j ys
        by_place (inl none) = no_bytes at j xs none ∙ sym (no_bytes at j ys none)
        by_place (inr from) = first j from below

    is : (j : ℕ) → in_sector at j xs ≢ in_sector at j ys → j ≡ s
    is j differ = by_order (cases_lt j s)
      where
        by_later : (s ≡ j) ⊎ (s < j) → j ≡ s
        by_later (inl e) = sym e
        by_later (inr above) = absurd (differ (later_sector at s end xs ys within same j above))

        by_order : (j < s) ⊎ (s ≤ j) → j ≡ s
        by_order (inl below) = absurd (differ (before j below))
        by_order (inr above) = by_later (eq-or-lt_of_le above)

-- where what stands before a sector and after it is the same, no other sector differs
pub one_within : (at s end : ℕ) (xs ys : List ℕ) → length xs ≡ length ys → end ≤ 512 * s + 512 - at → drop end xs ≡ drop end ys
    → take (min (512 * s - at) (length xs)) xs ≡ take (min (512 * s - at) (length xs)) ys → DifferInOneSector at xs ys
one_within at s end xs ys size within rest front = one_alone at s end xs ys within rest (λ k _ before. earlier_sector at s xs ys size front k before)

-- if one sector alone differs, what follows it is the same
pub rest_same : (at s : ℕ) (xs ys : List ℕ) → length xs ≡ length ys → DifferInOneSector at xs ys → in_sector at s xs ≢ in_sector at s ys
    → drop (min (512 * s + 512 - at) (length xs)) xs ≡ drop (min (512 * s + 512 - at) (length xs)) ys
rest_same at s xs ys size one differ = ext_get_or 0 (drop end xs) (drop end ys) sizes byte
  where
    end : ℕ
    end = min (512 * s + 512 - at) (length xs)

    sizes : length (drop end xs) ≡ length (drop end ys)
    sizes = length-drop end xs ∙ ap (λ (n : ℕ). n - end) size ∙ sym (length-drop end ys)

    other : (i : ℕ) → i < length (drop end xs) → at + (end + i) < 512 * s + 512 → ⊥
    other i within below = by_end (cases_lt (512 * s + 512 - at) (length xs))
      where
        by_end : (512 * s + 512 - at < length xs) ⊎ (length xs ≤ 512 * s + 512 - at) → ⊥
        by_end (inl short) =
            let e : end ≡ 512 * s + 512 - at = min-eq_left (le_of_lt short) in
            omega (arith, e)
        by_end (inr all) =
            let e : end ≡ length xs = min-eq_right all in
            let none : length (drop end xs) ≡ length xs - end = length-drop end xs in
            omega (arith, e, none)

    byte : (i : ℕ) → i < length (drop end xs) → get_or (drop end xs) i 0 ≡ get_or (drop end ys) i 0
    byte i within =
        let p : ℕ = end + i in
        let k : ℕ = (at + p) / 512 in
        let from : 512 * k ≤ at + p = mul-div-le (at + p) 512 in
        let to : at + p < 512 * k + 512 = omega arith in
        get_or-drop end xs i 0
        ∙ sym (byte_in at k xs p from to)
        ∙ ap (λ (l : List ℕ). get_or l (p - (512 * k - at)) 0) (by_sector k to (same_or_not (in_sector at k xs) (in_sector at k ys)))
        ∙ byte_in at k ys p from to
        ∙ sym (get_or-drop end ys i 0)
      where
        by_sector : (k : ℕ) → at + (end + i) < 512 * k + 512 → (in_sector at k xs ≡ in_sector at k ys) ⊎ (in_sector at k xs ≢ in_sector at k ys)
            → in_sector at k xs ≡ in_sector at k ys
        by_sector k to (inl e) = e
        by_sector k to (inr here) = absurd (other i within (subst (λ (n : ℕ). at + (end + i) < 512 * n + 512) (one k s here differ) to))

-- a sector that is the one of before, though before and after differ in another sector alone, is the one of after
pub one_of_both : (at : ℕ) (now before after : List ℕ) → length now ≡ length before → length after ≡ length before
    → DifferInOneSector at before after → IsCut at now before after → (now ≡ before) ⊎ (now ≡ after)
one_of_both at now before after size both one cut = by_start (same_or_not now before)
  where
    as_before : (j k : ℕ) → in_sector at j now ≡ in_sector at j before → in_sector at j before ≢ in_sector at j after → in_sector at k now ≡ in_sector at k before
    as_before j k here differ = by_cut (cut k) (same_or_not (in_sector at k before) (in_sector at k after))
      where
        by_cut : IsEither at now before after k → (in_sector at k before ≡ in_sector at k after) ⊎ (in_sector at k before ≢ in_sector at k after) → in_sector at k now ≡ in_sector at k before
        by_cut (inl e) _ = e
        by_cut (inr e) (inl same) = e ∙ sym same
        by_cut (inr e) (inr other) = subst (λ (n : ℕ). in_sector at n now ≡ in_sector at n before) (one j k differ other) here

    as_after : (now ≢ before) → (j : ℕ) → in_sector at j now ≡ in_sector at j after
    as_after changed j = by_cut (cut j) (same_or_not (in_sector at j before) (in_sector at j after))
      where
        by_cut : IsEither at now before after j → (in_sector at j before ≡ in_sector at j after) ⊎ (in_sector at j before ≢ in_sector at j after) → in_sector at j now ≡ in_sector at j after
        by_cut (inr e) _ = e
        by_cut (inl e) (inl same) = e ∙ same
        by_cut (inl e) (inr other) = absurd (changed (by_sectors at now before size (λ k. as_before j k e other)))

    by_start : (now ≡ before) ⊎ (now ≢ before) → (now ≡ before) ⊎ (now ≡ after)
    by_start (inl e) = inl e
    by_start (inr changed) = inr (by_sectors at now after (size ∙ sym both) (as_after changed))

-- a part that doesn't change
unchanged : (at : ℕ) (now before after : List ℕ) → length now ≡ length before → after ≡ before → IsCut at now before after → now ≡ before
unchanged at now before after size same cut = by_sectors at now before size (λ k. by_cut k (cut k))
  where
    by_cut : (k : ℕ) → IsEither at now before after k → in_sector at k now ≡ in_sector at k before
    by_cut k (inl e) = e
    by_cut k (inr e) = e ∙ ap (in_sector at k) same

-- bytes of their own length
own_length : (bytes : List ℕ) (len : ℕ) → len ≡ length bytes → resized bytes len ≡ bytes
own_length bytes len e =
    let none : len - length bytes ≡ 0 = omega arith in
    let all : length bytes ≤ len = omega arith in
    ap (λ (n : ℕ). take len bytes ++ replicate n 0) none ∙ append-nil (take len bytes) ∙ take_all len bytes all

either_size : (a b c : ℕ) → b ≡ c → (a ≡ c) ⊎ (a ≡ b) → a ≡ c
either_size a b c e (inl f) = f
either_size a b c e (inr f) = f ∙ e

-- a last part whose length stays
last_cut : (w : Write) (last : List ℕ) → length w.last_after ≡ length w.last_before → IsCutAtEnd w.last_at last w.last_before w.last_after
    → (length last ≡ length w.last_before) × IsCut w.last_at last w.last_before w.last_after
last_cut w last size cut =
    let same : length last ≡ length w.last_before = either_size (length last) (length w.last_after) (length w.last_before) size cut.size in (
      same,
      subst (λ (l : List ℕ). IsCut w.last_at last l w.last_after) (own_length w.last_before (length last) same)
          (subst (λ (l : List ℕ). IsCut w.last_at last (resized w.last_before (length last)) l) (own_length w.last_after (length last) (same ∙ sym size)) cut.cut),
    )

made_of : (w : Write) (file left : List ℕ) (l : Leaves w file left) (front last : List ℕ) → l.front ≡ front → l.last ≡ last
    → left ≡ replaced file w.at front w.last_at last
made_of w file left l front last f e =
    l.stands
    ∙ ap (λ (bytes : List ℕ). replaced file w.at bytes w.last_at l.last) f
    ∙ ap (λ (bytes : List ℕ). replaced file w.at front w.last_at bytes) e

pub one_sector_is_whole : OneSectorIsWhole
one_sector_is_whole w file left is on changes l = by_change changes.change
  where
    last : (length l.last ≡ length w.last_before) × IsCut w.last_at l.last w.last_before w.last_after
    last = last_cut w l.last changes.size l.last_cut

    was : w.last_after ≡ w.last_before → l.last ≡ w.last_before
    was same = unchanged w.last_at l.last w.last_before w.last_after last.0 same last.1

    stood : left ≡ replaced file w.at w.before w.last_at w.last_before → left ≡ file
    stood e = e ∙ replaced_same file w.at w.before w.last_at w.last_before on.front on.last

    in_front : w.last_after ≡ w.last_before → (l.front ≡ w.before) ⊎ (l.front ≡ w.after) → (left ≡ file) ⊎ (left ≡ after_of w file)
    in_front same (inl e) = inl (stood (made_of w file left l w.before w.last_before e (was same)))
    in_front same (inr e) = inr (made_of w file left l w.after w.last_after e (was same ∙ sym same))

    behind : w.after ≡ w.before → (l.last ≡ w.last_before) ⊎ (l.last ≡ w.last_after) → (left ≡ file) ⊎ (left ≡ after_of w file)
    behind same (inl e) = inl (stood (made_of w file left l w.before w.last_before (unchanged w.at l.front w.before w.after l.size same l.front_cut) e))
    behind same (inr e) = inr (made_of w file left l w.after w.last_after (unchanged w.at l.front w.before w.after l.size same l.front_cut ∙ sym same) e)

    by_change : ((w.last_after ≡ w.last_before) × DifferInOneSector w.at w.before w.after) ⊎ ((w.after ≡ w.before) × DifferInOneSector w.last_at w.last_before w.last_after)
        → (left ≡ file) ⊎ (left ≡ after_of w file)
    by_change (inl c) = in_front c.0 (one_of_both w.at l.front w.before w.after l.size is.same c.1 l.front_cut)
    by_change (inr c) = behind c.0 (one_of_both w.last_at l.last w.last_before w.last_after last.0 changes.size c.1 last.1)
