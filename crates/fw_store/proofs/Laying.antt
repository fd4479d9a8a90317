-- A store that is laid out on a device, part by part.
use Rattle.std.proofs.Common.{◌≡◌, ℕ, ◌+◌, ◌*◌, ◌-◌, ◌≤◌, List, [], ◌++◌, length, take, drop, replicate, refl, sym, ap, ◌∙◌, arith, append_assoc, append-nil, length-append}
use Rattle.std.proofs.lemmas.List.{length-replicate, length-take, replicate-append-replicate, take-append-drop, take_at, drop_at, take_all}
use Rattle.std.proofs.Math.Seq.{drop-append-add}
use Rattle.fw_store.specs.Device.{splice, padded}
use Rattle.fw_store.specs.Contents.{resized}
use Rattle.fw_store.specs.Sizes.{IsBlank}
use Rattle.fw_store.specs.StoreBytes.{old_store_size}
use Rattle.fw_store.proofs.SliceLemmas.{length-splice}

-- bytes in place of as many others
splice_between : (front middle back : List ℕ) (at : ℕ) (xs : List ℕ) → length front ≡ at → length middle ≡ length xs
    → splice (front ++ (middle ++ back)) at xs ≡ front ++ (xs ++ back)
splice_between front middle back at xs begins size =
    let rest = middle ++ back in
    let there : at + length xs ≡ length front + length middle = omega arith in
    let left : take at (front ++ rest) ≡ front = take_at front rest at begins in
    let right : drop (at + length xs) (front ++ rest) ≡ back =
    ap (λ (n : ℕ). drop n (front ++ rest)) there
    ∙ drop-append-add front rest (length middle)
    ∙ drop_at middle back (length middle) refl in
    ap (λ (l : List ℕ). (l ++ xs) ++ drop (at + length xs) (front ++ rest)) left
    ∙ ap (λ (l : List ℕ). (front ++ xs) ++ l) right
    ∙ append_assoc front xs back

-- a length that is set to 0 and then raised leaves zeros
pub cleared : (old : List ℕ) (len : ℕ) → resized (resized old 0) len ≡ replicate len 0
cleared old len =
    let none : 0 - length old ≡ 0 = omega arith in
    let empty : resized old 0 ≡ [] = ap (λ (n : ℕ). replicate n 0) none in
    let all : len - 0 ≡ len = omega arith in
    let short : 0 ≤ len = omega arith in
    ap (λ (l : List ℕ). resized l len) empty
    ∙ ap (λ (l : List ℕ). l ++ replicate (len - 0) 0) (take_all len [] short)
    ∙ ap (λ (n : ℕ). replicate n 0) all

abbrev zeros : ℕ → List ℕ
zeros n = replicate n 0

-- the zeros behind the capacity of a store, parted by its fields
parted : (capacity n last count : ℕ) → n ≤ capacity → count ≡ 614 + 2 * capacity + last
    → zeros count ≡ zeros 614 ++ (zeros n ++ ((zeros (capacity - n) ++ zeros capacity) ++ zeros last))
parted capacity n last count fits e =
    let z : ℕ = 0 in
    let total : count ≡ 614 + (n + (capacity - n + capacity + last)) = omega arith in
    ap (λ (k : ℕ). replicate k z) total
    ∙ sym (replicate-append-replicate 614 (n + (capacity - n + capacity + last)) z)
    ∙ ap (λ (l : List ℕ). replicate 614 z ++ l)
    (sym (replicate-append-replicate n (capacity - n + capacity + last) z)
    ∙ ap (λ (l : List ℕ). replicate n z ++ l)
    (sym (replicate-append-replicate (capacity - n + capacity) last z)
    ∙ ap (λ (l : List ℕ). l ++ replicate last z) (sym (replicate-append-replicate (capacity - n) capacity z))))

-- bytes in place of the last ones
splice_last : (front last : List ℕ) (at : ℕ) (xs : List ℕ) → length front ≡ at → length last ≡ length xs → splice (front ++ last) at xs ≡ front ++ xs
splice_last front last at xs begins size =
    ap (λ (l : List ℕ). splice (front ++ l) at xs) (sym (append-nil last))
    ∙ splice_between front last [] at xs begins size
    ∙ ap (λ (l : List ℕ). front ++ l) (append-nil xs)

-- what stands behind the capacity of a store
pub behind_number : (number front first second last : List ℕ) → length number ≡ 4
    → drop 4 (number ++ front ++ first ++ second ++ last) ≡ front ++ (first ++ (second ++ last))
behind_number number front first second last four =
    let all = front ++ (first ++ (second ++ last)) in
    let regrouped : number ++ front ++ first ++ second ++ last ≡ number ++ all = simp append_assoc in
    ap (drop 4) regrouped ∙ drop_at number all 4 four

pub laid_behind : (capacity size : ℕ) (blank slots headed ended front last image : List ℕ) → IsBlank size blank
    → size ≡ old_store_size capacity + length last
    → slots ≡ splice blank 618 image → headed ≡ splice slots 4 front → ended ≡ splice headed (618 + 2 * capacity) last
    → length front ≡ 614 → length image ≤ capacity
    → ended ≡ take 4 blank ++ (front ++ (padded image capacity ++ (zeros capacity ++ last)))
laid_behind capacity size blank slots headed ended front last image is many s h r long fits =
    let n : ℕ = length image in
    let z : ℕ = 0 in
    let F = take 4 blank in
    let Z614 = replicate 614 z in
    let Zlast = replicate (length last) z in
    let back = replicate (capacity - n) z ++ replicate capacity z in
    let all : length blank ≡ size = is.size in
    let lF : length F ≡ 4 = omega (arith, length-take 4 blank) in
    let l614 : length Z614 ≡ 614 = length-replicate 614 z in
    let same_last : length Zlast ≡ length last = length-replicate (length last) z in
    let both : length (F ++ Z614) ≡ 618 = omega (arith, length-append F Z614) in
    let same_614 : length Z614 ≡ length front = omega arith in
    let rest : size - 4 ≡ 614 + 2 * capacity + length last = omega arith in
    let blank_is : blank ≡ (F ++ Z614) ++ (replicate n z ++ (back ++ Zlast)) =
    sym (take-append-drop 4 blank)
    ∙ ap (λ (l : List ℕ). F ++ l) (is.zeros ∙ parted capacity n (length last) (size - 4) fits rest)
    ∙ sym (append_assoc F Z614 (replicate n z ++ (back ++ Zlast))) in
    let slots_are : slots ≡ F ++ (Z614 ++ (image ++ (back ++ Zlast))) =
    s ∙ ap (λ (l : List ℕ). splice l 618 image) blank_is
    ∙ splice_between (F ++ Z614) (replicate n z) (back ++ Zlast) 618 image both (length-replicate n z)
    ∙ append_assoc F Z614 (image ++ (back ++ Zlast)) in
    let headed_is : headed ≡ F ++ (front ++ (image ++ (back ++ Zlast))) =
    h ∙ ap (λ (l : List ℕ). splice l 4 front) slots_are
    ∙ splice_between F Z614 (image ++ (back ++ Zlast)) 4 front lF same_614 in
    let slotted = F ++ (front ++ (image ++ back)) in
    let ends : length slotted ≡ 618 + 2 * capacity =
    omega (
      arith,
      length-append F (front ++ (image ++ back)),
      length-append front (image ++ back),
      length-append image back,
      length-append (replicate (capacity - n) z) (replicate capacity z),
      length-replicate (capacity - n) z,
      length-replicate capacity z,
    ) in
    let regrouped : F ++ (front ++ (image ++ (back ++ Zlast))) ≡ slotted ++ Zlast = simp append_assoc in
    let ended_is : ended ≡ slotted ++ last =
    r ∙ ap (λ (l : List ℕ). splice l (618 + 2 * capacity) last) (headed_is ∙ regrouped)
    ∙ splice_last slotted Zlast (618 + 2 * capacity) last ends same_last in
    ended_is ∙ simp append_assoc

-- the capacity is written in front of it
pub numbered : (number rest behind whole first : List ℕ) → length first ≡ 4 → length number ≡ 4 → behind ≡ first ++ drop 4 (number ++ rest)
    → whole ≡ splice behind 0 number → whole ≡ number ++ rest
numbered number rest behind whole first four four' b w =
    w ∙ ap (λ (l : List ℕ). splice l 0 number) b
    ∙ splice_between [] first (drop 4 (number ++ rest)) 0 number refl (four ∙ sym four')
    ∙ ap (λ (l : List ℕ). number ++ l) (drop_at number rest 4 four')

-- what is put together is no shorter than its front
pub no_shorter : (all front rest : List ℕ) (n : ℕ) → all ≡ front ++ rest → length front ≡ n → n ≤ length all
no_shorter all front rest n e size =
    let whole : length all ≡ length front + length rest = ap length e ∙ length-append front rest in
    omega arith

-- zeros are blank
pub blank_zeros : (size : ℕ) (bytes : List ℕ) → bytes ≡ zeros size → 4 ≤ size → IsBlank size bytes
blank_zeros size bytes e four =
    let z : ℕ = 0 in
    let parts : zeros size ≡ zeros 4 ++ zeros (size - 4) =
    ap (λ (k : ℕ). replicate k z) (omega arith) ∙ sym (replicate-append-replicate 4 (size - 4) z) in
    record {
      size = ap length e ∙ length-replicate size z;
      zeros = ap (drop 4) (e ∙ parts) ∙ drop_at (zeros 4) (zeros (size - 4)) 4 (length-replicate 4 z);
    }

-- what is laid out so far has the size of a store
pub slots_size : (capacity size : ℕ) (blank image : List ℕ) → length blank ≡ size → old_store_size capacity ≤ size → length image ≤ capacity
    → length (splice blank 618 image) ≡ size
slots_size capacity size blank image all many fits = length-splice blank 618 image (omega arith) ∙ all
