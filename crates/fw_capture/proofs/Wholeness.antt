-- What stands at the front of bytes, by as many of them as its record takes.
use Rattle.std.proofs.Common.{◌≡◌, ◌≢◌, ◌⊎◌, ℕ, ◌+◌, ◌-◌, ◌≤◌, ◌<◌, get_or, Bool, true, false, List, [], ◌∷◌, ◌++◌, length, take, drop, Option, Some, None, Result, Ok, Err, inr, refl, sym, ap, subst, ◌∙◌, append-nil, arith, if◌then◌else◌}
use Rattle.std.specs.Prelude.{nat_lt, nat_le, not, ◌==◌, ◌&&◌}
use Rattle.std.specs.Int.{w16, w32, from_be_bytes, from_le_bytes}
use Rattle.std.proofs.lemmas.Bool.Decides.{nat_tests}
use Rattle.std.proofs.lemmas.Bool.{le-ltb, lt-leb, ne_eqb}
use Rattle.std.proofs.lemmas.List.{length-append, length-drop, take-append-le, drop-append-le, take_more}
use Rattle.std.proofs.Math.Seq.{drop-append_seam, take-length}
use Rattle.fw_capture.specs.declared.error.WholeError.{WholeError}
use Rattle.fw_capture.specs.declared.error.WholeError.TheVariants as error
use Rattle.fw_capture.specs.declared.fault.CaptureFault.{CaptureFault}
use Rattle.fw_capture.specs.declared.fault.CaptureFault.TheVariants.{ShortRecord, BadFraction, CutPacket, ShortHeader, Pcapng, BadMagic, BadVersion, UnknownLink}
use Rattle.fw_capture.specs.declared.format.Format.{Format}
use Rattle.fw_capture.specs.declared.whole.Front.TheVariants as front
use Rattle.fw_capture.specs.View.{Told}
use Rattle.fw_capture.specs.Place.{Place}
use Rattle.fw_capture.specs.Reading.{half_at, number_at, is_pcapng, magic_at, link_of, header_at, unless, or_fault, fractions, fraction_at, size_at, time_at, record_at, ◌>>=◌}
use Rattle.fw_capture.specs.Steps.{after}
use Rattle.fw_capture.specs.Private.{IsFront, IsOfReading, record_size}
use Rattle.fw_capture.specs.Whole.{IsPassed, IsRecord, IsTorn, IsForeign, IsForeignAt, IsWholeTo, Passes, all_zeros, without_zeros, is_part, longest_packet, says_twice}

-- ---- what stands before further bytes

part_before : (n place : ℕ) (xs ys : List ℕ) → place + n ≤ length xs → take n (drop place (xs ++ ys)) ≡ take n (drop place xs)
part_before n place xs ys fits =
    ap (λ (x : List ℕ). take n x) (drop-append-le place xs ys (omega arith))
    ∙ take-append-le n (drop place xs) ys (omega (arith, length-drop place xs))

pub number_before : (little : Bool) (place : ℕ) (xs ys : List ℕ) → place + 4 ≤ length xs → number_at little place (xs ++ ys) ≡ number_at little place xs
number_before little place xs ys fits =
    ap (λ (x : List ℕ). if little then from_le_bytes w32 x else from_be_bytes w32 x) (part_before 4 place xs ys fits)

pub record_before : (f : Format) (xs ys : List ℕ) → 16 ≤ length xs → 16 + size_at f xs ≤ length xs → record_at f (xs ++ ys) ≡ record_at f xs
unfolding record_at
record_before f xs ys header packet =
    let size : size_at f (xs ++ ys) ≡ size_at f xs = number_before f.little 8 xs ys (omega arith) in
    let fraction : fraction_at f (xs ++ ys) ≡ fraction_at f xs = number_before f.little 4 xs ys (omega arith) in
    let seconds : number_at f.little 0 (xs ++ ys) ≡ number_at f.little 0 xs = number_before f.little 0 xs ys (omega arith) in
    let frame : take (size_at f xs) (drop 16 (xs ++ ys)) ≡ take (size_at f xs) (drop 16 xs) = part_before (size_at f xs) 16 xs ys (omega arith) in
    let long : length (xs ++ ys) ≡ length xs + length ys = length-append xs ys in
    rw (
      le-ltb (length (xs ++ ys)) 16 (omega arith),
      le-ltb (length xs) 16 header,
      size,
      fraction,
      seconds,
      le-ltb (length (xs ++ ys)) (16 + size_at f xs) (omega arith),
      le-ltb (length xs) (16 + size_at f xs) packet,
      frame,
    )

-- ---- a record that was read

size_in : Result (ℕ × Told × ℕ) CaptureFault → ℕ
size_in (Ok x) = x.2
size_in (Err e) = 0

passes : {A : Type 0} → (test : Bool) (fault : CaptureFault) (read : Result A CaptureFault) (a : A) → (if test then Err fault else read) ≡ Ok a
    → (test ≡ false) × (read ≡ Ok a)
passes true fault read a is = absurd (cc)
passes false fault read a is = (refl, is)

told_then : {A B : Type 0} → (read : Result A CaptureFault) (f : A → Result B CaptureFault) (b : B) → (read >>= f) ≡ Ok b → (a : A) × (f a ≡ Ok b)
told_then (Ok a) f b is = (a, is)
told_then (Err e) f b is = absurd (cc)

pub sized : (f : Format) (bytes : List ℕ) (x : ℕ × Told × ℕ) → record_at f bytes ≡ Ok x → (x.2 ≡ 16 + size_at f bytes) × (16 ≤ length bytes) × (x.2 ≤ length bytes)
unfolding record_at size_in
sized f bytes x is =
    let one = passes (nat_lt (length bytes) 16) ShortRecord _ x is in
    let two = passes (nat_le (fractions f) (fraction_at f bytes)) BadFraction _ x one.1 in
    let three = passes (nat_lt (length bytes) (16 + size_at f bytes)) CutPacket _ x two.1 in
    let told = told_then _ (λ (told : Told). Ok (time_at f bytes, told, 16 + size_at f bytes)) x three.1 in
    let size : 16 + size_at f bytes ≡ x.2 = ap size_in told.1 in
    let room : 16 + size_at f bytes ≤ length bytes = grind (arith, nat_tests, three.0) in
    (sym size, omega arith, omega arith)

-- ---- as many bytes as a record takes, or fewer at the end

-- the header isn't whole, or says that the packet is longer than the longest, or that it isn't
data SizeIs (f : Format) (bytes : List ℕ) : Type 0 where
  cut_header : length bytes < 16 → record_size f bytes ≡ 16 → SizeIs f bytes
  over_long : 16 ≤ length bytes → longest_packet < size_at f bytes → record_size f bytes ≡ 16 → SizeIs f bytes
  in_bounds : 16 ≤ length bytes → size_at f bytes ≤ longest_packet → record_size f bytes ≡ 16 + size_at f bytes → SizeIs f bytes

size_by : (f : Format) (bytes : List ℕ) (b c : Bool) → nat_lt (length bytes) 16 ≡ b → nat_lt longest_packet (size_at f bytes) ≡ c → SizeIs f bytes
size_by f bytes true c header packet = cut_header (grind (arith, nat_tests, header)) (rw header refl)
size_by f bytes false true header packet = over_long (grind (arith, nat_tests, header)) (grind (arith, nat_tests, packet)) (rw (header, packet) refl)
size_by f bytes false false header packet = in_bounds (grind (arith, nat_tests, header)) (grind (arith, nat_tests, packet)) (rw (header, packet) refl)

size_of : (f : Format) (bytes : List ℕ) → SizeIs f bytes
size_of f bytes = size_by f bytes (nat_lt (length bytes) 16) (nat_lt longest_packet (size_at f bytes)) refl refl

size_before : (f : Format) (xs ys : List ℕ) → 16 ≤ length xs → size_at f (xs ++ ys) ≡ size_at f xs
size_before f xs ys header = number_before f.little 8 xs ys (omega arith)

at_least_by : (f : Format) (bytes : List ℕ) → SizeIs f bytes → 16 ≤ record_size f bytes
at_least_by f bytes (cut_header header size) = omega (arith, size)
at_least_by f bytes (over_long header packet size) = omega (arith, size)
at_least_by f bytes (in_bounds header packet size) = omega (arith, size)

pub at_least : (f : Format) (bytes : List ℕ) → 16 ≤ record_size f bytes
at_least f bytes = at_least_by f bytes (size_of f bytes)

twice_before : (f : Format) (xs ys : List ℕ) → 16 ≤ length xs → says_twice f (xs ++ ys) ≡ says_twice f xs
twice_before f xs ys header = rw (size_before f xs ys header, number_before f.little 12 xs ys (omega arith)) refl

-- no record of these bytes says twice how long it is
abbrev NoneOf : Format → List ℕ → Type 0
NoneOf f bytes = (x : ℕ × Told × ℕ) → record_at f bytes ≡ Ok x → says_twice f bytes ≡ false

pub nothing_more : (xs ys : List ℕ) → ys ≡ [] → xs ++ ys ≡ xs
nothing_more xs ys none = ap (λ (x : List ℕ). xs ++ x) none ∙ append-nil xs

-- the same header is read with the packet behind it
same_by : (f : Format) (header more : List ℕ) (b : Bool) → nat_lt (length header) 16 ≡ b → (length header < 16 → more ≡ [])
    → record_size f (header ++ more) ≡ record_size f header
same_by f header more true short end = ap (λ (x : List ℕ). record_size f x) (nothing_more header more (end (grind (arith, nat_tests, short))))
same_by f header more false whole end =
    let here : 16 ≤ length header = grind (arith, nat_tests, whole) in
    rw (le-ltb (length (header ++ more)) 16 (omega (arith, length-append header more, here)), whole, size_before f header more here) refl

pub same_size : (f : Format) (header more : List ℕ) → (length header < 16 → more ≡ []) → record_size f (header ++ more) ≡ record_size f header
same_size f header more end = same_by f header more (nat_lt (length header) 16) refl end

whole_by : (f : Format) (bytes : List ℕ) (x : ℕ × Told × ℕ) → SizeIs f bytes → length bytes ≤ record_size f bytes → record_at f bytes ≡ Ok x
    → (x.2 ≡ length bytes) × (x.2 ≤ 16 + longest_packet)
whole_by f bytes x (cut_header header size) within is = let read = sized f bytes x is in absurd (omega (arith, read.1, header))
whole_by f bytes x (over_long header packet size) within is = let read = sized f bytes x is in absurd (omega (arith, read.0, read.2, packet, size, within))
whole_by f bytes x (in_bounds header packet size) within is =
    let read = sized f bytes x is in (omega (arith, read.0, read.2, size, within), omega (arith, read.0, packet))

pub read_whole : (f : Format) (bytes left : List ℕ) (x : ℕ × Told × ℕ) → length bytes ≤ record_size f bytes → record_at f bytes ≡ Ok x
    → says_twice f bytes ≡ true → IsRecord f (bytes ++ left) x × (drop x.2 (bytes ++ left) ≡ left)
read_whole f bytes left x within is twice =
    let read = sized f bytes x is in
    let size = whole_by f bytes x (size_of f bytes) within is in
    let same : record_at f (bytes ++ left) ≡ Ok x = record_before f bytes left read.1 (omega (arith, read.0, read.2)) ∙ is in
    (record { reads = same; bound = size.1; twice = twice_before f bytes left read.1 ∙ twice }, ap (λ (n : ℕ). drop n (bytes ++ left)) size.0 ∙ drop-append_seam bytes left)

not_both : (b : Bool) → b ≡ true → b ≡ false → ⊥
not_both b is other = cc

none_by : (f : Format) (bytes left : List ℕ) → SizeIs f bytes → record_size f bytes ≤ length bytes → NoneOf f bytes
    → (x : ℕ × Told × ℕ) → ¬ IsRecord f (bytes ++ left) x
none_by f bytes left (cut_header header size) whole none x found = absurd (omega (arith, header, size, whole))
none_by f bytes left (over_long header packet size) whole none x found =
    let read = sized f (bytes ++ left) x found.reads in
    absurd (omega (arith, read.0, size_before f bytes left header, packet, found.bound))
none_by f bytes left (in_bounds header packet size) whole none x found =
    let here : record_at f bytes ≡ Ok x = sym (record_before f bytes left header (omega (arith, size, whole))) ∙ found.reads in
    not_both (says_twice f bytes) (sym (twice_before f bytes left header) ∙ found.twice) (none x here)

none_if : (f : Format) (bytes left : List ℕ) (b : Bool) → nat_lt (length bytes) (record_size f bytes) ≡ b
    → (length bytes < record_size f bytes → left ≡ []) → NoneOf f bytes → (x : ℕ × Told × ℕ) → ¬ IsRecord f (bytes ++ left) x
none_if f bytes left true less end none x found =
    let same : bytes ++ left ≡ bytes = nothing_more bytes left (end (grind (arith, nat_tests, less))) in
    let found : IsRecord f bytes x = subst (λ (y : List ℕ). IsRecord f y x) same found in
    not_both (says_twice f bytes) found.twice (none x found.reads)
none_if f bytes left false whole end none x found = none_by f bytes left (size_of f bytes) (grind (arith, nat_tests, whole)) none x found

pub reads_none : (f : Format) (bytes left : List ℕ) → (length bytes < record_size f bytes → left ≡ []) → NoneOf f bytes
    → (x : ℕ × Told × ℕ) → ¬ IsRecord f (bytes ++ left) x
reads_none f bytes left end none = none_if f bytes left (nat_lt (length bytes) (record_size f bytes)) refl end none

-- ---- zeros

and_assoc : (a b c : Bool) → (a && (b && c)) ≡ ((a && b) && c)
and_assoc true b c = refl
and_assoc false b c = refl

and_true : (a : Bool) → (a && true) ≡ a
and_true true = refl
and_true false = refl

and_false : (a : Bool) → (a && false) ≡ false
and_false true = refl
and_false false = refl

pub all_append : (xs ys : List ℕ) → all_zeros (xs ++ ys) ≡ (all_zeros xs && all_zeros ys)
all_append [] ys = refl
all_append (x ∷ xs) ys = ap (λ (b : Bool). (x == 0) && b) (all_append xs ys) ∙ and_assoc (x == 0) (all_zeros xs) (all_zeros ys)

pub all_before : (xs ys : List ℕ) → all_zeros ys ≡ true → all_zeros (xs ++ ys) ≡ all_zeros xs
all_before xs ys zeros = all_append xs ys ∙ ap (λ (b : Bool). all_zeros xs && b) zeros ∙ and_true (all_zeros xs)

not_all : (xs ys : List ℕ) → all_zeros ys ≡ false → all_zeros (xs ++ ys) ≡ false
not_all xs ys more = all_append xs ys ∙ ap (λ (b : Bool). all_zeros xs && b) more ∙ and_false (all_zeros xs)

not_false : (b : Bool) → not b ≡ false → b ≡ true
not_false true is = refl
not_false false is = absurd (cc)

not_true : (b : Bool) → not b ≡ true → b ≡ false
not_true true is = absurd (cc)
not_true false is = refl

cut : Bool → ℕ → List ℕ → List ℕ
cut b x xs = if b then [] else x ∷ xs

zeros_alone : (ys : List ℕ) → all_zeros ys ≡ true → without_zeros ys ≡ []
unfolding cut
zeros_alone [] zeros = refl
zeros_alone (y ∷ ys) zeros = ap (λ (b : Bool). cut b y (without_zeros ys)) zeros

more_alone : (x : ℕ) → all_zeros (x ∷ []) ≡ false → without_zeros (x ∷ []) ≡ x ∷ []
unfolding cut
more_alone x more = ap (λ (b : Bool). cut b x []) more

pub zeros_behind : (xs ys : List ℕ) → all_zeros ys ≡ true → without_zeros (xs ++ ys) ≡ without_zeros xs
unfolding cut
zeros_behind [] ys zeros = zeros_alone ys zeros
zeros_behind (x ∷ xs) ys zeros =
    ap (λ (b : Bool). cut b x (without_zeros (xs ++ ys))) (all_before (x ∷ xs) ys zeros)
    ∙ ap (λ (l : List ℕ). cut (all_zeros (x ∷ xs)) x l) (zeros_behind xs ys zeros)

pub more_behind : (xs ys : List ℕ) → all_zeros ys ≡ false → without_zeros (xs ++ ys) ≡ xs ++ without_zeros ys
unfolding cut
more_behind [] ys more = refl
more_behind (x ∷ xs) ys more =
    ap (λ (b : Bool). cut b x (without_zeros (xs ++ ys))) (not_all (x ∷ xs) ys more)
    ∙ ap (λ (l : List ℕ). x ∷ l) (more_behind xs ys more)

-- ---- no part of a record

third_false : (a b d : Bool) → (a && (b && (false && d))) ≡ false
third_false true true d = refl
third_false true false d = refl
third_false false b d = refl

fourth_false : (a b c : Bool) → (a && (b && (c && false))) ≡ false
fourth_false true true true = refl
fourth_false true true false = refl
fourth_false true false c = refl
fourth_false false b c = refl

no_part_by : (f : Format) (bytes more : List ℕ) → SizeIs f bytes → record_size f bytes ≤ length bytes → is_part f (bytes ++ more) ≡ false
no_part_by f bytes more (cut_header header size) whole = absurd (omega (arith, header, size, whole))
no_part_by f bytes more (over_long header packet size) whole =
    let all : List ℕ = bytes ++ more in
    let here : size_at f all ≡ size_at f bytes = size_before f bytes more header in
    rw (le-ltb (length all) 16 (omega (arith, length-append bytes more, header)), lt-leb (size_at f all) longest_packet (omega (arith, here, packet)))
    (third_false (nat_lt (fraction_at f all) (fractions f)) (size_at f all == number_at f.little 12 all) (nat_lt (length all) (16 + size_at f all)))
no_part_by f bytes more (in_bounds header packet size) whole =
    let all : List ℕ = bytes ++ more in
    let here : size_at f all ≡ size_at f bytes = size_before f bytes more header in
    rw (le-ltb (length all) 16 (omega (arith, length-append bytes more, header)), le-ltb (length all) (16 + size_at f all) (omega (arith, length-append bytes more, here, size, whole)))
    (fourth_false (nat_lt (fraction_at f all) (fractions f)) (size_at f all == number_at f.little 12 all) (nat_le (size_at f all) longest_packet))

pub no_part_before : (f : Format) (bytes more : List ℕ) → record_size f bytes ≤ length bytes → is_part f (bytes ++ more) ≡ false
no_part_before f bytes more whole = no_part_by f bytes more (size_of f bytes) whole

-- ---- what is found at the front

pub front_whole : (f : Format) (rest bytes left : List ℕ) (behind : Option (List ℕ)) (time : ℕ) (told : Told) (size : ℕ) → rest ≡ bytes ++ left
    → behind ≡ Some left → length bytes ≤ record_size f bytes → record_at f bytes ≡ Ok (time, told, size) → says_twice f bytes ≡ true
    → IsFront f rest behind (front.Whole size)
front_whole f rest bytes left behind time told size is at within read twice =
    let whole = read_whole f bytes left (time, told, size) within read twice in
    let P : List ℕ → Type 0 = λ x. IsFront f x behind (front.Whole size) in
    subst P (sym is) (time, told, whole.0, at ∙ ap (λ (x : List ℕ). Some x) (sym whole.1))

pub torn : (f : Format) (bytes left : List ℕ) → (length bytes < record_size f bytes → left ≡ []) → NoneOf f bytes
    → all_zeros left ≡ true → is_part f (without_zeros bytes) ≡ true → IsTorn f (bytes ++ left)
torn f bytes left end none zeros part = record {
  none = reads_none f bytes left end none;
  part = ap (λ (x : List ℕ). is_part f x) (zeros_behind bytes left zeros) ∙ part;
}

not_empty : (bytes left : List ℕ) → bytes ≢ [] → bytes ++ left ≢ []
not_empty [] left some none = some refl
not_empty (b ∷ bytes) left some none = absurd (cc)

foreign_by : (f : Format) (bytes left : List ℕ) (b : Bool) → all_zeros left ≡ b → (length bytes < record_size f bytes → left ≡ [])
    → (all_zeros left ≡ true → is_part f (without_zeros bytes) ≡ false) → is_part f (without_zeros (bytes ++ left)) ≡ false
foreign_by f bytes left true zeros end no_part = ap (λ (x : List ℕ). is_part f x) (zeros_behind bytes left zeros) ∙ no_part zeros
foreign_by f bytes left false more end no_part =
    ap (λ (x : List ℕ). is_part f x) (more_behind bytes left more)
    ∙ no_part_before f bytes (without_zeros left) (full f bytes left (nat_lt (length bytes) (record_size f bytes)) refl end more)
  where
    full : (f : Format) (bytes left : List ℕ) (b : Bool) → nat_lt (length bytes) (record_size f bytes) ≡ b → (length bytes < record_size f bytes → left ≡ [])
        → all_zeros left ≡ false → record_size f bytes ≤ length bytes
    full f bytes left true less end more =
        let none : left ≡ [] = end (grind (arith, nat_tests, less)) in
        let zeros : all_zeros left ≡ true = ap all_zeros none in
        absurd (cc)
    full f bytes left false whole end more = grind (arith, nat_tests, whole)

pub foreign : (f : Format) (bytes left : List ℕ) → bytes ≢ [] → (length bytes < record_size f bytes → left ≡ []) → NoneOf f bytes
    → (all_zeros left ≡ true → is_part f (without_zeros bytes) ≡ false) → IsForeign f (bytes ++ left)
foreign f bytes left some end none no_part = record {
  more = not_empty bytes left some;
  none = reads_none f bytes left end none;
  no_part = foreign_by f bytes left (all_zeros left) refl end no_part;
}

pub front_last : (f : Format) (rest bytes left : List ℕ) → rest ≡ bytes ++ left → (length bytes < record_size f bytes → left ≡ [])
    → NoneOf f bytes → all_zeros left ≡ true → is_part f (without_zeros bytes) ≡ true → (rest ≡ []) ⊎ IsTorn f rest
front_last f rest bytes left is end none zeros part =
    let P : List ℕ → Type 0 = λ x. IsTorn f x in
    inr (subst P (sym is) (torn f bytes left end none zeros part))

-- there are bytes where a header was filled
pub some_bytes : (slice header given bytes : List ℕ) → (length slice == 0) ≡ false → slice ≡ header → bytes ≡ header ++ given → bytes ≢ []
some_bytes [] header given bytes some is more none = absurd (cc)
some_bytes (x ∷ slice) [] given bytes some is more none = absurd (cc)
some_bytes (x ∷ slice) (y ∷ header) given bytes some is more none = absurd (cc)

pub front_foreign : (f : Format) (rest bytes left : List ℕ) → rest ≡ bytes ++ left → bytes ≢ []
    → (length bytes < record_size f bytes → left ≡ []) → NoneOf f bytes → (all_zeros left ≡ true → is_part f (without_zeros bytes) ≡ false)
    → IsForeign f rest
front_foreign f rest bytes left is some end none no_part =
    let P : List ℕ → Type 0 = λ x. IsForeign f x in
    subst P (sym is) (foreign f bytes left some end none no_part)

-- a list with its last element
front_and_last : (xs : List ℕ) (d : ℕ) → 1 ≤ length xs → xs ≡ take (length xs - 1) xs ++ get_or xs (length xs - 1) d ∷ []
front_and_last xs d some =
    let size : length xs - 1 + 1 ≡ length xs = omega arith in
    sym (ap (λ (n : ℕ). take n xs) size ∙ take-length xs) ∙ take_more xs (length xs - 1) d (omega arith)

-- what stands before a zero at the end, and where there is none
pub before_zero : (xs : List ℕ) (d : ℕ) → 1 ≤ length xs → get_or xs (length xs - 1) d ≡ 0 → without_zeros (take (length xs - 1) xs) ≡ without_zeros xs
before_zero xs d some zero =
    let one : all_zeros (get_or xs (length xs - 1) d ∷ []) ≡ true = ap (λ (n : ℕ). all_zeros (n ∷ [])) zero in
    sym (ap without_zeros (front_and_last xs d some) ∙ zeros_behind (take (length xs - 1) xs) (get_or xs (length xs - 1) d ∷ []) one)

pub before_other : (xs : List ℕ) (d : ℕ) → 1 ≤ length xs → get_or xs (length xs - 1) d ≢ 0 → xs ≡ without_zeros xs
before_other xs d some other =
    let last : ℕ = get_or xs (length xs - 1) d in
    let one : all_zeros (last ∷ []) ≡ false = ap (λ (b : Bool). b && true) (ne_eqb last 0 other) in
    let cut_is : without_zeros (last ∷ []) ≡ last ∷ [] = more_alone last one in
    sym (ap without_zeros (front_and_last xs d some) ∙ more_behind (take (length xs - 1) xs) (last ∷ []) one
    ∙ ap (λ (x : List ℕ). take (length xs - 1) xs ++ x) cut_is ∙ sym (front_and_last xs d some))

-- ---- a reader that is looked through for zeros

pub zeros_go_on : (rest left chunk next : List ℕ) → all_zeros rest ≡ all_zeros left → left ≡ chunk ++ next → not (all_zeros chunk) ≡ false → all_zeros rest ≡ all_zeros next
zeros_go_on rest left chunk next same is zeros =
    same ∙ ap all_zeros is ∙ all_append chunk next ∙ ap (λ (b : Bool). b && all_zeros next) (not_false (all_zeros chunk) zeros)

pub zeros_end : (rest left chunk next : List ℕ) → all_zeros rest ≡ all_zeros left → left ≡ chunk ++ next → not (all_zeros chunk) ≡ true → false ≡ all_zeros rest
zeros_end rest left chunk next same is other =
    sym (same ∙ ap all_zeros is ∙ all_append chunk next ∙ ap (λ (b : Bool). b && all_zeros next) (not_true (all_zeros chunk) other))

-- ---- the file header

half_before : (little : Bool) (place : ℕ) (xs ys : List ℕ) → place + 2 ≤ length xs → half_at little place (xs ++ ys) ≡ half_at little place xs
half_before little place xs ys fits =
    ap (λ (x : List ℕ). if little then from_le_bytes w16 x else from_be_bytes w16 x) (part_before 2 place xs ys fits)

abbrev behind_magic : List ℕ → Bool × Bool → Result Format CaptureFault
behind_magic bytes magic =
    unless ((not (half_at magic.0 4 bytes == 2 && half_at magic.0 6 bytes == 4), BadVersion) ∷ [])
    (or_fault UnknownLink (link_of (number_at magic.0 20 bytes)) >>= λ l. Ok (record { little = magic.0; nano = magic.1; link = l }))

magic_behind : (xs ys : List ℕ) (magic : Option (Bool × Bool)) → 24 ≤ length xs
    → (or_fault BadMagic magic >>= behind_magic (xs ++ ys)) ≡ (or_fault BadMagic magic >>= behind_magic xs)
magic_behind xs ys None long = refl
magic_behind xs ys (Some magic) long =
    rw (half_before magic.0 4 xs ys (omega arith), half_before magic.0 6 xs ys (omega arith), number_before magic.0 20 xs ys (omega arith)) refl

header_before : (xs ys : List ℕ) → 24 ≤ length xs → header_at (xs ++ ys) ≡ header_at xs
unfolding header_at
header_before xs ys long =
    let magic : magic_at (xs ++ ys) ≡ magic_at xs =
    rw (number_before true 0 xs ys (omega arith), number_before false 0 xs ys (omega arith)) refl in
    let front : is_pcapng (xs ++ ys) ≡ is_pcapng xs = ap (λ (n : ℕ). n == 0x0a0d0d0a) (number_before true 0 xs ys (omega arith)) in
    let behind : (or_fault BadMagic (magic_at (xs ++ ys)) >>= behind_magic (xs ++ ys)) ≡ (or_fault BadMagic (magic_at xs) >>= behind_magic xs) =
    ap (λ (m : Option (Bool × Bool)). or_fault BadMagic m >>= behind_magic (xs ++ ys)) magic ∙ magic_behind xs ys (magic_at xs) long in
    rw (le-ltb (length (xs ++ ys)) 24 (omega (arith, length-append xs ys, long)), le-ltb (length xs) 24 long)
    (ap (λ (b : Bool). if b then Err Pcapng else (or_fault BadMagic (magic_at (xs ++ ys)) >>= behind_magic (xs ++ ys))) front
    ∙ ap (λ (r : Result Format CaptureFault). if is_pcapng xs then Err Pcapng else r) behind)

header_by : (bytes left : List ℕ) (b : Bool) → nat_lt (length bytes) 24 ≡ b → (length bytes < 24 → left ≡ []) → header_at (bytes ++ left) ≡ header_at bytes
header_by bytes left true less end = ap (λ (x : List ℕ). header_at x) (nothing_more bytes left (end (grind (arith, nat_tests, less))))
header_by bytes left false whole end = header_before bytes left (grind (arith, nat_tests, whole))

pub same_header : (bytes left : List ℕ) → (length bytes < 24 → left ≡ []) → header_at (bytes ++ left) ≡ header_at bytes
same_header bytes left end = header_by bytes left (nat_lt (length bytes) 24) refl end

-- a header that is right has 24 bytes
pub header_long : (bytes : List ℕ) (f : Format) → header_at bytes ≡ Ok f → 24 ≤ length bytes
unfolding header_at
header_long bytes f is =
    let long = passes (nat_lt (length bytes) 24) ShortHeader _ f is in
    grind (arith, nat_tests, long.0)

-- ---- the records of a capture

-- a reader's errors aren't those of a capture
pub no_foreign : {A X : Type 0} → (r : Result A WholeError) (p q : WholeError) (offset : ℕ) → r ≡ Err p → p ≡ q → IsOfReading q → r ≡ Err (error.Foreign offset) → X
no_foreign r p q offset was same is found =
    let here : q ≡ error.Foreign offset = cc in
    absurd (subst IsOfReading here is)

pub no_header : {A X : Type 0} → (r : Result A WholeError) (p q : WholeError) (fault : CaptureFault) → r ≡ Err p → p ≡ q → IsOfReading q → r ≡ Err (error.Header fault) → X
no_header r p q fault was same is found =
    let here : q ≡ error.Header fault = cc in
    absurd (subst IsOfReading here is)

-- how far a capture was read
pub record SoFar (capture : List ℕ) (f : Format) (offset : ℕ) (after : Option (List ℕ)) : Type 0 where
  pub last : Place
  pub has : IsPassed capture last
  pub format : f ≡ last.format
  pub at : offset ≡ last.offset
  pub left : after ≡ Some last.rest

opened_with : (bytes left : List ℕ) (f : Format) → 24 ≤ length bytes → length bytes ≤ 24 → header_at bytes ≡ Ok f → SoFar (bytes ++ left) f 24 (Some left)
opened_with bytes left f long short is =
    let place : Place = record { format = f; rest = left; offset = 24 } in
    let size : 24 ≡ length bytes = omega (arith, long, short) in
    let rest : left ≡ drop 24 (bytes ++ left) = sym (ap (λ (n : ℕ). drop n (bytes ++ left)) size ∙ drop-append_seam bytes left) in
    record {
      last = place;
      has = record { first = place; opens = (header_before bytes left long ∙ is, rest, refl); records = []; passed = refl };
      format = refl;
      at = refl;
      left = refl;
    }

pub opened : (capture bytes left : List ℕ) (f : Format) (after : Option (List ℕ)) → capture ≡ bytes ++ left → after ≡ Some left → 24 ≤ length bytes
    → length bytes ≤ 24 → header_at bytes ≡ Ok f → SoFar capture f 24 after
opened capture bytes left f behind is at long short read =
    let P : List ℕ → Type 0 = λ x. SoFar x f 24 behind in
    let Q : Option (List ℕ) → Type 0 = λ o. SoFar (bytes ++ left) f 24 o in
    subst P (sym is) (subst Q (sym at) (opened_with bytes left f long short read))

passes_more : (first : Place) (records : List (ℕ × Told)) (last : Place) (time : ℕ) (told : Told) (size : ℕ) → Passes first records last
    → IsRecord last.format last.rest (time, told, size) → Passes first (records ++ ((time, told) ∷ [])) (after size last)
passes_more first [] last time told size passed is =
    let P : Place → Type 0 = λ p. Passes p ((time, told) ∷ []) (after size last) in
    subst P passed (size, is, refl)
passes_more first (r ∷ records) last time told size passed is = (passed.0, passed.1, passes_more (after passed.0 first) records last time told size passed.2 is)

pub goes_on : (capture : List ℕ) (f : Format) (offset size end : ℕ) (before behind : Option (List ℕ)) (so_far : SoFar capture f offset before)
    → IsFront f so_far.last.rest behind (front.Whole size) → end ≡ offset + size → SoFar capture f end behind
goes_on capture f offset size end before behind so_far next is =
    let P : Format → Type 0 = λ g. IsRecord g so_far.last.rest (next.0, next.1, size) in
    record {
      last = after size so_far.last;
      has = record {
        first = so_far.has.first;
        opens = so_far.has.opens;
        records = so_far.has.records ++ ((next.0, next.1) ∷ []);
        passed = passes_more so_far.has.first so_far.has.records so_far.last next.0 next.1 size so_far.has.passed (subst P so_far.format next.2);
      };
      format = so_far.format;
      at = is ∙ ap (λ (n : ℕ). n + size) so_far.at;
      left = next.3;
    }

pub ends : (capture : List ℕ) (f : Format) (offset : ℕ) (before behind : Option (List ℕ)) (so_far : SoFar capture f offset before)
    → IsFront f so_far.last.rest behind front.Last → IsWholeTo capture offset
ends capture f offset before behind so_far next =
    let P : Format → Type 0 = λ g. (so_far.last.rest ≡ []) ⊎ IsTorn g so_far.last.rest in
    record { last = so_far.last; has = so_far.has; ends = so_far.at; rest = subst P so_far.format next }

pub ends_foreign : (capture : List ℕ) (f : Format) (offset : ℕ) (before : Option (List ℕ)) (so_far : SoFar capture f offset before)
    → IsForeign f so_far.last.rest → IsForeignAt capture offset
ends_foreign capture f offset before so_far is =
    let P : Format → Type 0 = λ g. IsForeign g so_far.last.rest in
    record { last = so_far.last; has = so_far.has; at = so_far.at; foreign = subst P so_far.format is }
