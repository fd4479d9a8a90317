-- The head of a request, and what follows it.
use Rattle.std.proofs.Common.{◌≡◌, ℕ, Bool, true, false, ltb, List, [], ◌∷◌, ◌++◌, length, take, drop, refl, sym, ap, ◌∙◌, arith}
use Rattle.std.specs.Prelude.{MatchBool, ◌==◌, ◌/◌, ◌%◌, ℤ, FitsSigned}
use Rattle.std.specs.Int.{w8, cast_unsigned, cast_signed}
use Rattle.std.proofs.lemmas.Bool.{le-ltb}
use Rattle.std.proofs.lemmas.List.{take_at, drop_at, length-append}
use Rattle.std.proofs.lemmas.Int.{to_z-of_z}
use Rattle.fw_apdu.specs.declared.error.ApduError.{ApduError}
use Rattle.fw_apdu.specs.declared.error.ApduError.TheVariants.{Truncated, UnknownService, UnsupportedForm, BadData, Trailing, OutOfMemory}
use Rattle.fw_apdu.specs.declared.request.Head.{Head}
use Rattle.fw_apdu.specs.Request.{Descriptor, IsDescriptor, head_bytes}
use Rattle.fw_apdu.specs.Fault.{BytesFail, HeadFails, SelectionFails, IfFault}
use Rattle.fw_apdu.specs.Private.{HeadRead, SelectionStops, descriptor_of}

-- ten bytes are there
ten_there : (i h l x : ℕ) (n rest : List ℕ) → length n ≡ 6 → ltb (length (i ∷ h ∷ l ∷ ((n ++ x ∷ []) ++ rest))) 10 ≡ false
ten_there i h l x n rest len = le-ltb _ _ (omega (arith, length-append (n ++ x ∷ []) rest, length-append n (x ∷ [])))

-- and the rest follows them
ten_gone : (i h l x : ℕ) (n rest : List ℕ) → length n ≡ 6 → drop 10 (i ∷ h ∷ l ∷ ((n ++ x ∷ []) ++ rest)) ≡ rest
ten_gone i h l x (a ∷ b ∷ c ∷ d ∷ y ∷ z ∷ []) rest len = refl
ten_gone i h l x n rest len = absurd (omega arith)

ten_is : (behind : List ℕ → ApduError → Type 0) (i h l x : ℕ) (n rest : List ℕ) (e : ApduError) → length n ≡ 6 → BytesFail 10 behind (i ∷ h ∷ l ∷ ((n ++ x ∷ []) ++ rest)) e ≡ behind rest e
ten_is behind i h l x n rest e len = rw (ten_there i h l x n rest len) (ap (λ (t : List ℕ). behind t e) (ten_gone i h l x n rest len))

-- what is wrong with a head and a rest is what is wrong with the rest
pub head_is : (behind : List ℕ → ApduError → Type 0) (i : ℕ) (d : Descriptor) (rest : List ℕ) (e : ApduError) → IsDescriptor d → HeadFails behind (head_bytes i d ++ rest) e ≡ behind rest e
head_is behind i d rest e fits = ten_is behind i (d.class / 256 % 256) (d.class % 256) (cast_unsigned w8 d.number) d.instance rest e fits.six_bytes

pub head_behind : (behind : List ℕ → ApduError → Type 0) (s : List ℕ) (head : Head) (rest : List ℕ) (e : ApduError) → HeadRead s head rest → behind rest e → HeadFails behind s e
head_behind behind s head rest e read k = rw (read.parts, head_is behind head.invoke.0 (descriptor_of head) rest e read.fits) k

pub IfFault-map : (e : ApduError) (P Q : Type 0) → (P → Q) → IfFault e P → IfFault e Q
IfFault-map Truncated P Q f h = f h
IfFault-map UnknownService P Q f h = f h
IfFault-map UnsupportedForm P Q f h = f h
IfFault-map (BadData fault) P Q f h = f h
IfFault-map Trailing P Q f h = f h
IfFault-map OutOfMemory P Q f h = tt

pub IfFault-all : (e : ApduError) (P : Type 0) → P → IfFault e P
IfFault-all Truncated P h = h
IfFault-all UnknownService P h = h
IfFault-all UnsupportedForm P h = h
IfFault-all (BadData fault) P h = h
IfFault-all Trailing P h = h
IfFault-all OutOfMemory P h = tt

pub if_head_behind : (behind : List ℕ → ApduError → Type 0) (s : List ℕ) (head : Head) (rest : List ℕ) (e : ApduError) → HeadRead s head rest → IfFault e (behind rest e) → IfFault e (HeadFails behind s e)
if_head_behind behind s head rest e read k = IfFault-map e _ _ (head_behind behind s head rest e read) k

-- a fault in the access selection is one of what begins with it
stops : (b : Bool) (P Q : Type 0) → MatchBool b ⊥ Q → MatchBool b P Q
stops true P Q h = absurd h
stops false P Q h = h

pub selection_stops : (behind : List ℕ → ApduError → Type 0) (s : List ℕ) (e : ApduError) → SelectionStops s e → SelectionFails behind s e
selection_stops behind [] e h = h
selection_stops behind (b ∷ s) e h = stops (b == 0) (behind s e) (e ≡ UnsupportedForm) h

-- ---- one head

pub record SameHead (i j : ℕ) (d e : Descriptor) (x y : List ℕ) : Type 0 where
  pub invokes : i ≡ j
  pub descriptors : d ≡ e
  pub rests : x ≡ y

same_fronts : (a b x y : List ℕ) (n : ℕ) → length a ≡ n → length b ≡ n → a ++ x ≡ b ++ y → (a ≡ b) × (x ≡ y)
same_fronts a b x y n la lb e =
    (sym (take_at a x n la) ∙ ap (take n) e ∙ take_at b y n lb, sym (drop_at a x n la) ∙ ap (drop n) e ∙ drop_at b y n lb)

same_signed : (a b : ℤ) → FitsSigned w8 a → FitsSigned w8 b → cast_unsigned w8 a ≡ cast_unsigned w8 b → a ≡ b
same_signed a b fa fb e = sym (to_z-of_z w8 a fa) ∙ ap (cast_signed w8) e ∙ to_z-of_z w8 b fb

-- two heads at the front of one byte string are one
pub same_head : (i j : ℕ) (d e : Descriptor) (x y : List ℕ) → IsDescriptor d → IsDescriptor e → head_bytes i d ++ x ≡ head_bytes j e ++ y → SameHead i j d e x y
same_head i j d e x y p q same =
    let high : d.class / 256 % 256 ≡ e.class / 256 % 256 = cc in
    let low : d.class % 256 ≡ e.class % 256 = cc in
    let rests : (d.instance ++ cast_unsigned w8 d.number ∷ []) ++ x ≡ (e.instance ++ cast_unsigned w8 e.number ∷ []) ++ y = cc in
    let dlen : length (d.instance ++ cast_unsigned w8 d.number ∷ []) ≡ 7 = omega (arith, p.six_bytes, length-append d.instance (cast_unsigned w8 d.number ∷ [])) in
    let elen : length (e.instance ++ cast_unsigned w8 e.number ∷ []) ≡ 7 = omega (arith, q.six_bytes, length-append e.instance (cast_unsigned w8 e.number ∷ [])) in
    let seven = same_fronts (d.instance ++ cast_unsigned w8 d.number ∷ []) (e.instance ++ cast_unsigned w8 e.number ∷ []) x y 7 dlen elen rests in
    let six = same_fronts d.instance e.instance (cast_unsigned w8 d.number ∷ []) (cast_unsigned w8 e.number ∷ []) 6 p.six_bytes q.six_bytes seven.0 in
    let number : d.number ≡ e.number = same_signed d.number e.number p.number_fits q.number_fits (cc six.1) in
    let class : d.class ≡ e.class = omega (arith, p.class_fits, q.class_fits) in
    record { invokes = cc; descriptors = λ k. record { class = class k; instance = six.0 k; number = number k }; rests = seven.1 }
