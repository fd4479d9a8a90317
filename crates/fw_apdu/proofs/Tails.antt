-- Places that requests and responses have in common: bytes, and what ends them.
use Rattle.std.proofs.Common.{◌≡◌, ℕ, ◌-◌, ◌≤◌, Bool, true, false, ltb, get_or, List, [], ◌∷◌, ◌++◌, length, take, drop, inl, inr, refl, sym, ap, subst, ◌∙◌, arith}
use Rattle.std.specs.Prelude.{MatchBool, nat_lt, ◌==◌}
use Rattle.std.proofs.lemmas.Bool.{le-ltb, eq-eqb}
use Rattle.std.proofs.lemmas.List.{length-append, append-nil, take-append-drop}
use Rattle.std.proofs.Math.Seq.{take-length}
use Rattle.fw_axdr.specs.Value.{Value}
use Rattle.fw_axdr.specs.Spelling.{IsData, max_depth}
use Rattle.fw_axdr.specs.Laws as axdr
use Rattle.fw_apdu.specs.declared.error.ApduError.{ApduError}
use Rattle.fw_apdu.specs.declared.error.ApduError.TheVariants.{Truncated, BadData}
use Rattle.fw_apdu.specs.Fault.{EndFails, DataFails, ByteFails, BytesFail, ResultFails, IfFault}

-- ---- what follows a Data

-- bytes after a Data
pub trails : (s rest : List ℕ) (n : ℕ) (v : Value) (e : ApduError) → IsData max_depth (take n s) v → rest ≡ drop n s → EndFails rest e → DataFails s e
trails s [] n v e is behind h = absurd h
trails s (b ∷ t) n v e is behind h = inr (v, take n s, b, t, is, sym (take-append-drop n s) ∙ ap (λ (x : List ℕ). take n s ++ x) (sym behind), h)

-- the whole is no Data where it fails
pub no_data : axdr.OneSpelling → axdr.OneFault → (s : List ℕ) (e : ApduError) (v : Value) → DataFails s e → IsData max_depth s v → ⊥
no_data one faults s e v (inl h) is = (faults max_depth s h.0 h.0 h.1).0 s [] v (sym (append-nil s)) is
no_data one faults s e v (inr h) is =
    let whole : h.1 ++ (h.2 ∷ h.3) ≡ s ++ [] = sym h.5 ∙ sym (append-nil s) in
    let same = one max_depth h.1 s (h.2 ∷ h.3) [] h.0 v whole h.4 is in
    absurd (omega (arith, ap length h.5, ap length same.0, length-append h.1 (h.2 ∷ h.3)))

pub one_data_fault : axdr.OneFault → (s : List ℕ) (e f : ApduError) → DataFails s e → DataFails s f → e ≡ f
one_data_fault faults s e f (inl h) (inl k) = h.2 ∙ ap BadData ((faults max_depth s h.0 k.0 h.1).1 k.1) ∙ sym k.2
one_data_fault faults s e f (inl h) (inr k) = absurd ((faults max_depth s h.0 h.0 h.1).0 k.1 (k.2 ∷ k.3) k.0 k.5 k.4)
one_data_fault faults s e f (inr h) (inl k) = absurd ((faults max_depth s k.0 k.0 k.1).0 h.1 (h.2 ∷ h.3) h.0 h.5 h.4)
one_data_fault faults s e f (inr h) (inr k) = h.6 ∙ sym k.6

-- a value after 00
pub value_fails : (s : List ℕ) (e : ApduError) → 1 ≤ length s → get_or s 0 0 ≡ 0 → IfFault e (DataFails (take (length s - 1) (drop 1 s)) e) → IfFault e (ResultFails s e)
value_fails [] e some is h = absurd (omega arith)
value_fails (b ∷ s) e some is h =
    let at : (b == 0x00) ≡ true = eq-eqb b 0x00 is in
    let size : length (b ∷ s) - 1 ≡ length s = omega arith in
    let whole : take (length (b ∷ s) - 1) s ≡ s = rw size (take-length s) in
    rw at (subst (λ (x : List ℕ). IfFault e (DataFails x e)) whole h)

-- ---- one fault

pub one_byte_fault : (test : ℕ → Bool) (other : ApduError) (behind : List ℕ → ApduError → Type 0) (s : List ℕ) (e f : ApduError) → ((t : List ℕ) → behind t e → behind t f → e ≡ f)
    → ByteFails test other behind s e → ByteFails test other behind s f → e ≡ f
one_byte_fault test other behind [] e f one h k = h ∙ sym k
one_byte_fault test other behind (b ∷ s) e f one h k = by_test (test b) h k
  where
    by_test : (passes : Bool) → MatchBool passes (behind s e) (e ≡ other) → MatchBool passes (behind s f) (f ≡ other) → e ≡ f
    by_test true x y = one s x y
    by_test false x y = x ∙ sym y

pub one_bytes_fault : (n : ℕ) (behind : List ℕ → ApduError → Type 0) (s : List ℕ) (e f : ApduError) → ((t : List ℕ) → behind t e → behind t f → e ≡ f)
    → BytesFail n behind s e → BytesFail n behind s f → e ≡ f
one_bytes_fault n behind s e f one h k = by_test (nat_lt (length s) n) h k
  where
    by_test : (lacks : Bool) → MatchBool lacks (e ≡ Truncated) (behind (drop n s) e) → MatchBool lacks (f ≡ Truncated) (behind (drop n s) f) → e ≡ f
    by_test true x y = x ∙ sym y
    by_test false x y = one (drop n s) x y

pub one_end_fault : (s : List ℕ) (e f : ApduError) → EndFails s e → EndFails s f → e ≡ f
one_end_fault [] e f h k = absurd h
one_end_fault (b ∷ s) e f h k = h ∙ sym k

-- after one byte that is there, what must follow it
pub byte_is : (behind : List ℕ → ApduError → Type 0) (b : ℕ) (s : List ℕ) (e : ApduError) → BytesFail 1 behind (b ∷ s) e ≡ behind s e
byte_is behind b s e =
    let room : ltb (length (b ∷ s)) 1 ≡ false = le-ltb _ _ (omega arith) in
    rw room refl

-- ---- one value, one byte

-- two Data that a byte string is are one value
pub one_value : axdr.OneSpelling → (s t : List ℕ) (v w : Value) → s ≡ t → IsData max_depth s v → IsData max_depth t w → v ≡ w
one_value one s t v w e p q = (one max_depth s t [] [] v w (ap (λ (x : List ℕ). x ++ []) e) p q).1

-- the first byte is one
pub first : (s x y : List ℕ) (a b : ℕ) → s ≡ a ∷ x → s ≡ b ∷ y → a ≡ b
first s x y a b p q = cc
