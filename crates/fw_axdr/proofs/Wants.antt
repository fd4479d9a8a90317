-- Where reading may take memory.
use Rattle.std.proofs.Common.{◌≡◌, ℕ, zero, suc, ◌-◌, ◌≤◌, ◌⊎◌, inl, inr, List, ◌∷◌, length, Some, Result, Ok, Err, refl, sym, ap, subst, arith}
use Rattle.std.specs.Prelude.{IfErr}
use Rattle.std.proofs.lemmas.List.{length-append}
use Rattle.std.proofs.lemmas.Result.{MatchResult-at_ok}
use Rattle.fw_axdr.specs.declared.reader.ReadError.{ReadError}
use Rattle.fw_axdr.specs.declared.reader.ReadError.TheVariants as read
use Rattle.fw_axdr.specs.Reading as reader
use Rattle.fw_axdr.specs.Cause.{fault_from}
use Rattle.fw_axdr.specs.declared.error.AxdrError.{AxdrError}
use Rattle.fw_axdr.specs.declared.error.AxdrError.TheVariants.{Truncated, UnknownTag, BadLength, TooDeep, OutOfMemory}
use Rattle.fw_axdr.specs.declared.tag.Tag.{Tag}
use Rattle.fw_axdr.specs.Private.{tag_at, code, seen, each_at, data_at}
use Rattle.fw_axdr.specs.Value.{Value, Values}
use Rattle.fw_axdr.specs.Spelling.{SomeBegins}
use Rattle.fw_axdr.specs.Fault.{LengthFails, BytesFail, IfMemory}
use Rattle.fw_axdr.specs.Memory.{CountedTakes, TaggedTakes, MayTakeMemory}
use Rattle.fw_axdr.proofs.Lengths.{LengthTaken, length_sound}
use Rattle.fw_axdr.proofs.Loop.{with_front, front_byte}
use Rattle.fw_axdr.proofs.Spellings.{BytesTaken, bytes_sound}
use Rattle.fw_axdr.proofs.Tags.{tag_code}
use Rattle.fw_axdr.proofs.Again.{found_is}

pub IfMemory-map : (e : AxdrError) (P Q : Type 0) → (P → Q) → IfMemory e P → IfMemory e Q
IfMemory-map OutOfMemory P Q f h = f h
IfMemory-map Truncated P Q f h = tt
IfMemory-map UnknownTag P Q f h = tt
IfMemory-map BadLength P Q f h = tt
IfMemory-map TooDeep P Q f h = tt

-- what a reader gives takes no memory
pub IfMemory-none : (e : ReadError) (Q : Type 0) → IfMemory (fault_from e) Q
IfMemory-none read.Truncated Q = tt
IfMemory-none read.BadLength Q = tt

-- what holds in any case
pub IfMemory-all : (e : AxdrError) (Q : Type 0) → Q → IfMemory e Q
IfMemory-all OutOfMemory Q h = h
IfMemory-all Truncated Q h = tt
IfMemory-all UnknownTag Q h = tt
IfMemory-all BadLength Q h = tt
IfMemory-all TooDeep Q h = tt

-- a length that was read, and what follows it
pub counted_takes : (Behind : ℕ → List ℕ → Type 0) (c : List ℕ) (n : ℕ) (mid : List ℕ) → reader.length_at c ≡ Ok (n, mid) → 1 ≤ n → Behind n mid → CountedTakes Behind c
counted_takes Behind c n mid e some behind =
    let t = MatchResult-at_ok (λ x. LengthTaken c x.0 x.1) (LengthFails c) (n, mid) (ap seen e) (length_sound c) in
    (t.len, mid, n, t.parts, t.is, some, behind)

-- bytes that were read are there
pub bytes_there : (n : ℕ) (s o rest : List ℕ) → reader.bytes_at n s ≡ Ok (o, rest) → n ≤ length s
bytes_there n s o rest e =
    let t = MatchResult-at_ok (λ x. BytesTaken n s x.0 x.1) (BytesFail n s) (o, rest) (ap seen e) (bytes_sound n s) in
    omega (arith, ap length t.parts, length-append o rest, t.len)

-- a Data that was read begins the bytes
pub begins : (levels : ℕ) (s : List ℕ) (v : Value) (rest : List ℕ) → data_at levels s ≡ Ok (v, rest) → SomeBegins levels s
begins levels s v rest e = let t = found_is levels s v rest e in (t.front, rest, v, t.parts, t.is)

-- ---- elements, one after another

-- what holds after `counter` of them
pub record ItemsRead (levels count counter : ℕ) (front : Values) (start now : List ℕ) : Type 0 where
  pub so_far : with_front front (each_at (λ s. data_at levels s) (count - counter) now) ≡ each_at (λ s. data_at levels s) count start
  pub starts : counter ≡ 0 → now ≡ start
  pub first : 1 ≤ counter → SomeBegins levels start

-- an element that was read: the first one is there
pub first_there : (levels count counter : ℕ) (front : Values) (start now : List ℕ) (v : Value) (rest : List ℕ) → ItemsRead levels count counter front start now → data_at levels now ≡ Ok (v, rest) → SomeBegins levels start
first_there levels count zero front start now v rest read e = subst (λ (s : List ℕ). SomeBegins levels s) (read.starts refl) (begins levels now v rest e)
first_there levels count (suc counter) front start now v rest read e = read.first (omega arith)

-- where memory is taken within an element
pub element_takes : (levels count counter : ℕ) (front : Values) (start now : List ℕ) → ItemsRead levels count counter front start now → MayTakeMemory levels now → MayTakeMemory levels start ⊎ SomeBegins levels start
element_takes levels count zero front start now read h = inl (subst (λ (s : List ℕ). MayTakeMemory levels s) (read.starts refl) h)
element_takes levels count (suc counter) front start now read h = inr (read.first (omega arith))

-- ---- the place of a Data

takes_behind : (levels t : ℕ) (c : List ℕ) → 1 ≤ levels → TaggedTakes (λ s. MayTakeMemory (levels - 1) s ⊎ SomeBegins (levels - 1) s) t c → MayTakeMemory levels (t ∷ c)
takes_behind zero t c deep h = absurd (omega arith)
takes_behind (suc n) t c deep h =
    let e : suc n - 1 ≡ n = omega arith in
    subst (λ (m : ℕ). TaggedTakes (λ s. MayTakeMemory m s ⊎ SomeBegins m s) t c) e h

takes_at : (levels t : ℕ) (k : Tag) (s c : List ℕ) → reader.number_at 1 s ≡ Ok (t, c) → 1 ≤ levels → tag_at t ≡ Some k
    → TaggedTakes (λ x. MayTakeMemory (levels - 1) x ⊎ SomeBegins (levels - 1) x) (code k) c → MayTakeMemory levels s
takes_at levels t k s c e deep tag h =
    let at : MayTakeMemory levels (t ∷ c) = takes_behind levels t c deep (subst (λ (x : ℕ). TaggedTakes (λ y. MayTakeMemory (levels - 1) y ⊎ SomeBegins (levels - 1) y) x c) (sym (tag_code t k tag)) h) in
    subst (λ (x : List ℕ). MayTakeMemory levels x) (sym (front_byte s t c e)) at

pub data_takes : {A : Type 0} (r : Result A AxdrError) (levels t : ℕ) (k : Tag) (s c : List ℕ) → reader.number_at 1 s ≡ Ok (t, c) → 1 ≤ levels → tag_at t ≡ Some k
    → IfErr r (λ e. IfMemory e (TaggedTakes (λ x. MayTakeMemory (levels - 1) x ⊎ SomeBegins (levels - 1) x) (code k) c)) → IfErr r (λ e. IfMemory e (MayTakeMemory levels s))
data_takes (Ok x) levels t k s c e deep tag h = tt
data_takes (Err f) levels t k s c e deep tag h = IfMemory-map f _ _ (takes_at levels t k s c e deep tag) h
