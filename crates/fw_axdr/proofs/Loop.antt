-- Reading one value after another, as a loop does, and the byte at the place of a value.
use Rattle.std.proofs.Common.{◌≡◌, ℕ, zero, suc, ◌-◌, ◌+◌, ◌≤◌, ◌<◌, List, [], ◌∷◌, ◌++◌, Option, Result, Ok, Err, refl, sym, ap, subst, ◌∙◌, arith}
use Rattle.fw_axdr.specs.declared.reader.ReadError.{ReadError}
use Rattle.fw_axdr.specs.declared.reader.ReadError.TheVariants as read
use Rattle.fw_axdr.specs.Reading.{◌>>=◌}
use Rattle.fw_axdr.specs.Reading as reader
use Rattle.fw_axdr.specs.Cause.{fault_from}
use Rattle.fw_axdr.specs.declared.error.AxdrError.{AxdrError}
use Rattle.fw_axdr.specs.declared.error.AxdrError.TheVariants.{Truncated, UnknownTag, BadLength, TooDeep, OutOfMemory}
use Rattle.fw_axdr.specs.declared.tag.Tag.{Tag}
use Rattle.fw_axdr.specs.declared.data.Data.{Data}
use Rattle.fw_axdr.specs.Private.{tag_at, Errs, seen, join, each_at, tagged_at, data_at}
use Rattle.fw_axdr.specs.Value.{Value, Values, none, more}
use Rattle.fw_axdr.specs.View.{value_of, values_of}
use Rattle.fw_axdr.proofs.Lengths.{one_byte}

-- what was read before, and what is still read
abbrev pub with_front : Values → Result (Values × List ℕ) AxdrError → Result (Values × List ℕ) AxdrError
with_front front read = read >>= λ x. Ok (join front x.0, x.1)

pub join-none : (vs : Values) → join vs none ≡ vs
join-none none = refl
join-none (more v vs) = ap (more v) (join-none vs)

join-join : (us vs ws : Values) → join (join us vs) ws ≡ join us (join vs ws)
join-join none vs ws = refl
join-join (more u us) vs ws = ap (more u) (join-join us vs ws)

values_of-push : (ds : List Data) (d : Data) → values_of (ds ++ d ∷ []) ≡ join (values_of ds) (more (value_of d) none)
values_of-push [] d = refl
values_of-push (e ∷ ds) d = ap (more (value_of e)) (values_of-push ds d)

pub values_of-pushed : (ds new : List Data) (d : Data) → new ≡ ds ++ d ∷ [] → values_of new ≡ join (values_of ds) (more (value_of d) none)
values_of-pushed ds new d e = ap values_of e ∙ values_of-push ds d

regroup : (front : Values) (v : Value) (read : Result (Values × List ℕ) AxdrError) → with_front front (read >>= λ x. Ok (more v x.0, x.1)) ≡ with_front (join front (more v none)) read
regroup front v (Ok x) = ap (λ (vs : Values). Ok (vs, x.1)) (sym (join-join front (more v none) x.0))
regroup front v (Err f) = refl

pub goes_on : (one : List ℕ → Result (Value × List ℕ) AxdrError) (front : Values) (count i : ℕ) (bytes : List ℕ) (v : Value) (after : List ℕ) (total : Result (Values × List ℕ) AxdrError) → i < count
    → one bytes ≡ Ok (v, after) → with_front front (each_at one (count - i) bytes) ≡ total → with_front (join front (more v none)) (each_at one (count - (i + 1)) after) ≡ total
unfolding each_at
goes_on one front count i bytes v after total lt h so_far =
    let k : count - i ≡ suc (count - (i + 1)) = omega arith in
    let first : with_front front (each_at one (count - i) bytes) ≡ with_front (join front (more v none)) (each_at one (count - (i + 1)) after) = rw (k, h) (regroup front v (each_at one (count - (i + 1)) after)) in
    sym first ∙ so_far

err_ends : (one : List ℕ → Result (Value × List ℕ) AxdrError) (e : AxdrError) (front : Values) (count i : ℕ) (bytes : List ℕ) (total : Result (Values × List ℕ) AxdrError) → i < count
    → one bytes ≡ Err e → with_front front (each_at one (count - i) bytes) ≡ total → total ≡ Err e
unfolding each_at
err_ends one e front count i bytes total lt h so_far =
    let k : count - i ≡ suc (count - (i + 1)) = omega arith in
    let first : with_front front (each_at one (count - i) bytes) ≡ Err e = rw (k, h) refl in
    sym so_far ∙ first

pub ends : (one : List ℕ → Result (Value × List ℕ) AxdrError) (e : AxdrError) (front : Values) (count i : ℕ) (bytes : List ℕ) (total : Result (Values × List ℕ) AxdrError) → i < count
    → Errs e (one bytes) → with_front front (each_at one (count - i) bytes) ≡ total → Errs e total
ends one OutOfMemory front count i bytes total lt h so_far = tt
ends one Truncated front count i bytes total lt h so_far = err_ends one Truncated front count i bytes total lt h so_far
ends one UnknownTag front count i bytes total lt h so_far = err_ends one UnknownTag front count i bytes total lt h so_far
ends one BadLength front count i bytes total lt h so_far = err_ends one BadLength front count i bytes total lt h so_far
ends one TooDeep front count i bytes total lt h so_far = err_ends one TooDeep front count i bytes total lt h so_far

pub is_done : (one : List ℕ → Result (Value × List ℕ) AxdrError) (front : Values) (count i : ℕ) (bytes : List ℕ) (total : Result (Values × List ℕ) AxdrError) → count ≤ i
    → with_front front (each_at one (count - i) bytes) ≡ total → total ≡ Ok (front, bytes)
unfolding each_at
is_done one front count i bytes total le so_far =
    let k : count - i ≡ 0 = omega arith in
    let last : with_front front (each_at one (count - i) bytes) ≡ Ok (front, bytes) = rw k (ap (λ (vs : Values). Ok (vs, bytes)) (join-none front)) in
    sym so_far ∙ last

-- ---- the place of a Data

abbrev done : {A : Type 0} → A → Result A AxdrError
done x = Ok x

abbrev first_is : {A B : Type 0} → Result (A × B) AxdrError → A → Type 0
first_is (Ok x) y = x.0 ≡ y
first_is (Err e) y = ⊥

abbrev second_is : {A B : Type 0} → Result (A × B) AxdrError → B → Type 0
second_is (Ok x) y = x.1 ≡ y
second_is (Err e) y = ⊥

pub ok_pair : {A B : Type 0} (a c : A) (b d : B) → done {A = A × B} (a, b) ≡ done {A = A × B} (c, d) → (a ≡ c) × (b ≡ d)
ok_pair a c b d e = (subst (λ r. first_is r c) (sym e) refl, subst (λ r. second_is r d) (sym e) refl)

pub data_at_tagged : (levels t : ℕ) (c : List ℕ) → 1 ≤ levels → data_at levels (t ∷ c) ≡ tagged_at (λ s. data_at (levels - 1) s) (tag_at t) c
unfolding data_at
data_at_tagged zero t c deep = absurd (omega arith)
data_at_tagged (suc n) t c deep =
    let e : suc n - 1 ≡ n = omega arith in
    rw e refl

-- if a byte was read, or none was there
pub front_byte : (s : List ℕ) (t : ℕ) (c : List ℕ) → reader.number_at 1 s ≡ Ok (t, c) → s ≡ t ∷ c
unfolding reader.number_at
front_byte [] t c h = absurd cc
front_byte (b ∷ bs) t c h =
    let both = ok_pair b t bs c (ap seen (sym (one_byte b bs) ∙ h)) in
    cc

data_at_none : (levels : ℕ) → data_at levels [] ≡ Err Truncated
unfolding data_at
data_at_none zero = refl
data_at_none (suc levels) = refl

no_byte : (s : List ℕ) (e : ReadError) (levels : ℕ) → reader.number_at 1 s ≡ Err e → data_at levels s ≡ Err (fault_from e)
unfolding reader.number_at
no_byte [] read.Truncated levels h = data_at_none levels
no_byte [] read.BadLength levels h = absurd cc
no_byte (b ∷ bs) e levels h = absurd (let one = sym (one_byte b bs) ∙ h in cc)

pub no_byte_if : (s : List ℕ) (e : ReadError) (levels : ℕ) → reader.number_at 1 s ≡ Err e → Errs (fault_from e) (data_at levels s)
no_byte_if s read.Truncated levels h = no_byte s read.Truncated levels h
no_byte_if s read.BadLength levels h = no_byte s read.BadLength levels h

pub too_deep : (s : List ℕ) (t : ℕ) (c : List ℕ) → reader.number_at 1 s ≡ Ok (t, c) → data_at 0 s ≡ Err TooDeep
unfolding data_at
too_deep s t c h = ap (λ (x : List ℕ). data_at 0 x) (front_byte s t c h)

pub data_at_tag : (levels : ℕ) (s : List ℕ) (t : ℕ) (c : List ℕ) (o : Option Tag) → reader.number_at 1 s ≡ Ok (t, c) → 1 ≤ levels → tag_at t ≡ o
    → data_at levels s ≡ tagged_at (λ b. data_at (levels - 1) b) o c
data_at_tag levels s t c o h deep e = ap (λ (x : List ℕ). data_at levels x) (front_byte s t c h) ∙ data_at_tagged levels t c deep ∙ rw e refl
