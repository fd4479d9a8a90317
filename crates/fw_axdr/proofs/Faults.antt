-- A byte string with a fault is refused with it.
use Rattle.std.proofs.Common.{◌≡◌, ℕ, zero, suc, ◌+◌, ◌-◌, ◌<◌, ◌≤◌, inl, inr, true, false, eqb, ltb, ◌||◌, List, [], ◌∷◌, ◌++◌, length, Result, Ok, Err, Option, Some, None, refl, sym, ap, ◌∙◌, append_assoc, arith}
use Rattle.std.specs.Prelude.{MatchOption}
use Rattle.std.proofs.lemmas.Bool.{lt-ltb, le-ltb, eq-eqb, ne_eqb, or_left, or_right, or_from}
use Rattle.fw_axdr.specs.Reading.{◌>>=◌}
use Rattle.fw_axdr.specs.Reading as reader
use Rattle.fw_axdr.specs.declared.error.AxdrError.{AxdrError}
use Rattle.fw_axdr.specs.declared.error.AxdrError.TheVariants.{UnknownTag}
use Rattle.fw_axdr.specs.declared.tag.Tag.{Tag}
use Rattle.fw_axdr.specs.declared.tag.Tag.TheVariants as tag
use Rattle.fw_axdr.specs.Private.{tag_at, length_at, bytes_at, number_at, octets_at, bits_at, each_at, items_at, contents_at, tagged_at, data_at}
use Rattle.fw_axdr.specs.Bits.{bytes_for}
use Rattle.fw_axdr.specs.Value.{Values, none, more, deepest, count}
use Rattle.fw_axdr.specs.Spelling.{SpellEach, NoneBegins}
use Rattle.fw_axdr.specs.Fault.{tags, contents_in, LengthFails, BytesFail, CountedFails, EachFails, ContentsFail, Fails}
use Rattle.fw_axdr.proofs.Lengths.{length_by, length_at_front, length_again}
use Rattle.fw_axdr.proofs.Tags.{shape, contents_in-code, tag_code, tag_none}
use Rattle.fw_axdr.proofs.Again.{data_again, none_begins}

length_by_refused : (b : ℕ) (rest : List ℕ) (f : AxdrError) → LengthFails (b ∷ rest) f → length_by b rest ≡ Err f
unfolding reader.number_at
length_by_refused b rest f (inl h) =
    let bad : (eqb b 128 || ltb 132 b) ≡ true = elim h.0 as (λ _. (eqb b 128 || ltb 132 b) ≡ true) [ inl e ↦ or_left _ _ (eq-eqb b 128 e) | inr lt ↦ or_right _ _ (lt-ltb 132 b lt) ] in
    let high : 128 ≤ b = elim h.0 as (λ _. 128 ≤ b) [ inl e ↦ omega arith | inr lt ↦ omega arith ] in
    let long : ltb b 128 ≡ false = le-ltb b 128 high in
    rw (long, bad) (ap Err (sym h.1))
length_by_refused b rest f (inr h) =
    let k : ℕ = h.0 in
    let b-is : b ≡ 128 + k = h.1 in
    let some : 1 ≤ k = h.2 in
    let few : k ≤ 4 = h.3 in
    let lacks : length rest < k = h.4 in
    let long : ltb b 128 ≡ false = le-ltb b 128 (omega arith) in
    let good : (eqb b 128 || ltb 132 b) ≡ false = or_from _ _ (ne_eqb b 128 (λ e. omega arith)) (le-ltb 132 b (omega arith)) in
    let short : ltb (length rest) (b - 128) ≡ true = lt-ltb _ _ (omega arith) in
    rw (long, good, short) (ap Err (sym h.5))

length_refused : (s : List ℕ) (f : AxdrError) → LengthFails s f → length_at s ≡ Err f
unfolding reader.length_at reader.number_at
length_refused [] f h = ap Err (sym h)
length_refused (b ∷ rest) f h = length_at_front b rest ∙ length_by_refused b rest f h

number_refused : (size : ℕ) (c : List ℕ) (f : AxdrError) → BytesFail size c f → number_at size c ≡ Err f
unfolding reader.number_at
number_refused size c f h = rw (lt-ltb (length c) size h.0) (ap Err (sym h.1))

bytes_refused : (size : ℕ) (c : List ℕ) (f : AxdrError) → BytesFail size c f → bytes_at size c ≡ Err f
unfolding reader.bytes_at
bytes_refused size c f h = rw (lt-ltb (length c) size h.0) (ap Err (sym h.1))

-- a step that fails, also after one that doesn't
stops : {A B : Type 0} (r : Result A AxdrError) (g : A → Result B AxdrError) (f : AxdrError) → r ≡ Err f → (r >>= g) ≡ Err f
stops r g f h = rw h refl

stops_behind : {A B : Type 0} (r : Result A AxdrError) (g : A → Result B AxdrError) (x : A) (f : AxdrError) → r ≡ Ok x → g x ≡ Err f → (r >>= g) ≡ Err f
stops_behind r g x f h e = rw h e

counted_refused : {B : Type 0} (Behind : ℕ → List ℕ → AxdrError → Type 0) (g : ℕ × List ℕ → Result B AxdrError) (c : List ℕ) (f : AxdrError)
    → ((n : ℕ) (rest : List ℕ) → Behind n rest f → g (n, rest) ≡ Err f) → CountedFails Behind c f → (length_at c >>= g) ≡ Err f
counted_refused Behind g c f each (inl h) = stops (length_at c) g f (length_refused c f h)
counted_refused Behind g c f each (inr h) =
    stops_behind (length_at c) g (h.2, h.1) f (ap length_at h.3 ∙ length_again h.0 h.1 h.2 h.4) (each h.2 h.1 h.5)

octets_refused : (c : List ℕ) (f : AxdrError) → CountedFails BytesFail c f → octets_at c ≡ Err f
unfolding octets_at
octets_refused c f h = counted_refused BytesFail (λ n. bytes_at n.0 n.1) c f (λ n rest q. bytes_refused n rest f q) h

bits_refused : (c : List ℕ) (f : AxdrError) → CountedFails (λ n. BytesFail (bytes_for n)) c f → bits_at c ≡ Err f
unfolding bits_at
bits_refused c f h = counted_refused (λ n. BytesFail (bytes_for n)) _ c f (λ n rest q. stops (bytes_at (bytes_for n) rest) _ f (bytes_refused (bytes_for n) rest f q)) h

abbrev Refused : ℕ → Type 0
Refused levels = (s : List ℕ) (f : AxdrError) → Fails levels s f → data_at levels s ≡ Err f

each_refused : (levels : ℕ) → Refused levels → (vs : Values) (n : ℕ) (front rest : List ℕ) (f : AxdrError) → SpellEach front vs → deepest vs ≤ levels → count vs < n → Fails levels rest f
    → each_at (λ b. data_at levels b) n (front ++ rest) ≡ Err f
unfolding each_at
each_refused levels one vs zero front rest f spells deep lt h = absurd (omega arith)
each_refused levels one none (suc n) front rest f spells deep lt h =
    ap (λ (x : List ℕ). each_at (λ b. data_at levels b) (suc n) (x ++ rest)) spells ∙ stops (data_at levels rest) _ f (one rest f h)
each_refused levels one (more v vs) (suc n) front rest f spells deep lt h =
    let regrouped : front ++ rest ≡ spells.0 ++ (spells.1 ++ rest) = ap (λ (x : List ℕ). x ++ rest) spells.2 ∙ append_assoc spells.0 spells.1 rest in
    let first = data_again v levels spells.0 (spells.1 ++ rest) spells.3 (omega arith) in
    let others = each_refused levels one vs n spells.1 rest f spells.4 (omega arith) (omega arith) h in
    ap (λ (x : List ℕ). each_at (λ b. data_at levels b) (suc n) x) regrouped ∙ stops_behind (data_at levels (spells.0 ++ (spells.1 ++ rest))) _ (v, spells.1 ++ rest) f first (stops (each_at (λ b. data_at levels b) n (spells.1 ++ rest)) _ f others)

items_refused : (levels : ℕ) → Refused levels → (c : List ℕ) (f : AxdrError) → CountedFails (EachFails levels (λ s g. Fails levels s g)) c f → items_at (λ b. data_at levels b) c ≡ Err f
unfolding items_at
items_refused levels one c f h =
    counted_refused (EachFails levels (λ s g. Fails levels s g)) _ c f
    (λ n rest q. ap (λ (x : List ℕ). each_at (λ b. data_at levels b) n x) q.3 ∙ each_refused levels one q.2 n q.0 q.1 f q.4 q.5 q.6 q.7) h

contents_refused : (levels : ℕ) → Refused levels → (k : Tag) (c : List ℕ) (f : AxdrError) → ContentsFail levels (λ s g. Fails levels s g) (shape k) c f → contents_at (λ b. data_at levels b) k c ≡ Err f
unfolding contents_at
contents_refused levels one tag.Null c f h = absurd (omega (arith, h.0))
contents_refused levels one tag.Array c f h = stops (items_at (λ b. data_at levels b) c) _ f (items_refused levels one c f h)
contents_refused levels one tag.Structure c f h = stops (items_at (λ b. data_at levels b) c) _ f (items_refused levels one c f h)
contents_refused levels one tag.Boolean c f h = stops (number_at 1 c) _ f (number_refused 1 c f h)
contents_refused levels one tag.BitString c f h = stops (bits_at c) _ f (bits_refused c f h)
contents_refused levels one tag.DoubleLong c f h = stops (number_at 4 c) _ f (number_refused 4 c f h)
contents_refused levels one tag.DoubleLongUnsigned c f h = stops (number_at 4 c) _ f (number_refused 4 c f h)
contents_refused levels one tag.OctetString c f h = stops (octets_at c) _ f (octets_refused c f h)
contents_refused levels one tag.VisibleString c f h = stops (octets_at c) _ f (octets_refused c f h)
contents_refused levels one tag.Integer c f h = stops (number_at 1 c) _ f (number_refused 1 c f h)
contents_refused levels one tag.Long c f h = stops (number_at 2 c) _ f (number_refused 2 c f h)
contents_refused levels one tag.Unsigned c f h = stops (number_at 1 c) _ f (number_refused 1 c f h)
contents_refused levels one tag.LongUnsigned c f h = stops (number_at 2 c) _ f (number_refused 2 c f h)
contents_refused levels one tag.Long64 c f h = stops (number_at 8 c) _ f (number_refused 8 c f h)
contents_refused levels one tag.Long64Unsigned c f h = stops (number_at 8 c) _ f (number_refused 8 c f h)
contents_refused levels one tag.Enumerated c f h = stops (number_at 1 c) _ f (number_refused 1 c f h)

tagged_refused : (levels : ℕ) → Refused levels → (t : ℕ) (o : Option Tag) (c : List ℕ) (f : AxdrError) → tag_at t ≡ o
    → MatchOption (contents_in tags t) (f ≡ UnknownTag) (λ k. ContentsFail levels (λ s g. Fails levels s g) k c f) → tagged_at (λ b. data_at levels b) o c ≡ Err f
tagged_refused levels one t None c f e h = ap Err (sym (rw (tag_none t e) at h))
tagged_refused levels one t (Some k) c f e h = contents_refused levels one k c f (rw (tag_code t k e, contents_in-code k) at h)

pub refused : (levels : ℕ) → Refused levels
unfolding data_at
refused zero [] f h = ap Err (sym h)
refused zero (t ∷ c) f h = ap Err (sym h)
refused (suc levels) [] f h = ap Err (sym h)
refused (suc levels) (t ∷ c) f h = tagged_refused levels (refused levels) t (tag_at t) c f refl h

pub one_fault : (levels : ℕ) (s : List ℕ) (f g : AxdrError) → Fails levels s f → NoneBegins levels s × (Fails levels s g → f ≡ g)
one_fault levels s f g h =
    let e = refused levels s f h in
    (none_begins levels s f e, λ q. let r = refused levels s g q in cc)
