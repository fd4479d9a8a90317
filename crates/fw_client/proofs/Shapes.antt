-- The shape of image_to_activate_info.
use Rattle.std.proofs.Common.{◌≡◌, ◌≢◌, ℕ, ◌==◌, Bool, true, false, List, [], ◌∷◌, length, Some, None, if◌then◌else◌, refl, sym, ap, ◌∙◌, arith}
use Rattle.std.proofs.lemmas.Bool.Decides.{Decides-eqb}
use Rattle.std.specs.Option.{option_and_then}
use Rattle.fw_axdr.specs.Value.{Value, Values, structure, double_long_unsigned, octet_string, none, more}
use Rattle.fw_axdr.specs.declared.data.Data.{Data}
use Rattle.fw_axdr.specs.View.{values_of}
use Rattle.fw_names.specs.Name.{Name, SpellsName}
use Rattle.fw_client.specs.Matching.{TellsOf, element}
use Rattle.fw_client.specs.Private.{one_of, three_of, fields_in, octets_in, signed_by, signed_of, identification_of}

-- ---- lists of other lengths

pub not_one : (ds : List Data) → length ds ≢ 1 → one_of (values_of ds) ≡ None
not_one [] other = refl
not_one (a ∷ []) other = absurd (omega arith)
not_one (a ∷ (b ∷ ds)) other = refl

pub not_three : (ds : List Data) → length ds ≢ 3 → three_of (values_of ds) ≡ None
not_three [] other = refl
not_three (a ∷ []) other = refl
not_three (a ∷ (b ∷ [])) other = refl
not_three (a ∷ (b ∷ (c ∷ []))) other = absurd (omega arith)
not_three (a ∷ (b ∷ (c ∷ (d ∷ ds)))) other = refl

-- ---- what stands where an identification is found

one_is : (vs : Values) (a : Value) → one_of vs ≡ Some a → vs ≡ more a none
one_is none a e = absurd cc
one_is (more v none) a e = let same : v ≡ a = cc in ap (λ (x : Value). more x none) same
one_is (more v (more w vs)) a e = absurd cc

pub record Three (vs : Values) (i : List ℕ) : Type 0 where
  pub size : ℕ
  pub signature : List ℕ
  pub is : vs ≡ more (double_long_unsigned size) (more (octet_string i) (more (octet_string signature) none))
  pub long : length signature ≡ 32

signed_is : (b : Bool) (i j : List ℕ) → (if b then Some j else None) ≡ Some i → (b ≡ true) × (i ≡ j)
signed_is true i j e = (refl, cc)
signed_is false i j e = absurd cc

signature_is : (n : ℕ) (j : List ℕ) (c : Value) (i : List ℕ) → option_and_then (λ signature. signed_by j signature) (octets_in c) ≡ Some i
    → Three (more (double_long_unsigned n) (more (octet_string j) (more c none))) i
signature_is n j (octet_string s) i e =
    let is = signed_is (length s == 32) i j e in
    record {
      size = n;
      signature = s;
      is = ap (λ (x : List ℕ). more (double_long_unsigned n) (more (octet_string x) (more (octet_string s) none))) (sym is.1);
      long = (Decides-eqb (length s) 32).0 is.0;
    }
signature_is n j c i e = absurd cc

identification_is : (n : ℕ) (b c : Value) (i : List ℕ)
    → option_and_then (λ identification. option_and_then (λ signature. signed_by identification signature) (octets_in c)) (octets_in b) ≡ Some i
    → Three (more (double_long_unsigned n) (more b (more c none))) i
identification_is n (octet_string j) c i e = signature_is n j c i e
identification_is n b c i e = absurd cc

size_is : (a b c : Value) (i : List ℕ) → signed_of (more a (more b (more c none))) ≡ Some i → Three (more a (more b (more c none))) i
size_is (double_long_unsigned n) b c i e = identification_is n b c i e
size_is a b c i e = absurd cc

three_are : (vs : Values) (i : List ℕ) → signed_of vs ≡ Some i → Three vs i
three_are none i e = absurd cc
three_are (more a none) i e = absurd cc
three_are (more a (more b none)) i e = absurd cc
three_are (more a (more b (more c none))) i e = size_is a b c i e
three_are (more a (more b (more c (more d vs)))) i e = absurd cc

structure_is : (v : Value) (i : List ℕ) → option_and_then (λ fields. signed_of fields) (fields_in v) ≡ Some i → (vs : Values) × (v ≡ structure vs) × Three vs i
structure_is (structure vs) i e = (vs, refl, three_are vs i e)
structure_is v i e = absurd cc

-- an element that has an identification is the element of an image
identified : (vs : Values) (i : List ℕ) → identification_of vs ≡ Some i → (size : ℕ) × (signature : List ℕ) × (vs ≡ more (element size i signature) none) × (length signature ≡ 32)
identified none i e = absurd cc
identified (more v none) i e =
    let is = structure_is v i e in
    (is.2.size, is.2.signature, ap (λ (x : Value). more x none) (is.1 ∙ ap structure is.2.is), is.2.long)
identified (more v (more w vs)) i e = absurd cc

pub tells : (vs : Values) (i : List ℕ) (name : Name) → identification_of vs ≡ Some i → SpellsName i name → TellsOf vs name
tells vs i name e spells =
    let is = identified vs i e in
    record { size = is.0; identification = i; signature = is.1; one = is.2; spells = spells; long = is.3 }

signed_long : (i : List ℕ) (n : ℕ) → n ≡ 32 → (if n == 32 then Some i else None) ≡ Some i
signed_long i n e = ap (λ (x : ℕ). if x == 32 then Some i else None) e

pub told : (vs : Values) (name : Name) → (h : TellsOf vs name) → identification_of vs ≡ Some h.identification
told vs name h = ap identification_of h.one ∙ signed_long h.identification (length h.signature) h.long
