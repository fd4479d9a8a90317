-- What is spelled is read, and what follows from it.
use Rattle.std.proofs.Common.{◌≡◌, ℕ, suc, ◌-◌, ◌≤◌, Bool, List, [], ◌∷◌, ◌++◌, length, take, Result, Ok, Err, refl, sym, ap, subst, ◌∙◌, append_assoc, arith}
use Rattle.std.specs.Prelude.{ℤ}
use Rattle.std.proofs.lemmas.List.{take_at, length-append, append_cancel_right}
use Rattle.std.proofs.lemmas.Result.{MatchResult-at_ok, MatchResult-at_err}
use Rattle.fw_axdr.specs.declared.error.AxdrError.{AxdrError}
use Rattle.fw_axdr.specs.declared.error.AxdrError.TheVariants.{Truncated, UnknownTag, BadLength, TooDeep, OutOfMemory}
use Rattle.fw_axdr.specs.Private.{tag_at, Errs, each_at, items_at, contents_at, tagged_at, data_at}
use Rattle.fw_axdr.specs.Value.{Value, Values, null, array, structure, boolean, bit_string, double_long, double_long_unsigned, octet_string, visible_string, integer, long, unsigned, long_unsigned, long64, long64_unsigned, enumerated, none, more, count, depth, deepest}
use Rattle.fw_axdr.specs.Spelling.{IsLength, Spells, SpellEach, IsData, NoneBegins}
use Rattle.fw_axdr.specs.Fault.{Fails, IfFault}
use Rattle.fw_axdr.proofs.Lengths.{length_again}
use Rattle.fw_axdr.proofs.Spellings.{number_again, octets_again, bits_again, Taken, data_sound}
use Rattle.fw_axdr.proofs.Loop.{ok_pair, data_at_tagged}

-- a Data, opened at its tag
opened : (levels t : ℕ) (s c rest : List ℕ) (r : Result (Value × List ℕ) AxdrError) → s ≡ t ∷ c → 1 ≤ levels → tagged_at (λ b. data_at (levels - 1) b) (tag_at t) (c ++ rest) ≡ r → data_at levels (s ++ rest) ≡ r
opened levels t s c rest r e deep h = ap (λ (x : List ℕ). data_at levels (x ++ rest)) e ∙ data_at_tagged levels t (c ++ rest) deep ∙ h

items_again : (one : List ℕ → Result (Value × List ℕ) AxdrError) (len body rest : List ℕ) (vs : Values) → IsLength len (count vs) → each_at one (count vs) (body ++ rest) ≡ Ok (vs, rest) → items_at one ((len ++ body) ++ rest) ≡ Ok (vs, rest)
unfolding items_at
items_again one len body rest vs h each = rw (append_assoc len body rest, length_again len (body ++ rest) (count vs) h, each) refl

mutual
  unfolding contents_at each_at

  pub data_again : (v : Value) (levels : ℕ) (s rest : List ℕ) → Spells s v → depth v ≤ levels → data_at levels (s ++ rest) ≡ Ok (v, rest)
  data_again null levels s rest h d = opened levels 0 s [] rest (Ok (null, rest)) h d refl
  data_again (array vs) levels s rest h d =
      let deep : 1 ≤ levels = omega arith in
      let less : deepest vs ≤ levels - 1 = omega arith in
      let each = items_again (λ b. data_at (levels - 1) b) h.0 h.1 rest vs h.3 (each_again vs (levels - 1) h.1 rest h.4 less) in
      opened levels 1 s (h.0 ++ h.1) rest (Ok (array vs, rest)) h.2 deep (rw each refl)
  data_again (structure vs) levels s rest h d =
      let deep : 1 ≤ levels = omega arith in
      let less : deepest vs ≤ levels - 1 = omega arith in
      let each = items_again (λ b. data_at (levels - 1) b) h.0 h.1 rest vs h.3 (each_again vs (levels - 1) h.1 rest h.4 less) in
      opened levels 2 s (h.0 ++ h.1) rest (Ok (structure vs, rest)) h.2 deep (rw each refl)
  data_again (boolean b) levels s rest h d = opened levels 3 s h.1.0 rest (Ok (boolean b, rest)) h.1.1 d (rw (number_again h.1.0 rest 1 h.0 h.1.2 h.1.3) (ap (λ (z : Bool). Ok (boolean z, rest)) (sym h.2)))
  data_again (bit_string bs) levels s rest h d = opened levels 4 s (h.0 ++ h.1) rest (Ok (bit_string bs, rest)) h.2 d (rw (bits_again h.0 h.1 rest bs h.3 h.4 h.5) refl)
  data_again (double_long x) levels s rest h d = opened levels 5 s h.1.0 rest (Ok (double_long x, rest)) h.1.1 d (rw (number_again h.1.0 rest 4 h.0 h.1.2 h.1.3) (ap (λ (z : ℤ). Ok (double_long z, rest)) (sym h.2)))
  data_again (double_long_unsigned x) levels s rest h d = opened levels 6 s h.0 rest (Ok (double_long_unsigned x, rest)) h.1 d (rw (number_again h.0 rest 4 x h.2 h.3) refl)
  data_again (octet_string x) levels s rest h d = opened levels 9 s (h.0 ++ x) rest (Ok (octet_string x, rest)) h.1 d (rw (octets_again h.0 x rest h.2) refl)
  data_again (visible_string x) levels s rest h d = opened levels 10 s (h.0 ++ x) rest (Ok (visible_string x, rest)) h.1 d (rw (octets_again h.0 x rest h.2) refl)
  data_again (integer x) levels s rest h d = opened levels 15 s h.1.0 rest (Ok (integer x, rest)) h.1.1 d (rw (number_again h.1.0 rest 1 h.0 h.1.2 h.1.3) (ap (λ (z : ℤ). Ok (integer z, rest)) (sym h.2)))
  data_again (long x) levels s rest h d = opened levels 16 s h.1.0 rest (Ok (long x, rest)) h.1.1 d (rw (number_again h.1.0 rest 2 h.0 h.1.2 h.1.3) (ap (λ (z : ℤ). Ok (long z, rest)) (sym h.2)))
  data_again (unsigned x) levels s rest h d = opened levels 17 s h.0 rest (Ok (unsigned x, rest)) h.1 d (rw (number_again h.0 rest 1 x h.2 h.3) refl)
  data_again (long_unsigned x) levels s rest h d = opened levels 18 s h.0 rest (Ok (long_unsigned x, rest)) h.1 d (rw (number_again h.0 rest 2 x h.2 h.3) refl)
  data_again (long64 x) levels s rest h d = opened levels 20 s h.1.0 rest (Ok (long64 x, rest)) h.1.1 d (rw (number_again h.1.0 rest 8 h.0 h.1.2 h.1.3) (ap (λ (z : ℤ). Ok (long64 z, rest)) (sym h.2)))
  data_again (long64_unsigned x) levels s rest h d = opened levels 21 s h.0 rest (Ok (long64_unsigned x, rest)) h.1 d (rw (number_again h.0 rest 8 x h.2 h.3) refl)
  data_again (enumerated x) levels s rest h d = opened levels 22 s h.0 rest (Ok (enumerated x, rest)) h.1 d (rw (number_again h.0 rest 1 x h.2 h.3) refl)

  pub each_again : (vs : Values) (levels : ℕ) (s rest : List ℕ) → SpellEach s vs → deepest vs ≤ levels → each_at (λ b. data_at levels b) (count vs) (s ++ rest) ≡ Ok (vs, rest)
  each_again none levels s rest h d = rw h refl
  each_again (more v vs) levels s rest h d =
      let regrouped : s ++ rest ≡ h.0 ++ (h.1 ++ rest) = ap (λ (x : List ℕ). x ++ rest) h.2 ∙ append_assoc h.0 h.1 rest in
      let first = data_again v levels h.0 (h.1 ++ rest) h.3 (omega arith) in
      let others = each_again vs levels h.1 rest h.4 (omega arith) in
      ap (λ (x : List ℕ). each_at (λ b. data_at levels b) (suc (count vs)) x) regrouped ∙ rw (first, others) refl

-- ---- what follows

pub none_begins : (levels : ℕ) (s : List ℕ) (f : AxdrError) → data_at levels s ≡ Err f → NoneBegins levels s
none_begins levels s f e front rest v parts h =
    let found : data_at levels s ≡ Ok (v, rest) = ap (λ (x : List ℕ). data_at levels x) parts ∙ data_again v levels front rest h.0 h.1 in
    absurd cc

pub one_spelling : (levels : ℕ) (a b x y : List ℕ) (v w : Value) → a ++ x ≡ b ++ y → IsData levels a v → IsData levels b w → (a ≡ b) × (v ≡ w)
one_spelling levels a b x y v w e p q =
    let both = ok_pair v w x y (sym (data_again v levels a x p.0 p.1) ∙ ap (λ (z : List ℕ). data_at levels z) e ∙ data_again w levels b y q.0 q.1) in
    (append_cancel_right a b y (ap (λ (z : List ℕ). a ++ z) (sym both.1) ∙ e), both.0)

pub found_is : (levels : ℕ) (s : List ℕ) (v : Value) (rest : List ℕ) → data_at levels s ≡ Ok (v, rest) → Taken levels s v rest
found_is levels s v rest e = MatchResult-at_ok (λ x. Taken levels s x.0 x.1) (λ f. Fails levels s f) (v, rest) e (data_sound levels s)

pub shorter : (levels : ℕ) (s : List ℕ) (v : Value) (rest : List ℕ) → data_at levels s ≡ Ok (v, rest) → length rest ≤ length s
shorter levels s v rest e = let t = found_is levels s v rest e in omega (arith, ap length t.parts, length-append t.front rest)

pub spelled_front : (levels : ℕ) (s : List ℕ) (v : Value) (rest : List ℕ) → data_at levels s ≡ Ok (v, rest) → IsData levels (take (length s - length rest) s) v
spelled_front levels s v rest e =
    let t = found_is levels s v rest e in
    let n : length t.front ≡ length s - length rest = omega (arith, ap length t.parts, length-append t.front rest) in
    let front-is : t.front ≡ take (length s - length rest) s = sym (take_at t.front rest (length s - length rest) n) ∙ ap (λ (x : List ℕ). take (length s - length rest) x) (sym t.parts) in
    subst (λ (x : List ℕ). IsData levels x v) front-is t.is

pub none_if : (levels : ℕ) (s : List ℕ) (f : AxdrError) → Errs f (data_at levels s) → IfFault f (NoneBegins levels s)
none_if levels s Truncated e = none_begins levels s Truncated e
none_if levels s UnknownTag e = none_begins levels s UnknownTag e
none_if levels s BadLength e = none_begins levels s BadLength e
none_if levels s TooDeep e = none_begins levels s TooDeep e
none_if levels s OutOfMemory e = tt

fails : (levels : ℕ) (s : List ℕ) (f : AxdrError) → data_at levels s ≡ Err f → Fails levels s f
fails levels s f e = MatchResult-at_err (λ x. Taken levels s x.0 x.1) (λ f. Fails levels s f) f e (data_sound levels s)

pub fails_if : (levels : ℕ) (s : List ℕ) (f : AxdrError) → Errs f (data_at levels s) → IfFault f (Fails levels s f)
fails_if levels s Truncated e = fails levels s Truncated e
fails_if levels s UnknownTag e = fails levels s UnknownTag e
fails_if levels s BadLength e = fails levels s BadLength e
fails_if levels s TooDeep e = fails levels s TooDeep e
fails_if levels s OutOfMemory e = tt
