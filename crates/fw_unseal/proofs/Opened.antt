-- What a datagram is opened to, from the sealing in it.
use Rattle.std.proofs.Common.{◌≡◌, ℕ, ◌+◌, ◌<◌, ◌≤◌, List, ◌∷◌, ◌++◌, length, length-append, All, Contains, MatchOption, Option, Some, None, take, get_or, sym, subst, ap, ◌∙◌, arith}
use Rattle.std.proofs.lemmas.List.{take_all}
use Rattle.std.proofs.lemmas.List.Elements.{All-contains, All-more}
use Rattle.fw_wrapper.specs.Wrapper.{Wraps, max_apdu, wrapped}
use Rattle.fw_seal.specs.Sealing.{Ends, HasCounter, HasForm, IsSealing, Keys, NoSealing, content_of}
use Rattle.fw_seal.proofs.ContentFacts.{length-content_of}
use Rattle.fw_unseal.specs.Unsealing.{LooksPlain, LooksSealed, OpensNot, OpensTo}

tagged_length : (tag : ℕ) (len content : List ℕ) → length (tag ∷ len ++ content) ≡ 1 + length len + length content
tagged_length tag len content = omega (arith, length-append len content)

-- a tag and a length stand before a content, which has 17 bytes more than the APDU
sealing_length : (keys : Keys) (title : List ℕ) (counter : ℕ) (apdu bytes : List ℕ) → IsSealing keys title counter apdu bytes → length apdu + 18 ≤ length bytes
sealing_length keys title counter apdu bytes is =
    let whole = ap length is.framed.parts ∙ tagged_length is.tag is.framed.len (content_of keys title counter apdu) in
    omega (arith, whole, length-content_of keys title counter apdu)

-- ---- a loop over links

pub all_more : (P : Ends → Type 0) (links : List Ends) (i : ℕ) (link : Ends) → i < length links → link ≡ get_or links i link → All P (take i links) → P link
    → All P (take (i + 1) links)
all_more P links i link inside is all one = All-more P links i link inside all (subst (λ e. P e) is one)

pub all_of : (P : Ends → Type 0) (links : List Ends) (i : ℕ) → length links ≤ i → All P (take i links) → All P links
all_of P links i past all = subst (λ (es : List Ends). All P es) (take_all i links past) all

-- ---- what is opened

-- the other end of one of these links sealed an APDU
abbrev pub IsOpened : List Ends → List ℕ → ℕ → List ℕ → Type 0
IsOpened links sealing counter apdu = (ends : Ends) × Contains links ends × IsSealing ends.keys ends.other counter apdu sealing

module _ (links : List Ends) (wire sealing : List ℕ) (source dest : ℕ) (wraps : Wraps wire source dest sealing) where
  pub opens_to : (counter : ℕ) (apdu plain : List ℕ) → IsOpened links sealing counter apdu → plain ≡ wrapped source dest apdu → OpensTo links wire counter plain
  opens_to counter apdu plain is joined = record {
    ends = is.0;
    among = is.1;
    source = source;
    dest = dest;
    sealing = sealing;
    wraps = wraps;
    apdu = apdu;
    opens = is.2;
    plain_is = joined;
  }

  -- it is shorter than what came, and fits a datagram
  pub opened_is_short : (counter : ℕ) (apdu : List ℕ) → IsOpened links sealing counter apdu → length apdu ≤ max_apdu
  opened_is_short counter apdu is =
      omega (arith, sealing_length is.0.keys is.0.other counter apdu sealing is.2, wraps.apdu_fits)

  -- they wrap nothing else
  module _ (only : (s d : ℕ) (other : List ℕ) → Wraps wire s d other → sealing ≡ other) where
    pub opens_not : All (λ (ends : Ends). NoSealing ends.keys ends.other sealing) links → OpensNot links wire
    opens_not none counter plain o =
        All-contains (λ (ends : Ends). NoSealing ends.keys ends.other sealing) links o.ends none o.among counter o.apdu
        (subst (λ (l : List ℕ). IsSealing o.ends.keys o.ends.other counter o.apdu l) (sym (only o.source o.dest o.sealing o.wraps)) o.opens)

    pub looks : (r : Option ℕ) → MatchOption r (HasForm sealing → ⊥) (HasCounter sealing) → MatchOption r (LooksPlain wire) (LooksSealed wire)
    looks None none = λ counter l. none (subst HasForm (sym (only l.source l.dest l.sealing l.wraps)) l.form.0)
    looks (Some n) form = record { source = source; dest = dest; sealing = sealing; wraps = wraps; form = form }
