-- What carries a sealing, what it opens to, and what is sent of an APDU.
use Rattle.std.proofs.Common.{◌≡◌, ◌⊎◌, ⊎_elim, ℕ, ◌+◌, ◌<◌, ◌≤◌, List, [], ◌∷◌, ◌++◌, length, length-append, Bool, false, None, is_none, le-ltb, nat_le, nat_lt, sym, subst, ap, ◌∙◌, arith}
use Rattle.std.proofs.lemmas.Bool.Decides.{nat_tests}
use Rattle.fw_axdr.specs.Spelling.{short_length}
use Rattle.fw_wrapper.specs.Laws.{OneFrame}
use Rattle.fw_wrapper.specs.Wrapper.{Wraps, max_apdu, wrapped, wport}
use Rattle.fw_wrapper.specs.declared.error.WrapError.{WrapError}
use Rattle.fw_wrapper.specs.declared.error.WrapError.TheVariants as wrapping
use Rattle.fw_seal.specs.Refusal.{IfRefused, IsRefusal, first_applying, max_apdu as longest, refusal_of}
use Rattle.fw_seal.specs.Sealing.{Ends, HasForm, IsSealing, IsShortSealing, Keys, NoSealing, content_of, tag_for}
use Rattle.fw_seal.specs.declared.error.OpenError.{OpenError}
use Rattle.fw_seal.specs.declared.error.OpenError.TheVariants as opening
use Rattle.fw_seal.specs.declared.error.SealError.{SealError}
use Rattle.fw_seal.specs.declared.error.SealError.TheVariants as sealing
use Rattle.fw_seal.proofs.ContentFacts.{content_parts, length-content_of, mac_in, text_in}
use Rattle.fw_sealport.specs.Counts.{IfUnsealed, sealing_refusal, wrapping_refusal}
use Rattle.fw_sealport.specs.Sealed.{HasNoSealing, MayOpen, NoneSeals, Opens, OpensNot, Seals, SealsPlain, plain_of}

-- ---- how long a sealing is

tagged_length : (tag : ℕ) (len content : List ℕ) → length (tag ∷ len ++ content) ≡ 1 + length len + length content
tagged_length tag len content = omega (arith, length-append len content)

-- a tag and a length stand before a content, which has 17 bytes more than the APDU
sealing_length : (keys : Keys) (title : List ℕ) (counter : ℕ) (apdu bytes : List ℕ) → IsSealing keys title counter apdu bytes → length apdu + 18 ≤ length bytes
sealing_length keys title counter apdu bytes is =
    let whole = ap length is.framed.parts ∙ tagged_length is.tag is.framed.len (content_of keys title counter apdu) in
    omega (arith, whole, length-content_of keys title counter apdu)

short_size : (keys : Keys) (title : List ℕ) (counter : ℕ) (apdu bytes : List ℕ) → IsShortSealing keys title counter apdu bytes
    → length bytes ≡ 1 + length (short_length (17 + length apdu)) + (17 + length apdu)
short_size keys title counter apdu bytes is =
    let content : List ℕ = content_of keys title counter apdu in
    ap length is.parts ∙ tagged_length is.tag (short_length (length content)) content
    ∙ ap (λ (n : ℕ). 1 + length (short_length n) + n) (length-content_of keys title counter apdu)

header_length : (source dest : ℕ) (apdu : List ℕ) → length (wrapped source dest apdu) ≡ 8 + length apdu
header_length source dest apdu = omega arith

-- ---- what is opened

module _ (keys : Keys) (title wire : List ℕ) where
  -- it is shorter than what came, and fits a datagram
  pub opened_fits : (counter : ℕ) (apdu : List ℕ) → Opens keys title counter apdu wire → length (plain_of apdu) ≤ length wire
  opened_fits counter apdu o =
      let less = sealing_length keys title counter apdu o.sealing o.opens in
      let whole : length wire ≡ 8 + length o.sealing = ap length o.wraps.bytes ∙ header_length o.source o.dest o.sealing in
      omega (arith, less, whole, header_length 1 1 apdu)

  pub opened_is_short : (counter : ℕ) (apdu : List ℕ) → Opens keys title counter apdu wire → length apdu ≤ max_apdu
  opened_is_short counter apdu o = omega (arith, sealing_length keys title counter apdu o.sealing o.opens, o.wraps.apdu_fits)

  -- it has the form of a sealing
  pub opens_may : (counter : ℕ) (apdu : List ℕ) → Opens keys title counter apdu wire → MayOpen wire
  opens_may counter apdu o = record {
    source = o.source;
    dest = o.dest;
    sealing = o.sealing;
    wraps = o.wraps;
    form = record {
      tag = o.opens.tag;
      content = content_of keys title counter apdu;
      framed = o.opens.framed;
      counter = counter;
      text = text_in keys title counter apdu;
      mac = mac_in keys title counter apdu;
      filled = content_parts keys title counter apdu o.opens.counter_fits;
    };
  }

  -- bytes that wrap what the end sealed
  module _ (inner : List ℕ) (source dest : ℕ) (wraps : Wraps wire source dest inner) where
    pub opened_from : (counter : ℕ) (apdu : List ℕ) → IsSealing keys title counter apdu inner → Opens keys title counter apdu wire
    opened_from counter apdu is = record { source = source; dest = dest; sealing = inner; wraps = wraps; opens = is }

    -- they wrap nothing else
    module _ (only : (s d : ℕ) (other : List ℕ) → Wraps wire s d other → inner ≡ other) where
      none_inside : NoSealing keys title inner → OpensNot keys title wire
      none_inside none counter apdu o =
          none counter apdu (subst (λ (l : List ℕ). IsSealing keys title counter apdu l) (sym (only o.source o.dest o.sealing o.wraps)) o.opens)

      pub open_refused : (error : OpenError) → IfRefused error (NoSealing keys title inner) (HasForm inner) → IfRefused error (OpensNot keys title wire) (MayOpen wire)
      open_refused opening.NotSealed none = none_inside none
      open_refused opening.OutOfMemory form = record { source = source; dest = dest; sealing = inner; wraps = wraps; form = form }

-- ---- what is sent

-- a sealing that is short enough is sent
pub seals_short : (ends : Ends) (counter : ℕ) (apdu inner wire : List ℕ) → IsShortSealing ends.keys ends.own counter apdu inner → length inner ≤ max_apdu
    → wire ≡ wrapped wport wport inner → Seals ends counter apdu wire
seals_short ends counter apdu inner wire sealed short joined = record {
  sealing = inner;
  sealed = sealed;
  wraps = record { source_fits = omega arith; dest_fits = omega arith; apdu_fits = short; bytes = joined };
}

-- one that isn't has no shorter one beside it
pub none_short : (ends : Ends) (counter : ℕ) (apdu inner : List ℕ) → IsShortSealing ends.keys ends.own counter apdu inner → max_apdu < length inner → NoneSeals ends apdu
none_short ends counter apdu inner is long number wire s =
    omega (arith, long, s.wraps.apdu_fits, short_size ends.keys ends.own counter apdu inner is, short_size ends.keys ends.own number apdu s.sealing s.sealed)

apdu_is_short : (ends : Ends) (counter : ℕ) (apdu wire : List ℕ) → Seals ends counter apdu wire → length apdu ≤ max_apdu
apdu_is_short ends counter apdu wire s = omega (arith, s.wraps.apdu_fits, short_size ends.keys ends.own counter apdu s.sealing s.sealed)

-- what is sealed in place of a datagram, that datagram wraps
pub plain_wraps : (ends : Ends) (counter : ℕ) (datagram wire : List ℕ) (s : SealsPlain ends counter datagram wire) → Wraps datagram wport wport s.apdu
plain_wraps ends counter datagram wire s =
    record { source_fits = omega arith; dest_fits = omega arith; apdu_fits = apdu_is_short ends counter s.apdu wire s.seals; bytes = s.plain_is }

pub no_plain : (ends : Ends) (datagram : List ℕ) → ((apdu : List ℕ) → ¬ Wraps datagram wport wport apdu) → HasNoSealing ends datagram
no_plain ends datagram none counter wire s = none s.apdu (plain_wraps ends counter datagram wire s)

pub none_plain : OneFrame → (ends : Ends) (datagram apdu : List ℕ) → Wraps datagram wport wport apdu → NoneSeals ends apdu → HasNoSealing ends datagram
none_plain one ends datagram apdu wraps none counter wire s =
    none counter wire (subst (λ (l : List ℕ). Seals ends counter l wire) (one datagram s.apdu apdu 1 1 1 1 (plain_wraps ends counter datagram wire s) wraps).2 s.seals)

-- ---- why nothing is

all_false : (a b d : Bool) → a ≡ false → b ≡ false → d ≡ false → first_applying ((a, sealing.UnknownService) ∷ (b, sealing.TooLong) ∷ (d, sealing.CounterSpent) ∷ []) ≡ None
all_false a b d ea eb ed = rw (ea, eb, ed)

not_above : (m n : ℕ) → n ≤ m → nat_lt m n ≡ false
not_above m n within = le-ltb m n within

not_within : (n : ℕ) → nat_le (n + 1) n ≡ false
not_within n = grind (arith, nat_tests)

-- what has a sealing isn't refused with a counter that is left
never_refused : (ends : Ends) (number counter : ℕ) (apdu wire : List ℕ) → Seals ends counter apdu wire → refusal_of apdu (record { next = number; end = number + 1 }) ≡ None
never_refused ends number counter apdu wire s =
    all_false (is_none (tag_for apdu)) (nat_lt longest (length apdu)) (nat_le (number + 1) number) (ap is_none s.sealed.named)
    (not_above longest (length apdu) (omega (arith, apdu_is_short ends counter apdu wire s))) (not_within number)

pub seal_refused : (ends : Ends) (number : ℕ) (apdu : List ℕ) (error : SealError) → IsRefusal (refusal_of apdu (record { next = number; end = number + 1 })) error
    → IfUnsealed (sealing_refusal error) (NoneSeals ends apdu)
seal_refused ends number apdu sealing.UnknownService is = λ counter wire s. absurd (cc (is, never_refused ends number counter apdu wire s))
seal_refused ends number apdu sealing.TooLong is = λ counter wire s. absurd (cc (is, never_refused ends number counter apdu wire s))
seal_refused ends number apdu sealing.CounterSpent is = λ counter wire s. absurd (cc (is, never_refused ends number counter apdu wire s))
seal_refused ends number apdu sealing.OutOfMemory is = tt

pub join_refused : (ends : Ends) (counter : ℕ) (apdu inner : List ℕ) (error : WrapError) → IsShortSealing ends.keys ends.own counter apdu inner
    → (error ≡ wrapping.TooLong → max_apdu < length inner) → (error ≡ wrapping.TooLong) ⊎ (error ≡ wrapping.OutOfMemory) → IfUnsealed (wrapping_refusal error) (NoneSeals ends apdu)
join_refused ends counter apdu inner error sealed long either =
    ⊎_elim
    (λ (is : error ≡ wrapping.TooLong). subst (λ (e : WrapError). IfUnsealed (wrapping_refusal e) (NoneSeals ends apdu)) (sym is)
    (none_short ends counter apdu inner sealed (long is)))
    (λ (is : error ≡ wrapping.OutOfMemory). subst (λ (e : WrapError). IfUnsealed (wrapping_refusal e) (NoneSeals ends apdu)) (sym is) tt)
    either
