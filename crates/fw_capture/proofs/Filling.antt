-- Bytes that are taken from a reader, one read after another.
use Rattle.std.proofs.Common.{◌≡◌, ◌≤◌, ◌<◌, ◌+◌, ℕ, List, [], ◌∷◌, ◌++◌, length, Option, Some, None, refl, sym, ap, subst, ◌∙◌, append_assoc, append-nil, arith}
use Rattle.std.proofs.lemmas.List.{length-append}
use Rattle.std.proofs.KnownBytes.{Consumes-nil, Consumes-trans, Consumes-kept}
use Rattle.std.specs.Io.KnownBytes.{Consumes, IsAtEnd, Keeps}
use Rattle.fw_capture.specs.declared.format.Format.{Format}
use Rattle.fw_capture.specs.Private.{Fills, record_size}
use Rattle.fw_capture.proofs.Wholeness.{at_least, same_size}

-- what was appended so far
pub record Filling (len : ℕ) (before after : Option (List ℕ)) (old new : List ℕ) : Type 0 where
  pub given : List ℕ
  pub consumed : Consumes before after given
  pub appended : new ≡ old ++ given
  pub within : length old ≤ len → length new ≤ len

pub begins : (len : ℕ) (before : Option (List ℕ)) (old : List ℕ) → Filling len before before old old
begins len before old = record { given = []; consumed = Consumes-nil before; appended = sym (append-nil old); within = λ h. h }

pub waits : (len : ℕ) (before mid after : Option (List ℕ)) (old new : List ℕ) → Filling len before mid old new → Keeps mid after → Filling len before after old new
waits len before mid after old new so_far kept = record {
  given = so_far.given;
  consumed = Consumes-kept before mid after so_far.given so_far.consumed kept;
  appended = so_far.appended;
  within = so_far.within;
}

pub goes_on : (len : ℕ) (before mid after : Option (List ℕ)) (old now chunk new : List ℕ) → Filling len before mid old now → Consumes mid after chunk
    → new ≡ now ++ chunk → length now + length chunk ≤ len → Filling len before after old new
goes_on len before mid after old now chunk new so_far more is fits = record {
  given = so_far.given ++ chunk;
  consumed = Consumes-trans before mid after so_far.given chunk so_far.consumed more;
  appended = is ∙ ap (λ (x : List ℕ). x ++ chunk) so_far.appended ∙ append_assoc old so_far.given chunk;
  within = λ h. omega (arith, ap length is, length-append now chunk, fits);
}

pub is_full : (len : ℕ) (before after : Option (List ℕ)) (old new : List ℕ) → Filling len before after old new → len ≤ length new → Fills len before after old new
is_full len before after old new so_far full = record {
  given = so_far.given;
  consumed = so_far.consumed;
  appended = so_far.appended;
  within = so_far.within;
  at_end = λ h. absurd (omega arith);
}

pub ends : (len : ℕ) (before after : Option (List ℕ)) (old new : List ℕ) → Filling len before after old new → IsAtEnd after → Fills len before after old new
ends len before after old new so_far end = record {
  given = so_far.given;
  consumed = so_far.consumed;
  appended = so_far.appended;
  within = so_far.within;
  at_end = λ h. end;
}

-- a reader whose bytes are known, and what was taken of them
pub taken : (before after : Option (List ℕ)) (rest given : List ℕ) → before ≡ Some rest → Consumes before after given
    → (left : List ℕ) × (after ≡ Some left) × (rest ≡ given ++ left)
taken before None rest given is consumed = absurd (subst (λ (b : Option (List ℕ)). Consumes b None given) is consumed)
taken before (Some left) rest given is consumed = (left, refl, subst (λ (b : Option (List ℕ)). Consumes b (Some left) given) is consumed)

pub kept : (before after : Option (List ℕ)) (rest : List ℕ) → before ≡ Some rest → Keeps before after → after ≡ Some rest
kept before None rest is keeps = absurd (subst (λ (b : Option (List ℕ)). Keeps b None) is keeps)
kept before (Some left) rest is keeps = ap (λ (x : List ℕ). Some x) (subst (λ (b : Option (List ℕ)). Keeps b (Some left)) is keeps)

pub at_end : (after : Option (List ℕ)) (left : List ℕ) → after ≡ Some left → IsAtEnd after → left ≡ []
at_end after left is end = subst (λ (a : Option (List ℕ)). IsAtEnd a) is end

nothing_before : (xs ys : List ℕ) → xs ++ ys ≡ [] → xs ≡ []
nothing_before [] ys none = refl
nothing_before (x ∷ xs) ys none = absurd (cc)

-- what was filled first, and what is left of the reader's bytes
pub filled_first : (len : ℕ) (before after : Option (List ℕ)) (none bytes rest : List ℕ) → none ≡ [] → Fills len before after none bytes → before ≡ Some rest
    → (left : List ℕ) × (after ≡ Some left) × (rest ≡ bytes ++ left) × (length bytes ≤ len) × (length bytes < len → left ≡ [])
filled_first len before after none bytes rest empty fills is =
    let t = taken before after rest fills.given is fills.consumed in
    let all : bytes ≡ fills.given = fills.appended ∙ ap (λ (x : List ℕ). x ++ fills.given) empty in
    let small : length none ≤ len = omega (arith, ap length empty) in
    (t.0, t.1, t.2 ∙ ap (λ (x : List ℕ). x ++ t.0) (sym all), fills.within small, λ h. at_end after t.0 t.1 (fills.at_end h))

-- a header, and the packet behind it
pub filled_both : (f : Format) (before mid after : Option (List ℕ)) (none header bytes : List ℕ) (size : ℕ) (rest : List ℕ) → none ≡ [] → Fills 16 before mid none header
    → size ≡ record_size f header → Fills size mid after header bytes → before ≡ Some rest
    → (left : List ℕ) × (after ≡ Some left) × (rest ≡ bytes ++ left) × (length bytes ≤ record_size f bytes) × (length bytes < record_size f bytes → left ≡ [])
filled_both f before mid after none header bytes size rest empty first is second at =
    let one = filled_first 16 before mid none header rest empty first at in
    let two = taken mid after one.0 second.given one.1 second.consumed in
    let all : rest ≡ bytes ++ two.0 = one.2 ∙ ap (λ (x : List ℕ). header ++ x) two.2 ∙ sym (append_assoc header second.given two.0) ∙ ap (λ (x : List ℕ). x ++ two.0) (sym second.appended) in
    let short : length header < 16 → second.given ≡ [] = λ h. nothing_before second.given two.0 (sym two.2 ∙ one.4 h) in
    let same : record_size f bytes ≡ size = ap (λ (x : List ℕ). record_size f x) second.appended ∙ same_size f header second.given short ∙ sym is in
    let room : length header ≤ size = omega (arith, one.3, is, at_least f header) in
    let within : length bytes ≤ record_size f bytes = omega (arith, second.within room, same) in
    (two.0, two.1, all, within, λ h. at_end after two.0 two.1 (second.at_end (omega (arith, same, h))))
