-- A frame, and how it is read.
use Rattle.std.proofs.Common.{◌≡◌, ◌≢◌, ℕ, ◌-◌, ◌^◌, ◌<◌, ◌≤◌, false, ltb, List, [], ◌∷◌, ◌++◌, length, take, drop, Result, Ok, Err, refl, sym, ap, subst, ◌∙◌, arith, get_or}
use Rattle.std.specs.Result.{MatchResult}
use Rattle.std.proofs.lemmas.Bool.{le-ltb}
use Rattle.std.proofs.lemmas.List.{take_all}
use Rattle.fw_axdr.specs.declared.reader.ReadError.{ReadError}
use Rattle.fw_axdr.specs.Reading as reader
use Rattle.fw_axdr.specs.Fault.{LengthFails}
use Rattle.fw_axdr.specs.Private.{seen}
use Rattle.fw_axdr.specs.Spelling.{IsLength}
use Rattle.fw_axdr.proofs.Lengths.{LengthTaken, length_again, length_sound}
use Rattle.fw_seal.specs.Sealing.{IsFrame, NoFrame}
use Rattle.fw_seal.proofs.ContentFacts.{rest_is}

-- what is in an `Ok`
abbrev ok_value : {A E : Type 0} → Result A E → A → A
ok_value (Ok x) y = x
ok_value (Err e) y = y

-- what a reader gave, from what it gave as a reader of Data does
ok_seen : {A : Type 0} (r : Result A ReadError) (x : A) → seen r ≡ Ok x → r ≡ Ok x
ok_seen (Ok y) x e = ap Ok (ap (λ r. ok_value r y) e)
ok_seen (Err f) x e = absurd cc

-- a length is read, and what follows it
length_read : (len rest : List ℕ) (n : ℕ) → IsLength len n → reader.length_at (len ++ rest) ≡ Ok (n, rest)
length_read len rest n is = ok_seen (reader.length_at (len ++ rest)) (n, rest) (length_again len rest n is)

-- what was read as a length is one
length_found : (bytes rest : List ℕ) (n : ℕ) → reader.length_at bytes ≡ Ok (n, rest) → LengthTaken bytes n rest
length_found bytes rest n e =
    subst (λ (r : Result (ℕ × List ℕ) ReadError). MatchResult (seen r) (λ x. LengthTaken bytes x.0 x.1) (LengthFails bytes)) e (length_sound bytes)

-- what a frame begins with, and what is read behind that
pub record Front (bytes : List ℕ) (tag : ℕ) (content : List ℕ) : Type 0 where
  pub some : 1 ≤ length bytes
  pub first : get_or bytes 0 0 ≡ tag
  pub fits : length content < 2 ^ 32
  pub read : reader.length_at (drop 1 bytes) ≡ Ok (length content, content)

pub front : (bytes : List ℕ) (tag : ℕ) (content : List ℕ) → IsFrame tag content bytes → Front bytes tag content
front [] tag content is =
    let parts : [] ≡ tag ∷ (is.len ++ content) = is.parts in
    absurd cc
front (b ∷ rest) tag content is = record {
  some = omega arith;
  first = ap (λ (xs : List ℕ). get_or xs 0 0) is.parts;
  fits = is.size;
  read = ap (λ (xs : List ℕ). reader.length_at (drop 1 xs)) is.parts ∙ length_read is.len content (length content) is.is_length;
}

-- what was read is a frame
pub frame_found : (bytes behind content : List ℕ) (n : ℕ) → 1 ≤ length bytes → reader.length_at (drop 1 bytes) ≡ Ok (n, behind) → n ≡ length behind → n < 2 ^ 32
    → content ≡ behind → IsFrame (get_or bytes 0 0) content bytes
frame_found [] behind content n some e en fits ec = absurd (omega arith)
frame_found (b ∷ rest) behind content n some e en fits ec =
    let taken = length_found rest behind n e in
    let same : n ≡ length content = en ∙ ap length (sym ec) in
    record {
      size = omega (arith, same);
      len = taken.len;
      is_length = subst (IsLength taken.len) same taken.is;
      parts = ap (λ (xs : List ℕ). b ∷ xs) (taken.parts ∙ ap (λ (xs : List ℕ). taken.len ++ xs) (sym ec));
    }

-- the same, from what a pattern leaves behind the first byte
pub read_behind : (bytes start : List ℕ) (r : Result (ℕ × List ℕ) ReadError) → start ≡ take (length bytes - 1) (drop 1 bytes) → reader.length_at start ≡ r
    → reader.length_at (drop 1 bytes) ≡ r
read_behind bytes start r es e = sym (ap reader.length_at (es ∙ rest_is 1 bytes)) ∙ e

-- as many bytes as there are
all_bytes : (bytes : List ℕ) (n : ℕ) → n ≡ length bytes → reader.bytes_at n bytes ≡ Ok (take n bytes, drop n bytes)
unfolding reader.bytes_at
all_bytes bytes n e =
    let room : ltb (length bytes) n ≡ false = le-ltb (length bytes) n (omega (arith, e)) in
    rw room refl

pub all_read : (bytes content rest : List ℕ) (n : ℕ) → n ≡ length bytes → reader.bytes_at n bytes ≡ Ok (content, rest) → content ≡ bytes
all_read bytes content rest n e read =
    sym (ap (λ (r : Result (List ℕ × List ℕ) ReadError). (ok_value r (content, rest)).0) (sym (all_bytes bytes n e) ∙ read)) ∙ take_all n bytes (omega (arith, e))

pub all_refused : (bytes : List ℕ) (n : ℕ) (f : ReadError) → n ≡ length bytes → reader.bytes_at n bytes ≡ Err f → ⊥
all_refused bytes n f e read =
    let both = sym (all_bytes bytes n e) ∙ read in
    cc

-- the length of a frame, and what follows it, are those that are read
pub front_both : (bytes behind : List ℕ) (tag n : ℕ) (content : List ℕ) → reader.length_at (drop 1 bytes) ≡ Ok (n, behind) → IsFrame tag content bytes
    → (length content ≡ n) × (content ≡ behind)
front_both bytes behind tag n content read is =
    let both = sym (front bytes tag content is).read ∙ read in
    (ap (λ (r : Result (ℕ × List ℕ) ReadError). (ok_value r (n, behind)).0) both, ap (λ (r : Result (ℕ × List ℕ) ReadError). (ok_value r (n, behind)).1) both)

-- ---- why bytes are no frame

-- there are none
pub no_byte : (bytes : List ℕ) → length bytes < 1 → NoFrame bytes
no_byte bytes none tag content is =
    let some : 1 ≤ length bytes = (front bytes tag content is).some in
    absurd (omega arith)

-- no length is read
pub no_length : (bytes : List ℕ) (f : ReadError) → reader.length_at (drop 1 bytes) ≡ Err f → NoFrame bytes
no_length bytes f read tag content is =
    let both = sym (front bytes tag content is).read ∙ read in
    cc

-- it is longer than a content is
pub long_length : (bytes behind : List ℕ) (n : ℕ) → reader.length_at (drop 1 bytes) ≡ Ok (n, behind) → 2 ^ 32 ≤ n → NoFrame bytes
long_length bytes behind n read long tag content is =
    let fits : length content < 2 ^ 32 = (front bytes tag content is).fits in
    let same : length content ≡ n = (front_both bytes behind tag n content read is).0 in
    absurd (omega arith)

-- it is not that of what follows
pub other_length : (bytes behind : List ℕ) (n : ℕ) → reader.length_at (drop 1 bytes) ≡ Ok (n, behind) → n ≢ length behind → NoFrame bytes
other_length bytes behind n read ne tag content is =
    let both = front_both bytes behind tag n content read is in
    ne (sym both.0 ∙ ap length both.1)

-- a frame has one tag and one content
pub one_frame : (tag tag' : ℕ) (content content' bytes : List ℕ) → IsFrame tag content bytes → IsFrame tag' content' bytes → (tag ≡ tag') × (content ≡ content')
one_frame tag tag' content content' bytes is other =
    let a = front bytes tag content is in
    let b = front bytes tag' content' other in
    (sym a.first ∙ b.first, (front_both bytes content' tag (length content') content b.read is).1)
