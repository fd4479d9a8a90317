-- The fields of a line, from the last to the first.
use Rattle.std.proofs.Common.{◌≡◌, ◌≤◌, ◌*◌, ℕ, List, [], ◌∷◌, ◌++◌, length, Result, Ok, Err, refl, sym, ap, subst, ◌∙◌, arith, length-append}
use Rattle.std.specs.Prelude.{◌≢◌, MatchResult, OnOk}
use Rattle.hex.specs.Hex.{decode_sized}
use Rattle.hex.specs.declared.error.FromHexError.{FromHexError}
use Rattle.hex.proofs.HexLemmas.{decode_sized-ok}
use Rattle.fw_keys.specs.declared.entry.LinkKeys.{LinkKeys}
use Rattle.fw_keys.specs.KeyFiles.{IsLink}
use Rattle.fw_keys.specs.Private.{EndsWith}

-- two cuts of a list whose backs have one length are the same
pub same_cut : (f g s t : List ℕ) (a b : ℕ) → length s ≡ length t → f ++ a ∷ s ≡ g ++ b ∷ t → (f ≡ g) × (a ≡ b) × (s ≡ t)
same_cut [] [] s t a b len e = (refl, cc e, cc e)
same_cut [] (y ∷ g) s t a b len e =
    let tail : s ≡ g ++ b ∷ t = cc e in
    let long : length s ≡ length (g ++ b ∷ t) = ap (λ (l : List ℕ). length l) tail in
    absurd (omega (arith, len, long, length-append g (b ∷ t)))
same_cut (x ∷ f) [] s t a b len e =
    let tail : f ++ a ∷ s ≡ t = cc e in
    let long : length (f ++ a ∷ s) ≡ length t = ap (λ (l : List ℕ). length l) tail in
    absurd (omega (arith, len, long, length-append f (a ∷ s)))
same_cut (x ∷ f) (y ∷ g) s t a b len e =
    let first : x ≡ y = cc e in
    let others : f ++ a ∷ s ≡ g ++ b ∷ t = cc e in
    let more = same_cut f g s t a b len others in
    let fronts : f ≡ g = more.0 in
    (cc (first, fronts), more.1, more.2)

pub same_bytes : (r : Result (List ℕ) FromHexError) (a b : List ℕ) → r ≡ Ok a → r ≡ Ok b → a ≡ b
same_bytes r a b x y = cc (x, y)

pub never_bytes : (r : Result (List ℕ) FromHexError) (a : List ℕ) (e : FromHexError) → r ≡ Ok a → r ≡ Err e → ⊥
never_bytes r a e x y = cc (x, y)

-- what is decoded, where the code finds that nothing is
pub decoded_err : (d : Result (List ℕ) FromHexError) (r : Result (Unit {0}) FromHexError) (out : List ℕ) (e : FromHexError)
    → MatchResult d (λ bytes. (r ≡ Ok tt) × (out ≡ bytes)) (λ f. r ≡ Err f) → r ≡ Err e → d ≡ Err e
decoded_err (Ok bytes) r out e h is = let both : r ≡ Ok tt = h.0 in cc (both, is)
decoded_err (Err f) r out e h is = let other : r ≡ Err f = h in cc (other, is)

pub on_ok : {A E : Type 0} (r : Result A E) (P : Type 0) → P → OnOk r P
on_ok (Ok x) P h = h
on_ok (Err e) P h = tt

-- a line ends with one field
pub one_end : (size : ℕ) (line f g a b : List ℕ) → EndsWith size line f a → EndsWith size line g b → (f ≡ g) × (a ≡ b)
one_end size line f g a b x y =
    let len : length x.digits ≡ length y.digits = decode_sized-ok x.digits size a x.spelled ∙ sym (decode_sized-ok y.digits size b y.spelled) in
    let cut = same_cut f g x.digits y.digits 44 44 len (sym x.parts ∙ y.parts) in
    (cut.0, same_bytes (decode_sized y.digits size) a b (subst (λ d. decode_sized d size ≡ Ok a) cut.2 x.spelled) y.spelled)

-- ---- what isn't the last field

-- no such cut
pub not_cut : (size len : ℕ) (line : List ℕ) → len ≡ 2 * size → ((front field : List ℕ) → length field ≡ len → line ≢ front ++ 44 ∷ field)
    → (front bytes : List ℕ) → ¬ EndsWith size line front bytes
not_cut size len line twice none front bytes ends = none front ends.digits (decode_sized-ok ends.digits size bytes ends.spelled ∙ sym twice) ends.parts

-- a cut with a field that spells nothing
pub not_spelled : (size len : ℕ) (line text field : List ℕ) (e : FromHexError) → len ≡ 2 * size → length field ≡ len → line ≡ text ++ 44 ∷ field → decode_sized field size ≡ Err e
    → (front bytes : List ℕ) → ¬ EndsWith size line front bytes
not_spelled size len line text field e twice fits parts err front bytes ends =
    let same : length ends.digits ≡ length field = decode_sized-ok ends.digits size bytes ends.spelled ∙ sym twice ∙ sym fits in
    let cut = same_cut front text ends.digits field 44 44 same (sym ends.parts ∙ parts) in
    never_bytes (decode_sized field size) bytes e (subst (λ d. decode_sized d size ≡ Ok bytes) cut.2 ends.spelled) err

-- too short for a comma and a field
pub too_short : (line : List ℕ) (len : ℕ) → length line ≤ len → (front field : List ℕ) → length field ≡ len → line ≢ front ++ 44 ∷ field
too_short line len short front field fits is =
    let long : length line ≡ length (front ++ 44 ∷ field) = ap (λ (l : List ℕ). length l) is in
    omega (arith, short, fits, long, length-append front (44 ∷ field))

-- another byte before the field
pub no_comma : (line text back : List ℕ) (byte len : ℕ) → line ≡ text ++ byte ∷ back → length back ≡ len → byte ≢ 44 → (front field : List ℕ) → length field ≡ len → line ≢ front ++ 44 ∷ field
no_comma line text back byte len parts size other front field fits is =
    let cut = same_cut text front back field byte 44 (size ∙ sym fits) (sym parts ∙ is) in
    other cut.1

-- ---- the fields of a link

last_field : (line name : List ℕ) (keys : LinkKeys) (link : IsLink line name keys)
    → EndsWith 16 line (name ++ 44 ∷ link.title ++ 44 ∷ link.encryption) keys.authentication
last_field line name keys link = record { digits = link.authentication; parts = link.parts; spelled = link.is_authentication }

key_field : (line name : List ℕ) (keys : LinkKeys) (link : IsLink line name keys)
    → EndsWith 16 (name ++ 44 ∷ link.title ++ 44 ∷ link.encryption) (name ++ 44 ∷ link.title) keys.encryption
key_field line name keys link = record { digits = link.encryption; parts = refl; spelled = link.is_encryption }

title_field : (line name : List ℕ) (keys : LinkKeys) (link : IsLink line name keys) → EndsWith 8 (name ++ 44 ∷ link.title) name keys.title
title_field line name keys link = record { digits = link.title; parts = refl; spelled = link.is_title }

-- the key of a link, behind a last field that was taken off
next_key : (line keyed a name : List ℕ) (keys : LinkKeys) → EndsWith 16 line keyed a → (link : IsLink line name keys)
    → EndsWith 16 keyed (name ++ 44 ∷ link.title) keys.encryption
next_key line keyed a name keys last link =
    let same = one_end 16 line keyed (name ++ 44 ∷ link.title ++ 44 ∷ link.encryption) a keys.authentication last (last_field line name keys link) in
    subst (λ l. EndsWith 16 l (name ++ 44 ∷ link.title) keys.encryption) (sym same.0) (key_field line name keys link)

-- and its title, behind two
next_title : (line keyed titled a k name : List ℕ) (keys : LinkKeys) → EndsWith 16 line keyed a → EndsWith 16 keyed titled k → IsLink line name keys
    → EndsWith 8 titled name keys.title
next_title line keyed titled a k name keys last key link =
    let same = one_end 16 keyed titled (name ++ 44 ∷ link.title) k keys.encryption key (next_key line keyed a name keys last link) in
    subst (λ l. EndsWith 8 l name keys.title) (sym same.0) (title_field line name keys link)

pub no_last : (line : List ℕ) → ((front bytes : List ℕ) → ¬ EndsWith 16 line front bytes) → (name : List ℕ) (keys : LinkKeys) → ¬ IsLink line name keys
no_last line none name keys link = none (name ++ 44 ∷ link.title ++ 44 ∷ link.encryption) keys.authentication (last_field line name keys link)

pub no_key : (line keyed a : List ℕ) → EndsWith 16 line keyed a → ((front bytes : List ℕ) → ¬ EndsWith 16 keyed front bytes) → (name : List ℕ) (keys : LinkKeys) → ¬ IsLink line name keys
no_key line keyed a last none name keys link = none (name ++ 44 ∷ link.title) keys.encryption (next_key line keyed a name keys last link)

pub no_title : (line keyed titled a k : List ℕ) → EndsWith 16 line keyed a → EndsWith 16 keyed titled k → ((front bytes : List ℕ) → ¬ EndsWith 8 titled front bytes)
    → (name : List ℕ) (keys : LinkKeys) → ¬ IsLink line name keys
no_title line keyed titled a k last key none name keys link = none name keys.title (next_title line keyed titled a k name keys last key link)

pub is_link : (line keyed titled name : List ℕ) (keys : LinkKeys) → EndsWith 16 line keyed keys.authentication → EndsWith 16 keyed titled keys.encryption → EndsWith 8 titled name keys.title
    → IsLink line name keys
is_link line keyed titled name keys last key title = record {
  title = title.digits;
  encryption = key.digits;
  authentication = last.digits;
  parts = last.parts ∙ ap (λ (l : List ℕ). l ++ 44 ∷ last.digits) (key.parts ∙ ap (λ (l : List ℕ). l ++ 44 ∷ key.digits) title.parts);
  is_title = title.spelled;
  is_encryption = key.spelled;
  is_authentication = last.spelled;
}

-- ---- a line is that of one link

abbrev keys_of : List ℕ → List ℕ → List ℕ → LinkKeys
keys_of title encryption authentication = record { title = title; encryption = encryption; authentication = authentication }

same_keys : (k l : LinkKeys) → k.title ≡ l.title → k.encryption ≡ l.encryption → k.authentication ≡ l.authentication → k ≡ l
same_keys k l title encryption authentication =
    ap (λ x. keys_of x k.encryption k.authentication) title ∙ ap (λ x. keys_of l.title x k.authentication) encryption
    ∙ ap (λ x. keys_of l.title l.encryption x) authentication

pub one_link : (line name other : List ℕ) (keys more : LinkKeys) → IsLink line name keys → IsLink line other more → (name ≡ other) × (keys ≡ more)
one_link line name other keys more x y =
    let keyed = name ++ 44 ∷ x.title ++ 44 ∷ x.encryption in
    let titled = name ++ 44 ∷ x.title in
    let last = last_field line name keys x in
    let key = key_field line name keys x in
    let lasts = one_end 16 line keyed (other ++ 44 ∷ y.title ++ 44 ∷ y.encryption) keys.authentication more.authentication last (last_field line other more y) in
    let nexts = one_end 16 keyed titled (other ++ 44 ∷ y.title) keys.encryption more.encryption key (next_key line keyed keys.authentication other more last y) in
    let titles = one_end 8 titled name other keys.title more.title (title_field line name keys x)
    (next_title line keyed titled keys.authentication keys.encryption other more last key y) in
    (titles.0, same_keys keys more titles.1 nexts.1 lasts.1)
