-- A content, taken apart and put together.
use Rattle.std.proofs.Common.{◌≡◌, ◌≢◌, ℕ, zero, suc, ◌+◌, ◌-◌, ◌^◌, ◌<◌, ◌≤◌, List, [], ◌∷◌, ◌++◌, length, take, drop, refl, sym, ap, ◌∙◌, arith, get_or, length-append, length-drop}
use Rattle.std.proofs.lemmas.List.{drop_at, take_all, take_at, take-append-drop}
use Rattle.std.proofs.lemmas.Nat.{be_bytes_4, from_be_bytes-to_be_bytes_4}
use Rattle.std.specs.Int.{w32, to_be_bytes, from_be_bytes}
use Rattle.fw_aes.specs.Gcm.{ciphertext_of, stream_byte, sum_from, tag_of}
use Rattle.fw_seal.specs.Sealing.{IsContent, Keys, NoContent, aad_of, content_of, iv_of}

-- the four bytes of a counter, which begin at the second byte
abbrev pub counter_bytes : List ℕ → List ℕ
counter_bytes bytes = get_or bytes 1 0 ∷ get_or bytes 2 0 ∷ get_or bytes 3 0 ∷ get_or bytes 4 0 ∷ []

five : (xs : List ℕ) → 5 ≤ length xs → xs ≡ get_or xs 0 0 ∷ get_or xs 1 0 ∷ get_or xs 2 0 ∷ get_or xs 3 0 ∷ get_or xs 4 0 ∷ drop 5 xs
five [] h = absurd (omega arith)
five (a ∷ []) h = absurd (omega arith)
five (a ∷ b ∷ []) h = absurd (omega arith)
five (a ∷ b ∷ c ∷ []) h = absurd (omega arith)
five (a ∷ b ∷ c ∷ d ∷ []) h = absurd (omega arith)
five (a ∷ b ∷ c ∷ d ∷ e ∷ xs) h = refl

bytes_small : (xs : List ℕ) (i : ℕ) → ((j : ℕ) → get_or xs j 0 < 256) → get_or (counter_bytes xs) i 0 < 256
bytes_small xs zero h = h 1
bytes_small xs (suc zero) h = h 2
bytes_small xs (suc (suc zero)) h = h 3
bytes_small xs (suc (suc (suc zero))) h = h 4
bytes_small xs (suc (suc (suc (suc i)))) h = omega arith

joined_up : (a b c d e : ℕ) (bytes rest text mac : List ℕ) (n : ℕ) → bytes ≡ b ∷ c ∷ d ∷ e ∷ [] → text ≡ take n rest → mac ≡ drop n rest
    → a ∷ b ∷ c ∷ d ∷ e ∷ rest ≡ ((a ∷ bytes) ++ text) ++ mac
joined_up a b c d e bytes rest text mac n eb et em = rw (eb, et, em) (ap (λ (xs : List ℕ). a ∷ b ∷ c ∷ d ∷ e ∷ xs) (sym (take-append-drop n rest)))

-- what a reader takes apart is a content
pub parts_found : (bytes rest text mac : List ℕ) (counter n : ℕ) → rest ≡ drop 5 bytes → 5 ≤ length bytes → ((i : ℕ) → get_or bytes i 0 < 256)
    → get_or bytes 0 0 ≡ 0x30 → counter < 2 ^ 32 → counter ≡ from_be_bytes w32 (counter_bytes bytes) → text ≡ take n rest → mac ≡ drop n rest → length mac ≡ 12
    → IsContent counter text mac bytes
parts_found bytes rest text mac counter n er len small control fits ec et em lm =
    let four : to_be_bytes w32 counter ≡ counter_bytes bytes = be_bytes_4 (counter_bytes bytes) counter refl (λ i. bytes_small bytes i small) ec in
    record {
      counter_fits = fits;
      mac_size = lm;
      parts =
          five bytes len ∙ joined_up (get_or bytes 0 0) _ _ _ _ (to_be_bytes w32 counter) (drop 5 bytes) text mac n four (et ∙ ap (take n) er) (em ∙ ap (drop n) er)
          ∙ ap (λ (a : ℕ). ((a ∷ to_be_bytes w32 counter) ++ text) ++ mac) control;
    }

-- what a content is, taken apart
pub record Apart (bytes text mac : List ℕ) (counter : ℕ) : Type 0 where
  pub control : get_or bytes 0 0 ≡ 0x30
  pub counted : from_be_bytes w32 (counter_bytes bytes) ≡ counter
  pub some : 5 ≤ length bytes
  pub more : 12 ≤ length (drop 5 bytes)
  pub front : take (length (drop 5 bytes) - 12) (drop 5 bytes) ≡ text
  pub back : drop (length (drop 5 bytes) - 12) (drop 5 bytes) ≡ mac

pub apart : (bytes text mac : List ℕ) (counter : ℕ) → IsContent counter text mac bytes → Apart bytes text mac counter
apart bytes text mac counter is =
    let twelve : length mac ≡ 12 = is.mac_size in
    let rest : drop 5 bytes ≡ text ++ mac = ap (drop 5) is.parts in
    let len : length (drop 5 bytes) ≡ length text + 12 = ap length rest ∙ length-append text mac ∙ ap (λ (n : ℕ). length text + n) twelve in
    let n : length (drop 5 bytes) - 12 ≡ length text = omega arith in
    record {
      control = ap (λ (xs : List ℕ). get_or xs 0 0) is.parts;
      counted = ap (λ (xs : List ℕ). from_be_bytes w32 (counter_bytes xs)) is.parts ∙ from_be_bytes-to_be_bytes_4 counter is.counter_fits;
      some = omega (arith, length-drop 5 bytes);
      more = omega arith;
      front = rw (n, rest) (take_at text mac (length text) refl);
      back = rw (n, rest) (drop_at text mac (length text) refl);
    }

-- ---- why bytes are no content

-- they lack a byte before the ciphertext
pub no_header : (bytes : List ℕ) → length bytes < 5 → NoContent bytes
no_header bytes none counter text mac is =
    let some : 5 ≤ length bytes = (apart bytes text mac counter is).some in
    absurd (omega arith)

-- they have another security control
pub other_control : (bytes : List ℕ) → get_or bytes 0 0 ≢ 0x30 → NoContent bytes
other_control bytes ne counter text mac is = ne (apart bytes text mac counter is).control

-- they lack a byte of the authentication tag
pub no_mac : (bytes rest : List ℕ) → rest ≡ drop 5 bytes → length rest < 12 → NoContent bytes
no_mac bytes rest er none counter text mac is =
    let more : 12 ≤ length (drop 5 bytes) = (apart bytes text mac counter is).more in
    let same : length rest ≡ length (drop 5 bytes) = ap length er in
    absurd (omega arith)

-- bytes are a content in one way
pub one_content : (bytes text mac text' mac' : List ℕ) (counter counter' : ℕ) → IsContent counter text mac bytes → IsContent counter' text' mac' bytes
    → (counter ≡ counter') × (text ≡ text') × (mac ≡ mac')
one_content bytes text mac text' mac' counter counter' is other =
    let a = apart bytes text mac counter is in
    let b = apart bytes text' mac' counter' other in
    (sym a.counted ∙ b.counted, sym a.front ∙ b.front, sym a.back ∙ b.back)

-- ---- the content of the sealings of an APDU

pub length-tag_of : (key iv aad text : List ℕ) → length (tag_of key iv aad text) ≡ 12
unfolding tag_of sum_from
length-tag_of key iv aad text = refl

length-sum_from : (f : ℕ → ℕ) (k : ℕ) (xs : List ℕ) → length (sum_from f k xs) ≡ length xs
unfolding sum_from
length-sum_from f k [] = refl
length-sum_from f k (x ∷ xs) = ap suc (length-sum_from f (suc k) xs)

pub length-ciphertext_of : (key iv text : List ℕ) → length (ciphertext_of key iv text) ≡ length text
length-ciphertext_of key iv text = length-sum_from (stream_byte key iv 2) 0 text

-- the ciphertext of an APDU, and its tag
abbrev pub text_in : Keys → List ℕ → ℕ → List ℕ → List ℕ
text_in keys title counter apdu = ciphertext_of keys.encryption (iv_of title counter) apdu

abbrev pub mac_in : Keys → List ℕ → ℕ → List ℕ → List ℕ
mac_in keys title counter apdu = tag_of keys.encryption (iv_of title counter) (aad_of keys.authentication) (text_in keys title counter apdu)

pub content_parts : (keys : Keys) (title : List ℕ) (counter : ℕ) (apdu : List ℕ) → counter < 2 ^ 32
    → IsContent counter (text_in keys title counter apdu) (mac_in keys title counter apdu) (content_of keys title counter apdu)
unfolding content_of
content_parts keys title counter apdu fits = record {
  counter_fits = fits;
  mac_size = length-tag_of keys.encryption (iv_of title counter) (aad_of keys.authentication) (text_in keys title counter apdu);
  parts = refl;
}

content_is : (keys : Keys) (title : List ℕ) (counter : ℕ) (apdu : List ℕ)
    → content_of keys title counter apdu ≡ ((0x30 ∷ to_be_bytes w32 counter) ++ text_in keys title counter apdu) ++ mac_in keys title counter apdu
unfolding content_of
content_is keys title counter apdu = refl

five_more : (counter : ℕ) (text mac : List ℕ) → length (((0x30 ∷ to_be_bytes w32 counter) ++ text) ++ mac) ≡ 5 + length (text ++ mac)
five_more counter text mac = omega arith

pub length-content_of : (keys : Keys) (title : List ℕ) (counter : ℕ) (apdu : List ℕ) → length (content_of keys title counter apdu) ≡ 17 + length apdu
length-content_of keys title counter apdu =
    let text : List ℕ = text_in keys title counter apdu in
    let mac : List ℕ = mac_in keys title counter apdu in
    let twelve : length mac ≡ 12 = length-tag_of keys.encryption (iv_of title counter) (aad_of keys.authentication) text in
    let same : length text ≡ length apdu = length-ciphertext_of keys.encryption (iv_of title counter) apdu in
    ap length (content_is keys title counter apdu) ∙ five_more counter text mac ∙ omega (arith, length-append text mac, twelve, same)

-- a content is put together, a part after another
pub content_put : (keys : Keys) (title apdu plain text shown mac iv aad v1 v2 v3 v4 : List ℕ) (counter : ℕ) → plain ≡ apdu → iv ≡ iv_of title counter
    → aad ≡ aad_of keys.authentication → text ≡ ciphertext_of keys.encryption iv plain → mac ≡ tag_of keys.encryption iv aad text → shown ≡ text
    → v1 ≡ 0x30 ∷ [] → v2 ≡ v1 ++ to_be_bytes w32 counter → v3 ≡ v2 ++ shown → v4 ≡ v3 ++ mac → v4 ≡ content_of keys title counter apdu
content_put keys title apdu plain text shown mac iv aad v1 v2 v3 v4 counter ep ei ea et em es e1 e2 e3 e4 =
    let ciphered : text ≡ text_in keys title counter apdu =
    et ∙ ap (λ (v : List ℕ). ciphertext_of keys.encryption v plain) ei ∙ ap (ciphertext_of keys.encryption (iv_of title counter)) ep in
    let tagged : mac ≡ mac_in keys title counter apdu =
    em ∙ ap (λ (v : List ℕ). tag_of keys.encryption v aad text) ei ∙ ap (λ (a : List ℕ). tag_of keys.encryption (iv_of title counter) a text) ea
    ∙ ap (tag_of keys.encryption (iv_of title counter) (aad_of keys.authentication)) ciphered in
    let front : v2 ≡ 0x30 ∷ to_be_bytes w32 counter = e2 ∙ ap (λ (v : List ℕ). v ++ to_be_bytes w32 counter) e1 in
    e4 ∙ ap (λ (v : List ℕ). v ++ mac) (e3 ∙ ap (λ (v : List ℕ). v ++ shown) front ∙ ap (λ (v : List ℕ). (0x30 ∷ to_be_bytes w32 counter) ++ v) (es ∙ ciphered))
    ∙ ap (λ (v : List ℕ). ((0x30 ∷ to_be_bytes w32 counter) ++ text_in keys title counter apdu) ++ v) tagged ∙ sym (content_is keys title counter apdu)

-- what a vector shows of a text that was put over another one
pub shown_whole : (text old : List ℕ) (n : ℕ) → length text ≡ n → take n (text ++ drop (length text) old) ≡ text
shown_whole text old n e = take_at text (drop (length text) old) n e

-- what a pattern leaves behind its first elements
pub rest_is : (n : ℕ) (xs : List ℕ) → take (length xs - n) (drop n xs) ≡ drop n xs
rest_is n xs = take_all (length xs - n) (drop n xs) (omega (arith, length-drop n xs))
