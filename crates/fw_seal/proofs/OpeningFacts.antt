-- What opens is a sealing, and what is refused is none.
use Rattle.std.proofs.Common.{◌≡◌, ◌≢◌, ℕ, List, ◌∷◌, ◌++◌, Option, Some, None, sym, ap, ◌∙◌, subst}
use Rattle.std.specs.Int.{w32, to_be_bytes}
use Rattle.fw_aes.specs.Gcm.{ciphertext_of, plaintext_of, tag_of}
use Rattle.fw_aes.specs.Laws.{OpensWhatWasSealed}
use Rattle.fw_seal.specs.Sealing.{IsContent, IsFrame, IsSealing, Keys, NoContent, NoFrame, NoSealing, aad_of, content_of, iv_of, tag_for}
use Rattle.fw_seal.specs.Laws.{OneSealing}
use Rattle.fw_seal.proofs.ContentFacts.{content_parts, mac_in, one_content, text_in}
use Rattle.fw_seal.proofs.FrameFacts.{one_frame}

content_same : (keys : Keys) (title apdu text mac content : List ℕ) (counter : ℕ) → IsContent counter text mac content → text ≡ text_in keys title counter apdu
    → mac ≡ mac_in keys title counter apdu → content ≡ content_of keys title counter apdu
unfolding content_of
content_same keys title apdu text mac content counter is et em =
    is.parts ∙ ap (λ (xs : List ℕ). ((0x30 ∷ to_be_bytes w32 counter) ++ xs) ++ mac) et
    ∙ ap (λ (xs : List ℕ). ((0x30 ∷ to_be_bytes w32 counter) ++ text_in keys title counter apdu) ++ xs) em

pub opened : OpensWhatWasSealed → (keys : Keys) (title bytes content text mac items : List ℕ) (tag counter : ℕ) → IsFrame tag content bytes → IsContent counter text mac content
    → mac ≡ tag_of keys.encryption (iv_of title counter) (aad_of keys.authentication) text → items ≡ plaintext_of keys.encryption (iv_of title counter) text
    → tag_for items ≡ Some tag → IsSealing keys title counter items bytes
opened law keys title bytes content text mac items tag counter framed filled em ei named =
    let back : text ≡ text_in keys title counter items =
    sym (law keys.encryption (iv_of title counter) text) ∙ ap (ciphertext_of keys.encryption (iv_of title counter)) (sym ei) in
    let own : mac ≡ mac_in keys title counter items = em ∙ ap (tag_of keys.encryption (iv_of title counter) (aad_of keys.authentication)) back in
    let whole : content ≡ content_of keys title counter items = content_same keys title items text mac content counter filled back own in
    record { counter_fits = filled.counter_fits; tag = tag; named = named; framed = subst (λ (xs : List ℕ). IsFrame tag xs bytes) whole framed }

-- the parts of a sealing
pub sealing_parts : (keys : Keys) (title apdu bytes content text mac : List ℕ) (tag counter number : ℕ) → IsSealing keys title number apdu bytes
    → IsFrame tag content bytes → IsContent counter text mac content
    → (counter ≡ number) × (text ≡ text_in keys title number apdu) × (mac ≡ mac_in keys title number apdu) × (tag_for apdu ≡ Some tag)
sealing_parts keys title apdu bytes content text mac tag counter number is framed filled =
    let frames = one_frame tag is.tag content (content_of keys title number apdu) bytes framed is.framed in
    let own = content_parts keys title number apdu is.counter_fits in
    let same : IsContent counter text mac (content_of keys title number apdu) = subst (IsContent counter text mac) frames.1 filled in
    let parts = one_content (content_of keys title number apdu) text mac (text_in keys title number apdu) (mac_in keys title number apdu) counter number same own in
    (parts.0, parts.1, parts.2, is.named ∙ ap (λ (n : ℕ). Some n) (sym frames.0))

-- the content of a sealing has parts
pub sealing_content : (keys : Keys) (title apdu bytes content : List ℕ) (tag number : ℕ) → IsSealing keys title number apdu bytes → IsFrame tag content bytes
    → IsContent number (text_in keys title number apdu) (mac_in keys title number apdu) content
sealing_content keys title apdu bytes content tag number is framed =
    let frames = one_frame tag is.tag content (content_of keys title number apdu) bytes framed is.framed in
    subst (IsContent number (text_in keys title number apdu) (mac_in keys title number apdu)) (sym frames.1) (content_parts keys title number apdu is.counter_fits)

-- the tag of a sealing is right
pub sealing_mac : (keys : Keys) (title apdu bytes content text mac : List ℕ) (tag counter number : ℕ) → IsSealing keys title number apdu bytes
    → IsFrame tag content bytes → IsContent counter text mac content → mac ≡ tag_of keys.encryption (iv_of title counter) (aad_of keys.authentication) text
sealing_mac keys title apdu bytes content text mac tag counter number is framed filled =
    let parts = sealing_parts keys title apdu bytes content text mac tag counter number is framed filled in
    parts.2 ∙ sym (ap (λ (n : ℕ). tag_of keys.encryption (iv_of title n) (aad_of keys.authentication) text) parts.0
    ∙ ap (tag_of keys.encryption (iv_of title number) (aad_of keys.authentication)) parts.1)

-- what is deciphered is the APDU
pub sealing_apdu : OpensWhatWasSealed → (keys : Keys) (title apdu bytes content text mac items : List ℕ) (tag counter number : ℕ) → IsSealing keys title number apdu bytes
    → IsFrame tag content bytes → IsContent counter text mac content → items ≡ plaintext_of keys.encryption (iv_of title counter) text → items ≡ apdu
sealing_apdu law keys title apdu bytes content text mac items tag counter number is framed filled ei =
    let parts = sealing_parts keys title apdu bytes content text mac tag counter number is framed filled in
    ei ∙ ap (λ (n : ℕ). plaintext_of keys.encryption (iv_of title n) text) parts.0 ∙ ap (plaintext_of keys.encryption (iv_of title number)) parts.1
    ∙ law keys.encryption (iv_of title number) apdu

-- ---- why bytes are no sealing

-- they are no frame
pub no_frame : (keys : Keys) (title bytes : List ℕ) → NoFrame bytes → NoSealing keys title bytes
no_frame keys title bytes none number apdu is = none is.tag (content_of keys title number apdu) is.framed

-- what is in the frame is no content
pub no_content : (keys : Keys) (title bytes content : List ℕ) (tag : ℕ) → IsFrame tag content bytes → NoContent content
    → NoSealing keys title bytes
no_content keys title bytes content tag framed none number apdu is =
    none number (text_in keys title number apdu) (mac_in keys title number apdu) (sealing_content keys title apdu bytes content tag number is framed)

-- its tag is wrong
pub wrong_mac : (keys : Keys) (title bytes content text mac : List ℕ) (tag counter : ℕ) → IsFrame tag content bytes → IsContent counter text mac content
    → mac ≢ tag_of keys.encryption (iv_of title counter) (aad_of keys.authentication) text → NoSealing keys title bytes
wrong_mac keys title bytes content text mac tag counter framed filled ne number apdu is =
    ne (sealing_mac keys title apdu bytes content text mac tag counter number is framed filled)

abbrev some_value : Option ℕ → ℕ
some_value (Some n) = n
some_value None = 0

-- a tag that is another one, and none
pub not_other : (r : Option ℕ) (found tag : ℕ) → r ≡ Some found → (found ≡ tag → ⊥) → r ≡ Some tag → ⊥
not_other r found tag is ne e = ne (ap (λ (o : Option ℕ). some_value o) (sym is ∙ e))

pub not_none : (r : Option ℕ) (tag : ℕ) → r ≡ None → r ≡ Some tag → ⊥
not_none r tag is e =
    let both = sym is ∙ e in
    cc

-- what was deciphered has another tag
pub other_tag : OpensWhatWasSealed → (keys : Keys) (title bytes content text mac items : List ℕ) (tag counter : ℕ) → IsFrame tag content bytes → IsContent counter text mac content
    → items ≡ plaintext_of keys.encryption (iv_of title counter) text → (tag_for items ≡ Some tag → ⊥) → NoSealing keys title bytes
other_tag law keys title bytes content text mac items tag counter framed filled ei ne number apdu is =
    let same = sealing_apdu law keys title apdu bytes content text mac items tag counter number is framed filled ei in
    ne (ap tag_for same ∙ (sealing_parts keys title apdu bytes content text mac tag counter number is framed filled).3)

pub one_sealing : OpensWhatWasSealed → OneSealing
one_sealing law keys title counter number apdu more bytes is other =
    let content : List ℕ = content_of keys title counter apdu in
    let filled = content_parts keys title counter apdu is.counter_fits in
    let parts = sealing_parts keys title more bytes content (text_in keys title counter apdu) (mac_in keys title counter apdu) is.tag counter number other is.framed filled in (
      parts.0,
      sealing_apdu law keys title more bytes content (text_in keys title counter apdu) (mac_in keys title counter apdu) apdu is.tag counter number other is.framed filled
          (sym (law keys.encryption (iv_of title counter) apdu)),
    )
