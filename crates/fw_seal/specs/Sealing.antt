-- APDUs sealed by security suite 0 with service-specific global ciphering, authenticated and encrypted (IEC 62056-5-3): a relation between
-- whole byte strings and what they carry, from whom.
-- Own rule of this profile: a length may have a longer form than it needs, as in any A-XDR here.
use Rattle.std.specs.Prelude.{◌≡◌, ℕ, ◌+◌, ◌^◌, ◌<◌, ◌==◌, List, ◌∷◌, ◌++◌, length, slice_index, Option, Some, None, if◌then◌else◌}
use Rattle.std.specs.Int.{w32, to_be_bytes}
use Rattle.fw_aes.specs.Gcm.{ciphertext_of, tag_of}
use Rattle.fw_axdr.specs.Spelling.{IsLength, short_length}

-- the keys of a link: the global unicast encryption key, and the authentication key, of 16 bytes each
pub record Keys : Type 0 where
  pub encryption : List ℕ
  pub authentication : List ℕ

-- what an end knows of a link: its keys, its own system title, and that of the other end, of 8 bytes each
pub record Ends : Type 0 where
  pub keys : Keys
  pub own : List ℕ
  pub other : List ℕ

-- the invocation counters from `next` on and below `end`
pub record CounterRange : Type 0 where
  pub next : ℕ
  pub end : ℕ

-- one is taken, the lowest
pub record IsTaken (before after : CounterRange) : Type 0 where
  pub left : before.next < before.end
  pub goes_on : after ≡ record before { next = before.next + 1 }

-- the tag of the sealings of APDUs with this tag, if there are such: of GET-request, SET-request, ACTION-request, GET-response,
-- SET-response and ACTION-response it is that of glo-get-request, and so on
abbrev pub sealed_tag : ℕ → Option ℕ
sealed_tag tag =
    if tag == 0xc0 then Some 0xc8 else (if tag == 0xc1 then Some 0xc9 else (if tag == 0xc3 then Some 0xcb else
    (if tag == 0xc4 then Some 0xcc else (if tag == 0xc5 then Some 0xcd else (if tag == 0xc7 then Some 0xcf else None)))))

-- the same, of an APDU, whose first byte is its tag
abbrev pub tag_for : List ℕ → Option ℕ
tag_for apdu = sealed_tag (slice_index apdu 0)

-- the security control byte: suite 0, authenticated and encrypted, with the global unicast key
abbrev pub security_control : ℕ
security_control = 0x30

-- the initialization vector: the system title of the end that seals, and the invocation counter
abbrev pub iv_of : List ℕ → ℕ → List ℕ
iv_of title counter = title ++ to_be_bytes w32 counter

-- the additional data: the security control byte, and the authentication key
abbrev pub aad_of : List ℕ → List ℕ
aad_of authentication = security_control ∷ authentication

-- a content: the security control byte, the invocation counter, a ciphertext, and an authentication tag of 12 bytes
pub record IsContent (counter : ℕ) (text mac content : List ℕ) : Type 0 where
  pub counter_fits : counter < 2 ^ 32
  pub mac_size : length mac ≡ 12
  pub parts : content ≡ security_control ∷ to_be_bytes w32 counter ++ text ++ mac

-- it is none
abbrev pub NoContent : List ℕ → Type 0
NoContent content = (counter : ℕ) (text mac : List ℕ) → IsContent counter text mac content → ⊥

-- the content of the sealings of an APDU, under these keys, by the end with this title, with this counter
unfoldable pub content_of : Keys → List ℕ → ℕ → List ℕ → List ℕ
content_of keys title counter apdu =
    let text = ciphertext_of keys.encryption (iv_of title counter) apdu in
    security_control ∷ to_be_bytes w32 counter ++ text ++ tag_of keys.encryption (iv_of title counter) (aad_of keys.authentication) text

-- bytes that are a tag, a length in any form, and a content which has it
pub record IsFrame (tag : ℕ) (content bytes : List ℕ) : Type 0 where
  pub size : length content < 2 ^ 32
  pub len : List ℕ
  pub is_length : IsLength len (length content)
  pub parts : bytes ≡ tag ∷ len ++ content

-- they are none
abbrev pub NoFrame : List ℕ → Type 0
NoFrame bytes = (tag : ℕ) (content : List ℕ) → IsFrame tag content bytes → ⊥

-- these bytes are a sealing of an APDU, under these keys, by the end with this title, with this counter
pub record IsSealing (keys : Keys) (title : List ℕ) (counter : ℕ) (apdu bytes : List ℕ) : Type 0 where
  pub counter_fits : counter < 2 ^ 32
  pub tag : ℕ
  pub named : tag_for apdu ≡ Some tag
  pub framed : IsFrame tag (content_of keys title counter apdu) bytes

-- they are none
abbrev pub NoSealing : Keys → List ℕ → List ℕ → Type 0
NoSealing keys title bytes = (counter : ℕ) (apdu : List ℕ) → IsSealing keys title counter apdu bytes → ⊥

-- they are the one with the shortest length, which is made
pub record IsShortSealing (keys : Keys) (title : List ℕ) (counter : ℕ) (apdu bytes : List ℕ) : Type 0 where
  pub counter_fits : counter < 2 ^ 32
  pub size : length (content_of keys title counter apdu) < 2 ^ 32
  pub tag : ℕ
  pub named : tag_for apdu ≡ Some tag
  pub parts : bytes ≡ tag ∷ short_length (length (content_of keys title counter apdu)) ++ content_of keys title counter apdu

-- they have the form of a sealing, under whatever keys
pub record HasForm (bytes : List ℕ) : Type 0 where
  pub tag : ℕ
  pub content : List ℕ
  pub framed : IsFrame tag content bytes
  pub counter : ℕ
  pub text : List ℕ
  pub mac : List ℕ
  pub filled : IsContent counter text mac content

-- the same, with this counter
abbrev pub HasCounter : List ℕ → ℕ → Type 0
HasCounter bytes counter = (form : HasForm bytes) × (form.counter ≡ counter)
