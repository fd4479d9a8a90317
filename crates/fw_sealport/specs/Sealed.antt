-- Public vocabulary: datagrams that carry sealings, and what they are in plain words.
use Rattle.std.specs.Prelude.{◌≡◌, ℕ, List}
use Rattle.fw_wrapper.specs.Wrapper.{Wraps, wrapped, wport}
use Rattle.fw_seal.specs.Sealing.{Ends, HasForm, IsSealing, IsShortSealing, Keys}

-- The datagram of an APDU in plain words, as a daemon has it: it goes from and to wPort 1, whatever stands on the wire.
abbrev pub plain_of : List ℕ → List ℕ
plain_of apdu = wrapped wport wport apdu

-- ---- what comes

-- These bytes carry, from and to whatever wPorts, a sealing of this APDU, under these keys, by the end with this title, with this counter.
pub record Opens (keys : Keys) (title : List ℕ) (counter : ℕ) (apdu wire : List ℕ) : Type 0 where
  pub source : ℕ
  pub dest : ℕ
  pub sealing : List ℕ
  pub wraps : Wraps wire source dest sealing
  pub opens : IsSealing keys title counter apdu sealing

-- they carry none
abbrev pub OpensNot : Keys → List ℕ → List ℕ → Type 0
OpensNot keys title wire = (counter : ℕ) (apdu : List ℕ) → ¬ Opens keys title counter apdu wire

-- they carry what has the form of a sealing, under whatever keys
pub record MayOpen (wire : List ℕ) : Type 0 where
  pub source : ℕ
  pub dest : ℕ
  pub sealing : List ℕ
  pub wraps : Wraps wire source dest sealing
  pub form : HasForm sealing

-- ---- what is sent

-- These bytes are the datagram that this end sends of this APDU: from and to wPort 1, its sealing with this counter.
pub record Seals (ends : Ends) (counter : ℕ) (apdu wire : List ℕ) : Type 0 where
  pub sealing : List ℕ
  pub sealed : IsShortSealing ends.keys ends.own counter apdu sealing
  pub wraps : Wraps wire wport wport sealing

-- none are that, whatever the counter: its service isn't sealed, or its sealing is too long for a datagram
abbrev pub NoneSeals : Ends → List ℕ → Type 0
NoneSeals ends apdu = (counter : ℕ) (wire : List ℕ) → ¬ Seals ends counter apdu wire

-- they are what is sent in place of a plain datagram
pub record SealsPlain (ends : Ends) (counter : ℕ) (datagram wire : List ℕ) : Type 0 where
  pub apdu : List ℕ
  pub plain_is : datagram ≡ plain_of apdu
  pub seals : Seals ends counter apdu wire

-- nothing can be sent in place of a datagram: it is no plain one, or its APDU has no such bytes
abbrev pub HasNoSealing : Ends → List ℕ → Type 0
HasNoSealing ends datagram = (counter : ℕ) (wire : List ℕ) → ¬ SealsPlain ends counter datagram wire

-- a datagram is a plain one
abbrev pub IsPlain : List ℕ → Type 0
IsPlain datagram = (apdu : List ℕ) × Wraps datagram wport wport apdu
