-- Public vocabulary: what datagrams are under links, whoever of their ends sealed them.
use Rattle.std.specs.Prelude.{◌≡◌, ℕ, List, [], ◌∷◌, Contains, flat_map}
use Rattle.fw_wrapper.specs.Wrapper.{Wraps, wrapped}
use Rattle.fw_seal.specs.Sealing.{Ends, HasCounter, IsSealing}
use Rattle.fw_keys.specs.declared.entry.Entry.{Entry}
use Rattle.fw_keys.specs.Links.{ends_of}

-- ---- the links of a key file

-- a link, as its other end has it
abbrev pub turned : Ends → Ends
turned ends = record ends { own = ends.other; other = ends.own }

-- the links of a file, each as the end has it that has the file, and then as its other end has it
abbrev pub both_ends : {N : Type 0} → List ℕ → List (Entry N) → List Ends
both_ends {N} own entries = flat_map (λ (entry : Entry N). ends_of own entry.keys ∷ turned (ends_of own entry.keys) ∷ []) entries

-- ---- datagrams

-- These bytes carry the sealing of an APDU, with this counter, by the other end of one of these links. The plain datagram carries the APDU in
-- its place, between the same wPorts.
pub record OpensTo (links : List Ends) (wire : List ℕ) (counter : ℕ) (plain : List ℕ) : Type 0 where
  pub ends : Ends
  pub among : Contains links ends
  pub source : ℕ
  pub dest : ℕ
  pub sealing : List ℕ
  pub wraps : Wraps wire source dest sealing
  pub apdu : List ℕ
  pub opens : IsSealing ends.keys ends.other counter apdu sealing
  pub plain_is : plain ≡ wrapped source dest apdu

-- they carry no sealing by the other end of any of these links
abbrev pub OpensNot : List Ends → List ℕ → Type 0
OpensNot links wire = (counter : ℕ) (plain : List ℕ) → ¬ OpensTo links wire counter plain

-- a datagram carries bytes that have the form of a sealing, under whatever keys, with this counter
pub record LooksSealed (wire : List ℕ) (counter : ℕ) : Type 0 where
  pub source : ℕ
  pub dest : ℕ
  pub sealing : List ℕ
  pub wraps : Wraps wire source dest sealing
  pub form : HasCounter sealing counter

-- it carries none
abbrev pub LooksPlain : List ℕ → Type 0
LooksPlain wire = (counter : ℕ) → ¬ LooksSealed wire counter
