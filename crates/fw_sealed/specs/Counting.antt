-- Public vocabulary: no counter and no initialization vector is used twice.
use Rattle.std.specs.Prelude.{◌≡◌, ◌≢◌, ⊤, ℕ, ◌<◌, ◌^◌, List, [], ◌∷◌, length, Contains}
use Rattle.fw_seal.specs.Sealing.{iv_of}
use Rattle.fw_world.specs.declared.datagram.Direction.TheVariants.{ToMeter, ToHead}
use Rattle.fw_sealed.specs.Links.{Links, Seal, sealer}

-- whatever an end sealed, on whichever of its links, its counter is above those of all that this end sealed before
abbrev pub CountersRise : List Seal → Type 0
CountersRise [] = ⊤
CountersRise (s ∷ earlier) =
    ((t : Seal) → Contains earlier t → t.direction ≡ s.direction → sealer t ≡ sealer s → t.counter < s.counter) × CountersRise earlier

-- the initialization vector of a sealing
abbrev pub iv_on : Links → Seal → List ℕ
iv_on links s = iv_of (links.title s.head s.meter s.direction) s.counter

-- titles have eight bytes, and the two ends of a link have different ones
pub record AreTitles (links : Links) : Type 0 where
  pub size : (s : Seal) → length (links.title s.head s.meter s.direction) ≡ 8
  pub differ : (head meter : ℕ) → links.title head meter ToMeter ≢ links.title head meter ToHead

-- counters have four bytes
abbrev pub HaveFourBytes : List Seal → Type 0
HaveFourBytes seals = (s : Seal) → Contains seals s → s.counter < 2 ^ 32

-- no initialization vector stands twice under the keys of a link
abbrev pub IvsDiffer : Links → List Seal → Type 0
IvsDiffer links [] = ⊤
IvsDiffer links (s ∷ earlier) =
    ((t : Seal) → Contains earlier t → t.head ≡ s.head → t.meter ≡ s.meter → iv_on links t ≢ iv_on links s) × IvsDiffer links earlier
