-- Public vocabulary: the laws of the journal and of what a power cut leaves. They speak of definitions alone.
use Rattle.std.specs.Prelude.{◌≡◌, ◌⊎◌, ℕ, List}
use Rattle.fw_cuts.specs.Write.{Write, IsWrite, journal_bytes}
use Rattle.fw_cuts.specs.Sectors.{IsOn, Leaves, Mends, ChangesOneSector, after_of}

-- a byte string is at most one write's journal
abbrev pub OneWrite : Type 0
OneWrite = (v w : Write) → IsWrite v → IsWrite w → journal_bytes v ≡ journal_bytes w → v ≡ w

-- whatever sectors of a write are on the disk, recovery makes of them the file of before or that of after, whole
abbrev pub EachCutIsMended : Type 0
EachCutIsMended = (w : Write) (file left made : List ℕ) → IsWrite w → IsOn w file → Leaves w file left → Mends w left made
    → (made ≡ file) ⊎ (made ≡ after_of w file)

-- of a write that changes one sector a disk has all or nothing: what is left needs no recovery
abbrev pub OneSectorIsWhole : Type 0
OneSectorIsWhole = (w : Write) (file left : List ℕ) → IsWrite w → IsOn w file → ChangesOneSector w → Leaves w file left
    → (left ≡ file) ⊎ (left ≡ after_of w file)
