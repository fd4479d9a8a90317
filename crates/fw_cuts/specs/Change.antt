-- Public vocabulary: what of a file a write changes.
use Rattle.std.specs.Prelude.{◌≡◌, ◌≢◌, ℕ, List, length}
use Rattle.fw_cuts.specs.Write.{Write}
use Rattle.fw_cuts.specs.Sectors.{DifferInOneSector, ChangesOneSector}
use Rattle.fw_cuts.specs.declared.undo.sectors.Difference.{Difference}
use Rattle.fw_cuts.specs.declared.undo.sectors.Difference.TheVariants as difference
use Rattle.fw_cuts.specs.declared.undo.write.Change.{Change}
use Rattle.fw_cuts.specs.declared.undo.write.Change.TheVariants as change

-- in what the bytes of a part before a write and after it differ: in nothing, in one sector alone, or in more
abbrev pub IsDifference : Difference → ℕ → List ℕ → List ℕ → Type 0
IsDifference difference.Nothing at before after = after ≡ before
IsDifference (difference.OneSector sector) at before after = DifferInOneSector at before after × (after ≢ before)
IsDifference difference.More at before after = ¬ DifferInOneSector at before after

-- what a write changes: one sector at most, of one part, or more
abbrev pub IsChange : Change → Write → Type 0
IsChange change.FirstPart w = (w.last_after ≡ w.last_before) × DifferInOneSector w.at w.before w.after
IsChange change.LastPart w = (w.after ≡ w.before) × (length w.last_after ≡ length w.last_before)
    × DifferInOneSector w.last_at w.last_before w.last_after
IsChange change.More w = ¬ ChangesOneSector w
