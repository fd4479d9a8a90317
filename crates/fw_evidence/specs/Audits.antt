-- Public vocabulary: why what is found of a meter doesn't fit.
use Rattle.std.specs.Prelude.{◌≡◌, ℕ, List, Some, slice_get}
use Rattle.fw_image.specs.Meter.{Image, Meter}
use Rattle.fw_audit.specs.Departures.{IsDeparture, MayWantMemory}
use Rattle.fw_audit.specs.Log.{Item}
use Rattle.fw_audit.specs.Stands.{ended, IsLog, IsMeterLog}
use Rattle.fw_audit.specs.declared.error.Departure.{Departure}
use Rattle.fw_audit.specs.declared.error.Rule.{Rule}
use Rattle.fw_evidence.specs.Captures.{IsLogOf, IsNoLog}
use Rattle.fw_evidence.specs.declared.error.EvidenceError.{EvidenceError}
use Rattle.fw_evidence.specs.declared.error.EvidenceError.TheVariants as errors
use Rattle.fw_evidence.specs.declared.error.Mark.{Mark}
use Rattle.fw_evidence.specs.declared.site.Site.{Site}

-- the capture is a log that departs from what the meter does, first at the item of this mark, which breaks this rule
pub record DepartsAt (site : Site) (begin : Meter) (capture : List ℕ) (mark : Mark) (rule : Rule) : Type 0 where
  pub log : List Item
  pub marks : List Mark
  pub is : IsLogOf site capture log marks
  pub departure : Departure
  pub departs : IsDeparture site.heads.now (ended begin) log departure
  pub broken : departure.rule ≡ rule
  pub there : slice_get marks departure.at ≡ Some mark

-- the capture is a log of the meter, and with it no meter leaves the store that was found
pub record LeavesOther (site : Site) (begin : Meter) (capture : List ℕ) (end : Meter) : Type 0 where
  pub log : List Item
  pub marks : List Mark
  pub is : IsLogOf site capture log marks
  pub own : IsLog site.heads.now begin log
  pub none : (images : List Image) → IsMeterLog site.heads.now begin log images end → ⊥

-- the capture is a log that begins with a start, and memory may be wanted for it
pub record MayWant (site : Site) (capture : List ℕ) : Type 0 where
  pub log : List Item
  pub marks : List Mark
  pub is : IsLogOf site capture log marks
  pub starts : MayWantMemory log

abbrev pub IsUnfit : Site → Meter → List ℕ → Meter → EvidenceError → Type 0
IsUnfit site begin capture end (errors.NoLog error) = IsNoLog site capture error
IsUnfit site begin capture end (errors.Departs mark rule) = DepartsAt site begin capture mark rule
IsUnfit site begin capture end errors.OtherStore = LeavesOther site begin capture end
IsUnfit site begin capture end errors.OutOfMemory = MayWant site capture
