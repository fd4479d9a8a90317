-- The record of the item at which a log departs.
use Rattle.std.proofs.Common.{◌≡◌, ◌<◌, ℕ, zero, suc, List, [], ◌∷◌, length, slice_get, slice_index_or, Some, refl, sym, ap, subst, arith}
use Rattle.fw_image.specs.Meter.{Meter}
use Rattle.fw_audit.specs.Departures.{IsRefused}
use Rattle.fw_audit.specs.Log.{Item}
use Rattle.fw_audit.specs.declared.error.AuditError.{AuditError}
use Rattle.fw_audit.specs.declared.error.AuditError.TheVariants as audit
use Rattle.fw_evidence.specs.Audits.{IsUnfit}
use Rattle.fw_evidence.specs.Captures.{IsLogOf}
use Rattle.fw_evidence.specs.Entries.{entries_of}
use Rattle.fw_evidence.specs.Private.{IsMarked, IsWithin}
use Rattle.fw_evidence.specs.declared.error.EvidenceError.{EvidenceError}
use Rattle.fw_evidence.specs.declared.error.Mark.{Mark}
use Rattle.fw_evidence.specs.declared.site.Site.{Site}
use Rattle.fw_evidence.proofs.Reading.{same_size}

there_within : (log : List Item) (k : ℕ) (item : Item) → slice_get log k ≡ Some item → k < length log
there_within [] k item there = absurd cc
there_within (first ∷ log) zero item there = omega arith
there_within (first ∷ log) (suc k) item there = let rest = there_within log k item there in omega arith

pub as_many : (log : List Item) → length (entries_of log) ≡ length log
as_many [] = refl
as_many (item ∷ log) = ap suc (as_many log)

pub within : (site : Site) (begin end : Meter) (capture : List ℕ) (log : List Item) (marks : List Mark) (error : AuditError) → IsLogOf site capture log marks
    → IsRefused site.heads.now begin log end error → IsWithin (length marks) error
within site begin end capture log marks (audit.Departs d) is refused =
    let size = same_size site 0 is.read.records (entries_of log) marks is.read.say in
    let there = there_within log d.at refused.item refused.there in
    omega (arith, size, as_many log, there)
within site begin end capture log marks audit.OtherStore is refused = tt
within site begin end capture log marks audit.OutOfMemory is refused = tt

pub at_mark : (marks : List Mark) (k : ℕ) (other mark : Mark) → k < length marks → mark ≡ slice_index_or marks k other → slice_get marks k ≡ Some mark
at_mark [] k other mark inside is = absurd (omega arith)
at_mark (first ∷ marks) zero other mark inside is = ap Some (sym is)
at_mark (first ∷ marks) (suc k) other mark inside is = at_mark marks k other mark (omega arith) is

pub unfit : (site : Site) (begin end : Meter) (capture : List ℕ) (log : List Item) (marks : List Mark) (error : AuditError) (found : EvidenceError)
    → IsLogOf site capture log marks → IsRefused site.heads.now begin log end error → IsMarked marks error found → IsUnfit site begin capture end found
unfit site begin end capture log marks (audit.Departs d) found is refused (mark, same, there) =
    subst (λ (e : EvidenceError). IsUnfit site begin capture end e) (sym same)
    (record { log = log; marks = marks; is = is; departure = d; departs = refused; broken = refl; there = there })
unfit site begin end capture log marks audit.OtherStore found is refused same =
    subst (λ (e : EvidenceError). IsUnfit site begin capture end e) (sym same)
    (record { log = log; marks = marks; is = is; own = refused.0; none = refused.1 })
unfit site begin end capture log marks audit.OutOfMemory found is refused same =
    subst (λ (e : EvidenceError). IsUnfit site begin capture end e) (sym same) (record { log = log; marks = marks; is = is; starts = refused })
