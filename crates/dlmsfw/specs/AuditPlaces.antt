-- What a fault of an audit is about, and why it came.
use Rattle.std.specs.Prelude.{ℕ, List, ◌++◌, Option, Some, codes, string_bytes}
use Rattle.std.specs.Option.{option_map}
use Rattle.fw_auditor.specs.declared.error.Unaudited.{Unaudited}
use Rattle.fw_auditor.specs.declared.error.Unaudited.TheVariants.{BadList, ListFault}
use Rattle.fw_auditor.specs.declared.files.AuditFault.{AuditFault}
use Rattle.fw_disk.specs.declared.reason.Reason.{Reason}
use Rattle.dlmsfw.specs.Refusals.{reason_told}
use Rattle.dlmsfw.specs.declared.audit_places.AuditPlace.{AuditPlace}
use Rattle.dlmsfw.specs.declared.audit_places.AuditPlace.TheVariants as place
use Rattle.dlmsfw.specs.declared.refusal.Refusal.{Refusal}
use Rattle.dlmsfw.specs.declared.refusal.Refusal.TheVariants.{Line}

-- the option with its value, or the path of a file of a meter or of a head end
abbrev pub audit_place_text : AuditPlace → List ℕ
audit_place_text (place.List file) = codes "--audited " ++ file.now
audit_place_text (place.File file) = file.now

-- what is told of this fault: the list, if it is one of that, and else the file that came with it
abbrev pub audit_place_in : Unaudited → Option (List ℕ) → List ℕ → Option (List ℕ)
audit_place_in ListFault file list = Some (codes "--audited " ++ list)
audit_place_in (BadList line why) file list = Some (codes "--audited " ++ list)
audit_place_in fault file list = file

abbrev pub audit_place_of : AuditFault → List ℕ → Option (List ℕ)
audit_place_of ended list = audit_place_in ended.fault (option_map (λ s. string_bytes s) ended.file) list

-- and why it came: what is wrong with a line of the list, or the reason that came with it
abbrev pub audit_refusal_in : Unaudited → Option Reason → Option Refusal
audit_refusal_in (BadList line why) reason = Some (Line why)
audit_refusal_in fault reason = reason_told reason

abbrev pub audit_refusal_of : AuditFault → Option Refusal
audit_refusal_of ended = audit_refusal_in ended.fault ended.reason
