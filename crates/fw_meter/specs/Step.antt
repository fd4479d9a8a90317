-- Public vocabulary: the step of a meter on the meaning of a request, which joins what a request asks (fw_server) to what an operation
-- of Image transfer does (fw_image).
use Rattle.std.specs.Prelude.{◌≡◌, ℕ, zero, suc, Bool, true, false, Option, Some, None, if◌then◌else◌, ◌⊎◌}
use Rattle.fw_names.specs.Name.{Name, SpellsName}
use Rattle.fw_blocks.specs.Members.{first_missing}
use Rattle.fw_server.specs.Meaning as meaning
use Rattle.fw_server.specs.Meaning.{Meaning, instance_bytes, code_number}
use Rattle.fw_server.specs.declared.code.ResultCode.{ResultCode}
use Rattle.fw_server.specs.declared.code.ResultCode.TheVariants as code
use Rattle.fw_server.specs.declared.object.Reading.{Reading}
use Rattle.fw_server.specs.declared.object.Reading.TheVariants as attribute
use Rattle.fw_server.specs.declared.outcome.ImageInfo.{ImageInfo}
use Rattle.fw_server.specs.declared.outcome.Answer.{Answer}
use Rattle.fw_server.specs.declared.outcome.Answer.TheVariants as answer
use Rattle.fw_image.specs.Status.{status_number}
use Rattle.fw_image.specs.Meter.{Meter, Phase, verified, count_of, status_of, marks_of}
use Rattle.fw_image.specs.Step as image
use Rattle.fw_image.specs.Step.{Operation, done, refused, verification_initiated, Step}
use Rattle.fw_image.specs.declared.error.Refusal.{Refusal}
use Rattle.fw_image.specs.declared.error.Refusal.TheVariants.{Disabled, BadInitiate, BadBlock, Missing, Fault, Differs}

-- what a request comes to: a value, or a code; 0 is success
pub data MeterResult : Type 0 where
  got : Answer → MeterResult
  coded : ℕ → MeterResult

-- no call of the store failed: code 1 says that one did
abbrev pub tells_no_fault : MeterResult → Bool
tells_no_fault (coded (suc zero)) = false
tells_no_fault result = true

-- ---- reads

-- the image that an activate would switch to
abbrev pub verified_info : Phase → Option ImageInfo
verified_info (verified goal) = Some (record { size = goal.size; name = goal.name })
verified_info phase = None

-- what is read of a meter
abbrev pub answer_of : Meter → Reading → Answer
answer_of m (attribute.LogicalName object) = answer.LogicalName (record { 0 = instance_bytes object })
answer_of m attribute.BlockSize = answer.BlockSize m.block_size
answer_of m attribute.TransferredBlocks = answer.TransferredBlocks (marks_of m.cells (count_of m))
answer_of m attribute.FirstNotTransferred = answer.FirstNotTransferred (first_missing (marks_of m.cells (count_of m)))
answer_of m attribute.TransferEnabled = answer.TransferEnabled m.enabled
answer_of m attribute.TransferStatus = answer.TransferStatus (status_number (status_of m.phase))
answer_of m attribute.ToActivate = answer.ToActivate (verified_info m.phase)
answer_of m attribute.ActiveName = answer.ActiveName m.running.name
answer_of m attribute.ActiveDigest = answer.ActiveDigest m.running.name.digest

-- ---- operations

-- the codes of refusals (own, over the codes of IEC 62056-5-3)
abbrev pub refusal_code : Refusal → ResultCode
refusal_code Disabled = code.ReadWriteDenied
refusal_code BadInitiate = code.OtherReason
refusal_code BadBlock = code.OtherReason
refusal_code Missing = code.TemporaryFailure
refusal_code Fault = code.HardwareFault
refusal_code Differs = code.OtherReason

-- an operation's code: a verification that goes on is reported as one that is asked for too early
abbrev pub operation_code : image.OperationOutcome → ℕ
operation_code done = code_number code.Success
operation_code (refused refusal) = code_number (refusal_code refusal)
operation_code verification_initiated = code_number code.TemporaryFailure

-- an operation is made, and its code returned
abbrev pub Operates : Bool → Meter → Operation → MeterResult → Meter → Type 0
Operates honest old operation result new = (made : image.OperationOutcome) × Step honest old operation made new × (result ≡ coded (operation_code made))

-- From old, a meter that is asked this has this result, and becomes new. An initiate whose identifier is no name is refused as one whose
-- name is no offer.
abbrev pub MeterStep : Bool → Meter → Meaning → MeterResult → Meter → Type 0
MeterStep honest old (meaning.read reading) result new = (result ≡ got (answer_of old reading)) × (new ≡ old)
MeterStep honest old (meaning.refused refusal) result new = (result ≡ coded (code_number refusal)) × (new ≡ old)
MeterStep honest old (meaning.enable b) result new = Operates honest old (image.enable b) result new
MeterStep honest old (meaning.initiate identifier size) result new =
    ((name : Name) × SpellsName identifier name × Operates honest old (image.initiate name size) result new)
    ⊎ (((name : Name) → ¬ SpellsName identifier name) × (result ≡ coded (code_number (if old.enabled then code.OtherReason else code.ReadWriteDenied))) × (new ≡ old))
MeterStep honest old (meaning.block i value) result new = Operates honest old (image.block i value) result new
MeterStep honest old meaning.verify result new = Operates honest old image.verify result new
MeterStep honest old meaning.activate result new = Operates honest old image.activate result new

-- what a step activates: the image that runs from then on
abbrev pub activation_of : Meaning → MeterResult → Meter → Option Name
activation_of meaning.activate (coded zero) new = Some new.running.name
activation_of m result new = None
