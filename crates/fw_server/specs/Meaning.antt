-- Public vocabulary: what a request asks of a meter. It is known from the request alone, before any meter is looked at.
use Rattle.std.specs.Prelude.{ℕ, ℤ, Bool, nat_eq, ◌==◌, List, Option, Some, None, if◌then◌else◌}
use Rattle.std.specs.Ordering.{int_eq}
use Rattle.std.specs.Option.{option_and_then}
use Rattle.std.specs.Cmp.Lexicographic.{pointwise}
use Rattle.fw_axdr.specs.Value.{Value, Values, structure, boolean, double_long_unsigned, octet_string, integer, none, more}
use Rattle.fw_apdu.specs.Request.{RequestContent, get_request, set_request, action_request, request_descriptor}
use Rattle.fw_apdu.specs.Cosem as cosem
use Rattle.fw_apdu.specs.Cosem.{image_transfer, active_firmware_identifier, active_firmware_signature, data_class, image_transfer_class, logical_name, image_block_size, image_transferred_blocks_status, image_first_not_transferred_block_number, image_transfer_enabled, image_transfer_status, image_to_activate_info, image_transfer_initiate, image_block_transfer, image_verify, image_activate, success, hardware_fault, temporary_failure, read_write_denied, object_undefined, object_class_inconsistent, type_unmatched, other_reason}
use Rattle.fw_server.specs.declared.object.Object.{Object}
use Rattle.fw_server.specs.declared.object.Object.TheVariants.{ImageTransfer, ActiveIdentifier, ActiveSignature}
use Rattle.fw_server.specs.declared.object.Reading.{Reading}
use Rattle.fw_server.specs.declared.object.Reading.TheVariants.{LogicalName, BlockSize, TransferredBlocks, FirstNotTransferred, TransferEnabled, TransferStatus, ToActivate, ActiveName, ActiveDigest}
use Rattle.fw_server.specs.declared.code.ResultCode.{ResultCode}
use Rattle.fw_server.specs.declared.code.ResultCode.TheVariants.{Success, HardwareFault, TemporaryFailure, ReadWriteDenied, ObjectUndefined, ObjectClassInconsistent, TypeUnmatched, OtherReason}

-- the numbers of the codes (IEC 62056-5-3, Data-Access-Result and Action-Result)
abbrev pub code_number : ResultCode → ℕ
code_number Success = success
code_number HardwareFault = hardware_fault
code_number TemporaryFailure = temporary_failure
code_number ReadWriteDenied = read_write_denied
code_number ObjectUndefined = object_undefined
code_number ObjectClassInconsistent = object_class_inconsistent
code_number TypeUnmatched = type_unmatched
code_number OtherReason = other_reason

-- the logical names of the objects
abbrev pub instance_bytes : Object → List ℕ
instance_bytes ImageTransfer = image_transfer
instance_bytes ActiveIdentifier = active_firmware_identifier
instance_bytes ActiveSignature = active_firmware_signature

-- their classes: Image transfer, and Data (IEC 62056-6-2)
abbrev pub class_of : Object → ℕ
class_of ImageTransfer = image_transfer_class
class_of ActiveIdentifier = data_class
class_of ActiveSignature = data_class

-- the object of a logical name
abbrev pub object_at : List ℕ → Option Object
object_at name =
    if pointwise nat_eq name (instance_bytes ImageTransfer) then Some ImageTransfer else (
    if pointwise nat_eq name (instance_bytes ActiveIdentifier) then Some ActiveIdentifier else (
    if pointwise nat_eq name (instance_bytes ActiveSignature) then Some ActiveSignature else None))

-- the attributes of Image transfer (IEC 62056-6-2, class_id 18, version 0)
abbrev pub image_attribute : ℤ → Option Reading
image_attribute n =
    if int_eq n logical_name then Some (LogicalName ImageTransfer) else (
    if int_eq n image_block_size then Some BlockSize else (
    if int_eq n image_transferred_blocks_status then Some TransferredBlocks else (
    if int_eq n image_first_not_transferred_block_number then Some FirstNotTransferred else (
    if int_eq n image_transfer_enabled then Some TransferEnabled else (
    if int_eq n image_transfer_status then Some TransferStatus else (
    if int_eq n image_to_activate_info then Some ToActivate else None))))))

-- the attributes of a Data object: its logical name, and its value
abbrev pub data_attribute : Object → Reading → ℤ → Option Reading
data_attribute object value n = if int_eq n logical_name then Some (LogicalName object) else (if int_eq n cosem.value then Some value else None)

abbrev pub attribute_of : Object → ℤ → Option Reading
attribute_of ImageTransfer n = image_attribute n
attribute_of ActiveIdentifier n = data_attribute ActiveIdentifier ActiveName n
attribute_of ActiveSignature n = data_attribute ActiveSignature ActiveDigest n

-- what a request asks: a read, one of the operations of Image transfer, or the code that refuses it
pub data Meaning : Type 0 where
  read : Reading → Meaning
  enable : Bool → Meaning
  initiate : List ℕ → ℕ → Meaning
  block : ℕ → List ℕ → Meaning
  verify : Meaning
  activate : Meaning
  refused : ResultCode → Meaning

abbrev pub or_refused : ResultCode → Option Meaning → Meaning
or_refused code None = refused code
or_refused code (Some meaning) = meaning

-- ---- the shapes of parameters

abbrev pub boolean_in : Value → Option Bool
boolean_in (boolean b) = Some b
boolean_in _ = None

abbrev pub octets_in : Value → Option (List ℕ)
octets_in (octet_string o) = Some o
octets_in _ = None

abbrev pub number_in : Value → Option ℕ
number_in (double_long_unsigned n) = Some n
number_in _ = None

abbrev pub integer_in : Value → Option ℤ
integer_in (integer n) = Some n
integer_in _ = None

-- the two elements of a structure
abbrev pub two_of : Values → Option (Value × Value)
two_of none = None
two_of (more a none) = None
two_of (more a (more b none)) = Some (a, b)
two_of (more a (more b (more c vs))) = None

abbrev pub two_in : Value → Option (Value × Value)
two_in (structure vs) = two_of vs
two_in _ = None

-- image_transfer_initiate takes the structure of an identifier and a size
abbrev pub initiate_of : Value → Option Meaning
initiate_of v = option_and_then (λ x. option_and_then (λ identifier. option_and_then (λ size. Some (initiate identifier size)) (number_in x.1)) (octets_in x.0)) (two_in v)

-- image_block_transfer takes the structure of a block number and the block's bytes
abbrev pub block_of : Value → Option Meaning
block_of v = option_and_then (λ x. option_and_then (λ number. option_and_then (λ bytes. Some (block number bytes)) (octets_in x.1)) (number_in x.0)) (two_in v)

-- image_verify and image_activate take an integer, whatever it is
abbrev pub order_of : Meaning → Value → Option Meaning
order_of meaning v = option_and_then (λ n. Some meaning) (integer_in v)

abbrev pub enable_of : Value → Option Meaning
enable_of v = option_and_then (λ b. Some (enable b)) (boolean_in v)

-- ---- what is asked

-- the methods of Image transfer
abbrev pub method_of : ℤ → Option Value → Meaning
method_of n parameter =
    if int_eq n image_transfer_initiate then or_refused TypeUnmatched (option_and_then initiate_of parameter) else (
    if int_eq n image_block_transfer then or_refused TypeUnmatched (option_and_then block_of parameter) else (
    if int_eq n image_verify then or_refused TypeUnmatched (option_and_then (order_of verify) parameter) else (
    if int_eq n image_activate then or_refused TypeUnmatched (option_and_then (order_of activate) parameter) else refused ReadWriteDenied)))

-- What a request asks of the object that it addresses. Only image_transfer_enabled, attribute 5 of Image transfer, can be
-- set, and only Image transfer has methods. What is there but has a parameter of another shape is refused for that.
abbrev pub asked_of : Object → RequestContent → Meaning
asked_of object (get_request d) = or_refused ReadWriteDenied (option_and_then (λ reading. Some (read reading)) (attribute_of object d.number))
asked_of ImageTransfer (set_request d v) = if int_eq d.number image_transfer_enabled then or_refused TypeUnmatched (enable_of v) else refused ReadWriteDenied
asked_of ActiveIdentifier (set_request d v) = refused ReadWriteDenied
asked_of ActiveSignature (set_request d v) = refused ReadWriteDenied
asked_of ImageTransfer (action_request d parameter) = method_of d.number parameter
asked_of ActiveIdentifier (action_request d parameter) = refused ReadWriteDenied
asked_of ActiveSignature (action_request d parameter) = refused ReadWriteDenied

-- an unknown object is refused, and so is a known one with another class
abbrev pub meaning_at : Option Object → RequestContent → Meaning
meaning_at None content = refused ObjectUndefined
meaning_at (Some object) content =
    if (request_descriptor content).class == class_of object then asked_of object content else refused ObjectClassInconsistent

abbrev pub meaning_of : RequestContent → Meaning
meaning_of content = meaning_at (object_at (request_descriptor content).instance) content
