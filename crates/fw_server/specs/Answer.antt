-- Public vocabulary: the value that a GET has for an answer, and the response that reports an outcome (IEC 62056-6-2, Image transfer and
-- Data).
use Rattle.std.specs.Prelude.{◌≡◌, ℕ, length, Option, Some, None}
use Rattle.fw_axdr.specs.Value.{Value, Values, array, structure, boolean, bit_string, double_long_unsigned, octet_string, enumerated, none, more}
use Rattle.fw_names.specs.Name.{IsName, name_bytes}
use Rattle.fw_apdu.specs.Response.{value, code, ResponseContent, get_response, set_response, action_response}
use Rattle.fw_server.specs.declared.outcome.ImageInfo.{ImageInfo}
use Rattle.fw_server.specs.declared.outcome.Answer.{Answer}
use Rattle.fw_server.specs.declared.outcome.Answer.TheVariants.{LogicalName, BlockSize, TransferredBlocks, FirstNotTransferred, TransferEnabled, TransferStatus, ToActivate, ActiveName, ActiveDigest}
use Rattle.fw_server.specs.declared.outcome.Outcome.{Outcome}
use Rattle.fw_server.specs.declared.outcome.Outcome.TheVariants.{Got, GetCode, SetCode, ActionCode}

-- the one element of image_to_activate_info: the size, the identification and the signature
abbrev pub info_of : ImageInfo → Value
info_of info = structure (more (double_long_unsigned info.size) (more (octet_string (name_bytes info.name)) (more (octet_string info.name.digest) none)))

abbrev pub infos : Option ImageInfo → Values
infos None = none
infos (Some info) = more (info_of info) none

-- the value, in the types of the attributes
abbrev pub value_of_answer : Answer → Value
value_of_answer (LogicalName name) = octet_string name.0
value_of_answer (BlockSize bytes) = double_long_unsigned bytes
value_of_answer (TransferredBlocks marks) = bit_string marks
value_of_answer (FirstNotTransferred number) = double_long_unsigned number
value_of_answer (TransferEnabled enabled) = boolean enabled
value_of_answer (TransferStatus status) = enumerated status
value_of_answer (ToActivate info) = array (infos info)
value_of_answer (ActiveName name) = octet_string (name_bytes name)
value_of_answer (ActiveDigest digest) = octet_string digest

-- Logical names have 6 bytes and digests 32, and names of images have a spelling.
abbrev pub HasSizes : Answer → Type 0
HasSizes (LogicalName name) = length name.0 ≡ 6
HasSizes (ToActivate (Some info)) = IsName info.name
HasSizes (ActiveName name) = IsName name
HasSizes (ActiveDigest digest) = length digest ≡ 32
HasSizes _ = Unit {0}

-- the response that reports an outcome; an ACTION returns no parameters
abbrev pub response_of : Outcome → ResponseContent
response_of (Got answer) = get_response (value (value_of_answer answer))
response_of (GetCode c) = get_response (code c)
response_of (SetCode c) = set_response c
response_of (ActionCode c) = action_response c None

abbrev pub HasAnswerSizes : Outcome → Type 0
HasAnswerSizes (Got answer) = HasSizes answer
HasAnswerSizes _ = Unit {0}

-- how many bits an outcome carries: one a block, where it reports the transferred blocks
abbrev pub bits_in_answer : Answer → ℕ
bits_in_answer (TransferredBlocks marks) = length marks
bits_in_answer _ = 0

abbrev pub bits_in : Outcome → ℕ
bits_in (Got answer) = bits_in_answer answer
bits_in (GetCode c) = 0
bits_in (SetCode c) = 0
bits_in (ActionCode c) = 0
