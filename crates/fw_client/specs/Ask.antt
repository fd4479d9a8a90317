-- Public vocabulary: what a client asks of a meter's Image transfer object and of its active firmware identifier, and the request
-- that asks it (IEC 62056-6-2, class_id 18, version 0, and Data, class_id 1; IEC 62056-5-3).
use Rattle.std.specs.Prelude.{◌≤◌, ℕ, ℤ, pos, true, List, length, Some}
use Rattle.fw_blocks.specs.Cuts.{max_block_size}
use Rattle.fw_axdr.specs.Value.{Value, structure, boolean, double_long_unsigned, octet_string, integer, none, more}
use Rattle.fw_names.specs.Name.{Name, name_bytes}
use Rattle.fw_apdu.specs.Cosem as cosem
use Rattle.fw_apdu.specs.Request.{Descriptor, RequestContent, get_request, set_request, action_request, SpellsRequest}
use Rattle.fw_wrapper.specs.Wrapper.{Wraps, wport}
use Rattle.fw_client.specs.declared.ask.Asked.{Asked}
use Rattle.fw_client.specs.declared.ask.Asked.TheVariants as asked

pub data Ask : Type 0 where
  block_size : Ask
  first_missing : Ask
  blocks : Ask
  status : Ask
  info : Ask
  active_name : Ask
  enable : Ask
  initiate : Name → ℕ → Ask
  block : ℕ → List ℕ → Ask
  verify : Ask
  activate : Ask

-- an attribute or a method of Image transfer, 0-0:44.0.0.255
abbrev pub image_transfer : ℤ → Descriptor
image_transfer number = record { class = cosem.image_transfer_class; instance = cosem.image_transfer; number = number }

-- an attribute of the active firmware identifier, 1-0:0.2.0.255, a Data object
abbrev pub active_identifier : ℤ → Descriptor
active_identifier number = record { class = cosem.data_class; instance = cosem.active_firmware_identifier; number = number }

abbrev pub pair : Value → Value → Value
pair first second = structure (more first (more second none))

-- An initiate takes the structure of an identifier and a size, a block that of its number and its bytes. Verify and activate take an
-- integer, and 0 is written.
abbrev pub request_of : Ask → RequestContent
request_of block_size = get_request (image_transfer cosem.image_block_size)
request_of blocks = get_request (image_transfer cosem.image_transferred_blocks_status)
request_of first_missing = get_request (image_transfer cosem.image_first_not_transferred_block_number)
request_of status = get_request (image_transfer cosem.image_transfer_status)
request_of info = get_request (image_transfer cosem.image_to_activate_info)
request_of active_name = get_request (active_identifier cosem.value)
request_of enable = set_request (image_transfer cosem.image_transfer_enabled) (boolean true)
request_of (initiate name size) = action_request (image_transfer cosem.image_transfer_initiate) (Some (pair (octet_string (name_bytes name)) (double_long_unsigned size)))
request_of (block number value) = action_request (image_transfer cosem.image_block_transfer) (Some (pair (double_long_unsigned number) (octet_string value)))
request_of verify = action_request (image_transfer cosem.image_verify) (Some (integer (pos 0)))
request_of activate = action_request (image_transfer cosem.image_activate) (Some (integer (pos 0)))

-- what is kept of an ask until its answer comes: its kind, and of a block its number
abbrev pub kind_of : Ask → Asked
kind_of block_size = asked.BlockSize
kind_of first_missing = asked.FirstMissing
kind_of blocks = asked.Blocks
kind_of status = asked.Status
kind_of info = asked.Info
kind_of active_name = asked.ActiveName
kind_of enable = asked.Enable
kind_of (initiate name size) = asked.Initiate
kind_of (block number value) = asked.Block number
kind_of verify = asked.Verify
kind_of activate = asked.Activate

-- a block has at most 1,024 bytes, so that its request fits an APDU
abbrev pub Fits : Ask → Type 0
Fits (block number value) = length value ≤ max_block_size
Fits ask = Unit {0}

-- a datagram carries a request, with its invoke byte, between the wPorts of both ends
pub record CarriesRequest (datagram : List ℕ) (invoke : ℕ) (content : RequestContent) : Type 0 where
  pub apdu : List ℕ
  pub wraps : Wraps datagram wport wport apdu
  pub spells : SpellsRequest apdu invoke content
