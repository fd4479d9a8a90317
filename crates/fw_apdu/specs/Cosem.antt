-- Public vocabulary: the numbers that both ends of Image transfer have for its objects, and the codes by which a request is
-- answered. Contracts cite these words, and never the code's own constants.
use Rattle.std.specs.Prelude.{ℕ, ℤ, pos, List, [], ◌∷◌}

-- ---- logical names (IEC 62056-6-1)

-- Image transfer, 0-0:44.0.0.255
abbrev pub image_transfer : List ℕ
image_transfer = 0 ∷ 0 ∷ 44 ∷ 0 ∷ 0 ∷ 255 ∷ []

-- the active firmware identifier, 1-0:0.2.0.255
abbrev pub active_firmware_identifier : List ℕ
active_firmware_identifier = 1 ∷ 0 ∷ 0 ∷ 2 ∷ 0 ∷ 255 ∷ []

-- the active firmware signature, 1-0:0.2.8.255
abbrev pub active_firmware_signature : List ℕ
active_firmware_signature = 1 ∷ 0 ∷ 0 ∷ 2 ∷ 8 ∷ 255 ∷ []

-- ---- class_ids (IEC 62056-6-2)

abbrev pub data_class : ℕ
data_class = 1

abbrev pub image_transfer_class : ℕ
image_transfer_class = 18

-- ---- attributes (IEC 62056-6-2)

-- of each object
abbrev pub logical_name : ℤ
logical_name = pos 1

-- of Data
abbrev pub value : ℤ
value = pos 2

-- of Image transfer, version 0
abbrev pub image_block_size : ℤ
image_block_size = pos 2

abbrev pub image_transferred_blocks_status : ℤ
image_transferred_blocks_status = pos 3

abbrev pub image_first_not_transferred_block_number : ℤ
image_first_not_transferred_block_number = pos 4

abbrev pub image_transfer_enabled : ℤ
image_transfer_enabled = pos 5

abbrev pub image_transfer_status : ℤ
image_transfer_status = pos 6

abbrev pub image_to_activate_info : ℤ
image_to_activate_info = pos 7

-- ---- methods of Image transfer (IEC 62056-6-2)

abbrev pub image_transfer_initiate : ℤ
image_transfer_initiate = pos 1

abbrev pub image_block_transfer : ℤ
image_block_transfer = pos 2

abbrev pub image_verify : ℤ
image_verify = pos 3

abbrev pub image_activate : ℤ
image_activate = pos 4

-- ---- codes of a Data-Access-Result and of an Action-Result (IEC 62056-5-3)

abbrev pub success : ℕ
success = 0

abbrev pub hardware_fault : ℕ
hardware_fault = 1

abbrev pub temporary_failure : ℕ
temporary_failure = 2

abbrev pub read_write_denied : ℕ
read_write_denied = 3

abbrev pub object_undefined : ℕ
object_undefined = 4

abbrev pub object_class_inconsistent : ℕ
object_class_inconsistent = 9

abbrev pub type_unmatched : ℕ
type_unmatched = 12

abbrev pub other_reason : ℕ
other_reason = 250

-- ---- the values of image_transfer_status (IEC 62056-6-2)

abbrev pub transfer_not_initiated : ℕ
transfer_not_initiated = 0

abbrev pub transfer_initiated : ℕ
transfer_initiated = 1

abbrev pub verification_initiated : ℕ
verification_initiated = 2

abbrev pub verification_successful : ℕ
verification_successful = 3

abbrev pub verification_failed : ℕ
verification_failed = 4

abbrev pub activation_initiated : ℕ
activation_initiated = 5

abbrev pub activation_successful : ℕ
activation_successful = 6

abbrev pub activation_failed : ℕ
activation_failed = 7
