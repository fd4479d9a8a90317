-- Public vocabulary: what a survey asks of a meter, and the datagram that asks it (IEC 62056-6-2, Image transfer, class_id 18, version 0, and
-- Data, class_id 1; IEC 62056-5-3, GET.request-normal; IEC 62056-4-7).
use Rattle.std.specs.Prelude.{ℕ, ℤ, ◌==◌, List, Option, Some, None, if◌then◌else◌}
use Rattle.fw_apdu.specs.Cosem as cosem
use Rattle.fw_apdu.specs.Request.{Descriptor, get_request, request_bytes}
use Rattle.fw_wrapper.specs.Wrapper.{wport, wrapped}
use Rattle.fw_survey.specs.declared.question.Question.{Question}
use Rattle.fw_survey.specs.declared.question.Question.TheVariants as question

-- an attribute of Image transfer, 0-0:44.0.0.255
abbrev pub image_transfer : ℤ → Descriptor
image_transfer number = record { class = cosem.image_transfer_class; instance = cosem.image_transfer; number = number }

-- the attribute that a question reads. What a meter runs is the value of its active firmware identifier, 1-0:0.2.0.255.
abbrev pub attribute_of : Question → Descriptor
attribute_of question.ActiveName = record { class = cosem.data_class; instance = cosem.active_firmware_identifier; number = cosem.value }
attribute_of question.BlockSize = image_transfer cosem.image_block_size
attribute_of question.Enabled = image_transfer cosem.image_transfer_enabled
attribute_of question.Status = image_transfer cosem.image_transfer_status

-- The invoke byte of a question: confirmed, of high priority, and an invoke-id that no other question has.
abbrev pub invoke_byte : Question → ℕ
invoke_byte question.ActiveName = 0xc0
invoke_byte question.BlockSize = 0xc1
invoke_byte question.Enabled = 0xc2
invoke_byte question.Status = 0xc3

-- the question that has this invoke byte
abbrev pub question_of : ℕ → Option Question
question_of invoke =
    if invoke == 0xc0 then Some question.ActiveName else (if invoke == 0xc1 then Some question.BlockSize
    else (if invoke == 0xc2 then Some question.Enabled else (if invoke == 0xc3 then Some question.Status else None)))

-- the datagram that asks a question: a GET, between the ports 1
abbrev pub question_bytes : Question → List ℕ
question_bytes q = wrapped wport wport (request_bytes (invoke_byte q) (get_request (attribute_of q)))
