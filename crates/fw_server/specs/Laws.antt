-- Public vocabulary: the laws of what is asked and of what is read. A request alone is refused by four codes, and the active firmware
-- identifier alone shows a name of 41 or 45 bytes.
use Rattle.std.specs.Prelude.{◌≡◌, ◌⊎◌, ◌↔◌, ℕ, List, length}
use Rattle.fw_axdr.specs.Value.{octet_string}
use Rattle.fw_names.specs.Name.{Name}
use Rattle.fw_apdu.specs.Cosem as cosem
use Rattle.fw_apdu.specs.Cosem.{active_firmware_identifier, data_class}
use Rattle.fw_apdu.specs.Request.{Descriptor, RequestContent, get_request}
use Rattle.fw_server.specs.Meaning.{meaning_of, read, refused}
use Rattle.fw_server.specs.Answer.{value_of_answer, HasSizes}
use Rattle.fw_server.specs.declared.code.ResultCode.{ResultCode}
use Rattle.fw_server.specs.declared.code.ResultCode.TheVariants.{ReadWriteDenied, ObjectUndefined, ObjectClassInconsistent, TypeUnmatched}
use Rattle.fw_server.specs.declared.object.Reading.TheVariants as reading
use Rattle.fw_server.specs.declared.outcome.Answer.{Answer}
use Rattle.fw_server.specs.declared.outcome.Answer.TheVariants as answer

-- the codes by which a request alone is refused, whatever the meter's state
abbrev pub RefusesRequest : ResultCode → Type 0
RefusesRequest ReadWriteDenied = Unit {0}
RefusesRequest ObjectUndefined = Unit {0}
RefusesRequest ObjectClassInconsistent = Unit {0}
RefusesRequest TypeUnmatched = Unit {0}
RefusesRequest code = ⊥

-- and no other code
abbrev pub RequestRefusals : Type 0
RequestRefusals = (content : RequestContent) (code : ResultCode) → meaning_of content ≡ refused code → RefusesRequest code

-- Of what can be read, the active name and nothing else has an octet-string of 41 or 45 bytes for its value.
abbrev pub OnlyActiveName : Type 0
OnlyActiveName =
    (a : Answer) → HasSizes a
    → ((bytes : List ℕ) × (value_of_answer a ≡ octet_string bytes) × ((length bytes ≡ 41) ⊎ (length bytes ≡ 45))) ↔ ((name : Name) × (a ≡ answer.ActiveName name))

-- A GET reads it exactly if it is of attribute 2, value, of the active firmware identifier, a Data object.
abbrev pub OnlyIdentifier : Type 0
OnlyIdentifier =
    (d : Descriptor)
    → (meaning_of (get_request d) ≡ read reading.ActiveName) ↔ (d ≡ record { class = data_class; instance = active_firmware_identifier; number = cosem.value })
