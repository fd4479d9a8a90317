-- Public vocabulary: when the meters of a list were asked and heard, by their places. Times are in seconds.
use Rattle.std.specs.Prelude.{ℕ, ◌/◌, List, slice_get, slice_set, unwrap_or}
use Rattle.fw_plan.specs.Silence.{asked_at, heard_at, no_contact}
use Rattle.fw_plan.specs.declared.deadline.Contact.{Contact}
use Rattle.fw_rollout.specs.declared.contacts.Contacts.{Contacts}

abbrev pub contacts_of : Contacts → List Contact
contacts_of contacts = contacts.items.items

-- the seconds of a time in microseconds
abbrev pub seconds_of : ℕ → ℕ
seconds_of time = time / 1000000

-- the contact with the meter at this place
abbrev pub contact_in : List Contact → ℕ → Contact
contact_in contacts place = unwrap_or (slice_get contacts place) no_contact

-- the contacts once that meter was asked, and once something was heard of it
abbrev pub asked_in : ℕ → ℕ → List Contact → List Contact
asked_in place now contacts = slice_set contacts place (asked_at now (contact_in contacts place))

abbrev pub heard_in : ℕ → ℕ → List Contact → List Contact
heard_in place now contacts = slice_set contacts place (heard_at now (contact_in contacts place))
