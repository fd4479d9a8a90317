-- Public vocabulary: when a meter is given up that is silent.
use Rattle.std.specs.Prelude.{◌≡◌, ℕ, ◌+◌, ◌*◌, ◌≤◌, true, List, [], ◌∷◌, ◌++◌, map, Option, None, Some, IsSomeAnd, IfSome, unwrap_or}
use Rattle.fw_book.specs.declared.row.RowState.{RowState}
use Rattle.fw_book.specs.Rows.{is_live}
use Rattle.fw_plan.specs.declared.deadline.Contact.{Contact}
use Rattle.fw_plan.specs.declared.deadline.Deadline.{Deadline}
use Rattle.fw_plan.specs.declared.deadline.Deadline.TheVariants as deadline

-- what happens with a meter at a time: a request is sent to it, or something is heard of it
pub data Event : Type 0 where
  Asked : ℕ → Event
  Heard : ℕ → Event

-- these events end with the last that was heard, at this time; or nothing was heard, and there are none
abbrev pub EndsHeard : List Event → Option ℕ → Type 0
EndsHeard events None = events ≡ []
EndsHeard events (Some time) = (earlier : List Event) × (events ≡ earlier ++ Heard time ∷ [])

-- the first of these times, if there is one
abbrev pub first_of : List ℕ → Option ℕ
first_of [] = None
first_of (time ∷ times) = Some time

-- The contact after these events, the oldest first: when something was heard last, and when the meter was asked first since then.
pub record IsContact (events : List Event) (contact : Contact) : Type 0 where
  pub before : List Event
  pub since : List ℕ
  pub split : events ≡ before ++ map Asked since
  pub heard_last : EndsHeard before contact.heard
  pub asked_first : contact.asked ≡ first_of since

-- the contact once a meter was asked: it owes an answer from now on, or did before
abbrev pub asked_at : ℕ → Contact → Contact
asked_at now contact = record { asked = Some (unwrap_or contact.asked now); heard = contact.heard }

-- the contact once a meter was heard: it owes no answer
abbrev pub heard_at : ℕ → Contact → Contact
heard_at now contact = record { asked = None; heard = Some now }

-- the contact with a meter that was never asked
abbrev pub no_contact : Contact
no_contact = record { asked = None; heard = None }

-- the contact is that after the events: at the beginning, once the meter was asked, and once it was heard
pub record ContactFollows : Type 0 where
  pub at_first : IsContact [] no_contact
  pub once_asked : (events : List Event) (contact : Contact) (now : ℕ) → IsContact events contact → IsContact (events ++ Asked now ∷ []) (asked_at now contact)
  pub once_heard : (events : List Event) (contact : Contact) (now : ℕ) → IsContact events contact → IsContact (events ++ Heard now ∷ []) (heard_at now contact)

-- a meter owes an answer for so many seconds, and if it was ever heard, then so many seconds ago or more
pub record IsSilent (contact : Contact) (seconds now : ℕ) : Type 0 where
  pub owes : IsSomeAnd contact.asked (λ time. time + seconds ≤ now)
  pub unheard : IfSome contact.heard (λ time. time + seconds ≤ now)

-- a row is given up: it is live, and its meter is silent for that many hours
abbrev pub GivesUp : Deadline → RowState → Contact → ℕ → Type 0
GivesUp deadline.Never state contact now = ⊥
GivesUp (deadline.Hours hours) state contact now = (is_live state ≡ true) × IsSilent contact (3600 * hours) now
