-- The contact with a meter after one event more.
use Rattle.std.proofs.Common.{◌≡◌, ℕ, List, [], ◌∷◌, ◌++◌, map, Option, Some, unwrap_or, refl, sym, ap, ◌∙◌, append_assoc}
use Rattle.std.proofs.lemmas.List.{append-nil, map-append}
use Rattle.fw_plan.specs.declared.deadline.Contact.{Contact}
use Rattle.fw_plan.specs.Silence.{Asked, Event, Heard, IsContact, asked_at, first_of, heard_at}

-- the first of some times stays the first
first_stays : (since : List ℕ) (now : ℕ) (asked : Option ℕ) → asked ≡ first_of since → Some (unwrap_or asked now) ≡ first_of (since ++ now ∷ [])
first_stays [] now asked e = ap (λ (o : Option ℕ). Some (unwrap_or o now)) e
first_stays (time ∷ times) now asked e = ap (λ (o : Option ℕ). Some (unwrap_or o now)) e

pub asked_more : (now : ℕ) (contact : Contact) (events : List Event) → IsContact events contact → IsContact (events ++ Asked now ∷ []) (asked_at now contact)
asked_more now contact events is = record {
  before = is.before;
  since = is.since ++ now ∷ [];
  split =
      ap (λ (l : List Event). l ++ Asked now ∷ []) is.split ∙ append_assoc is.before (map Asked is.since) (Asked now ∷ [])
      ∙ ap (λ (l : List Event). is.before ++ l) (sym (map-append Asked is.since (now ∷ [])));
  heard_last = is.heard_last;
  asked_first = first_stays is.since now contact.asked is.asked_first;
}

pub heard_more : (now : ℕ) (contact : Contact) (events : List Event) → IsContact events contact → IsContact (events ++ Heard now ∷ []) (heard_at now contact)
heard_more now contact events is = record {
  before = events ++ Heard now ∷ [];
  since = [];
  split = sym (append-nil (events ++ Heard now ∷ []));
  heard_last = (events, refl);
  asked_first = refl;
}
