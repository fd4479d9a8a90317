-- What receipts are not for.
use Rattle.std.proofs.Common.{◌≡◌, ◌≢◌, ℕ, zero, suc, ◌+◌, ◌<◌, List, [], ◌∷◌, Some, length, map, get_or, slice_get, ap, sym, ◌∙◌, arith}
use Rattle.std.proofs.lemmas.List.{length-map}
use Rattle.fw_air.specs.declared.links.LinkQueue.{LinkQueue}
use Rattle.fw_air.specs.Links.{link_of}
use Rattle.fw_air.specs.Events.{Receipt}
use Rattle.fw_world.specs.declared.event.Event.{Event as Given}
use Rattle.fw_world.specs.Runs.{events_of}
use Rattle.fw_world.specs.View.{event_of}
use Rattle.fw_accounts.specs.Accounts.{numbered}
use Rattle.fw_accounts.proofs.Numbering.{receipt}
use Rattle.fw_accounts.proofs.Ordered.{length-numbered}

pub other_length : (n : ℕ) (rs : List Receipt) (es : List Given) → length rs ≢ length es → rs ≡ numbered n (events_of es) → ⊥
other_length n rs es other same = other (ap length same ∙ length-numbered n (events_of es) ∙ length-map es event_of)

at_number : (n : ℕ) (es : List Given) (i : ℕ) (d : Receipt) (e : Given) → i < length es
    → get_or (numbered n (events_of es)) i d ≡ receipt (n + i) (event_of (get_or es i e))
at_number n [] i d e lt = absurd (omega arith)
at_number n (x ∷ es) zero d e lt = ap (λ (k : ℕ). receipt k (event_of x)) (omega arith)
at_number n (x ∷ es) (suc i) d e lt =
    let same : n + 1 + i ≡ n + suc i = omega arith in
    at_number (n + 1) es i d e (omega arith) ∙ ap (λ (k : ℕ). receipt k (event_of (get_or es i e))) same

-- each receipt of those for some events
pub is_numbered : (first : ℕ) (rs : List Receipt) (es : List Given) (at : ℕ) (r : Receipt) (e : Given) → at < length es → r ≡ get_or rs at r → e ≡ get_or es at e
    → rs ≡ numbered first (events_of es) → r ≡ receipt (first + at) (event_of e)
is_numbered first rs es at r e inside r_is e_is same =
    r_is
    ∙ ap (λ (l : List Receipt). get_or l at r) same
    ∙ at_number first es at r e inside
    ∙ ap (λ (x : Given). receipt (first + at) (event_of x)) (sym e_is)

-- the link of a place
pub link_there : (links : List LinkQueue) (j : ℕ) (waiting : LinkQueue) → j < length links → waiting ≡ get_or links j waiting
    → slice_get (map link_of links) j ≡ Some (link_of waiting)
link_there [] j waiting inside is = absurd (omega arith)
link_there (first ∷ links) zero waiting inside is = ap (λ (w : LinkQueue). Some (link_of w)) (sym is)
link_there (first ∷ links) (suc j) waiting inside is = link_there links j waiting (omega arith) is
