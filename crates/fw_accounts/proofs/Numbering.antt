-- Receipts with their numbers.
use Rattle.std.proofs.Common.{◌≡◌, ℕ, zero, suc, ◌+◌, ◌<◌, List, [], ◌∷◌, ◌++◌, length, take, get_or, ap, add-one, sym, ◌∙◌, arith}
use Rattle.std.proofs.lemmas.List.{take_more}
use Rattle.fw_world.specs.declared.event.Event.{Event as Given}
use Rattle.fw_world.specs.Runs.{events_of}
use Rattle.fw_world.specs.Step.{Event}
use Rattle.fw_world.specs.View.{event_of}
use Rattle.fw_accounts.specs.Accounts.{numbered}
use Rattle.fw_air.specs.Events.{Receipt}

abbrev pub receipt : ℕ → Event → Receipt
receipt number event = record { number = number; event = event }

more : (n : ℕ) (es : List Given) (i : ℕ) (d : Given) → i < length es
    → numbered n (events_of (take (suc i) es)) ≡ numbered n (events_of (take i es)) ++ receipt (n + i) (event_of (get_or es i d)) ∷ []
more n [] i d lt = absurd (omega arith)
more n (e ∷ es) zero d lt = ap (λ (k : ℕ). receipt k (event_of e) ∷ []) (omega arith)
more n (e ∷ es) (suc i) d lt =
    let same : n + 1 + i ≡ n + suc i = omega arith in
    ap (λ (rs : List Receipt). receipt n (event_of e) ∷ rs)
    (more (n + 1) es i d (omega arith) ∙ ap (λ (k : ℕ). numbered (n + 1) (events_of (take i es)) ++ receipt k (event_of (get_or es i d)) ∷ []) same)

pub numbered_more : (n : ℕ) (es : List Given) (i : ℕ) (d : Given) → i < length es
    → numbered n (events_of (take (i + 1) es)) ≡ numbered n (events_of (take i es)) ++ receipt (n + i) (event_of (get_or es i d)) ∷ []
numbered_more n es i d lt = rw add-one (more n es i d lt)

-- the next receipt is for the next event
pub is_next : (first : ℕ) (rs : List Receipt) (es : List Given) (at : ℕ) (r : Receipt) (e : Given) → at < length rs → at < length es → r ≡ get_or rs at r → e ≡ get_or es at e
    → r.number ≡ first + at → r.event ≡ event_of e → take at rs ≡ numbered first (events_of (take at es))
    → take (at + 1) rs ≡ numbered first (events_of (take (at + 1) es))
is_next first rs es at r e there inside r_is e_is number event so_far =
    let same : get_or rs at r ≡ receipt (first + at) (event_of (get_or es at e)) =
    sym r_is ∙ ap (λ (n : ℕ). record r { number = n }) number ∙ ap (λ (x : Event). receipt (first + at) x) (event ∙ ap event_of e_is) in
    take_more rs at r there
    ∙ ap (λ (l : List Receipt). l ++ get_or rs at r ∷ []) so_far
    ∙ ap (λ (x : Receipt). numbered first (events_of (take at es)) ++ x ∷ []) same
    ∙ sym (numbered_more first es at e inside)
