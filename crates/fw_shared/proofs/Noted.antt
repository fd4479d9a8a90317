-- What an event leaves at the seat of its worker.
use Rattle.std.proofs.Common.{◌≡◌, ℕ, List, [], ◌∷◌, ◌++◌, ap, ◌∙◌}
use Rattle.fw_world.specs.Step.{Event}
use Rattle.fw_shared.specs.Seat.{Seat, noted}
use Rattle.fw_air.specs.Events.{Receipt}

-- the seat that was seen as the old one, with one receipt more
pub noted_as : (seen old : Seat) (before after : List Receipt) (number : ℕ) (made event : Event) → seen ≡ old → before ≡ seen.receipts → made ≡ event
    → after ≡ before ++ (record { number = number; event = made }) ∷ [] → record seen { receipts = after } ≡ noted old number event
noted_as seen old before after number made event same kept is more =
    ap (λ (receipts : List Receipt). (let seat : Seat = record seen { receipts = receipts } in seat))
    (more ∙ ap (λ (receipts : List Receipt). (let all : List Receipt = receipts ++ (record { number = number; event = made }) ∷ [] in all)) kept
    ∙ ap (λ (e : Event). (let all : List Receipt = seen.receipts ++ (record { number = number; event = e }) ∷ [] in all)) is)
    ∙ ap (λ (seat : Seat). noted seat number event) same
