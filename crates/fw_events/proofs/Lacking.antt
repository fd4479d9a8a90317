-- What the campaigns of a book lack, one after the other, is what its rows lack.
use Rattle.std.proofs.Common.{◌≡◌, ◌∙◌, ◌++◌, ℕ, List, [], ◌∷◌, flat_map, refl, ap, sym}
use Rattle.std.proofs.lemmas.Grind.{flat_map-append}
use Rattle.fw_names.specs.Name.{Campaign}
use Rattle.fw_book.specs.declared.row.Row.{Row}
use Rattle.fw_book.specs.Contents.{Offered}
use Rattle.fw_book.specs.Notes.{Known}
use Rattle.fw_rows.specs.Noted.{Noted, noted_entry, noted_of_campaign}
use Rattle.fw_events.specs.declared.event.Event.{Event}
use Rattle.fw_events.specs.declared.told.ToldRows.{ToldRows}
use Rattle.fw_events.specs.Laws.{lacking_event}
use Rattle.fw_events.specs.Told.{untold_event, untold_events}

abbrev lacking : ToldRows → List Noted → List Event
lacking told rows = flat_map (λ (noted : Noted). lacking_event told noted) rows

of_rows : (told : ToldRows) (known : Known) (campaign : Campaign) (rows : List Row)
    → untold_events told known campaign rows ≡ lacking told (flat_map (λ (row : Row). noted_entry known campaign row) rows)
of_rows told known campaign [] = refl
of_rows told known campaign (row ∷ rows) = ap (λ (l : List Event). untold_event told known campaign row ++ l) (of_rows told known campaign rows)

pub of_campaigns : (told : ToldRows) (known : Known) (head : ℕ) (entries : List (ℕ × Offered))
    → flat_map (λ (entry : ℕ × Offered). untold_events told known (record { head = head; serial = entry.0 }) entry.1.rows) entries
    ≡ lacking told (flat_map (λ (entry : ℕ × Offered). noted_of_campaign known head entry) entries)
of_campaigns told known head [] = refl
of_campaigns told known head (entry ∷ entries) =
    let own : Campaign = record { head = head; serial = entry.0 } in
    let rest : List Event = flat_map (λ (e : ℕ × Offered). untold_events told known (record { head = head; serial = e.0 }) e.1.rows) entries in
    let noted : List Noted = noted_of_campaign known head entry in
    let others : List Noted = flat_map (λ (e : ℕ × Offered). noted_of_campaign known head e) entries in
    ap (λ (l : List Event). l ++ rest) (of_rows told known own entry.1.rows)
    ∙ ap (λ (l : List Event). lacking told noted ++ l) (of_campaigns told known head entries)
    ∙ sym (flat_map-append (λ (n : Noted). lacking_event told n) noted others)
