use Rattle.std.proofs.Common.{ℕ, List, [], ◌∷◌, ap, subst, ◌∙◌}
use Rattle.fw_book.specs.declared.row.Row.{Row}
use Rattle.fw_book.specs.Rows.{meters_of}
use Rattle.fw_ledger.specs.Entry.{Entry, opening}
use Rattle.fw_ledger.specs.View.{source_of}
use Rattle.fw_ledger.specs.Remade.{rows_entries, ending_entries, Puts}
use Rattle.fw_ledger.proofs.Remade.{puts_campaign}
use Rattle.fw_ledger.proofs.remaking.put_campaign.Goals as goal

pub returns : goal.returns
returns c =
    let campaign = c.args.campaign in
    let source = source_of c.args.image in
    let offer = c.args.offer.now in
    let a = c.args.records.now.items in
    let b = c.put.new.records.items in
    let m = c.put_endings.new.records.items in
    let d = c.put_ending.new.records.items in
    let same = ap (λ (r : ℕ). opening campaign r source c.in_ok-meters_of.field-0.items) c.release.ensures.value ∙ ap (λ (ms : List ℕ). opening campaign offer.release source ms) (c.in_ok-meters_of.ensures ∙ ap (λ (rows : List Row). meters_of rows) c.rows.ensures) in
    puts_campaign a b m d (opening campaign offer.release source (meters_of offer.rows)) (rows_entries campaign offer.rows) (ending_entries campaign offer.rows)
    (subst (λ (e : Entry). Puts a b (e ∷ [])) same c.in_ok-put.ensures)
    (subst (λ (rows : List Row). Puts b m (rows_entries campaign rows)) c.rows-2.ensures c.in_ok-put_endings.ensures)
    (subst (λ (rows : List Row). Puts m d (ending_entries campaign rows)) c.rows-3.ensures c.in_ok-put_ending.ensures)
