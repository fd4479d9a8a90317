use Rattle.std.proofs.Common.{ℕ, Option, subst}
use Rattle.fw_book.specs.Notes.{opened_at}
use Rattle.fw_ledger.specs.Remade.{opening_notes, rows_notes, Puts}
use Rattle.fw_ledger.proofs.Remade.{puts_join}
use Rattle.fw_ledger.proofs.remaking.put_notes.Goals as goal

pub returns : goal.returns
returns c =
    let campaign = c.args.campaign in
    let notes = c.args.notes.now in
    let a = c.args.records.now.items in
    let b = c.put_opening_note.new.records.items in
    let d = c.put_rows_notes.new.records.items in
    puts_join a b d (opening_notes campaign (opened_at notes campaign.serial)) (rows_notes notes campaign c.args.rows.now)
    (subst (λ (o : Option ℕ). Puts a b (opening_notes campaign o)) c.opened_at.ensures c.in_ok-put_opening_note.ensures) c.in_ok-put_rows_notes.ensures
