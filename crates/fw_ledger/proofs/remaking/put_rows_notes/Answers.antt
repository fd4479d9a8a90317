use Rattle.std.proofs.Common.{◌≡◌, List, [], ◌++◌, Option, refl, sym, ap, subst, ◌∙◌, append_assoc}
use Rattle.std.proofs.lemmas.List.{append-nil}
use Rattle.fw_book.specs.declared.row.Row.{Row}
use Rattle.fw_book.specs.declared.notes.End.{End}
use Rattle.fw_book.specs.Notes.{end_of}
use Rattle.fw_ledger.specs.Entry.{Entry}
use Rattle.fw_ledger.specs.Remade.{row_notes, rows_notes, Puts}
use Rattle.fw_ledger.proofs.Remade.{puts_nothing, puts_join, no_rows}
use Rattle.fw_ledger.proofs.remaking.put_rows_notes.Goals as goal

pub loop-row-init : goal.loop-row-init
loop-row-init c = record { done = []; puts = puts_nothing c.args.records.now.items; split = refl }

pub loop-row-preserved : goal.loop-row-preserved
loop-row-preserved c =
    let i = c.loop-row.invariant in
    let campaign = c.args.campaign in
    let notes = c.args.notes.now in
    let first = c.args.records.now.items in
    let items = c.loop-row.records.items in
    let later = c.put_row_note.new.records.items in
    let row = c.in-Some.row.now in
    let others = c.in-Some.others.now in
    let more = row_notes campaign row (end_of notes campaign.serial row.meter) in
    record {
      done = i.done ++ more;
      puts = puts_join first items later i.done more i.puts (subst (λ (o : Option End). Puts items later (row_notes campaign row o)) c.end_of.ensures c.in_ok-put_row_note.ensures);
      split = append_assoc i.done more (rows_notes notes campaign others) ∙ ap (λ (l : List Row). i.done ++ rows_notes notes campaign l) (sym c.in-Some.ensures.cases.0) ∙ i.split;
    }

pub returns : goal.returns
returns c =
    let i = c.loop-row.invariant in
    let campaign = c.args.campaign in
    let notes = c.args.notes.now in
    let all : i.done ≡ rows_notes notes campaign c.args.rows.now =
    sym (append-nil i.done) ∙ ap (λ (l : List Row). i.done ++ rows_notes notes campaign l) (sym (no_rows c.loop-row.rest.now c.in_default.ensures.cases)) ∙ i.split in
    subst (λ (l : List Entry). Puts c.args.records.now.items c.loop-row.records.items l) all i.puts
