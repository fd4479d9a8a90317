use Rattle.std.proofs.Common.{List, subst, arith}
use Rattle.std.specs.Prelude.{All}
use Rattle.std.specs.List.{AllZip}
use Rattle.fw_book.specs.Contents.{Contents}
use Rattle.fw_fleet_audit.specs.Rows.{AreBorneOut, Audited}
use Rattle.fw_auditor.specs.Private.{FitsAs}
use Rattle.fw_auditor.specs.declared.list.Subject.{Subject}
use Rattle.fw_auditor.proofs.audit.tell_fleet.Goals as goal

pub returns : goal.returns
returns g c none =
    let given = c.args.given.now in
    let meters = c.in_ok-found.found.meters.items in
    let rows = c.in_ok-rows.ensures (omega (arith, c.saturating_add.ensures, none)) in
    record {
      meters = meters;
      each = subst (λ (subjects : List Subject). AllZip (FitsAs given) subjects meters) c.deref.ensures.value
          (c.in_ok-found.ensures (omega (arith, c.saturating_add.ensures, none)));
      rows = subst (λ (ms : List Audited). All (λ (book : Contents). AreBorneOut book ms) given.books.books.items) c.deref-4.ensures.value
          (subst (λ (books : List Contents). All (λ (book : Contents). AreBorneOut book c.deref-4.result.now) books) c.deref-3.ensures.value rows);
    }
