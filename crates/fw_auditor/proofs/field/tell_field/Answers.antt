use Rattle.std.proofs.Common.{◌++◌, List, subst}
use Rattle.std.specs.Prelude.{All}
use Rattle.fw_book.specs.Contents.{Contents}
use Rattle.fw_fleet_audit.specs.Rows.{AreBorneOut, Audited}
use Rattle.fw_order.specs.Order.{HasOrder}
use Rattle.fw_auditor.specs.Private.{AreFound, ends_in}
use Rattle.fw_auditor.specs.declared.ends.Ended.{Ended}
use Rattle.fw_auditor.specs.declared.list.Subject.{Subject}
use Rattle.fw_auditor.proofs.field.tell_field.Goals as goal

pub returns : goal.returns
returns g c none =
    let given = c.args.given.now in
    let found = c.in_ok-found.found in
    let heads = c.in_ok-heads.heads in
    let of_books = c.both-of_books.ensures in
    let of_ends = c.both-of_ends.ensures in
    let books = c.both.ensures.some none in
    let ends = c.both.ensures.others none in
    let agree = of_ends.others ends in
    let order = c.in_ok-agree.ensures (c.departed_with.ensures.fits agree) in
    record {
      meters = found.audited.items;
      ends = ends_in found.ends.items;
      heads = ends_in heads.ends.items;
      each = subst (λ (subjects : List Subject). AreFound given subjects found.audited.items (ends_in found.ends.items)) c.deref.ensures.value
          (c.in_ok-found.ensures (of_books.some books));
      rows = subst (λ (ms : List Audited). All (λ (book : Contents). AreBorneOut book ms) given.books.books.items) c.deref-4.ensures.value
          (subst (λ (bs : List Contents). All (λ (book : Contents). AreBorneOut book c.deref-4.result.now) bs) c.deref-3.ensures.value (c.in_ok-rows.ensures (of_books.others books)));
      told = c.in_ok-heads.ensures (of_ends.some ends);
      order = subst (λ (es : List Ended). HasOrder (ends_in found.ends.items ++ ends_in es)) c.deref-6.ensures.value
          (subst (λ (es : List Ended). HasOrder (ends_in es ++ ends_in c.deref-6.result.now)) c.deref-5.ensures.value order);
    }
