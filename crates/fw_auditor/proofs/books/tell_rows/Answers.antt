use Rattle.std.proofs.Common.{subst, arith}
use Rattle.std.specs.Prelude.{All}
use Rattle.std.proofs.lemmas.List.{take_all}
use Rattle.std.proofs.lemmas.List.Elements.{All-more, All-nil}
use Rattle.fw_book.specs.Contents.{Contents}
use Rattle.fw_fleet_audit.specs.Rows.{AreBorneOut}
use Rattle.fw_auditor.proofs.books.tell_rows.Goals as goal

pub loop-at-init : goal.loop-at-init
loop-at-init g c none = All-nil (λ (book : Contents). AreBorneOut book c.args.meters.now)

pub loop-at-preserved : goal.loop-at-preserved
loop-at-preserved g c none =
    All-more (λ (book : Contents). AreBorneOut book c.args.meters.now) c.args.books.now c.loop-at.at c.index-books-at.result (omega (arith, c.loop-at-test.true))
    (c.loop-at.invariant (c.departed_with-departed.ensures.none none))
    (subst (λ (book : Contents). AreBorneOut book c.args.meters.now) c.index-books-at.is (c.in_ok-fits.ensures (c.departed_with-departed.ensures.fits none)))

pub returns : goal.returns
returns g c none =
    subst (All (λ (book : Contents). AreBorneOut book c.args.meters.now)) (take_all c.loop-at.at c.args.books.now (omega (arith, c.loop-at-test.false)))
    (c.loop-at.invariant none)
