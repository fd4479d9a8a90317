use Rattle.std.proofs.Common.{◌≡◌, ◌∙◌, ap, rules}
use Rattle.std.proofs.lemmas.Result.{IfErr-weaker, on_ok_weaker}
use Rattle.fw_book.specs.Contents.{Contents}
use Rattle.fw_kept.specs.Head.{book_of, head_of}
use Rattle.fw_plan.specs.Ranges.{serials_of}
use Rattle.fw_cli.proofs.Cancels.{cancels_these, is_named, memory_of_none, stopped_none, stopped_these}
use Rattle.fw_cli.proofs.cancel.cancel_named.Goals as goal

pub returns-in-Ok-clause-cancelled : goal.returns-in-Ok-clause-cancelled
returns-in-Ok-clause-cancelled g c =
    let book : c.view.result.book.now ≡ (head_of c.args.kept.now).book = search rules in
    let same : c.deref.result.now ≡ serials_of (book_of c.args.kept.now) c.args.named.now =
    c.deref.ensures.value ∙ (c.in-Ok.ensures ∙ ap (λ (b : Contents). serials_of b c.args.named.now) book) in
    on_ok_weaker c.cancel_all.result (λ it. cancels_these _ _ _ _ _ _ _ _ same it) c.cancel_all.ensures.cancelled

pub returns-in-Ok-clause-stopped : goal.returns-in-Ok-clause-stopped
returns-in-Ok-clause-stopped g c =
    let book : c.view.result.book.now ≡ (head_of c.args.kept.now).book = search rules in
    let same : c.deref.result.now ≡ serials_of (book_of c.args.kept.now) c.args.named.now =
    c.deref.ensures.value ∙ (c.in-Ok.ensures ∙ ap (λ (b : Contents). serials_of b c.args.named.now) book) in
    IfErr-weaker c.cancel_all.result _ _ (λ f it. stopped_these _ _ _ _ _ _ _ _ _ _ same it) c.cancel_all.ensures.stopped

pub returns-in-Ok-clause-serial : goal.returns-in-Ok-clause-serial
returns-in-Ok-clause-serial g c = IfErr-weaker c.cancel_all.result _ _ (λ f it of. is_named f.serial _ it) c.cancel_all.ensures.stopped

pub returns-in-Err-clause-stopped : goal.returns-in-Err-clause-stopped
returns-in-Err-clause-stopped g c = stopped_none _ _ _ _ _ _ c.from.ensures.1

pub returns-in-Err-clause-serial : goal.returns-in-Err-clause-serial
returns-in-Err-clause-serial g c = λ of. absurd (memory_of_none _ c.from.ensures.0 of)
