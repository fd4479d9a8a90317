use Rattle.std.proofs.lemmas.Result.{IfErr-weaker, on_ok_weaker}
use Rattle.fw_cli.proofs.Cancels.{has_cancelled, has_stopped, none_stopped, unopened_of_none}
use Rattle.fw_cli.proofs.cancel.run_cancel.Goals as goal

pub returns-in-Err-clause-stopped : goal.returns-in-Err-clause-stopped
returns-in-Err-clause-stopped g c = none_stopped _ _ _ c.of_book.ensures.serial

pub returns-in-Err-clause-serial : goal.returns-in-Err-clause-serial
returns-in-Err-clause-serial g c = λ of. absurd (unopened_of_none c.in-Err.because.error _ c.of_book.ensures.error of)

pub returns-clause-cancelled : goal.returns-clause-cancelled
returns-clause-cancelled g c =
    on_ok_weaker c.cancel_named.result (λ it. has_cancelled c.args.options.now c.deref.result.now c.in-Ok.kept c.cancel_named.new.kept _ _ _ _ c.deref.ensures.value c.in-Ok.ensures.number it)
    c.cancel_named.ensures.cancelled

pub returns-clause-stopped : goal.returns-clause-stopped
returns-clause-stopped g c =
    IfErr-weaker c.cancel_named.result _ _ (λ f it. has_stopped c.args.options.now c.deref.result.now f.serial f.error c.in-Ok.kept c.cancel_named.new.kept _ _ _ _ c.deref.ensures.value
    c.in-Ok.ensures.number it) c.cancel_named.ensures.stopped
