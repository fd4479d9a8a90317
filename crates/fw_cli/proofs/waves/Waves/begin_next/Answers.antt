use Rattle.std.proofs.Common.{◌∙◌, ap, sym, subst}
use Rattle.std.proofs.lemmas.Result.{err_from_is_err_and}
use Rattle.fw_book.specs.Contents.{Contents}
use Rattle.fw_kept.specs.Head.{book_of}
use Rattle.fw_plan.specs.declared.gate.Gate.TheVariants as gate
use Rattle.fw_cli.specs.Waves.{IsGateOf}
use Rattle.fw_cli.proofs.Rollouts.{relisted}
use Rattle.fw_cli.proofs.waves.Waves.begin_next.Goals as goal

pub returns-in_err-wave-clause-stops : goal.returns-in_err-wave-clause-stops
returns-in_err-wave-clause-stops g c =
    let passed = err_from_is_err_and c.from_residual.result c.from_residual.ensures.1 in
    rw (passed.1, passed.2) tt

pub returns-in_err-begin-in-Open-clause-stops : goal.returns-in_err-begin-in-Open-clause-stops
returns-in_err-begin-in-Open-clause-stops g c =
    let passed = err_from_is_err_and c.from_residual-in_err-begin-in-Open.result c.from_residual-in_err-begin-in-Open.ensures.1 in
    rw (passed.1, passed.2) tt

pub returns-in_err-relist-in-Over-clause-stops : goal.returns-in_err-relist-in-Over-clause-stops
returns-in_err-relist-in-Over-clause-stops g c =
    let passed = err_from_is_err_and c.from_residual-in_err-relist-in-Over.result c.from_residual-in_err-relist-in-Over.ensures.1 in
    rw (passed.1, passed.2) tt

pub returns-in_ok-begin-in-Open-clause-asks : goal.returns-in_ok-begin-in-Open-clause-asks
returns-in_ok-begin-in-Open-clause-asks g c =
    let begun = rw c.in-Open.is at c.in_ok-wave.ensures.gate in
    (subst (λ (book : Contents). IsGateOf c.args.self.now book (gate.Open c.in-Open.wave)) (ap book_of (sym c.in_ok-begin-in-Open.ensures.kept)) begun, c.in_ok-begin-in-Open.ensures.asks)

pub returns-in_ok-relist-in-Over-clause-asks : goal.returns-in_ok-relist-in-Over-clause-asks
returns-in_ok-relist-in-Over-clause-asks g c =
    let over = rw c.in-Over.is at c.in_ok-wave.ensures.gate in
    (subst (λ (book : Contents). IsGateOf c.args.self.now book gate.Over) (ap book_of (sym c.in_ok-relist-in-Over.ensures.kept)) over, c.in_ok-relist-in-Over.ensures.meters ∙ c.meters.ensures.meters)

pub returns-in_ok-relist-in-Over-clause-led : goal.returns-in_ok-relist-in-Over-clause-led
returns-in_ok-relist-in-Over-clause-led g c = λ leader led.
    relisted _ _ _ c.relist.new.self _ leader c.in_ok-relist-in-Over.ensures.meters (c.in_ok-relist-in-Over.ensures.led leader led)
