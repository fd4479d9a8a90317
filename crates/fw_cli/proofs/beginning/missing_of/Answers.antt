use Rattle.std.proofs.Common.{ap, ◌∙◌}
use Rattle.std.specs.Prelude.{is_some}
use Rattle.std.proofs.lemmas.Result.{err_from_is_err_and}
use Rattle.fw_host.specs.Waves.{listed_in}
use Rattle.fw_cli.specs.HeadErrors.{IsOfOpened}
use Rattle.fw_cli.proofs.Begun.{openings_none, openings_some}
use Rattle.fw_cli.proofs.HeadLeading.{plan_is_opened}
use Rattle.fw_cli.proofs.Passing.{passed_to}
use Rattle.fw_cli.proofs.beginning.missing_of.Goals as goal

pub returns-in_default-clause-parts : goal.returns-in_default-clause-parts
returns-in_default-clause-parts c = openings_none c.args.asked.now.opened _ _ _ c.in_default.is c.new.ensures.items

pub returns-in_err-parts_of-clause-faults : goal.returns-in_err-parts_of-clause-faults
returns-in_err-parts_of-clause-faults c =
    let passed = err_from_is_err_and c.from_residual.result c.from_residual.ensures.1 in
    passed_to c.from_residual.result (IsOfOpened c.args.asked.now.opened) passed.0 _ passed.1 passed.2
    (plan_is_opened c.args.asked.now.opened c.in_err-parts_of.field-0.0 (ap is_some c.in-Some.is))

pub returns-clause-parts : goal.returns-clause-parts
returns-clause-parts c =
    openings_some c.args.asked.now.opened c.in-Some.opened (listed_in c.args.asked.now.list) _ _ c.args.book.now _ c.in-Some.is
    (c.meters-list.ensures.meters ∙ c.meters.ensures.meters) c.deref.ensures.value c.in_ok-parts_of.ensures.parts
