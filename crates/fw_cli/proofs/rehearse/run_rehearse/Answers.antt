use Rattle.std.proofs.Common.{◌∙◌, ap, Err, inl, inr}
use Rattle.std.proofs.KnownBytes.{Keeps-refl}
use Rattle.std.proofs.lemmas.Result.{IfErr-weaker, err_from_is_err_and}
use Rattle.fw_cli.specs.Scripts.{MakesNoneFor}
use Rattle.fw_cli.specs.Scripts.{fault_of_rehearsal}
use Rattle.fw_cli.proofs.Scripted.{ends_as, fates_memory, of_fates_error, unbegun, wants_more}
use Rattle.fw_cli.proofs.rehearse.run_rehearse.Goals as goal

pub returns-in_err-air-clause-ends : goal.returns-in_err-air-clause-ends
returns-in_err-air-clause-ends g c =
    let passed = err_from_is_err_and c.from_residual.result c.from_residual.ensures.1 in
    ends_as c.from_residual.result _ _ _ _ _ _ _ _ _ passed.0 _ passed.1 passed.2.0
    (unbegun _ (MakesNoneFor c.args.options.now.workers) _ _ _ _ (λ e. inl (c.air_of.ensures.memory (c.in_err-air.was ∙ ap Err (fates_memory _ e)), Keeps-refl _)) (of_fates_error _))

pub returns-clause-ends : goal.returns-clause-ends
returns-clause-ends g c =
    IfErr-weaker c.rehearse_from.result _ _ (λ e ends. wants_more _ _ _ _ _ _ _ _ _ (fault_of_rehearsal e) (λ wants. inr wants) ends) c.rehearse_from.ensures.ends
