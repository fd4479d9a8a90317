use Rattle.std.proofs.Common.{◌∙◌, List, ap, refl, rules}
use Rattle.std.proofs.lemmas.List.{get_or_default, take_all}
use Rattle.fw_kept.specs.Head.{head_of}
use Rattle.fw_plan.specs.declared.part.Part.{Part}
use Rattle.fw_cli.specs.Beginning.{opened_all}
use Rattle.fw_cli.proofs.Begun.{opens_next}
use Rattle.fw_cli.proofs.Sayings.{changes_none, changes_on}
use Rattle.fw_cli.proofs.beginning.open_parts.Goals as goal

pub loop-part-init : goal.loop-part-init
loop-part-init g c = record { opened = refl; writer = refl; told = changes_none _ _ _ }

pub loop-part-preserved : goal.loop-part-preserved
loop-part-preserved g c = record {
  opened = opens_next c.args.release c.args.image.now c.args.parts.now c.loop-part.part-index c.part-item.result _ _ _ c.loop-part-test.true
      c.loop-part.invariant.opened c.in_ok-open_one.ensures.opened (search (rules, get_or_default));
  writer = c.open_one.ensures.writer ∙ c.loop-part.invariant.writer;
  told = changes_on _ _ _ _ _ _ _ _ _ c.loop-part.invariant.told c.open_one.ensures.told;
}

pub returns-in_err-open_one-clause-told : goal.returns-in_err-open_one-clause-told
returns-in_err-open_one-clause-told g c = changes_on _ _ _ _ _ _ _ _ _ c.loop-part.invariant.told c.open_one.ensures.told

pub returns-clause-opened : goal.returns-clause-opened
returns-clause-opened g c =
    c.loop-part.invariant.opened
    ∙ ap (λ (parts : List Part). opened_all c.args.release c.args.image.now parts (head_of c.args.kept.now)) (take_all c.loop-part.part-index c.args.parts.now c.loop-part-test.false)
