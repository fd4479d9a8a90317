use Rattle.std.proofs.Common.{◌≡◌, None, Some, refl, inl}
use Rattle.fw_names.specs.Name.{SpellsName}
use Rattle.fw_server.specs.Meaning as meaning
use Rattle.fw_image.specs.Phases.{state_in}
use Rattle.fw_image.specs.Step as image
use Rattle.fw_meter.proofs.Calling.{nameless, steps_made}
use Rattle.fw_meter.proofs.operation.offer.Goals as goal

pub returns-in-Some-clause-steps : goal.returns-in-Some-clause-steps
returns-in-Some-clause-steps g c =
    let name = c.in-Some.name in
    let spells : SpellsName c.args.identifier.now name = c.in-Some.ensures.found in
    steps_made _ _ (meaning.initiate c.args.identifier.now c.args.size) (image.initiate name c.args.size) _ (name, spells, refl) (λ made. inl (name, spells, made)) c.initiate.ensures.made

pub returns-in-None-clause-steps : goal.returns-in-None-clause-steps
returns-in-None-clause-steps g c =
    let s = state_in c.args.phase in
    rw c.nameless.ensures (nameless s c.args.identifier.now c.args.size s.meter.enabled refl
    (λ name spells. let bad : None ≡ Some name = c.in-None.ensures.unique name spells in cc))
