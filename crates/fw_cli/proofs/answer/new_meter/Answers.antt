use Rattle.std.proofs.Common.{rules, ◌≡◌, ◌∙◌, ap, Err, refl}
use Rattle.std.specs.Prelude.{IsTrue}
use Rattle.fw_store.specs.Memory.{device_of, capacity_of, is_sound}
use Rattle.fw_image.specs.Fresh.{fresh_meter}
use Rattle.fw_store.specs.declared.version.HeaderVersion.TheVariants.{Two}
use Rattle.std.proofs.lemmas.Result.{err_from_is_err_and}
use Rattle.fw_store.specs.declared.error.SetupError.TheVariants.{BadSetup}
use Rattle.fw_cli.proofs.NewStores.{holds_new}
use Rattle.fw_cli.proofs.answer.new_meter.Goals as goal

pub returns-in_err-setup-clause-bad_setup : goal.returns-in_err-setup-clause-bad_setup
returns-in_err-setup-clause-bad_setup c = λ bad.
    let passed = err_from_is_err_and c.from_residual.result c.from_residual.ensures.1 in
    let cause : c.in_err-setup.field-0.0 ≡ BadSetup = cc (passed.1, passed.2, bad) in
    c.setup_of.ensures.bad_setup (c.in_err-setup.was ∙ ap Err cause)

pub unreachable-requires : goal.unreachable-requires
unreachable-requires c =
    let there =
    holds_new c.fresh_is_meter.ensures c.in_ok-setup.setup.block_size c.in_ok-setup.setup.capacity c.deref.result.now (capacity_of c.in-Ok.store) (device_of c.in-Ok.store)
    c.in-Ok.ensures.setup c.in-Ok.ensures.size c.in-Ok.ensures.fresh in
    let sound : IsTrue (is_sound c.in-Ok.store) = rw c.in-Ok.ensures.unfused refl in
    c.in-Err.ensures.again (fresh_meter Two c.in_ok-setup.setup.block_size c.in_ok-setup.setup.capacity c.deref.result.now) there.0 there.1 refl sound

pub returns-clause-ok : goal.returns-clause-ok
returns-clause-ok c =
    let there =
    holds_new c.fresh_is_meter.ensures c.in_ok-setup.setup.block_size c.in_ok-setup.setup.capacity c.deref.result.now (capacity_of c.in-Ok.store) (device_of c.in-Ok.store)
    c.in-Ok.ensures.setup c.in-Ok.ensures.size c.in-Ok.ensures.fresh in
    let sound : IsTrue (is_sound c.in-Ok.store) = rw c.in-Ok.ensures.unfused refl in
    let fresh : c.in-Ok-open_store.meter.meter ≡ fresh_meter Two c.in_ok-setup.setup.block_size c.in_ok-setup.setup.capacity c.deref.result.now =
    c.in-Ok-open_store.ensures.again (fresh_meter Two c.in_ok-setup.setup.block_size c.in_ok-setup.setup.capacity c.deref.result.now) there.0 there.1 refl sound in
    record {
      factory = c.in_ok-setup.setup.factory.items;
      spelled = search rules;
      setup = search rules;
      fresh = search (rules, fresh);
    }
