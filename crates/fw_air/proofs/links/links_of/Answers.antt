use Rattle.std.proofs.Common.{◌≡◌, ◌<◌, ◌≤◌, length, get_or, subst, arith}
use Rattle.std.proofs.lemmas.List.Folds.{length-flat_map-take}
use Rattle.fw_world.specs.declared.setup.HeadSetup.{HeadSetup}
use Rattle.fw_world.specs.Setup.{number_of_head}
use Rattle.fw_air.specs.Rounds.{links_with}
use Rattle.fw_air.proofs.Runs.{err_has}
use Rattle.fw_air.proofs.links.links_of.Goals as goal

pub returns-in_err-push_links-clause-memory : goal.returns-in_err-push_links-clause-memory
returns-in_err-push_links-clause-memory c =
    let heads = c.args.setup.now.heads.items in
    let i = c.loop-head.head-index in
    let head = c.head-item.result in
    let inside : i < length heads = omega (arith, c.loop-head-test.true) in
    let some : 1 ≤ length (links_with c.args.world.now (number_of_head head) c.args.setup.now.meters.items) =
    subst (λ l. 1 ≤ length (links_with c.args.world.now (number_of_head head) l)) c.deref.ensures.value c.in_err-push_links.ensures.memory in
    let is : head ≡ get_or heads i head = subst (λ l. head ≡ get_or l i head) c.deref-head-items.ensures.value c.head-item.is in
    let there : 1 ≤ length (links_with c.args.world.now (number_of_head (get_or heads i head)) c.args.setup.now.meters.items) =
    subst (λ (h : HeadSetup). 1 ≤ length (links_with c.args.world.now (number_of_head h) c.args.setup.now.meters.items)) is some in
    let long = length-flat_map-take (λ (h : HeadSetup). links_with c.args.world.now (number_of_head h) c.args.setup.now.meters.items) heads i head inside in
    err_has c.from_residual.result _ (omega (arith, there, long))
