use Rattle.std.proofs.Common.{◌≡◌, ◌∙◌, List, Option, subst, sym}
use Rattle.std.proofs.lemmas.Result.{err_from_is_err_and}
use Rattle.fw_host.specs.Waves.{listed_in}
use Rattle.fw_rollout.specs.declared.link.Listed.{Listed}
use Rattle.fw_sealport.specs.declared.links.Links.{Links}
use Rattle.fw_cli.specs.HeadErrors.{IsAskedFor}
use Rattle.fw_cli.specs.Sealing.{IsHeadSealing, links_of}
use Rattle.fw_cli.specs.declared.head_error.HeadFailure.{HeadFailure}
use Rattle.fw_cli.proofs.HeadLeading.{keys_are_asked}
use Rattle.fw_cli.proofs.Passing.{passed_to}
use Rattle.fw_cli.proofs.head.set_up.Goals as goal

pub returns-in_err-asked-clause-asked : goal.returns-in_err-asked-clause-asked
returns-in_err-asked-clause-asked g c =
    let passed = err_from_is_err_and c.from_residual.result c.from_residual.ensures.1 in
    passed_to c.from_residual.result (λ (f : HeadFailure). IsAskedFor c.args.options.now f.error) passed.0 _ passed.1 passed.2 c.in_err-asked.ensures.asked

pub returns-in_err-keyed-clause-asked : goal.returns-in_err-keyed-clause-asked
returns-in_err-keyed-clause-asked g c =
    let passed = err_from_is_err_and c.from_residual-in_err-keyed.result c.from_residual-in_err-keyed.ensures.1 in
    passed_to c.from_residual-in_err-keyed.result (λ (f : HeadFailure). IsAskedFor c.args.options.now f.error) passed.0 _ passed.1 passed.2 (keys_are_asked c.args.options.now c.in_err-keyed.field-0.0.error c.in_err-keyed.ensures.keyed)

pub returns-in_err-port-clause-asked : goal.returns-in_err-port-clause-asked
returns-in_err-port-clause-asked g c =
    let passed = err_from_is_err_and c.from_residual-in_err-port.result c.from_residual-in_err-port.ensures.1 in
    passed_to c.from_residual-in_err-port.result (λ (f : HeadFailure). IsAskedFor c.args.options.now f.error) passed.0 _ passed.1 passed.2 tt

pub returns-in_err-kept-clause-asked : goal.returns-in_err-kept-clause-asked
returns-in_err-kept-clause-asked g c =
    let passed = err_from_is_err_and c.from_residual-in_err-kept.result c.from_residual-in_err-kept.ensures.1 in
    let same : passed.0 ≡ c.in_err-kept.field-0.0 = cc passed.2 in
    passed_to c.from_residual-in_err-kept.result (λ (f : HeadFailure). IsAskedFor c.args.options.now f.error) passed.0 _ passed.1 same c.in_err-kept.ensures.asked

pub returns-clause-list : goal.returns-clause-list
returns-clause-list g c = c.in_ok-asked.ensures.list

pub returns-clause-opening : goal.returns-clause-opening
returns-clause-opening g c = c.in_ok-asked.ensures.opening

pub returns-clause-width : goal.returns-clause-width
returns-clause-width g c = c.in_ok-kept.ensures.width

pub returns-clause-opened : goal.returns-clause-opened
returns-clause-opened g c = c.in_ok-asked.ensures.opened

pub returns-clause-number : goal.returns-clause-number
returns-clause-number g c = c.in_ok-kept.ensures.number

pub returns-clause-changes : goal.returns-clause-changes
returns-clause-changes g c = c.in_ok-kept.ensures.changes

pub returns-clause-links : goal.returns-clause-links
returns-clause-links g c =
    let sealing = c.args.options.now.sealing in
    let head = c.args.options.now.head in
    let list = listed_in c.in_ok-asked.asked.list in
    let links = links_of c.in_ok-keyed.keyed in
    let listed = subst (λ (l : List Listed). IsHeadSealing sealing head l links) (c.meters-2.ensures.meters ∙ c.meters.ensures.meters) c.in_ok-keyed.ensures.links in
    subst (λ (l : Option Links). IsHeadSealing sealing head list l) (sym c.in_ok-kept.ensures.links) listed
