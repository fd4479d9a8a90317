use Rattle.std.proofs.Common.{◌≡◌, Some, sym, ap, ◌∙◌, rules}
use Rattle.fw_names.specs.Name.{Name}
use Rattle.fw_fleet_audit.specs.Switches.{offer_in}
use Rattle.fw_fleet_audit.proofs.Switching.{other_bytes}
use Rattle.fw_fleet_audit.proofs.switches.broken.Goals as goal

pub returns-then-ne-clause-some : goal.returns-then-ne-clause-some
returns-then-ne-clause-some c before =
    let books = c.args.books.now in
    let offer = c.in-Some.offer.now in
    let offers : offer_in books c.name-name.result.campaign ≡ Some offer =
    ap (λ (n : Name). offer_in books n.campaign) (sym c.name.view_is) ∙ sym c.in-Some.ensures.offer in
    let differ : offer.image ≡ c.args.image.now.bytes → ⊥ = λ e. search rules in
    other_bytes books c.args.image.now c.name-name.result c.name-name.ensures offer offers differ before
