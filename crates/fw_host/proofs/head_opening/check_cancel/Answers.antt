use Rattle.std.proofs.Common.{◌≡◌, rules, subst}
use Rattle.std.specs.Prelude.{Some}
use Rattle.std.proofs.lemmas.Result.{IfErr-weaker}
use Rattle.fw_names.specs.Name.{Campaign}
use Rattle.fw_book.specs.Changes.{cancel_refusal}
use Rattle.fw_host.specs.Openings.{campaign_in}
use Rattle.fw_host.proofs.head_opening.check_cancel.Goals as goal

pub returns-clause-refused : goal.returns-clause-refused
returns-clause-refused c =
    let book = c.args.book.now in
    let same : c.in-Some.campaign ≡ campaign_in book c.args.serial = search rules in
    IfErr-weaker c.check_cancel.result _ _ (λ e is _. subst (λ (campaign : Campaign). cancel_refusal book campaign ≡ Some e) same is) c.check_cancel.ensures.refused
