use Rattle.std.proofs.Common.{◌≡◌, ap, refl, rules}
use Rattle.fw_names.specs.Name.{Campaign}
use Rattle.fw_head.specs.Head.{campaign_at}
use Rattle.fw_kept.specs.Head.{head_of}
use Rattle.fw_host.specs.Heads.{cancelled_line}
use Rattle.fw_host.proofs.Tellings.{told_line}
use Rattle.fw_cli.proofs.Sayings.{changes_cancelled, changes_same}
use Rattle.fw_cli.proofs.head.cancel_one.Goals as goal

pub returns-in_default-clause-told : goal.returns-in_default-clause-told
returns-in_default-clause-told g c = changes_same _ _ _ _ refl

pub returns-in_err-cancel-clause-told : goal.returns-in_err-cancel-clause-told
returns-in_err-cancel-clause-told g c = changes_same _ _ _ _ c.in_err-cancel.ensures.same

pub returns-clause-told : goal.returns-clause-told
returns-clause-told g c =
    let same : c.in-Some.campaign ≡ campaign_at (head_of c.args.kept.now) c.args.serial = search rules in
    changes_cancelled c.args.serial c.in-Some.campaign _ _ _ _ _ _ c.in_ok-cancel.ensures.cancelled same c.tell_cancelled.ensures.told

pub returns-clause-line : goal.returns-clause-line
returns-clause-line g c =
    let same : c.in-Some.campaign ≡ campaign_at (head_of c.args.kept.now) c.args.serial = search rules in
    told_line _ _ _ _ _ _ (ap (λ (it : Campaign). cancelled_line it) same) c.tell_cancelled.ensures.told
