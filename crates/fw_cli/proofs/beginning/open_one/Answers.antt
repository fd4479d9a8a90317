use Rattle.std.proofs.Common.{◌∙◌, List, ℕ, ap}
use Rattle.fw_head.specs.Head.{opened_head}
use Rattle.fw_kept.specs.Head.{head_of}
use Rattle.fw_cli.proofs.Sayings.{changes_opened, changes_same}
use Rattle.fw_cli.proofs.beginning.open_one.Goals as goal

pub returns-in_err-name-clause-told : goal.returns-in_err-name-clause-told
returns-in_err-name-clause-told g c = changes_same _ _ _ _ c.in_err-name.ensures.same

pub returns-clause-opened : goal.returns-clause-opened
returns-clause-opened g c =
    c.in_ok-name.ensures.opened
    ∙ ap (λ (meters : List ℕ). opened_head (head_of c.args.kept.now) c.args.part.now.serial c.args.release c.args.image.now meters) c.deref.ensures.value

pub returns-clause-told : goal.returns-clause-told
returns-clause-told g c =
    let opened = c.in_ok-name.ensures.opened
    ∙ ap (λ (meters : List ℕ). opened_head (head_of c.args.kept.now) c.args.part.now.serial c.args.release c.args.image.now meters) c.deref.ensures.value in
    changes_opened c.args.release c.args.image.now c.args.part.now _ _ _ _ _ _ _ opened c.in_ok-name.ensures.name c.tell_opened.ensures.told
