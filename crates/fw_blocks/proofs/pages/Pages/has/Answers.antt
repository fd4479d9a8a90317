use Rattle.std.proofs.Common.{sym, ap, ◌∙◌}
use Rattle.fw_blocks.specs.Members.{has}
use Rattle.fw_blocks.proofs.PageLemmas.{held_has}
use Rattle.fw_blocks.proofs.pages.Pages.has.Goals as goal

pub returns : goal.returns
returns c =
    c.has_bit.ensures ∙ sym (held_has c.self.inside.count c.self.inside.words c.self.inside.counts c.self.invariant c.args.number)
    ∙ ap (λ marks. has marks c.args.number) c.self.view_is
