use Rattle.std.proofs.Common.{◌++◌, List, ℕ, decimal, ap, ◌∙◌}
use Rattle.fw_keys.specs.KeyFiles.{NamesMeter}
use Rattle.fw_keys.specs.Writing.{links_text}
use Rattle.fw_keys.proofs.Written.{all_back, head_read}
use Rattle.fw_keys.proofs.writing.head_text.Goals as goal

pub returns-clause-spells : goal.returns-clause-spells
returns-clause-spells c = λ head own.
    let file = c.args.file.now in
    let links = c.in_ok-put_links.ensures in
    head_read c.put_links.new.out.items head file own (links.lines ∙ ap (λ (l : List ℕ). l ++ links_text decimal file.entries) c.new-text.ensures.items)
    (all_back NamesMeter decimal (λ _. Unit {0}) file.entries links.written (λ k d within. tt)) links.links
