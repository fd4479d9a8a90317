use Rattle.std.proofs.Common.{◌≡◌, Contains, sym, subst, ◌∙◌}
use Rattle.fw_keys.specs.Links.{HasKey, HasNoEnd}
use Rattle.fw_keys.proofs.Listed.{one_is, some_of}
use Rattle.fw_keys.proofs.file.KeyFile.check.Goals as goal

pub returns-then-has_key : goal.returns-then-has_key
returns-then-has_key g c =
    subst (λ es. HasKey es c.args.entry.now.keys.encryption) c.entries.ensures.entries (rw c.if-has_key.true at c.has_key.ensures)

pub returns-then-is_some : goal.returns-then-is_some
returns-then-is_some g c =
    let end = c.args.entry.now.end in
    let entries = c.entries-2.result.now in
    let found = some_of (HasNoEnd entries end) (λ e. Contains entries e.now × (e.now.end ≡ end)) c.find.result c.find.ensures (sym c.is_some.ensures ∙ c.if-is_some.true) in
    one_is (λ e. e.end ≡ end) c.args.self.now.entries found.0.now (subst (λ es. Contains es found.0.now) c.entries-2.ensures.entries found.1.0) found.1.1
