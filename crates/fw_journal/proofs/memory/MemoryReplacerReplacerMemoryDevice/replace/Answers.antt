use Rattle.std.proofs.Common.{[], ◌∷◌, ◌++◌, List, ◌∙◌, ap}
use Rattle.fw_journal.specs.Past.{Held}
use Rattle.fw_journal.proofs.Kept.{renamed_leaves, replaced_leaves}
use Rattle.fw_journal.proofs.memory.MemoryReplacerReplacerMemoryDevice.replace.Goals as goal

pub returns-then-is_err-2-clause-any_moment : goal.returns-then-is_err-2-clause-any_moment
returns-then-is_err-2-clause-any_moment c = λ yes.
    renamed_leaves c.args.device.now _ c.args.bytes.now (c.in_ok-replace.ensures.ok ∙ c.in_ok-named.ensures) c.in_ok-replace.ensures.past

pub returns-in_err-synced-clause-any_moment : goal.returns-in_err-synced-clause-any_moment
returns-in_err-synced-clause-any_moment c = λ yes.
    renamed_leaves c.args.device.now _ c.args.bytes.now (c.in_ok-replace.ensures.ok ∙ c.in_ok-named.ensures) c.in_ok-replace.ensures.past

pub returns-in_err-replace-2-clause-any_moment : goal.returns-in_err-replace-2-clause-any_moment
returns-in_err-replace-2-clause-any_moment c = λ yes.
    renamed_leaves c.args.device.now _ c.args.bytes.now (c.in_err-replace-2.ensures.err ∙ c.in_ok-replace.ensures.ok ∙ c.in_ok-named.ensures) (c.in_err-replace-2.ensures.past_err ∙ c.in_ok-replace.ensures.past)

pub returns-clause-any_moment : goal.returns-clause-any_moment
returns-clause-any_moment c = λ yes.
    let named = c.replace.new.disk in
    replaced_leaves c.args.device.now _ named c.args.bytes.now (c.in_ok-replace.ensures.ok ∙ c.in_ok-named.ensures) (c.in_ok-replace-2.ensures.ok ∙ c.in_ok-synced.ensures)
    (c.in_ok-replace-2.ensures.past ∙ ap (λ (l : List Held). l ++ named ∷ []) c.in_ok-replace.ensures.past)
