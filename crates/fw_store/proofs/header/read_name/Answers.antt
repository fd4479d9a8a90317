use Rattle.std.proofs.Common.{ℕ, List, subst}
use Rattle.fw_names.specs.Name.{SpellsName}
use Rattle.fw_store.proofs.Parts.{spells}
use Rattle.fw_store.proofs.header.read_name.Goals as goal

pub returns-in_err-from_bytes : goal.returns-in_err-from_bytes
returns-in_err-from_bytes c = λ name is spelled same.
    let there = subst (λ (bytes : List ℕ). SpellsName bytes (record name { release = 0 })) spelled (spells name is) in
    let read = c.in_err-from_bytes.ensures.unique (record name { release = 0 }) there in
    cc
