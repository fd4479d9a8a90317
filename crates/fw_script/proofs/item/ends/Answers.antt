use Rattle.std.proofs.Common.{length, ◌<◌, sym, arith}
use Rattle.std.proofs.lemmas.Grind.{common_steps}
use Rattle.fw_script.proofs.ScriptLemmas.{goes_on}
use Rattle.fw_script.proofs.item.ends.Goals as goal

pub returns-else-is_empty : goal.returns-else-is_empty
returns-else-is_empty c = let some : 0 < length c.args.rest.now = grind (arith, common_steps) in sym (goes_on c.args.rest.now some)
