use Rattle.std.proofs.Common.{refl}
use Rattle.fw_evidence.proofs.Reading.{says_item}
use Rattle.fw_evidence.proofs.log.Log.take.Goals as goal

pub returns-in-Ok-add-clause-taken : goal.returns-in-Ok-add-clause-taken
returns-in-Ok-add-clause-taken c = record {
  item = c.in-Ok.item;
  says = c.in-Ok.ensures;
  items_are = c.in-Ok-add.ensures.items;
  marks_are = c.in-Ok-add.ensures.marks;
}

pub returns-in-Err-clause-stray : goal.returns-in-Err-clause-stray
returns-in-Err-clause-stray c = (refl, c.in-Err.ensures)

pub returns-in-Err-add-clause-stray : goal.returns-in-Err-add-clause-stray
returns-in-Err-add-clause-stray c = says_item _ c.in-Ok.item c.in-Ok.ensures c.in-Err-add.ensures.memory
