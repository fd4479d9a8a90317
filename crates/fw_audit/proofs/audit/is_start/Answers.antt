use Rattle.std.proofs.Common.{sym, ap, ◌∙◌}
use Rattle.fw_audit.specs.Log.{item_of}
use Rattle.fw_audit.proofs.Items.{came_starts, sent_starts, turned_starts}
use Rattle.fw_audit.proofs.audit.is_start.Goals as goal

pub returns-in-Started-clause-start : goal.returns-in-Started-clause-start
returns-in-Started-clause-start c is = ap item_of c.in-Started.is

pub returns-in-Came-clause-other : goal.returns-in-Came-clause-other
returns-in-Came-clause-other c is e = came_starts c.in-Came.from c.in-Came.bytes.now (sym (ap item_of c.in-Came.is) ∙ e)

pub returns-in-Sent-clause-other : goal.returns-in-Sent-clause-other
returns-in-Sent-clause-other c is e = sent_starts c.in-Sent.to c.in-Sent.bytes.now (sym (ap item_of c.in-Sent.is) ∙ e)

pub returns-in-Turned-clause-other : goal.returns-in-Turned-clause-other
returns-in-Turned-clause-other c is e = turned_starts (sym (ap item_of c.in-Turned.is) ∙ e)
