use Rattle.std.proofs.Common.{sym, subst}
use Rattle.fw_audit.specs.Log.{item_of}
use Rattle.fw_audit.specs.Private.{IsOpen}
use Rattle.fw_audit.specs.declared.item.LogItem.{LogItem}
use Rattle.fw_audit.proofs.life.is_open.Goals as goal

pub returns-in-Came-clause-open : goal.returns-in-Came-clause-open
returns-in-Came-clause-open c is = subst (λ (i : LogItem). IsOpen (item_of i)) (sym c.in-Came.is) tt

pub returns-in-Turned-clause-open : goal.returns-in-Turned-clause-open
returns-in-Turned-clause-open c is = subst (λ (i : LogItem). IsOpen (item_of i)) (sym c.in-Turned.is) tt

pub returns-in-Sent-clause-closed : goal.returns-in-Sent-clause-closed
returns-in-Sent-clause-closed c is open_item = subst (λ (i : LogItem). IsOpen (item_of i)) c.in-Sent.is open_item

pub returns-in-Started-clause-closed : goal.returns-in-Started-clause-closed
returns-in-Started-clause-closed c is open_item = subst (λ (i : LogItem). IsOpen (item_of i)) c.in-Started.is open_item
