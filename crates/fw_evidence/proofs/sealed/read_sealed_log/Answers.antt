use Rattle.std.proofs.Common.{◌≡◌, List, length, ap, sym, ◌∙◌}
use Rattle.std.proofs.lemmas.Result.{IfOk-weaker}
use Rattle.fw_audit.specs.Log.{log_of}
use Rattle.fw_audit.specs.declared.item.LogItem.{LogItem}
use Rattle.fw_evidence.specs.declared.error.Mark.{Mark}
use Rattle.fw_evidence.specs.Sealed.{HasItems}
use Rattle.fw_evidence.specs.declared.opened.OpenedLog.{OpenedLog}
use Rattle.fw_evidence.proofs.Logs.{as_many_marks, mapped}
use Rattle.fw_evidence.proofs.sealed.read_sealed_log.Goals as goal

pub open_log-requires : goal.open_log-requires
open_log-requires g c =
    let wire = c.in-Ok.wire in
    ap (λ (l : List Mark). length l) c.deref-in-Ok.ensures.value
    ∙ as_many_marks c.args.site c.args.capture.now wire.items.items wire.marks.items c.in-Ok.ensures.log
    ∙ sym (ap (λ (l : List LogItem). length l) c.deref.ensures.value)

pub returns-in-Ok-clause-count : goal.returns-in-Ok-clause-count
returns-in-Ok-clause-count g c =
    let wire = c.in-Ok.wire.items.items in
    IfOk-weaker c.open_log.result (λ (log : OpenedLog). log.count ≡ length c.deref.result.now) (λ (log : OpenedLog). HasItems c.args.site c.args.capture.now log.count)
    (λ log many. record {
      wire = log_of wire;
      at = c.in-Ok.wire.marks.items;
      is = c.in-Ok.ensures.log;
      many = many ∙ ap (λ (l : List LogItem). length l) c.deref.ensures.value ∙ sym (mapped wire);
    }) c.open_log.ensures.count
