use Rattle.std.proofs.Common.{Some, ◌∙◌, ◌≤◌, ap, subst, sym}
use Rattle.std.proofs.lemmas.Result.{IfOk-weaker}
use Rattle.serde_json.specs.Data.{Data, depth}
use Rattle.serde_json.specs.Read.{max_depth}
use Rattle.serde_json.specs.Written.{has_float, compact_text}
use Rattle.fw_events.proofs.Floatless.{event_floatless}
use Rattle.fw_events.proofs.Shallow.{event_shallow}
use Rattle.fw_events.proofs.event.event_json.Goals as goal

pub returns-clause-compact : goal.returns-clause-compact
returns-clause-compact c =
    let value = c.in_ok-value.ensures in
    IfOk-weaker c.to_string.result _ _ (λ text h. h (ap has_float value ∙ event_floatless c.args.time.now c.args.head c.args.event) ∙ ap compact_text value) c.to_string.ensures.text

pub returns-clause-reads : goal.returns-clause-reads
returns-clause-reads c =
    let value = c.in_ok-value.ensures in
    let shallow = subst (λ (d : Data). depth d ≤ max_depth) (sym value) (event_shallow c.args.time.now c.args.head c.args.event) in
    IfOk-weaker c.to_string.result _ _ (λ text h. h shallow ∙ ap Some value) c.to_string.ensures.reads_back
