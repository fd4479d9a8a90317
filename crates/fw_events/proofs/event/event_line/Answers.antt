use Rattle.std.proofs.Common.{◌++◌, ◌∙◌, List, ℕ, ap, subst, sym}
use Rattle.std.specs.Prelude.{codes}
use Rattle.serde_json.specs.Read.{read}
use Rattle.fw_calendar.specs.Times.{IsTime}
use Rattle.fw_events.specs.Events.{event_data}
use Rattle.fw_events.proofs.OneLine.{text_one}
use Rattle.fw_events.proofs.event.event_line.Goals as goal

pub returns : goal.returns
returns c =
    let json = c.in_ok-line.ensures in
    record {
      time = c.as_str.result.now;
      at = subst (λ (t : List ℕ). IsTime c.args.nanoseconds t) (sym c.as_str.ensures.value) c.in_ok-time.ensures;
      text = c.in_ok-push_str.ensures.bytes ∙ ap (λ (t : List ℕ). t ++ codes "\n") json.compact;
      reads = ap read (sym json.compact) ∙ json.reads;
      one = text_one (event_data c.as_str.result.now c.args.head c.args.event);
    }
