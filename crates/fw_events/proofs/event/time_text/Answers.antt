use Rattle.std.proofs.Common.{◌++◌, ◌∙◌, List, ℕ, ap, subst, sym}
use Rattle.fw_calendar.specs.Times.{IsTime}
use Rattle.fw_events.proofs.event.time_text.Goals as goal

pub returns : goal.returns
returns c =
    let told = c.in_ok-append_time.ensures in
    let is = told.2 ∙ ap (λ (t : List ℕ). t ++ told.0) c.new-text.ensures.bytes in
    subst (λ (t : List ℕ). IsTime c.args.nanoseconds t) (sym is) told.1
