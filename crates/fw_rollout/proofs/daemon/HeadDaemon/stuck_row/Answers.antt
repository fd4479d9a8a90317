use Rattle.std.proofs.Common.{◌≡◌, true, false, Option, Some, None, sym, ap, ◌∙◌}
use Rattle.std.proofs.lemmas.Bool.{cond-true, cond-false}
use Rattle.fw_book.specs.declared.phase.Phase.{Phase}
use Rattle.fw_head.specs.Head.{Head}
use Rattle.fw_kept.specs.Head.{head_of}
use Rattle.fw_rollout.specs.declared.laps.Lap.{Lap}
use Rattle.fw_rollout.specs.Laps.{lap_in, laps_of, nowhere_between}
use Rattle.fw_rollout.specs.Plans.{stuck_at}
use Rattle.fw_rollout.proofs.daemon.HeadDaemon.stuck_row.Goals as goal

pub returns-then-not-gets_nowhere : goal.returns-then-not-gets_nowhere
returns-then-not-gets_nowhere g c =
    let lap = lap_in (laps_of c.args.self.now.laps) c.args.place in
    let goes : nowhere_between c.args.was c.args.is lap ≡ false =
    ap (λ (l : Lap). nowhere_between c.args.was c.args.is l) (sym c.at.ensures) ∙ sym c.gets_nowhere.ensures ∙ c.if-not-gets_nowhere.true in
    sym (cond-false (nowhere_between c.args.was c.args.is lap) (stuck_at (head_of c.args.self.now.kept) c.args.meter c.args.was) None goes)

pub returns-in-Some : goal.returns-in-Some
returns-in-Some g c =
    let lap = lap_in (laps_of c.args.self.now.laps) c.args.place in
    let head = head_of c.args.self.now.kept in
    let stays : nowhere_between c.args.was c.args.is lap ≡ true =
    ap (λ (l : Lap). nowhere_between c.args.was c.args.is l) (sym c.at.ensures) ∙ sym c.gets_nowhere.ensures ∙ c.if-not-gets_nowhere.false in
    c.of.ensures ∙ ap (λ (h : Head). stuck_at h c.args.meter (Some c.in-Some.from)) c.head.ensures
    ∙ ap (λ (p : Option Phase). stuck_at head c.args.meter p) (sym c.in-Some.is)
    ∙ sym (cond-true (nowhere_between c.args.was c.args.is lap) (stuck_at head c.args.meter c.args.was) None stays)

pub returns-in-None : goal.returns-in-None
returns-in-None g c =
    let lap = lap_in (laps_of c.args.self.now.laps) c.args.place in
    let head = head_of c.args.self.now.kept in
    let stays : nowhere_between c.args.was c.args.is lap ≡ true =
    ap (λ (l : Lap). nowhere_between c.args.was c.args.is l) (sym c.at.ensures) ∙ sym c.gets_nowhere.ensures ∙ c.if-not-gets_nowhere.false in
    ap (λ (p : Option Phase). stuck_at head c.args.meter p) (sym c.in-None.is)
    ∙ sym (cond-true (nowhere_between c.args.was c.args.is lap) (stuck_at head c.args.meter c.args.was) None stays)
