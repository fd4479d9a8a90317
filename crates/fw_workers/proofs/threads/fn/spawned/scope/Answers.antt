use mir.Syntax.{named}
use denote.Exit.{no}
use denote.Param.{param}
use denote.Struct.Field.{u32-field}
use denote.Param.Send as send
use Rattle.std.proofs.Common.{rules, ◌≡◌, ◌<◌, length, ap, ◌∙◌, arith}
use Rattle.std.specs.Prelude.{codes}
use Rattle.std.proofs.lemmas.Bool.Decides.{nat_tests}
use Rattle.std.proofs.lemmas.List.Elements.{All-push}
use Rattle.std.proofs.alloc.Global.TheSendSync as heap
use Rattle.fw_workers.proofs.Crossing.{seven_send, world_sync}
use Rattle.fw_workers.proofs.Joining.{all_kept, all_started, rest_are, started_next}
use Rattle.fw_workers.proofs.seating.Job.TheSendSync as job
use Rattle.fw_workers.proofs.start.Start.TheSendSync as start
use Rattle.fw_workers.proofs.threads.fn.spawned.scope.Goals as goal

pub starts-preserved : goal.starts-preserved
starts-preserved g c =
    let some : 0 < length c.starts.rest.items = grind (arith, nat_tests, c.is_empty.ensures, c.starts-test.true, c.starts.rest.ok.0) in
    let held : c.in-Ok.child.promise.share.value ≡ c.remove-job.result.share = ap (λ p. p.share.value) c.in-Ok.ensures.ok ∙ c.of.ensures in
    let next = started_next (λ child. child.promise.share.value) (λ job. job.share) c.starts.children.items c.starts.rest.items
    c.in-Ok.child c.remove-job.result _ some c.remove-job.ensures.value held c.starts.invariant.shares in
    let on_board = ap (λ p. p.board.now.id) c.in-Ok.ensures.ok in
    record {
      jobs = rw c.remove-job.ensures.items
          (rest_are (λ job. job.seat.board ≡ c.captures.shared.now.board.id) c.starts.rest.items c.starts.invariant.jobs);
      children = rw c.in-Ok-push.ensures.items
          (All-push (λ child. child.promise.board.now.id ≡ c.captures.shared.now.board.id) c.starts.children.items c.in-Ok.child c.starts.invariant.children on_board);
      shares = rw (c.in-Ok-push.ensures.items, c.remove-job.ensures.items) next;
    }

pub returns-in-Ok-join_promised : goal.returns-in-Ok-join_promised
returns-in-Ok-join_promised g c =
    let handles = c.starts.children in
    let left = c.in-Ok-join_promised.outcomes in
    let many = c.in-Ok-join_promised.ensures.len in
    let each = c.in-Ok-join_promised.ensures.each in
    let kept = all_kept _ (λ p. p.share.value) (λ outcome. outcome.ended) _ (λ p outcome keeps. keeps.1) _ handles.items left.items
    (omega (arith, handles.ok.0)) (omega (arith, many, handles.ok.0, left.ok.0)) each in
    let none : length c.starts.rest.items ≡ 0 = grind (arith, nat_tests, c.is_empty.ensures, c.starts-test.false, c.starts.rest.ok.0) in
    record {
      seats = λ k d lt. (
          let at = (each k d (omega (arith, many, left.ok.0))).1 in
          at.kept.0 ∙ ap (λ h. h.promise.board.now.id) at.handle_is
          ∙ c.starts.invariant.children k at.handle (omega (arith, many, handles.ok.0, left.ok.0)));
      ends = all_started _ (λ job. job.share) _ _ c.starts.rest.items _ none c.starts.invariant.shares kept;
      cause = tt;
    }

pub spawn_with-requires-send-F : goal.spawn_with-requires-send-F
spawn_with-requires-send-F g c κs within =
    let lent : send.IsSync (param 0 g.row.R) = search (rules, c.requires) parts 8 in
    let gate : send.IsSync (param 1 g.row.G) = search (rules, c.requires) parts 8 in
    let share : send.IsSend (param 2 g.row.H) = search (rules, c.requires) parts 8 in
    let number : send.IsSend u32-field.row = search send.sendable in
    send.param_send 2 _ (send.arg_send _ no _ (seven_send (codes "fw_workers::threads::fn::spawned::fn::scope::work+Self") _ _ _ _ _ _ _
    (send.shr_send (named 7) _ _ lent) heap.the_send (send.shr_send (named 8) _ _ world_sync) (send.shr_send (named 9) _ _ start.the_sync)
    (send.shr_send (named 10) _ _ gate) number (job.the_send _ share)))
