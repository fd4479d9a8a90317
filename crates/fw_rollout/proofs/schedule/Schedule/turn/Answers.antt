use Rattle.std.proofs.Common.{◌≡◌, ◌++◌, ◌∷◌, [], refl, ap, ◌∙◌}
use Rattle.fw_rollout.proofs.Queueing.{queue_let, queue_put, queued_none, queued_some}
use Rattle.fw_rollout.proofs.schedule.Schedule.turn.Goals as goal

pub returns-in_ok-push_back : goal.returns-in_ok-push_back
returns-in_ok-push_back c =
    let kept : c.wait.new.self.ready.items ≡ c.args.self.now.ready.items =
    ap (λ s. s.ready.items) c.in_ok-wait.ensures.others ∙ ap (λ s. s.ready.items) c.wait_no_more.ensures.others in
    let pushed : c.push_back.new.self.items ≡ c.wait.new.self.ready.items ++ c.args.place ∷ [] = c.in_ok-push_back.ensures.items in
    record {
      middle = c.wait_no_more.new.self;
      last = c.wait.new.self;
      waits_no_more = c.wait_no_more.ensures;
      waits = c.in_ok-wait.ensures;
      others = refl;
      queued = queue_put c.args.place c.args.until c.args.self.now.ready.items c.wait.new.self.ready.items c.push_back.new.self.items pushed kept
          (queued_none c.args.place c.args.until c.is_none.result c.is_none.ensures c.if-is_none.true);
    }

pub returns-else-is_none : goal.returns-else-is_none
returns-else-is_none c =
    let kept : c.wait.new.self.ready.items ≡ c.args.self.now.ready.items =
    ap (λ s. s.ready.items) c.in_ok-wait.ensures.others ∙ ap (λ s. s.ready.items) c.wait_no_more.ensures.others in
    record {
      middle = c.wait_no_more.new.self;
      last = c.wait.new.self;
      waits_no_more = c.wait_no_more.ensures;
      waits = c.in_ok-wait.ensures;
      others = refl;
      queued = queue_let c.args.place c.args.until c.args.self.now.ready.items c.wait.new.self.ready.items kept
          (queued_some c.args.place c.args.until c.is_none.result c.is_none.ensures c.if-is_none.false);
    }
