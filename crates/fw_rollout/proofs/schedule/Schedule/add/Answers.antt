use Rattle.std.proofs.Common.{◌≡◌, ◌++◌, ◌∷◌, [], refl, length, ap, arith, ◌<◌, ◌^◌, ◌∙◌}
use Rattle.fw_rollout.specs.Schedule.{links_of}
use Rattle.fw_rollout.proofs.Adding.{added, at_queue_end, before_queue_end, new_link_places, new_no_time, no_entry, none_more, none_queued, one_more, queue_off, queue_on}
use Rattle.fw_rollout.proofs.Counting.{live_at_most}
use Rattle.fw_rollout.proofs.Placing.{is_put}
use Rattle.fw_rollout.proofs.schedule.Schedule.add.Goals as goal

pub returns-else-is_live-clause-schedule : goal.returns-else-is_live-clause-schedule
returns-else-is_live-clause-schedule c = λ s.
    let old = c.args.self.now in
    let link = c.new-link.result in
    let no = c.requires in
    let perm = is_put old.places.entries c.insert.new.self.entries c.args.at.address c.len-place.result c.in_ok-insert.field-0 c.in_ok-insert.ensures.old c.in_ok-insert.ensures.entries
    (no_entry c.args.at.address old s no) in
    let places = new_link_places link c.args.at old.places.entries c.insert.new.self.entries c.len-place.result (length (links_of old)) (ap (λ l. l.at) c.new-link.ensures) (c.len-place.ensures ∙ old.links.ok.0) perm in
    let turned = ap (λ l. l.turn) c.new-link.ensures in
    let off = c.if-is_live.false in
    added link old _ s (record {
      links = c.in_ok-push.ensures.items;
      timing = refl;
      waiting = refl;
      none_out = ap (λ l. l.out) c.new-link.ensures;
      no_time = new_no_time link c.args.is_live turned;
      out = refl;
      live = none_more old.live link c.args.is_live turned off;
      places = places;
      queue_here = queue_off _ link c.args.is_live turned off (none_queued old s);
      queue_apart = λ other n. refl;
    })

pub returns-in_ok-push_back-clause-schedule : goal.returns-in_ok-push_back-clause-schedule
returns-in_ok-push_back-clause-schedule c = λ s.
    let old = c.args.self.now in
    let link = c.new-link.result in
    let no = c.requires in
    let perm = is_put old.places.entries c.insert.new.self.entries c.args.at.address c.len-place.result c.in_ok-insert.field-0 c.in_ok-insert.ensures.old c.in_ok-insert.ensures.entries
    (no_entry c.args.at.address old s no) in
    let places = new_link_places link c.args.at old.places.entries c.insert.new.self.entries c.len-place.result (length (links_of old)) (ap (λ l. l.at) c.new-link.ensures) (c.len-place.ensures ∙ old.links.ok.0) perm in
    let turned = ap (λ l. l.turn) c.new-link.ensures in
    let on = c.if-is_live.true in
    let many = live_at_most old s in
    let at_end = c.len-place.ensures ∙ old.links.ok.0 in
    let pushed : c.push_back.new.self.items ≡ old.ready.items ++ c.len-place.result ∷ [] = c.in_ok-push_back.ensures.items in
    let small : length (links_of old) < 2 ^ 63 = omega (arith, old.links.ok.0, old.links.ok.1, old.links.small) in
    added link old _ s (record {
      links = c.in_ok-push.ensures.items;
      timing = refl;
      waiting = refl;
      none_out = ap (λ l. l.out) c.new-link.ensures;
      no_time = new_no_time link c.args.is_live turned;
      out = refl;
      live = one_more old.live c.saturating_add-self.result (length (links_of old)) link c.args.is_live turned on c.saturating_add-self.ensures many small;
      places = places;
      queue_here = queue_on _ link c.args.is_live turned on (at_queue_end old c.len-place.result c.push_back.new.self.items s at_end pushed);
      queue_apart = before_queue_end old c.len-place.result c.push_back.new.self.items at_end pushed;
    })
