use Rattle.std.proofs.Common.{◌<◌, Bool, List, [], ◌∷◌, ◌++◌, take, length, is_some, refl, sym, ap, ◌∙◌, arith}
use Rattle.std.proofs.lemmas.List.{map_more, take_more}
use Rattle.std.proofs.lemmas.Option.{slice_get_read}
use Rattle.fw_head.specs.Head.{row_of}
use Rattle.fw_rollout.specs.declared.link.Listed.{Listed}
use Rattle.fw_rollout.specs.Daemon.{live_of}
use Rattle.fw_rollout.specs.Schedule.{links_of}
use Rattle.fw_rollout.proofs.Lives.{new_address}
use Rattle.fw_rollout.proofs.daemon.schedule_of.Goals as goal

pub add-requires : goal.add-requires
add-requires c =
    let meters = c.args.meters.now in
    let k = c.loop-at.at-index in
    let inside : k < length meters = omega (arith, c.loop-at-test.true) in
    new_address (links_of c.loop-at.schedule) meters k c.at-item.result c.loop-at.invariant.listed c.requires (slice_get_read meters (length meters) k c.at-item.result refl inside c.at-item.is)

pub loop-at-preserved : goal.loop-at-preserved
loop-at-preserved c =
    let meters = c.args.meters.now in
    let head = c.args.head.now in
    let k = c.loop-at.at-index in
    let at = c.at-item.result in
    let so_far = take k meters in
    let inside : k < length meters = omega (arith, c.loop-at-test.true) in
    record {
      listed =
          c.in_ok-add.ensures.listed
          ∙ ap (λ (xs : List Listed). xs ++ at ∷ []) c.loop-at.invariant.listed
          ∙ ap (λ (x : Listed). so_far ++ x ∷ []) c.at-item.is
          ∙ sym (take_more meters k at inside);
      timing = c.in_ok-add.ensures.timing ∙ c.loop-at.invariant.timing;
      lives =
          c.in_ok-add.ensures.lives
          ∙ ap (λ (bs : List Bool). bs ++ c.has_row.result ∷ []) c.loop-at.invariant.lives
          ∙ ap (λ (b : Bool). live_of head so_far ++ b ∷ []) (c.has_row.ensures.value ∙ ap (λ (x : Listed). is_some (row_of head.rows x.meter)) c.at-item.is)
          ∙ sym (map_more (λ (x : Listed). is_some (row_of head.rows x.meter)) meters k at inside);
      schedule = c.in_ok-add.ensures.schedule c.loop-at.invariant.schedule;
    }
