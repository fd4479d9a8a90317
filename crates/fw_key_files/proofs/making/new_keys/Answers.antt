use Rattle.std.proofs.Common.{◌∙◌, ap, rules, ℕ}
use Rattle.std.proofs.lemmas.List.{get_or_default}
use Rattle.fw_keys.specs.Links.{Links}
use Rattle.fw_key_files.proofs.Made.{ends_more, links_more}
use Rattle.fw_key_files.proofs.making.new_keys.Goals as goal

pub loop-meter-preserved : goal.loop-meter-preserved
loop-meter-preserved g c =
    let (bytes, gave, is) = c.in_ok-add_link.ensures.added in
    record {
      own = ap (λ (keys : Links ℕ). keys.own) is ∙ c.loop-meter.invariant.own;
      ends = ends_more c.loop-meter.keys c.add_link.new.keys c.args.meters.now bytes c.loop-meter.meter-index _ is c.loop-meter.invariant.ends
          c.loop-meter-test.true (search (rules, get_or_default));
      new = links_more _ c.loop-meter.keys c.add_link.new.keys bytes _ is gave c.loop-meter.invariant.new;
    }
