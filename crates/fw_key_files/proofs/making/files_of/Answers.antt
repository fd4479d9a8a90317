use Rattle.std.proofs.Common.{◌∙◌, List, ap, rules, subst, sym}
use Rattle.std.specs.Prelude.{All}
use Rattle.std.proofs.lemmas.List.{get_or_default}
use Rattle.std.proofs.lemmas.List.Elements.{All-push}
use Rattle.fw_key_files.specs.Making.{IsFileOf, KeyText, owners_of}
use Rattle.fw_key_files.proofs.Linked.{linked}
use Rattle.fw_key_files.proofs.Made.{owners_more}
use Rattle.fw_key_files.proofs.making.files_of.Goals as goal

pub meter_file-requires : goal.meter_file-requires
meter_file-requires c = record {
  linked = linked c.args.keys.now.entries c.args.making.now.meters.now c.loop-meter.meter-index c.meter-item.result c.requires.ends
      c.loop-meter-test.true (search (rules, get_or_default));
}

pub loop-meter-preserved : goal.loop-meter-preserved
loop-meter-preserved c = record {
  owners = ap (λ (files : List KeyText). owners_of files) c.in_ok-push-2.ensures.items
      ∙ owners_more c.loop-meter.files.items c.in_ok-meter_file.field-0 c.args.making.now.meters.now c.loop-meter.meter-index c.meter-item.result
      c.loop-meter.invariant.owners c.loop-meter-test.true (search (rules, get_or_default)) c.in_ok-meter_file.ensures.0;
  are = subst (λ (files : List KeyText). All (λ file. IsFileOf c.args.making.now c.args.keys.now file) files) (sym c.in_ok-push-2.ensures.items)
      (All-push (λ file. IsFileOf c.args.making.now c.args.keys.now file) c.loop-meter.files.items c.in_ok-meter_file.field-0
      c.loop-meter.invariant.are c.in_ok-meter_file.ensures.1);
}
