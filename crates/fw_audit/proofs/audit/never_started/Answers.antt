use Rattle.std.proofs.Common.{List, [], ◌∷◌, refl, ◌∙◌}
use Rattle.std.proofs.lemmas.List.Elements.{Contains-push}
use Rattle.fw_image.specs.Meter.{reopened}
use Rattle.fw_audit.proofs.Audits.{alone, found_left, is_log, looks_more, looks_none, none_left}
use Rattle.fw_audit.proofs.audit.never_started.Goals as goal

pub returns-then-is : goal.returns-then-is
returns-then-is c heads =
    let begin = reopened c.args.begin.meter in
    let left = c.new-left.result in
    let are = alone heads begin left c.new-left.ensures.meter (c.new-left.ensures.images ∙ c.new.ensures.items) c.new-left.ensures.rests in
    found_left heads begin c.args.end.now.meter [] (left ∷ []) left c.into_images.result.items are (Contains-push [] left) (c.is.ensures.some c.if-is.true) c.into_images.ensures

pub returns : goal.returns
returns c heads =
    let begin = reopened c.args.begin.meter in
    let end = c.args.end.now.meter in
    let left = c.new-left.result in
    let are = alone heads begin left c.new-left.ensures.meter (c.new-left.ensures.images ∙ c.new.ensures.items) c.new-left.ensures.rests in (
      is_log heads begin [] (left ∷ []) are,
      none_left heads begin end [] (left ∷ []) are (looks_more (left ∷ []) (left ∷ []) [] left end (looks_none (left ∷ []) end) refl (c.is.ensures.none c.if-is.false)),
    )
