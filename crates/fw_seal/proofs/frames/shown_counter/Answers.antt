use Rattle.std.proofs.Common.{refl}
use Rattle.fw_seal.proofs.FormFacts.{no_content, no_form}
use Rattle.fw_seal.proofs.frames.shown_counter.Goals as goal

pub returns-in_default : goal.returns-in_default
returns-in_default c = no_form c.args.bytes.now c.in_default.ensures.none

pub returns-in_default-parts_of : goal.returns-in_default-parts_of
returns-in_default-parts_of c =
    no_content c.args.bytes.now c.in-Some.content.now c.in-Some.field-0-0 c.in-Some.ensures.found c.in_default-parts_of.ensures.none

pub returns : goal.returns
returns c = (
  record {
    tag = c.in-Some.field-0-0;
    content = c.in-Some.content.now;
    framed = c.in-Some.ensures.found;
    counter = c.in-Some-parts_of.parts.counter;
    text = c.in-Some-parts_of.parts.text.now;
    mac = c.in-Some-parts_of.parts.mac.now;
    filled = c.in-Some-parts_of.ensures.found;
  },
  refl,
)
