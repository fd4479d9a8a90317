use Rattle.std.specs.Prelude.{string_bytes}
use Rattle.fw_dissect.proofs.Worded.{plain, unopened}
use Rattle.fw_dissect.proofs.words.append_words.Goals as goal

pub returns-in-Some-counter_of : goal.returns-in-Some-counter_of
returns-in-Some-counter_of c =
    unopened c.append_unopened.result c.args.links.now c.args.bytes.now (string_bytes c.args.text.now) (string_bytes c.append_unopened.new.text) c.in-Some-counter_of.counter
    c.in-Some-counter_of.ensures (rw c.in_default.is at c.in_ok-unsealed.ensures) c.append_unopened.ensures

pub returns-in-None : goal.returns-in-None
returns-in-None c =
    plain c.append_plain.result c.args.links.now c.args.bytes.now (string_bytes c.args.text.now) (string_bytes c.append_plain.new.text) c.in-None.ensures c.append_plain.ensures
