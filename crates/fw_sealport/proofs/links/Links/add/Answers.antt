use Rattle.std.proofs.Common.{refl}
use Rattle.fw_sealport.proofs.links.Links.add.Goals as goal

pub returns-clause-added : goal.returns-clause-added
returns-clause-added c = record {
  peer = c.new.result;
  there = c.in_ok-insert.ensures.updates.1;
  link = c.new.ensures.link;
  none_came = c.new.ensures.window;
  others = λ other apart. c.in_ok-insert.ensures.updates.2 other apart;
  order = refl;
}
