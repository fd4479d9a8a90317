use Rattle.std.proofs.Common.{[], refl}
use Rattle.fw_plan.proofs.Contacts.{asked_more, heard_more}
use Rattle.fw_plan.proofs.laws.contact_follows.Goals as goal

pub returns : goal.returns
returns c = record {
  at_first = record { before = []; since = []; split = refl; heard_last = refl; asked_first = refl };
  once_asked = λ events contact now is. asked_more now contact events is;
  once_heard = λ events contact now is. heard_more now contact events is;
}
