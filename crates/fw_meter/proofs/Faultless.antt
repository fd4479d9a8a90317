-- Over an honest store that doesn't fail, no hardware fault is returned.
use Rattle.std.proofs.Common.{ℕ, Bool, true, IsTrue, List, Option, inl, inr}
use Rattle.fw_names.specs.Name.{Name}
use Rattle.fw_image.specs.Meter.{Meter}
use Rattle.fw_image.specs.State.{Counts}
use Rattle.fw_meter.specs.Step.{tells_no_fault}
use Rattle.fw_meter.specs.Handling.{Handles}
use Rattle.fw_meter.specs.Laws.{Faultless}

-- what is known of the faults is so if something else is known
knowing : (honest : Bool) (A B : Bool → Type 0) (old new : Meter) (datagram : List ℕ) (reply : Option (List ℕ)) (activated : Option Name) → ((faultless : Bool) → A faultless → B faultless) → Handles honest A old datagram reply activated new
    → Handles honest B old datagram reply activated new
knowing honest A B old new datagram reply activated more (inl serves) = inl (record {
  source = serves.source;
  invoke = serves.invoke;
  content = serves.content;
  brings = serves.brings;
  responds = record {
    result = serves.responds.result;
    steps = serves.responds.steps;
    replies = serves.responds.replies;
    activates = serves.responds.activates;
    faults = more (tells_no_fault serves.responds.result) serves.responds.faults;
  };
})
knowing honest A B old new datagram reply activated more (inr drops) = inr (record {
  nothing = drops.nothing;
  silent = drops.silent;
  none_activated = drops.none_activated;
  same = drops.same;
  faults = more true drops.faults;
})

-- and there is none
pub faultless : Faultless
faultless old new datagram reply activated honest sound handles =
    let sure = knowing old.honest (Counts old new) IsTrue old.meter new.meter datagram reply activated (λ _ counts. counts.never sound) handles in
    rw honest at sure
