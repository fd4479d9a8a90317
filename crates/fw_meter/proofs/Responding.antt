-- From an operation and its reply to what a meter does with a request.
use Rattle.std.proofs.Common.{◌≡◌, ℕ, true, List, Option, None, refl, subst, ap, ◌∙◌}
use Rattle.fw_apdu.specs.Request.{RequestContent}
use Rattle.fw_names.specs.Name.{Name}
use Rattle.fw_server.specs.Meaning.{Meaning, read, refused, meaning_of, code_number}
use Rattle.fw_server.specs.declared.object.Reading.{Reading}
use Rattle.fw_server.specs.declared.code.ResultCode.{ResultCode}
use Rattle.fw_server.specs.Laws.{RefusesRequest}
use Rattle.fw_image.specs.State.{State}
use Rattle.fw_meter.specs.Step.{got, coded, tells_no_fault, activation_of, answer_of, MeterStep}
use Rattle.fw_meter.specs.Handling.{Responds, reply_to}
use Rattle.fw_meter.specs.Private.{IsCalled, Steps}
use Rattle.fw_meter.proofs.Calling.{none_called, denied_called}

pub responds : (old new : State) (asked : Meaning) (source invoke : ℕ) (content : RequestContent) (c : ℕ) (reply : Option (List ℕ)) (activated : Option Name)
    → asked ≡ meaning_of content → Steps old asked c new → reply ≡ reply_to source invoke content (coded c) → activated ≡ activation_of asked (coded c) new.meter
    → Responds old.honest (IsCalled old (meaning_of content) new) old.meter source invoke content reply activated new.meter
responds old new asked source invoke content c reply activated asks steps replies activates = record {
  result = coded c;
  steps = subst (λ (m : Meaning). MeterStep old.honest old.meter m (coded c) new.meter) asks steps.step;
  replies = replies;
  activates = activates ∙ ap (λ (m : Meaning). activation_of m (coded c) new.meter) asks;
  faults = subst (λ (m : Meaning). IsCalled old m new (tells_no_fault (coded c))) asks steps.called;
}

-- ---- what changes nothing

pub responds_value : (this : State) (reading : Reading) (source invoke : ℕ) (content : RequestContent) (reply : Option (List ℕ)) (activated : Option Name)
    → read reading ≡ meaning_of content → reply ≡ reply_to source invoke content (got (answer_of this.meter reading)) → activated ≡ None
    → Responds this.honest (IsCalled this (meaning_of content) this) this.meter source invoke content reply activated this.meter
responds_value this reading source invoke content reply activated asks replies none = record {
  result = got (answer_of this.meter reading);
  steps = subst (λ (m : Meaning). MeterStep this.honest this.meter m (got (answer_of this.meter reading)) this.meter) asks (refl, refl);
  replies = replies;
  activates = none ∙ ap (λ (m : Meaning). activation_of m (got (answer_of this.meter reading)) this.meter) asks;
  faults = subst (λ (m : Meaning). IsCalled this m this true) asks (none_called this (read reading) (λ operation h. h));
}

pub responds_code : (this : State) (c : ResultCode) (source invoke : ℕ) (content : RequestContent) (reply : Option (List ℕ)) (activated : Option Name)
    → RefusesRequest c → refused c ≡ meaning_of content → reply ≡ reply_to source invoke content (coded (code_number c)) → activated ≡ None
    → Responds this.honest (IsCalled this (meaning_of content) this) this.meter source invoke content reply activated this.meter
responds_code this c source invoke content reply activated refuses asks replies none = record {
  result = coded (code_number c);
  steps = subst (λ (m : Meaning). MeterStep this.honest this.meter m (coded (code_number c)) this.meter) asks (refl, refl);
  replies = replies;
  activates = none ∙ ap (λ (m : Meaning). activation_of m (coded (code_number c)) this.meter) asks;
  faults = subst (λ (m : Meaning). IsCalled this m this (tells_no_fault (coded (code_number c)))) asks (denied_called this c refuses);
}
