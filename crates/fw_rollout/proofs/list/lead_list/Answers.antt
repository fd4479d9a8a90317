use Rattle.std.proofs.Common.{◌++◌, ◌∙◌, List, [], sym, ap, subst, refl}
use Rattle.std.proofs.lemmas.List.{append-nil}
use Rattle.std.proofs.lemmas.Result.{on_ok_weaker}
use Rattle.std.specs.Global.{Vec}
use Rattle.fw_rollout.specs.Daemon.{GoesOn}
use Rattle.fw_rollout.specs.Leading as leading
use Rattle.fw_port.specs.Lists.{acts_of}
use Rattle.fw_port.specs.declared.list.Deed.{Deed}
use Rattle.fw_rollout.specs.declared.ended.Ended.{Ended}
use Rattle.fw_rollout.proofs.Rounds.{led_either}
use Rattle.fw_rollout.proofs.list.lead_list.Goals as goal

pub serve_head-led-requires : goal.serve_head-led-requires
serve_head-led-requires g c = record {
  begins = λ honest. record {
    leader = c.requires.0;
    led = c.requires.1;
    rests = c.requires.2;
    may = λ steps now led.
        (c.requires.0, steps, now, led, ap (λ (deeds : List (Deed Ended)). leading.acts_of steps ++ acts_of deeds) c.new-port.ensures ∙ append-nil (leading.acts_of steps));
  };
}

pub returns-clause-leads : goal.returns-clause-leads
returns-clause-leads g c = λ start led rests.
    let after = acts_of c.serve_head-led.new.port.deeds.items in
    let made = c.serve_head-led.ensures.leads in
    let done : leading.HasLed start (acts_of c.new-port.result.deeds.items) after =
    led_either _ _ _ c.serve_head-led.new.daemon c.serve_head-led.result start _ _ (made.leads refl start led rests) (made.leads_err refl start led rests) in
    let begun : leading.HasLed start [] after = subst (λ (deeds : List (Deed Ended)). leading.HasLed start (acts_of deeds) after) c.new-port.ensures done in
    subst (λ (deeds : Vec (Deed Ended)). leading.HasLed start [] (acts_of deeds.items)) (sym c.into_deeds.ensures) begun

pub returns-clause-goes_on : goal.returns-clause-goes_on
returns-clause-goes_on g c = λ start led rests.
    let J = g.D.JournalDevice in
    let after = acts_of c.serve_head-led.new.port.deeds.items in
    on_ok_weaker c.serve_head-led.result (λ (done : GoesOn J.honest J.contents J.may_leave start (acts_of c.new-port.result.deeds.items) after c.serve_head-led.new.daemon).
    let begun : GoesOn J.honest J.contents J.may_leave start [] after c.serve_head-led.new.daemon =
    subst (λ (deeds : List (Deed Ended)). GoesOn J.honest J.contents J.may_leave start (acts_of deeds) after c.serve_head-led.new.daemon) c.new-port.ensures done in
    subst (λ (deeds : Vec (Deed Ended)). GoesOn J.honest J.contents J.may_leave start [] (acts_of deeds.items) c.serve_head-led.new.daemon) (sym c.into_deeds.ensures) begun)
    (c.serve_head-led.ensures.leads.leads refl start led rests)
