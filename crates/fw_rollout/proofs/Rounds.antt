-- What a daemon does after what it did.
use Rattle.std.proofs.Common.{◌≡◌, List, [], ◌∷◌, inl, inr, refl, sym, ap, subst, ◌∙◌}
use Rattle.std.specs.declared.net.socket_addr.SocketAddr.{SocketAddr}
use Rattle.std.specs.Prelude.{ℕ, Bool, OnErr, OnOk, Result, Ok, Err}
use Rattle.fw_rollout.specs.declared.daemon.HeadDaemon.{HeadDaemon}
use Rattle.fw_rollout.specs.declared.daemon.Heard.{Heard}
use Rattle.fw_port.specs.Acts.{came, quiet}
use Rattle.fw_rollout.specs.Acts.{Act}
use Rattle.fw_rollout.specs.Leading.{HasLed, HasLiveRow, HearsAs, IsListed, Leader, Leads, SavesAll, Steps, TicksMeter, hears, idles, saves, ticks}
use Rattle.fw_rollout.specs.Daemon.{Begins, GoesOn, IsLed, Rests}
use Rattle.fw_rollout.proofs.Steps.{leads_by, leads_none, leads_on, may_on}

-- what is about to be sent and reported is no part of a daemon
pub led_sent : {D : Type 0} (honest : D → Bool) (contents : D → List ℕ) (may_leave : D → List ℕ → Type 0) (daemon : HeadDaemon D) (leader : Leader)
    → IsLed honest contents may_leave daemon leader → IsLed honest contents may_leave daemon (record leader { going = [] })
led_sent honest contents may_leave daemon leader led = record {
  holds = led.holds;
  meters = led.meters;
  list = led.list;
  head = led.head;
  unsaved = led.unsaved;
  noted = led.noted;
  schedule = led.schedule;
  lives = led.lives;
}

pub led_told : {D : Type 0} (honest : D → Bool) (contents : D → List ℕ) (may_leave : D → List ℕ → Type 0) (daemon : HeadDaemon D) (leader : Leader)
    → IsLed honest contents may_leave daemon leader → IsLed honest contents may_leave daemon (record leader { untold = [] })
led_told honest contents may_leave daemon leader led = record {
  holds = led.holds;
  meters = led.meters;
  list = led.list;
  head = led.head;
  unsaved = led.unsaved;
  noted = led.noted;
  schedule = led.schedule;
  lives = led.lives;
}

pub at_err : {A E X : Type 0} (r : Result A E) → X → OnErr r X
at_err (Ok a) x = tt
at_err (Err e) x = x

-- from each head end that rests and of which the first daemon is, the head end did this, and the second is its own then
abbrev pub Follows : {D : Type 0} → (D → Bool) → (D → List ℕ) → (D → List ℕ → Type 0) → HeadDaemon D → List Act → List Act → HeadDaemon D → Type 0
Follows honest contents may_leave old before after new =
    (start : Leader) → IsLed honest contents may_leave old start → Rests start → GoesOn honest contents may_leave start before after new

-- the same, whatever the daemon is then
abbrev pub HasFollowed : {D : Type 0} → (D → Bool) → (D → List ℕ) → (D → List ℕ → Type 0) → HeadDaemon D → List Act → List Act → Type 0
HasFollowed honest contents may_leave old before after =
    (start : Leader) → IsLed honest contents may_leave old start → Rests start → HasLed start before after

pub follows_none : {D : Type 0} (honest : D → Bool) (contents : D → List ℕ) (may_leave : D → List ℕ → Type 0) (daemon : HeadDaemon D) (before : List Act)
    → Follows honest contents may_leave daemon before before daemon
follows_none honest contents may_leave daemon before = λ start led rests. record { now = start; leads = leads_none start before; led = led; rests = rests }

pub joined : {D : Type 0} (honest : D → Bool) (contents : D → List ℕ) (may_leave : D → List ℕ → Type 0) (old new : HeadDaemon D) (start : Leader) (before acts after : List Act)
    (first : GoesOn honest contents may_leave start before acts old) → GoesOn honest contents may_leave first.now acts after new → GoesOn honest contents may_leave start before after new
joined honest contents may_leave old new start before acts after first second = record {
  now = second.now;
  leads = leads_on start first.now second.now before acts after first.leads second.leads;
  led = second.led;
  rests = second.rests;
}

pub goes_on : {D : Type 0} (honest : D → Bool) (contents : D → List ℕ) (may_leave : D → List ℕ → Type 0) (old new : HeadDaemon D) (start : Leader) (before acts after : List Act)
    → GoesOn honest contents may_leave start before acts old → Follows honest contents may_leave old acts after new → GoesOn honest contents may_leave start before after new
goes_on honest contents may_leave old new start before acts after first second =
    joined honest contents may_leave old new start before acts after first (second first.now first.led first.rests)

pub has_led : {D : Type 0} (honest : D → Bool) (contents : D → List ℕ) (may_leave : D → List ℕ → Type 0) (old : HeadDaemon D) (start : Leader) (before acts after : List Act)
    → GoesOn honest contents may_leave start before acts old → HasFollowed honest contents may_leave old acts after → HasLed start before after
has_led honest contents may_leave old start before acts after first second =
    let then = second first.now first.led first.rests in
    (then.0, leads_on start first.now then.0 before acts after first.leads then.1)

pub has_led_on : {D : Type 0} (honest : D → Bool) (contents : D → List ℕ) (may_leave : D → List ℕ → Type 0) (old : HeadDaemon D) (start : Leader) (before acts after : List Act)
    (first : GoesOn honest contents may_leave start before acts old) → HasLed first.now acts after → HasLed start before after
has_led_on honest contents may_leave old start before acts after first second =
    (second.0, leads_on start first.now second.0 before acts after first.leads second.1)

-- whatever the result is
pub led_either : {D T E : Type 0} (honest : D → Bool) (contents : D → List ℕ) (may_leave : D → List ℕ → Type 0) (new : HeadDaemon D) (r : Result T E) (start : Leader) (before after : List Act)
    → OnOk r (GoesOn honest contents may_leave start before after new) → OnErr r (HasLed start before after) → HasLed start before after
led_either honest contents may_leave new (Ok value) start before after goes err = (goes.now, goes.leads)
led_either honest contents may_leave new (Err e) start before after goes err = err

-- a daemon that begins, and went on, begins from there
pub begins_on : {D : Type 0} (honest : D → Bool) (contents : D → List ℕ) (may_leave : D → List ℕ → Type 0) (old new : HeadDaemon D) (legal later : List Act → Type 0)
    (before after : List Act) → ((done : List Act) → legal done → later done) → Begins honest contents may_leave old legal before
    → Follows honest contents may_leave old before after new → Begins honest contents may_leave new later after
begins_on honest contents may_leave old new legal later before after law begins follows =
    let then = follows begins.leader begins.led begins.rests in
    record {
      leader = then.now;
      led = then.led;
      rests = then.rests;
      may = may_on legal later begins.leader then.now before after law begins.may then.leads;
    }

-- ---- one step of each kind

rests_hearing : (old new : Leader) (from : SocketAddr) (datagram : List ℕ) → Steps old (hears from datagram) new → Rests old → Rests new
rests_hearing old new from datagram (inl h) rests =
    record { sent_all = ap (λ (l : Leader). l.going) h.others ∙ rests.sent_all; told_all = ap (λ (l : Leader). l.untold) h.others ∙ rests.told_all }
rests_hearing old new from datagram (inr (inl h)) rests = subst (λ (l : Leader). Rests l) (sym h.same) rests
rests_hearing old new from datagram (inr (inr h)) rests = subst (λ (l : Leader). Rests l) (sym h.same) rests

-- a datagram came, and was heard
pub heard : {D : Type 0} (honest : D → Bool) (contents : D → List ℕ) (may_leave : D → List ℕ → Type 0) (new : HeadDaemon D) (start next : Leader) (from : SocketAddr)
    (datagram : List ℕ) (before after : List Act) → after ≡ came from datagram ∷ before → Rests start → Steps start (hears from datagram) next
    → IsLed honest contents may_leave new next → GoesOn honest contents may_leave start before after new
heard honest contents may_leave new start next from datagram before after is rests hearing led = record {
  now = next;
  leads = leads_by start next (hears from datagram) before after is hearing;
  led = led;
  rests = rests_hearing start next from datagram hearing rests;
}

-- what is returned of a datagram goes with a step
pub step_of : (old new : Leader) (from : SocketAddr) (datagram : List ℕ) (what : Heard) → HearsAs old from datagram what new → Steps old (hears from datagram) new
step_of old new from datagram what (inl hearing) = inl hearing.0
step_of old new from datagram what (inr strange) = inr (inr strange.1)

-- there was no memory for it
pub unheard : (start : Leader) (from : SocketAddr) (datagram : List ℕ) (before after : List Act) → after ≡ came from datagram ∷ before
    → ((meter : ℕ) × IsListed start meter from × HasLiveRow start meter) → HasLed start before after
unheard start from datagram before after is wants =
    (start, leads_by start start (hears from datagram) before after is (inr (inl (record { meter = wants.0; listed = wants.1; live = wants.2; same = refl }))))

-- nothing was done
pub has_led_same : (start : Leader) (before after : List Act) → after ≡ before → HasLed start before after
has_led_same start before after is = (start, record { steps = []; adds = is; leading = refl })

-- nothing came
pub idled : {D : Type 0} (honest : D → Bool) (contents : D → List ℕ) (may_leave : D → List ℕ → Type 0) (daemon : HeadDaemon D) (before after : List Act)
    → after ≡ quiet ∷ before → Follows honest contents may_leave daemon before after daemon
idled honest contents may_leave daemon before after is = λ start led rests.
    record { now = start; leads = leads_by start start idles before after is refl; led = led; rests = rests }

-- what a row sends is sent
pub ticked : {D : Type 0} (honest : D → Bool) (contents : D → List ℕ) (may_leave : D → List ℕ → Type 0) (new : HeadDaemon D) (start next : Leader) (meter : ℕ)
    (before after : List Act) → Rests start → TicksMeter start meter next → IsLed honest contents may_leave new next → Leads next before after (record next { going = [] })
    → GoesOn honest contents may_leave start before after new
ticked honest contents may_leave new start next meter before after rests ticking led sending = record {
  now = record next { going = [] };
  leads = leads_on start next _ before before after (leads_by start next (ticks meter) before before refl ticking) sending;
  led = led_sent honest contents may_leave new next led;
  rests = record { sent_all = refl; told_all = ap (λ (l : Leader). l.untold) ticking.others ∙ rests.told_all };
}

-- the rows that ended are put on the device and reported
pub saved : {D : Type 0} (honest : D → Bool) (contents : D → List ℕ) (may_leave : D → List ℕ → Type 0) (new : HeadDaemon D) (start next : Leader)
    (before after : List Act) → Rests start → SavesAll start next → IsLed honest contents may_leave new next → Leads next before after (record next { untold = [] })
    → GoesOn honest contents may_leave start before after new
saved honest contents may_leave new start next before after rests saving led telling = record {
  now = record next { untold = [] };
  leads = leads_on start next _ before before after (leads_by start next saves before before refl saving) telling;
  led = led_told honest contents may_leave new next led;
  rests = record { sent_all = ap (λ (l : Leader). l.going) saving ∙ rests.sent_all; told_all = refl };
}
