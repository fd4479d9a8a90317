use Rattle.std.proofs.Common.{rules, ◌≡◌, ◌∷◌, List, [], Some, None, Bool, IsTrue, take, sym, subst, refl, inl, inr}
use Rattle.fw_meter.specs.Handling.{reply_bytes}
use Rattle.fw_port.specs.Acts.{came, quiet, sent}
use Rattle.fw_daemon.specs.Acts.{Act}
use Rattle.fw_daemon.specs.Daemon.{daemon_of}
use Rattle.fw_daemon.proofs.Rounds.{replied, silent}
use Rattle.fw_daemon.specs.declared.daemon.Heard.TheVariants as heard
use Rattle.fw_daemon.proofs.Steps.{quiet_round, strange_round, unserved_round, silent_round, replied_round, replies}
use Rattle.fw_daemon.proofs.Watching.{handled}
use Rattle.fw_daemon.proofs.serving.step.Goals as goal

pub returns-in_default-clause-serves : goal.returns-in_default-clause-serves
returns-in_default-clause-serves g c = λ honest.
    let is : g.P.Port.acts c.receive.new.self ≡ quiet ∷ g.P.Port.acts c.args.port.now = search rules in
    quiet_round _ _ _ _ is c.turn.ensures.turns

pub send-requires : goal.send-requires
send-requires g c = λ h.
    let honest : IsTrue (g.P.Port.honest c.args.port.now) = subst (λ (b : Bool). IsTrue b) c.receive.ensures.honesty h in
    let is : g.P.Port.acts c.receive.new.self ≡ came c.in-Some.arrival.from (take c.in-Some.arrival.count c.receive.new.buffer) ∷ g.P.Port.acts c.args.port.now = search rules in
    let reply : reply_bytes c.in-Handled.handled.reply ≡ Some c.deref.result.now = search rules in
    subst (λ (l : List Act). g.P.Port.legal c.receive.new.self (sent c.in-Some.arrival.from c.deref.result.now ∷ l)) (sym is)
    (c.receive.ensures.law _ (c.requires honest
    (sent c.in-Some.arrival.from c.deref.result.now ∷ came c.in-Some.arrival.from (take c.in-Some.arrival.count c.receive.new.buffer) ∷ []) (daemon_of c.heard.new.self)
    (replies _ _ _ _ _ _ _ c.in-Handled.ensures reply)))

pub returns-in-Some-reply-clause-serves : goal.returns-in-Some-reply-clause-serves
returns-in-Some-reply-clause-serves g c = λ honest.
    let is : g.P.Port.acts c.receive.new.self ≡ came c.in-Some.arrival.from (take c.in-Some.arrival.count c.receive.new.buffer) ∷ g.P.Port.acts c.args.port.now = search rules in
    let sends : g.P.Port.acts c.send.new.self ≡ sent c.in-Some.arrival.from c.deref.result.now ∷ g.P.Port.acts c.receive.new.self = search rules in
    let reply : reply_bytes c.in-Handled.handled.reply ≡ Some c.deref.result.now = search rules in
    replied_round _ _ _ _ _ _ _ _ _ _ is sends c.in-Handled.ensures reply

pub returns-in-None-clause-serves : goal.returns-in-None-clause-serves
returns-in-None-clause-serves g c = λ honest.
    let is : g.P.Port.acts c.receive.new.self ≡ came c.in-Some.arrival.from (take c.in-Some.arrival.count c.receive.new.buffer) ∷ g.P.Port.acts c.args.port.now = search rules in
    let reply : reply_bytes c.in-Handled.handled.reply ≡ None = search rules in
    silent_round _ _ _ _ _ _ _ _ is c.in-Handled.ensures reply

pub returns-in-Stranger-clause-serves : goal.returns-in-Stranger-clause-serves
returns-in-Stranger-clause-serves g c = λ honest.
    let is : g.P.Port.acts c.receive.new.self ≡ came c.in-Some.arrival.from (take c.in-Some.arrival.count c.receive.new.buffer) ∷ g.P.Port.acts c.args.port.now = search rules in
    strange_round _ _ _ _ _ _ _ is c.in-Stranger.ensures c.turn-in-Stranger.ensures.turns

pub returns-in-OutOfMemory-clause-serves : goal.returns-in-OutOfMemory-clause-serves
returns-in-OutOfMemory-clause-serves g c = λ honest.
    let is : g.P.Port.acts c.receive.new.self ≡ came c.in-Some.arrival.from (take c.in-Some.arrival.count c.receive.new.buffer) ∷ g.P.Port.acts c.args.port.now = search rules in
    unserved_round _ _ _ _ _ _ is c.in-OutOfMemory.ensures

pub returns-in_default-clause-round : goal.returns-in_default-clause-round
returns-in_default-clause-round g c = λ honest.
    let is : g.P.Port.acts c.receive.new.self ≡ quiet ∷ g.P.Port.acts c.args.port.now = search rules in
    inl (is, c.turn.ensures.told, c.turn.ensures.turns)

pub returns-in-Some-reply-clause-round : goal.returns-in-Some-reply-clause-round
returns-in-Some-reply-clause-round g c = λ honest.
    let is : g.P.Port.acts c.receive.new.self ≡ came c.in-Some.arrival.from (take c.in-Some.arrival.count c.receive.new.buffer) ∷ g.P.Port.acts c.args.port.now = search rules in
    let sends : g.P.Port.acts c.send.new.self ≡ sent c.in-Some.arrival.from c.deref.result.now ∷ g.P.Port.acts c.receive.new.self = search rules in
    let reply : reply_bytes c.in-Handled.handled.reply ≡ Some c.deref.result.now = search rules in
    replied _ _ _ _ _ _ _ _ _ _ is sends c.in-Handled.ensures reply

pub returns-in-None-clause-round : goal.returns-in-None-clause-round
returns-in-None-clause-round g c = λ honest.
    let is : g.P.Port.acts c.receive.new.self ≡ came c.in-Some.arrival.from (take c.in-Some.arrival.count c.receive.new.buffer) ∷ g.P.Port.acts c.args.port.now = search rules in
    let reply : reply_bytes c.in-Handled.handled.reply ≡ None = search rules in
    silent _ _ _ _ _ _ _ _ is c.in-Handled.ensures reply

pub returns-in-Stranger-clause-round : goal.returns-in-Stranger-clause-round
returns-in-Stranger-clause-round g c = λ honest.
    let is : g.P.Port.acts c.receive.new.self ≡ came c.in-Some.arrival.from (take c.in-Some.arrival.count c.receive.new.buffer) ∷ g.P.Port.acts c.args.port.now = search rules in
    inr (record {
      from = c.in-Some.arrival.from;
      datagram = take c.in-Some.arrival.count c.receive.new.buffer;
      what = heard.Stranger;
      middle = daemon_of c.heard.new.self;
      hears = c.in-Stranger.ensures;
      acts = is;
      tells = c.turn-in-Stranger.ensures.told;
      goes_on = c.turn-in-Stranger.ensures.turns;
    })

pub returns-in-OutOfMemory-clause-round : goal.returns-in-OutOfMemory-clause-round
returns-in-OutOfMemory-clause-round g c = λ honest.
    let is : g.P.Port.acts c.receive.new.self ≡ came c.in-Some.arrival.from (take c.in-Some.arrival.count c.receive.new.buffer) ∷ g.P.Port.acts c.args.port.now = search rules in
    inr (record {
      from = c.in-Some.arrival.from;
      datagram = take c.in-Some.arrival.count c.receive.new.buffer;
      what = heard.OutOfMemory;
      middle = daemon_of c.heard.new.self;
      hears = c.in-OutOfMemory.ensures;
      acts = is;
      tells = refl;
      goes_on = refl;
    })

pub returns-in_default-clause-goes : goal.returns-in_default-clause-goes
returns-in_default-clause-goes g c = inl (c.turn.ensures.told, c.turn.ensures.turns)

pub returns-in-Some-reply-clause-goes : goal.returns-in-Some-reply-clause-goes
returns-in-Some-reply-clause-goes g c = handled _ _ _ _ _ _ c.in-Handled.ensures

pub returns-in-None-clause-goes : goal.returns-in-None-clause-goes
returns-in-None-clause-goes g c = handled _ _ _ _ _ _ c.in-Handled.ensures

pub returns-in-Stranger-clause-goes : goal.returns-in-Stranger-clause-goes
returns-in-Stranger-clause-goes g c = inr (record {
  from = c.in-Some.arrival.from;
  datagram = take c.in-Some.arrival.count c.receive.new.buffer;
  what = heard.Stranger;
  middle = daemon_of c.heard.new.self;
  hears = c.in-Stranger.ensures;
  tells = c.turn-in-Stranger.ensures.told;
  goes_on = c.turn-in-Stranger.ensures.turns;
})

pub returns-in-OutOfMemory-clause-goes : goal.returns-in-OutOfMemory-clause-goes
returns-in-OutOfMemory-clause-goes g c = inr (record {
  from = c.in-Some.arrival.from;
  datagram = take c.in-Some.arrival.count c.receive.new.buffer;
  what = heard.OutOfMemory;
  middle = daemon_of c.heard.new.self;
  hears = c.in-OutOfMemory.ensures;
  tells = refl;
  goes_on = refl;
})
