-- Of what there is to tell, what says that a meter switched.
use Rattle.std.proofs.Common.{◌≡◌, ℕ, zero, suc, Bool, true, false, if◌then◌else◌, List, inl, inr, refl, ap, ◌∙◌}
use Rattle.std.specs.declared.net.socket_addr.SocketAddr.{SocketAddr}
use Rattle.std.specs.Option.{option_map}
use Rattle.std.specs.Prelude.{Option, Some, None}
use Rattle.fw_names.specs.Name.{Name}
use Rattle.fw_server.specs.Meaning.{Meaning, read, enable, initiate, block, verify, activate, refused}
use Rattle.fw_image.specs.Meter.{Meter, status_of}
use Rattle.fw_image.specs.declared.status.TransferStatus.{TransferStatus}
use Rattle.fw_image.specs.declared.status.TransferStatus.TheVariants as status
use Rattle.fw_meter.specs.Handling.{reply_bytes}
use Rattle.fw_daemon.specs.Daemon.{Daemon, Hears}
use Rattle.fw_daemon.specs.Events.{AnswerTells, IsAnswerEvent, IsEvent, IsRefusal, JudgedOrAnswered, gives_up, goal_name, is_unjudged, judged_event, switched_by, turn_event, verdict, work_of}
use Rattle.fw_daemon.specs.Laws.{SwitchesAreTold}
use Rattle.fw_daemon.specs.Rounds.{activated_by, told_of}
use Rattle.fw_daemon.specs.declared.daemon.Heard.{Heard}
use Rattle.fw_daemon.specs.declared.daemon.Heard.TheVariants as heard
use Rattle.fw_daemon.specs.declared.event.MeterEvent.{MeterEvent}
use Rattle.fw_daemon.specs.declared.event.MeterEvent.TheVariants as event
use Rattle.fw_daemon.specs.declared.event.Work.{Work}
use Rattle.fw_daemon.specs.declared.event.Work.TheVariants as work

-- the same event switches to the same image
same_switch : (one other : Option MeterEvent) → one ≡ other → switched_by one ≡ switched_by other
same_switch one other is = ap (λ (o : Option MeterEvent). switched_by o) is

-- ---- an image that is judged

in_verdict : (s : TransferStatus) (name : Option Name) → switched_by (verdict s name) ≡ None
in_verdict status.NotInitiated name = refl
in_verdict status.Initiated name = refl
in_verdict status.VerificationInitiated name = refl
in_verdict status.VerificationSuccessful None = refl
in_verdict status.VerificationSuccessful (Some name) = refl
in_verdict status.VerificationFailed None = refl
in_verdict status.VerificationFailed (Some name) = refl
in_verdict status.ActivationSuccessful name = refl

in_test : (b : Bool) (s : TransferStatus) (name : Option Name) → switched_by (if b then verdict s name else None) ≡ None
in_test true s name = in_verdict s name
in_test false s name = refl

in_judgement : (before : TransferStatus) (m : Meter) → switched_by (judged_event before m) ≡ None
in_judgement before m = in_test (is_unjudged before) (status_of m.phase) (goal_name m)

in_turn : (b : Bool) (before : TransferStatus) (m : Meter) → switched_by (if b then Some (event.Failed work.Verify) else judged_event before m) ≡ None
in_turn true before m = refl
in_turn false before m = in_judgement before m

of_turn : (before : TransferStatus) (m : Meter) → switched_by (turn_event before m) ≡ None
of_turn before m = in_turn (gives_up before (status_of m.phase)) before m

-- ---- an answer

in_failure : (w : Option Work) → switched_by (option_map (λ (one : Work). event.Failed one) w) ≡ None
in_failure None = refl
in_failure (Some w) = refl

in_refusal : (running c : ℕ) (asked : Meaning) (told : Option MeterEvent) → IsRefusal running c asked told → switched_by told ≡ None
in_refusal running c (read reading) told is = same_switch told None is
in_refusal running c (enable b) told is = same_switch told None is
in_refusal running c (initiate identifier size) told (name, named, is) = same_switch told _ is
in_refusal running c (block number value) told is = same_switch told None is
in_refusal running c verify told is = same_switch told None is
in_refusal running c activate told is = same_switch told None is
in_refusal running c (refused code) told is = same_switch told None is

in_code : (running c : ℕ) (asked : Meaning) (told : Option MeterEvent) → IsAnswerEvent running c asked told → switched_by told ≡ None
in_code running zero asked told is = same_switch told None is
in_code running (suc zero) asked told is = same_switch told (option_map (λ (one : Work). event.Failed one) (work_of asked)) is ∙ in_failure (work_of asked)
in_code running (suc (suc n)) asked told refusal = in_refusal running (suc (suc n)) asked told refusal

in_answer : (running : ℕ) (datagram : List ℕ) (reply : Option (List ℕ)) (told : Option MeterEvent) → AnswerTells running datagram reply told → switched_by told ≡ None
in_answer running datagram reply told (inl (asked, c, coded, tells)) = in_code running c asked told tells
in_answer running datagram reply told (inr (none, is)) = same_switch told None is

-- ---- what is heard

in_either : (judged : Option MeterEvent) (running : ℕ) (datagram : List ℕ) (reply : Option (List ℕ)) (told : Option MeterEvent) → switched_by judged ≡ None
    → JudgedOrAnswered judged running datagram reply told → switched_by told ≡ None
in_either (Some judged) running datagram reply told none is = same_switch told (Some judged) is ∙ none
in_either None running datagram reply told none tells = in_answer running datagram reply told tells

in_event : (before : TransferStatus) (datagram : List ℕ) (reply : Option (List ℕ)) (activated : Option Name) (m : Meter) (told : Option MeterEvent) → IsEvent before datagram reply activated m told
    → switched_by told ≡ activated
in_event before datagram reply (Some name) m told is = same_switch told (Some (event.Activated name)) is
in_event before datagram reply None m told either = in_either (judged_event before m) m.running.name.release datagram reply told (in_judgement before m) either

in_heard : (old middle new : Daemon) (from : SocketAddr) (datagram : List ℕ) (what : Heard) → Hears old from datagram what middle → switched_by (told_of what middle new) ≡ activated_by what
in_heard old middle new from datagram (heard.Handled h told) (may, served, tells) =
    in_event (status_of old.state.meter.phase) datagram (reply_bytes h.reply) h.activated middle.state.meter told tells
in_heard old middle new from datagram heard.Stranger hears = of_turn (status_of middle.state.meter.phase) new.state.meter
in_heard old middle new from datagram heard.OutOfMemory hears = refl

pub switches_are_told : SwitchesAreTold
switches_are_told = record { datagram = in_heard; turn = λ old new. of_turn (status_of old.state.meter.phase) new.state.meter }
