use Rattle.std.proofs.Common.{◌≡◌, ℕ, ◌==◌, ◌↔◌, Bool, false, List, All, length, IsTrue, sym, ap, ◌∙◌}
use Rattle.std.proofs.lemmas.Bool.Decides.{Decides-eqb}
use Rattle.std.proofs.lemmas.List.{nil_from_length}
use Rattle.fw_rollout.specs.declared.daemon.HeadDaemon.{HeadDaemon}
use Rattle.fw_rollout.specs.declared.ended.Ended.{Ended}
use Rattle.fw_rollout.specs.Leading.{Leader}
use Rattle.fw_rollout.specs.Schedule.{lives_of}
use Rattle.fw_rollout.specs.Daemon.{HasRunOut, IsLed, IsOver, counts_of, ended_of}
use Rattle.fw_rollout.proofs.Daemons.{none_ended, none_live, over_of}
use Rattle.fw_rollout.proofs.daemon.HeadDaemon.is_over.Goals as goal

module _ {D : Type 0} (honest : D → Bool) (contents : D → List ℕ) (may_leave : D → List ℕ → Type 0) (daemon : HeadDaemon D) (leader : Leader) (led : IsLed honest contents may_leave daemon leader) where
  -- no row is live: all is over exactly if nothing waits to be put on the device
  over_now : All (λ b. b ≡ false) (lives_of daemon.schedule) → (count : ℕ) → length (ended_of daemon) ≡ count → (empty : Bool) → empty ≡ (count == 0) → IsTrue empty ↔ IsOver leader
  over_now none count counted empty is = (
    λ yes. over_of honest contents may_leave daemon leader led none (nil_from_length (ended_of daemon) (counted ∙ (Decides-eqb count 0).0 (sym is ∙ yes))),
    λ over. is ∙ (Decides-eqb count 0).1 (sym counted ∙ ap (λ (xs : List Ended). length xs) (none_ended honest contents may_leave daemon leader led over)),
  )

  -- some row is
  not_over : (live : ℕ) → ¬ (live ≡ 0) → ((live ≡ 0) ↔ All (λ b. b ≡ false) (lives_of daemon.schedule)) → IsTrue (live == 0) ↔ IsOver leader
  not_over live some counts = (λ yes. absurd (some ((Decides-eqb live 0).0 yes)), λ over. absurd (some (counts.1 (none_live honest contents may_leave daemon leader led over))))

-- no link is live, and nothing waits exactly if none ended
run_out : {D : Type 0} (daemon : HeadDaemon D) (live count : ℕ) → live ≡ (counts_of daemon).live → live ≡ 0 → length (ended_of daemon) ≡ count → (empty : Bool) → empty ≡ (count == 0)
    → IsTrue empty ↔ HasRunOut daemon
run_out daemon live count counts none counted empty is = (
  λ yes. record { live = sym counts ∙ none; ended = nil_from_length (ended_of daemon) (counted ∙ (Decides-eqb count 0).0 (sym is ∙ yes)) },
  λ out. is ∙ (Decides-eqb count 0).1 (sym counted ∙ ap (λ (xs : List Ended). length xs) out.ended),
)

-- some link is live
goes_on : {D : Type 0} (daemon : HeadDaemon D) (live : ℕ) → live ≡ (counts_of daemon).live → ¬ (live ≡ 0) → IsTrue (live == 0) ↔ HasRunOut daemon
goes_on daemon live counts some = (λ yes. absurd (some ((Decides-eqb live 0).0 yes)), λ out. absurd (some (counts ∙ out.live)))

pub returns-then-live-eq0-clause-ran_out : goal.returns-then-live-eq0-clause-ran_out
returns-then-live-eq0-clause-ran_out g c =
    run_out c.args.self.now c.live.result _ c.live.ensures.live c.if-live-eq0.true (sym c.args.self.now.ended.ok.0) _ c.is_empty.ensures

pub returns-else-live-eq0-clause-ran_out : goal.returns-else-live-eq0-clause-ran_out
returns-else-live-eq0-clause-ran_out g c = goes_on c.args.self.now c.live.result c.live.ensures.live c.if-live-eq0.false

pub returns-then-live-eq0-clause-over : goal.returns-then-live-eq0-clause-over
returns-then-live-eq0-clause-over g c = λ leader led.
    over_now g.D.JournalDevice.honest g.D.JournalDevice.contents g.D.JournalDevice.may_leave c.args.self.now leader led ((c.live.ensures.none led.schedule).0 c.if-live-eq0.true) _ (sym c.args.self.now.ended.ok.0) _ c.is_empty.ensures

pub returns-else-live-eq0-clause-over : goal.returns-else-live-eq0-clause-over
returns-else-live-eq0-clause-over g c = λ leader led.
    not_over g.D.JournalDevice.honest g.D.JournalDevice.contents g.D.JournalDevice.may_leave c.args.self.now leader led c.live.result c.if-live-eq0.false (c.live.ensures.none led.schedule)
