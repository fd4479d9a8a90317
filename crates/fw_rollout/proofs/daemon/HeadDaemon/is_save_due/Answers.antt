use Rattle.std.proofs.Common.{◌≡◌, ◌≢◌, ◌↔◌, ◌==◌, ◌+◌, ◌-◌, ◌≤◌, ℕ, Bool, false, List, [], length, leb, IsTrue, refl, sym, ap, ◌∙◌, arith}
use Rattle.std.proofs.lemmas.Bool.{false≢true, le-leb, leb-true}
use Rattle.std.proofs.lemmas.Bool.Decides.{Decides-eqb}
use Rattle.fw_rollout.specs.declared.ended.Ended.{Ended}
use Rattle.fw_rollout.proofs.Daemons.{saves_all, saves_by}
use Rattle.fw_rollout.proofs.daemon.HeadDaemon.is_save_due.Goals as goal

not_empty : (items : List Ended) (count : ℕ) (b : Bool) → length items ≡ count → b ≡ (count == 0) → b ≡ false → items ≢ []
not_empty items count b counted is off = λ e. false≢true (sym off ∙ is ∙ (Decides-eqb count 0).1 (sym counted ∙ ap (λ (xs : List Ended). length xs) e))

waited : (since now sat : ℕ) → sat ≡ now - since → 100000 ≤ sat → since + 100000 ≤ now
waited since now sat e h = omega arith

waits : (since now sat : ℕ) → sat ≡ now - since → since + 100000 ≤ now → 100000 ≤ sat
waits since now sat e h = omega arith

by_time : (since now sat : ℕ) → sat ≡ now - since → IsTrue (leb 100000 sat) ↔ (since + 100000 ≤ now)
by_time since now sat e = (λ yes. waited since now sat e (leb-true 100000 sat yes), λ h. le-leb 100000 sat (waits since now sat e h))

pub returns-then-live-eq0 : goal.returns-then-live-eq0
returns-then-live-eq0 g c = λ leader led.
    let some = not_empty c.args.self.now.ended.items _ _ (sym c.args.self.now.ended.ok.0) c.is_empty.ensures c.if-is_empty.false in
    let all = saves_all g.D.JournalDevice.honest g.D.JournalDevice.contents g.D.JournalDevice.may_leave c.args.self.now leader c.args.now c.args.self.now.held_since led some
    ((c.live.ensures.none led.schedule).0 c.if-live-eq0.true) in (
      λ yes. all.0 refl,
      λ due. (Decides-eqb c.live.result 0).1 c.if-live-eq0.true,
    )

pub returns-else-live-eq0 : goal.returns-else-live-eq0
returns-else-live-eq0 g c = λ leader led.
    let some = not_empty c.args.self.now.ended.items _ _ (sym c.args.self.now.ended.ok.0) c.is_empty.ensures c.if-is_empty.false in
    saves_by g.D.JournalDevice.honest g.D.JournalDevice.contents g.D.JournalDevice.may_leave c.args.self.now leader c.args.now c.args.self.now.held_since _ led some
    (λ all. c.if-live-eq0.false ((c.live.ensures.none led.schedule).1 all))
    (by_time c.args.self.now.held_since c.args.now c.saturating_sub.result c.saturating_sub.ensures)
