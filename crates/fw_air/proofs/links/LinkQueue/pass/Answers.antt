use Rattle.std.proofs.Common.{◌≡◌, ◌+◌, ◌-◌, ◌%◌, ◌<◌, ◌≤◌, ◌++◌, [], ◌∷◌, Some, length, slice_get, refl, ap, sym, subst, ◌∙◌, arith, All, append-nil, append_assoc}
use Rattle.fw_air.specs.declared.fates.Fate.{Fate}
use Rattle.fw_air.specs.Fates.{by_fates, comes, waits}
use Rattle.fw_air.specs.Links.{link_of}
use Rattle.fw_air.specs.Logs.{capped}
use Rattle.fw_air.proofs.Passing.{one_more, none_told, one_told, same_numbers}
use Rattle.fw_air.proofs.Present.{none_below, pushed}
use Rattle.fw_air.proofs.Runs.{err_has}
use Rattle.fw_air.proofs.links.LinkQueue.pass.Goals.{in-Deliver+in_ok-push-in-Deliver, in-Drop, in-Twice+in_ok-push-in-Twice+in_ok-push-in-Twice-2, in-Late+in_ok-push-in-Late}
use Rattle.fw_air.proofs.links.LinkQueue.pass.Goals as goal

pub loop-datagram-init : goal.loop-datagram-init
loop-datagram-init c =
    let fates = c.args.fates.now in
    let old = c.args.self.now in
    let from = c.args.from in record {
      from = omega arith;
      end = omega arith;
      coming = c.new-coming.ensures.items ∙ sym (none_told comes fates old.passed from);
      late = sym (append-nil old.late.items) ∙ ap (λ l. old.late.items ++ l) (sym (none_told waits fates old.passed from));
      passed = refl;
      coming_below = none_below c.args.end _ c.new-coming.ensures.items;
      late_below = λ h. h;
      link = refl;
    }

pub loop-datagram-preserved : goal.loop-datagram-preserved
loop-datagram-preserved c =
    let fates = c.args.fates.now in
    let old = c.args.self.now in
    let from = c.args.from in
    let end = c.args.end in
    let number = c.loop-datagram.datagram in
    let coming = c.loop-datagram.coming.items in
    let late = c.loop-datagram.self.late.items in
    let inv = c.loop-datagram.invariant in
    let below : number < end = omega (arith, c.loop-datagram-test.true) in
    let later : from ≤ number + 1 = omega (arith, inv.from) in
    let within : number + 1 - from ≤ end - from = omega (arith, inv.from, below) in
    let fate = c.fate_at-fate.result in
    let told : slice_get fates (capped (old.passed + (number - from)) % length fates) ≡ Some fate =
    subst (λ n. slice_get fates (capped (n + (number - from)) % length fates) ≡ Some fate) inv.passed c.fate_at-fate.ensures in
    let come : coming ++ comes (Some fate) number ≡ by_fates comes fates old.passed from (number + 1) =
    one_more comes fates old.passed from [] coming number _ fate inv.from refl told inv.coming in
    let wait : late ++ waits (Some fate) number ≡ old.late.items ++ by_fates waits fates old.passed from (number + 1) =
    one_more waits fates old.passed from old.late.items late number _ fate inv.from refl told inv.late in
    elim c.match-fate.branch [
      | in-Deliver+in_ok-push-in-Deliver w ↦
          let items = ap (λ v. v.items) w.coming-is ∙ w.in_ok-push-in-Deliver.ensures.items in record {
            from = later;
            end = within;
            coming = items ∙ ap (λ (f : Fate). coming ++ comes (Some f) number) (sym w.in-Deliver.is) ∙ come;
            late = ap (λ v. v.late.items) w.self-is ∙ sym (append-nil late) ∙ ap (λ (f : Fate). late ++ waits (Some f) number) (sym w.in-Deliver.is) ∙ wait;
            passed = ap (λ v. v.passed) w.self-is ∙ inv.passed;
            coming_below = pushed end number _ _ items inv.coming_below below;
            late_below = λ h. subst (All (λ n. n < end)) (sym (ap (λ v. v.late.items) w.self-is)) (inv.late_below h);
            link = ap link_of w.self-is ∙ inv.link;
          }
      | in-Drop w ↦
          let items = ap (λ v. v.items) w.coming-is in record {
            from = later;
            end = within;
            coming = items ∙ sym (append-nil coming) ∙ ap (λ (f : Fate). coming ++ comes (Some f) number) (sym w.in-Drop.is) ∙ come;
            late = ap (λ v. v.late.items) w.self-is ∙ sym (append-nil late) ∙ ap (λ (f : Fate). late ++ waits (Some f) number) (sym w.in-Drop.is) ∙ wait;
            passed = ap (λ v. v.passed) w.self-is ∙ inv.passed;
            coming_below = subst (All (λ n. n < end)) (sym items) inv.coming_below;
            late_below = λ h. subst (All (λ n. n < end)) (sym (ap (λ v. v.late.items) w.self-is)) (inv.late_below h);
            link = ap link_of w.self-is ∙ inv.link;
          }
      | in-Twice+in_ok-push-in-Twice+in_ok-push-in-Twice-2 w ↦
          let once = w.in_ok-push-in-Twice.ensures.items in
          let twice = ap (λ v. v.items) w.coming-is ∙ w.in_ok-push-in-Twice-2.ensures.items in record {
            from = later;
            end = within;
            coming = twice ∙ ap (λ l. l ++ number ∷ []) once ∙ append_assoc coming (number ∷ []) (number ∷ []) ∙ ap (λ (f : Fate). coming ++ comes (Some f) number) (sym w.in-Twice.is) ∙ come;
            late = ap (λ v. v.late.items) w.self-is ∙ sym (append-nil late) ∙ ap (λ (f : Fate). late ++ waits (Some f) number) (sym w.in-Twice.is) ∙ wait;
            passed = ap (λ v. v.passed) w.self-is ∙ inv.passed;
            coming_below = pushed end number _ _ twice (pushed end number _ _ once inv.coming_below below) below;
            late_below = λ h. subst (All (λ n. n < end)) (sym (ap (λ v. v.late.items) w.self-is)) (inv.late_below h);
            link = ap link_of w.self-is ∙ inv.link;
          }
      | in-Late+in_ok-push-in-Late w ↦
          let kept = ap (λ v. v.late.items) w.self-is ∙ w.in_ok-push-in-Late.ensures.items in record {
            from = later;
            end = within;
            coming = ap (λ v. v.items) w.coming-is ∙ sym (append-nil coming) ∙ ap (λ (f : Fate). coming ++ comes (Some f) number) (sym w.in-Late.is) ∙ come;
            late = kept ∙ ap (λ (f : Fate). late ++ waits (Some f) number) (sym w.in-Late.is) ∙ wait;
            passed = ap (λ v. v.passed) w.self-is ∙ inv.passed;
            coming_below = subst (All (λ n. n < end)) (sym (ap (λ v. v.items) w.coming-is)) inv.coming_below;
            late_below = λ h. pushed end number _ _ kept (inv.late_below h) below;
            link = ap link_of w.self-is ∙ inv.link;
          }
    ]

pub returns-in_err-push-in-Deliver-clause-memory : goal.returns-in_err-push-in-Deliver-clause-memory
returns-in_err-push-in-Deliver-clause-memory c =
    let number = c.loop-datagram.datagram in
    let inv = c.loop-datagram.invariant in
    let below : number < c.args.end = omega (arith, c.loop-datagram-test.true) in
    let told = subst (λ n. slice_get c.args.fates.now (capped (n + (number - c.args.from)) % length c.args.fates.now) ≡ Some c.fate_at-fate.result) inv.passed c.fate_at-fate.ensures in
    let one : 1 ≤ length (comes (Some c.fate_at-fate.result) number) = subst (λ (f : Fate). 1 ≤ length (comes (Some f) number)) (sym c.in-Deliver.is) (omega arith) in
    let some = one_told comes c.args.fates.now c.args.self.now.passed c.args.from c.args.end number _ c.fate_at-fate.result inv.from below refl told one in
    err_has c.from_residual.result _ (omega (arith, some))

pub returns-in_err-push-in-Twice-clause-memory : goal.returns-in_err-push-in-Twice-clause-memory
returns-in_err-push-in-Twice-clause-memory c =
    let number = c.loop-datagram.datagram in
    let inv = c.loop-datagram.invariant in
    let below : number < c.args.end = omega (arith, c.loop-datagram-test.true) in
    let told = subst (λ n. slice_get c.args.fates.now (capped (n + (number - c.args.from)) % length c.args.fates.now) ≡ Some c.fate_at-fate.result) inv.passed c.fate_at-fate.ensures in
    let one : 1 ≤ length (comes (Some c.fate_at-fate.result) number) = subst (λ (f : Fate). 1 ≤ length (comes (Some f) number)) (sym c.in-Twice.is) (omega arith) in
    let some = one_told comes c.args.fates.now c.args.self.now.passed c.args.from c.args.end number _ c.fate_at-fate.result inv.from below refl told one in
    err_has c.from_residual-in_err-push-in-Twice.result _ (omega (arith, some))

pub returns-in_err-push-in-Twice-2-clause-memory : goal.returns-in_err-push-in-Twice-2-clause-memory
returns-in_err-push-in-Twice-2-clause-memory c =
    let number = c.loop-datagram.datagram in
    let inv = c.loop-datagram.invariant in
    let below : number < c.args.end = omega (arith, c.loop-datagram-test.true) in
    let told = subst (λ n. slice_get c.args.fates.now (capped (n + (number - c.args.from)) % length c.args.fates.now) ≡ Some c.fate_at-fate.result) inv.passed c.fate_at-fate.ensures in
    let one : 1 ≤ length (comes (Some c.fate_at-fate.result) number) = subst (λ (f : Fate). 1 ≤ length (comes (Some f) number)) (sym c.in-Twice.is) (omega arith) in
    let some = one_told comes c.args.fates.now c.args.self.now.passed c.args.from c.args.end number _ c.fate_at-fate.result inv.from below refl told one in
    err_has c.from_residual-in_err-push-in-Twice-2.result _ (omega (arith, some))

pub returns-in_err-push-in-Late-clause-memory : goal.returns-in_err-push-in-Late-clause-memory
returns-in_err-push-in-Late-clause-memory c =
    let number = c.loop-datagram.datagram in
    let inv = c.loop-datagram.invariant in
    let below : number < c.args.end = omega (arith, c.loop-datagram-test.true) in
    let told = subst (λ n. slice_get c.args.fates.now (capped (n + (number - c.args.from)) % length c.args.fates.now) ≡ Some c.fate_at-fate.result) inv.passed c.fate_at-fate.ensures in
    let one : 1 ≤ length (waits (Some c.fate_at-fate.result) number) = subst (λ (f : Fate). 1 ≤ length (waits (Some f) number)) (sym c.in-Late.is) (omega arith) in
    let some = one_told waits c.args.fates.now c.args.self.now.passed c.args.from c.args.end number _ c.fate_at-fate.result inv.from below refl told one in
    err_has c.from_residual-in_err-push-in-Late.result _ (omega (arith, some))

pub returns-clause-comes : goal.returns-clause-comes
returns-clause-comes c =
    let inv = c.loop-datagram.invariant in
    inv.coming ∙ same_numbers comes c.args.fates.now c.args.self.now.passed c.args.from c.loop-datagram.datagram c.args.end (omega (arith, inv.end, inv.from, c.loop-datagram-test.false))

pub returns-clause-waits : goal.returns-clause-waits
returns-clause-waits c =
    let inv = c.loop-datagram.invariant in
    inv.late
    ∙ ap (λ l. c.args.self.now.late.items ++ l) (same_numbers waits c.args.fates.now c.args.self.now.passed c.args.from c.loop-datagram.datagram c.args.end (omega (arith, inv.end, inv.from, c.loop-datagram-test.false)))
