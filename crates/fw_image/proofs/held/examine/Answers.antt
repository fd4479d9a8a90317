use Rattle.std.proofs.Common.{◌≡◌, ℕ, ◌+◌, ◌≤◌, arith, IsTrue, Bool, true, false, inl, inr, sym, ap, subst, ◌∙◌}
use Rattle.fw_store.specs.Header.{IsHeader}
use Rattle.fw_verify.specs.Slices.{slice_count}
use Rattle.fw_image.specs.Calls.{verified_size, opening_calls}
use Rattle.fw_image.specs.Stored.{phase_of}
use Rattle.fw_image.proofs.Moves.{keeps_twice, counted_after}
use Rattle.fw_image.proofs.Openings.{refused_image, refused_fault, calls_of_header, some_calls, cut_told, image_not_cut, length-running}
use Rattle.fw_image.proofs.held.examine.Goals as goal

clash : (b : Bool) → b ≡ false → IsTrue b → ⊥
clash b is_false is_true = let bad : false ≡ true = sym is_false ∙ is_true in cc

pub returns-then-not-branch-clause-refused : goal.returns-then-not-branch-clause-refused
returns-then-not-branch-clause-refused g c =
    let known = g.S.ImageStore.known in
    let store = known c.args.store.now in
    let header = c.in-Some.header in
    let read = c.in_ok-bytes.ensures in
    let told = c.in_ok-is_genuine.ensures in
    let still : IsTrue store.honest → IsTrue (known c.header.new.self).honest = λ honest. read.kept.honesty ∙ honest in
    let valid : IsHeader store.capacity header = subst (λ (n : ℕ). IsHeader n header) (c.capacity.ensures ∙ read.kept.size) c.in-Some.ensures.some.0 in
    refused_image store (known c.is_genuine.new.store) header (keeps_twice store (known c.header.new.self) (known c.is_genuine.new.store) read.kept told.kept) (λ honest. told.same (still honest) ∙ read.same honest) (told.cause.counted ∙ read.cause.counted) valid
    (λ honest. c.in-Some.ensures.some.1 ∙ read.done honest)
    (λ honest trusted. clash c.in_ok-is_genuine.field-0 c.if-not-branch.true ((told.digest (still honest)).1 (rw (read.same honest) trusted.running)))
    (1 + slice_count header.running_size) (c.calls_add.ensures 1 (slice_count header.running_size) _ _ _ true read.spends told.spends)
    (λ honest. inl (ap (λ (n : ℕ). 1 + slice_count n) (sym (length-running store.capacity header store.device valid (λ slot. g.met.S.ImageStore.sized c.args.store.now slot honest)))))

pub returns-then-not-branch-2-clause-refused : goal.returns-then-not-branch-2-clause-refused
returns-then-not-branch-2-clause-refused g c =
    let known = g.S.ImageStore.known in
    let store = known c.args.store.now in
    let header = c.in-Some.header in
    let read = c.in_ok-bytes.ensures in
    let first = c.in_ok-is_genuine.ensures in
    let told = c.in_ok-is_goal_genuine.ensures in
    let judged = slice_count (verified_size (phase_of header.status header.goal)) in
    let kept = keeps_twice store (known c.header.new.self) (known c.is_genuine.new.store) read.kept first.kept in
    let still : IsTrue store.honest → IsTrue (known c.header.new.self).honest = λ honest. read.kept.honesty ∙ honest in
    let still' : IsTrue store.honest → IsTrue (known c.is_genuine.new.store).honest = λ honest. kept.honesty ∙ honest in
    let same : IsTrue store.honest → (known c.is_genuine.new.store).device ≡ store.device = λ honest. first.same (still honest) ∙ read.same honest in
    let valid : IsHeader store.capacity header = subst (λ (n : ℕ). IsHeader n header) (c.capacity.ensures ∙ read.kept.size) c.in-Some.ensures.some.0 in
    refused_image store (known c.is_goal_genuine.new.store) header (keeps_twice store (known c.is_genuine.new.store) (known c.is_goal_genuine.new.store) kept told.kept) (λ honest. told.same (still' honest) ∙ same honest) (told.cause.counted ∙ first.cause.counted ∙ read.cause.counted) valid
    (λ honest. c.in-Some.ensures.some.1 ∙ read.done honest)
    (λ honest trusted. clash c.in_ok-is_goal_genuine.field-0 c.if-not-branch-2.true ((told.genuine (still' honest)).1 (rw (same honest) trusted.verified)))
    (1 + slice_count header.running_size + judged)
    (c.calls_add.ensures (1 + slice_count header.running_size) judged _ _ _ true (c.calls_add.ensures 1 (slice_count header.running_size) _ _ _ true read.spends first.spends) told.spends)
    (λ honest. inr (ap (λ (n : ℕ). 1 + slice_count n + judged) (sym (length-running store.capacity header store.device valid (λ slot. g.met.S.ImageStore.sized c.args.store.now slot honest)))))

pub returns-in_err-bytes-clause-refused : goal.returns-in_err-bytes-clause-refused
returns-in_err-bytes-clause-refused g c =
    let told = c.in_err-bytes.ensures in
    refused_fault (g.S.ImageStore.known c.args.store.now) (g.S.ImageStore.known c.header.new.self) c.from_residual.result c.from_residual.ensures.1 told.kept told.same told.cause.counted told.cause.never 1 told.spends

pub returns-in_err-is_genuine-clause-refused : goal.returns-in_err-is_genuine-clause-refused
returns-in_err-is_genuine-clause-refused g c =
    let known = g.S.ImageStore.known in
    let store = known c.args.store.now in
    let header = c.in-Some.header in
    let read = c.in_ok-bytes.ensures in
    let told = c.in_err-is_genuine.ensures in
    let still : IsTrue store.honest → IsTrue (known c.header.new.self).honest = λ honest. read.kept.honesty ∙ honest in
    refused_fault store (known c.is_genuine.new.store) c.from_residual-in_err-is_genuine.result c.from_residual-in_err-is_genuine.ensures.1
    (keeps_twice store (known c.header.new.self) (known c.is_genuine.new.store) read.kept told.kept) (λ honest. told.same (still honest) ∙ read.same honest)
    (counted_after false _ _ _ read.cause.counted told.cause.counted) (λ sound. told.cause.never (read.kept.soundness sound))
    (1 + slice_count header.running_size) (c.calls_add.ensures 1 (slice_count header.running_size) _ _ _ false read.spends told.spends)

pub returns-in_err-is_goal_genuine-clause-refused : goal.returns-in_err-is_goal_genuine-clause-refused
returns-in_err-is_goal_genuine-clause-refused g c =
    let known = g.S.ImageStore.known in
    let store = known c.args.store.now in
    let header = c.in-Some.header in
    let read = c.in_ok-bytes.ensures in
    let first = c.in_ok-is_genuine.ensures in
    let told = c.in_err-is_goal_genuine.ensures in
    let judged = slice_count (verified_size (phase_of header.status header.goal)) in
    let kept = keeps_twice store (known c.header.new.self) (known c.is_genuine.new.store) read.kept first.kept in
    let still : IsTrue store.honest → IsTrue (known c.header.new.self).honest = λ honest. read.kept.honesty ∙ honest in
    let still' : IsTrue store.honest → IsTrue (known c.is_genuine.new.store).honest = λ honest. kept.honesty ∙ honest in
    refused_fault store (known c.is_goal_genuine.new.store) c.from_residual-in_err-is_goal_genuine.result c.from_residual-in_err-is_goal_genuine.ensures.1
    (keeps_twice store (known c.is_genuine.new.store) (known c.is_goal_genuine.new.store) kept told.kept) (λ honest. told.same (still' honest) ∙ first.same (still honest) ∙ read.same honest)
    (counted_after false _ _ _ (first.cause.counted ∙ read.cause.counted) told.cause.counted) (λ sound. told.cause.never (kept.soundness sound))
    (1 + slice_count header.running_size + judged)
    (c.calls_add.ensures (1 + slice_count header.running_size) judged _ _ _ false (c.calls_add.ensures 1 (slice_count header.running_size) _ _ _ true read.spends first.spends) told.spends)

pub returns-clause-spends : goal.returns-clause-spends
returns-clause-spends g c =
    let header = c.in-Some.header in
    c.calls_add.ensures (1 + slice_count header.running_size) (slice_count (verified_size (phase_of header.status header.goal))) _ _ _ true
    (c.calls_add.ensures 1 (slice_count header.running_size) _ _ _ true c.in_ok-bytes.ensures.spends c.in_ok-is_genuine.ensures.spends) c.in_ok-is_goal_genuine.ensures.spends

pub returns-then-not-branch-clause-cut : goal.returns-then-not-branch-clause-cut
returns-then-not-branch-clause-cut g c = image_not_cut (g.S.ImageStore.known c.args.store.now) (g.S.ImageStore.known c.is_genuine.new.store) c.one_header.ensures (returns-then-not-branch-clause-refused g c)

pub returns-then-not-branch-2-clause-cut : goal.returns-then-not-branch-2-clause-cut
returns-then-not-branch-2-clause-cut g c =
    image_not_cut (g.S.ImageStore.known c.args.store.now) (g.S.ImageStore.known c.is_goal_genuine.new.store) c.one_header.ensures (returns-then-not-branch-2-clause-refused g c)

pub returns-in_err-bytes-clause-cut : goal.returns-in_err-bytes-clause-cut
returns-in_err-bytes-clause-cut g c =
    cut_told (g.S.ImageStore.known c.args.store.now) (g.S.ImageStore.known c.header.new.self) c.from_residual.result
    (λ meter is trusted honest. c.calls_end.ensures 1 (opening_calls meter) _ _ (some_calls meter) c.in_err-bytes.ensures.spends)

pub returns-in_err-is_genuine-clause-cut : goal.returns-in_err-is_genuine-clause-cut
returns-in_err-is_genuine-clause-cut g c =
    let known = g.S.ImageStore.known in
    let store = known c.args.store.now in
    let header = c.in-Some.header in
    let read = c.in_ok-bytes.ensures in
    let valid : IsHeader store.capacity header = subst (λ (n : ℕ). IsHeader n header) (c.capacity.ensures ∙ read.kept.size) c.in-Some.ensures.some.0 in
    cut_told store (known c.is_genuine.new.store) c.from_residual-in_err-is_genuine.result (λ meter is trusted honest.
    let calls = calls_of_header c.one_header.ensures store.capacity header store.device meter valid (c.in-Some.ensures.some.1 ∙ read.done honest) (λ slot. g.met.S.ImageStore.sized c.args.store.now slot honest) is in
    let some : 1 + slice_count header.running_size ≤ opening_calls meter = omega (arith, calls) in
    c.calls_end.ensures (1 + slice_count header.running_size) (opening_calls meter) _ _ some
    (c.calls_add.ensures 1 (slice_count header.running_size) _ _ _ false read.spends c.in_err-is_genuine.ensures.spends))

pub returns-in_err-is_goal_genuine-clause-cut : goal.returns-in_err-is_goal_genuine-clause-cut
returns-in_err-is_goal_genuine-clause-cut g c =
    let known = g.S.ImageStore.known in
    let store = known c.args.store.now in
    let header = c.in-Some.header in
    let read = c.in_ok-bytes.ensures in
    let judged = slice_count (verified_size (phase_of header.status header.goal)) in
    let valid : IsHeader store.capacity header = subst (λ (n : ℕ). IsHeader n header) (c.capacity.ensures ∙ read.kept.size) c.in-Some.ensures.some.0 in
    cut_told store (known c.is_goal_genuine.new.store) c.from_residual-in_err-is_goal_genuine.result (λ meter is trusted honest.
    let calls = calls_of_header c.one_header.ensures store.capacity header store.device meter valid (c.in-Some.ensures.some.1 ∙ read.done honest) (λ slot. g.met.S.ImageStore.sized c.args.store.now slot honest) is in
    rw calls
    (c.calls_add.ensures (1 + slice_count header.running_size) judged _ _ _ false (c.calls_add.ensures 1 (slice_count header.running_size) _ _ _ true read.spends c.in_ok-is_genuine.ensures.spends)
    c.in_err-is_goal_genuine.ensures.spends))
