use Rattle.std.proofs.Common.{rules, arith, ◌≡◌, ℕ, ◌+◌, ◌%◌, ◌<◌, ◌≤◌, min, true, false, IsTrue, if◌then◌else◌, nat_lt, ◌∙◌, sym, subst, refl}
use Rattle.std.specs.Prelude.{Result, Ok, Err, IsErr, is_ok}
use Rattle.std.proofs.lemmas.Bool.Decides.{nat_tests}
use Rattle.fw_store.specs.Faults.{Spends}
use Rattle.fw_verify.specs.Slices.{slice_count}
use Rattle.fw_verify.proofs.digest.Goals as goal

not_ok : {T E : Type 0} (r : Result T E) → IsErr r → is_ok r ≡ false
not_ok (Ok x) h = absurd cc
not_ok (Err e) h = refl

-- a slice more after whole ones
slice_more : (taken size new : ℕ) → taken ≤ size → (taken < size → taken % 4096 ≡ 0) → new ≡ min (taken + 4096) size → slice_count taken + (if nat_lt taken size then 1 else 0) ≡ slice_count new
slice_more taken size new within whole e = grind (arith, nat_tests)

-- no slices are fewer than those of less bytes
slices_rise : (taken size : ℕ) → taken ≤ size → (taken < size → taken % 4096 ≡ 0) → slice_count taken + (if nat_lt taken size then 1 else 0) ≤ slice_count size
slices_rise taken size within whole = grind (arith, nat_tests)

pub loop-preserved : goal.loop-preserved
loop-preserved g c =
    let s = g.S.ImageStore in
    let was = c.loop.invariant in
    let told = c.in_ok-step.ensures in
    let honest : IsTrue (s.known c.args.store.now).honest → IsTrue (s.known c.loop.store).honest = λ h. rw was.kept.honesty h in
    let taken : c.step.new.self.taken ≡ min (c.loop.digesting.taken + 4096) c.args.size = rw (← was.size) told.taken in
    record {
      slot = told.slot ∙ was.slot;
      size = told.size ∙ was.size;
      within = omega (arith, taken);
      whole = λ below. let whole : c.loop.digesting.taken % 4096 ≡ 0 = was.whole (omega (arith, taken)) in omega (arith, taken);
      kept = search rules;
      faultless = told.cause.counted ∙ was.faultless;
      spends =
          let more = slice_more c.loop.digesting.taken c.args.size c.step.new.self.taken was.within was.whole taken in
          subst (λ (n : ℕ). Spends n (s.known c.args.store.now).fuse (s.known c.step.new.store).fuse true) more
          (c.calls_add.ensures (slice_count c.loop.digesting.taken) _ (s.known c.args.store.now).fuse (s.known c.loop.store).fuse (s.known c.step.new.store).fuse true was.spends (rw (← was.size) told.spends));
      same = λ h. told.same (honest h) ∙ was.same h;
      fed = λ h. (rw (was.same h, was.slot) at (told.fed (honest h))) (was.fed h);
    }

pub returns-in_err-step-clause-spends : goal.returns-in_err-step-clause-spends
returns-in_err-step-clause-spends g c =
    let s = g.S.ImageStore in
    let was = c.loop.invariant in
    let old = (s.known c.args.store.now).fuse in
    let new = (s.known c.step.new.store).fuse in
    let ended = c.calls_add.ensures (slice_count c.loop.digesting.taken) _ old (s.known c.loop.store).fuse new false was.spends (rw (← was.size) c.in_err-step.ensures.spends) in
    rw (not_ok c.from_residual.result c.from_residual.ensures.0)
    (c.calls_end.ensures _ (slice_count c.args.size) old new (slices_rise c.loop.digesting.taken c.args.size was.within was.whole) ended)

pub returns-clause-spends : goal.returns-clause-spends
returns-clause-spends g c =
    let s = g.S.ImageStore in
    let was = c.loop.invariant in
    let told = c.in_ok-step.ensures in
    let taken : c.step.new.self.taken ≡ min (c.loop.digesting.taken + 4096) c.args.size = rw (← was.size) told.taken in
    let all : c.step.new.self.taken ≡ c.args.size = told.all.0 c.if-not-branch.false ∙ told.size ∙ was.size in
    subst (λ (n : ℕ). Spends n (s.known c.args.store.now).fuse (s.known c.step.new.store).fuse true) (slice_more c.loop.digesting.taken c.args.size c.args.size was.within was.whole (sym all ∙ taken))
    (c.calls_add.ensures (slice_count c.loop.digesting.taken) _ (s.known c.args.store.now).fuse (s.known c.loop.store).fuse (s.known c.step.new.store).fuse true was.spends (rw (← was.size) told.spends))
