use Rattle.std.proofs.Common.{◌≡◌, ℕ, List, ◌+◌, ◌-◌, ◌++◌, take, slice_range, rules, ap, subst, ◌∙◌, take-add, refl, arith}
use Rattle.fw_store.specs.Device.{slot_bytes}
use Rattle.sha2.specs.Hashers.{Holds256}
use Rattle.fw_verify.proofs.take_slice.Goals as goal

-- a front and the range after it are a longer front
take_range : (xs : List ℕ) (a n : ℕ) → take a xs ++ slice_range xs a (a + n) ≡ take (a + n) xs
take_range xs a n = let e : a + n - a ≡ n = omega arith in rw (e, take-add a n xs) refl

pub returns-clause-fed : goal.returns-clause-fed
returns-clause-fed g c = λ honest held.
    let stored = slot_bytes (g.S.ImageStore.known c.args.store.now).device c.args.slot in
    let read : c.read.new.out ≡ slice_range stored c.args.at (c.args.at + c.args.count) = search rules in
    let part = ap (λ (out : List ℕ). take c.args.at stored ++ out) read ∙ take_range stored c.args.at c.args.count in
    subst (λ (m : List ℕ). Holds256 c.update.new.self m) part (c.update.ensures (take c.args.at stored) held)
