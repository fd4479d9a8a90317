use Rattle.std.proofs.Common.{◌≡◌, ℕ, ◌==◌, Bool, true, false, List, [], ◌∷◌, length, refl, sym, ap, ◌∙◌}
use Rattle.std.proofs.lemmas.Bool.{false≢true}
use Rattle.std.proofs.lemmas.Bool.Decides.{Decides-eqb}
use Rattle.std.proofs.lemmas.List.{nil_from_length}
use Rattle.fw_rollout.specs.Daemon.{since_with}
use Rattle.fw_rollout.specs.declared.ended.Ended.{Ended}
use Rattle.fw_rollout.proofs.daemon.since_first.Goals as goal

none_waits : (rows : List Ended) (now since : ℕ) (empty : Bool) → empty ≡ (length rows == 0) → empty ≡ true → now ≡ since_with now rows since
none_waits rows now since empty is on =
    sym (ap (λ (l : List Ended). since_with now l since) (nil_from_length rows ((Decides-eqb (length rows) 0).0 (sym is ∙ on))))

some_wait : (rows : List Ended) (now since : ℕ) (empty : Bool) → empty ≡ (length rows == 0) → empty ≡ false → since ≡ since_with now rows since
some_wait [] now since empty is off = absurd (false≢true (sym off ∙ is ∙ (Decides-eqb 0 0).1 refl))
some_wait (row ∷ rows) now since empty is off = refl

pub returns-then-is_empty : goal.returns-then-is_empty
returns-then-is_empty c = none_waits c.args.ended.now c.args.now c.args.since c.is_empty.result c.is_empty.ensures c.if-is_empty.true

pub returns-else-is_empty : goal.returns-else-is_empty
returns-else-is_empty c = some_wait c.args.ended.now c.args.now c.args.since c.is_empty.result c.is_empty.ensures c.if-is_empty.false
