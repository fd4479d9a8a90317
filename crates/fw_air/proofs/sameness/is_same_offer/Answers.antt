use Rattle.std.proofs.Common.{◌≡◌, rules, tests, sym, ap, ◌∙◌, Decides, eqb-true}
use Rattle.std.proofs.lemmas.Bool.Decides.{Decides-eqb}
use Rattle.std.proofs.lemmas.Slice.Eq.{slice_eq-Decides}
use Rattle.fw_air.proofs.sameness.is_same_offer.Goals.{then-release, else-release}
use Rattle.fw_air.proofs.sameness.is_same_offer.Goals as goal

pub returns-then-eq : goal.returns-then-eq
returns-then-eq c =
    let rows : Decides c.eq-then-eq.result (c.rows.result.now ≡ c.rows-then-eq.result.now) = slice_eq-Decides (λ a b. search (rules, tests)) _ _ _ c.eq-then-eq.ensures in
    let one = c.args.one.now in
    let other = c.args.other.now in
    elim c.if-release.branch [
      | then-release w ↦ (
          let image : w.image.result.now ≡ w.image-then-release.result.now = (slice_eq-Decides Decides-eqb w.image.result.now w.image-then-release.result.now _ w.eq.ensures).0 (sym w.value-is ∙ c.if-eq.true) in
          let released : one.release ≡ other.release = search (rules, tests) in
          let images : one.image ≡ other.image = sym w.image.ensures ∙ image ∙ w.image-then-release.ensures in (
            λ e. (let same : one.rows ≡ other.rows = sym c.rows.ensures ∙ rows.0 e ∙ c.rows-then-eq.ensures in
                λ i. record { release = released i; image = images i; rows = same i }),
            λ same. rows.1 (c.rows.ensures ∙ ap (λ o. o.rows) same ∙ sym c.rows-then-eq.ensures),
          ))
      | else-release w ↦ absurd (w.if-release.false (eqb-true _ _ (sym w.value-is ∙ c.if-eq.true)))
    ]
