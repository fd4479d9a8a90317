use Rattle.std.proofs.Common.{◌≡◌, ◌+◌, ◌<◌, false, true, [], ◌∷◌, ◌++◌, map, drop, length, refl, sym, ap, subst, ◌∙◌, arith, All}
use Rattle.std.proofs.lemmas.List.{drop_more}
use Rattle.std.proofs.lemmas.List.Elements.{All-push}
use Rattle.fw_air.specs.declared.links.LinkQueue.{LinkQueue}
use Rattle.fw_air.specs.Links.{IsNew, IsThere, link_of}
use Rattle.fw_air.specs.Rounds.{is_link, links_with}
use Rattle.fw_air.proofs.Making.{new_there, one_link, no_link, some_link}
use Rattle.fw_air.proofs.Runs.{err_has}
use Rattle.fw_air.proofs.links.push_links.Goals.{then-has_link+in_ok-push, else-has_link}
use Rattle.fw_air.proofs.links.push_links.Goals as goal

pub loop-meter-preserved : goal.loop-meter-preserved
loop-meter-preserved c =
    let s = c.args.world.now in
    let meters = c.args.meters.now in
    let i = c.loop-meter.meter-index in
    let meter = c.meter-item.result in
    let made = c.loop-meter.made.items in
    let inside : i < length meters = omega (arith, c.loop-meter-test.true) in
    let next : drop i meters ≡ meter ∷ drop (i + 1) meters = drop_more meters i meter inside ∙ ap (λ x. x ∷ drop (i + 1) meters) (sym c.meter-item.is) in
    let rest = drop (i + 1) meters in
    elim c.if-has_link.branch [
      | then-has_link+in_ok-push w ↦
          let is : is_link s c.args.head meter.meter ≡ true = sym w.if-has_link.ensures in
          let one : LinkQueue = record { head = c.args.head; meter = meter.meter; passed = 0; late = w.new.result } in
          let items : c.if-has_link.made.items ≡ made ++ one ∷ [] = ap (λ v. v.items) w.made-is ∙ w.in_ok-push.ensures.items in (
            ap (λ l. map link_of l ++ links_with s c.args.head rest) items ∙ one_link s c.args.head (drop i meters) rest meter made one _ next is refl c.loop-meter.invariant.0,
            subst (All (IsThere s)) (sym items) (All-push (IsThere s) made one c.loop-meter.invariant.1 (new_there s one is w.new.ensures.items)),
            subst (All IsNew) (sym items) (All-push IsNew made one c.loop-meter.invariant.2 (record { passed = refl; late = w.new.ensures.items })),
          )
      | else-has_link w ↦
          let none : is_link s c.args.head meter.meter ≡ false = sym w.if-has_link.ensures in
          let same : c.if-has_link.made.items ≡ made = ap (λ v. v.items) w.made-is in (
            ap (λ l. map link_of l ++ links_with s c.args.head rest) same ∙ no_link s c.args.head (drop i meters) rest meter made _ next none c.loop-meter.invariant.0,
            subst (All (IsThere s)) (sym same) c.loop-meter.invariant.1,
            subst (All IsNew) (sym same) c.loop-meter.invariant.2,
          )
    ]

pub returns-in_err-push-clause-memory : goal.returns-in_err-push-clause-memory
returns-in_err-push-clause-memory c =
    let inside : c.loop-meter.meter-index < length c.args.meters.now = omega (arith, c.loop-meter-test.true) in
    err_has c.from_residual.result _ (some_link c.args.world.now c.args.head c.args.meters.now c.loop-meter.meter-index c.meter-item.result inside c.meter-item.is (sym c.if-has_link.ensures))
