use Rattle.std.proofs.Common.{◌≡◌, ◌++◌, List, [], Option, ap, subst, ◌∙◌, arith}
use Rattle.std.specs.Prelude.{option_to_list}
use Rattle.fw_audit.specs.declared.life.Left.{Left}
use Rattle.fw_audit.proofs.Audits.{found_left, is_log, looks_more, looks_none, none_left, Looks}
use Rattle.fw_audit.proofs.Gathering.{is_in, nil_of, popped}
use Rattle.fw_audit.proofs.audit.chosen.Goals as goal

pub loop-left-init : goal.loop-left-init
loop-left-init c = looks_none c.args.lefts.items c.args.end.now.meter

pub loop-left-preserved : goal.loop-left-preserved
loop-left-preserved c =
    let pops = c.pop.ensures.items ∙ ap (λ (o : Option Left). c.pop.new.self.items ++ option_to_list o) c.in-Some.is in
    looks_more c.args.lefts.items c.loop-left.rest.items c.pop.new.self.items c.in-Some.left c.args.end.now.meter c.loop-left.invariant pops (c.is.ensures.none c.if-is.false)

pub returns-then-is : goal.returns-then-is
returns-then-is c heads begin log are =
    let looks = c.loop-left.invariant in
    let pops = c.pop.ensures.items ∙ ap (λ (o : Option Left). c.pop.new.self.items ++ option_to_list o) c.in-Some.is in
    let there = is_in c.args.lefts.items c.pop.new.self.items looks.done c.in-Some.left (popped c.args.lefts.items c.loop-left.rest.items c.pop.new.self.items looks.done c.in-Some.left looks.is pops) in
    found_left heads begin c.args.end.now.meter log c.args.lefts.items c.in-Some.left c.into_images.result.items are there (c.is.ensures.some c.if-is.true) c.into_images.ensures

pub returns : goal.returns
returns c heads begin log are =
    let none : c.loop-left.rest.items ≡ [] = nil_of c.loop-left.rest.items (omega (arith, c.in_default.ensures.cases.0)) in (
      is_log heads begin log c.args.lefts.items are,
      none_left heads begin c.args.end.now.meter log c.args.lefts.items are (subst (λ (l : List Left). Looks c.args.lefts.items l c.args.end.now.meter) none c.loop-left.invariant),
    )
