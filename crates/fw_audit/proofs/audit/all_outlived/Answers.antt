use Rattle.std.proofs.Common.{rules, ◌≡◌, ◌≤◌, ◌++◌, List, [], length, Option, None, sym, ap, subst, ◌∙◌, arith}
use Rattle.std.specs.Prelude.{option_to_list}
use Rattle.std.proofs.lemmas.List.Elements.{All-contains}
use Rattle.fw_image.specs.Meter.{reopened}
use Rattle.fw_audit.specs.Log.{log_of}
use Rattle.fw_audit.specs.Private.{Gathers}
use Rattle.fw_audit.specs.declared.error.Departure.{Departure}
use Rattle.fw_audit.specs.declared.life.Left.{Left}
use Rattle.fw_audit.proofs.Gathering.{all_departed, all_gathered, gathers_none, is_in, nil_of, one_departed, popped}
use Rattle.fw_audit.proofs.audit.all_outlived.Goals as goal

pub loop-left-init : goal.loop-left-init
loop-left-init c = subst (λ (l : List Left). Gathers c.args.heads.now c.args.lefts.items (log_of c.args.items.now) c.args.lefts.items l None) (sym c.new-found.ensures.items)
    (gathers_none c.args.heads.now c.args.lefts.items (log_of c.args.items.now))

pub gathered-requires-clause-rests : goal.gathered-requires-clause-rests
gathered-requires-clause-rests c =
    let g = c.loop-left.invariant in
    let left = c.in-Some.left in
    let pops = c.pop.ensures.items ∙ ap (λ (o : Option Left). c.pop.new.self.items ++ option_to_list o) c.in-Some.is in
    let there = is_in c.args.lefts.items c.pop.new.self.items g.done left (popped c.args.lefts.items c.loop-left.rest.items c.pop.new.self.items g.done left g.is pops) in
    All-contains (λ (l : Left). reopened l.meter.meter ≡ l.meter.meter) c.args.lefts.items left c.requires.rests there

pub loop-left-preserved : goal.loop-left-preserved
loop-left-preserved c =
    let pops = c.pop.ensures.items ∙ ap (λ (o : Option Left). c.pop.new.self.items ++ option_to_list o) c.in-Some.is in
    c.in-Ok.ensures c.args.lefts.items c.loop-left.rest.items c.pop.new.self.items c.loop-left.invariant pops

pub returns-then-not-is_empty : goal.returns-then-not-is_empty
returns-then-not-is_empty c =
    let none : c.loop-left.rest.items ≡ [] = nil_of c.loop-left.rest.items (omega (arith, c.in_default.ensures.cases.0)) in
    let some : 1 ≤ length c.loop-left.found.items = search rules in
    all_gathered c.args.heads.now c.args.lefts.items (log_of c.args.items.now) c.loop-left.found.items c.loop-left.far
    (subst (λ (l : List Left). Gathers c.args.heads.now c.args.lefts.items (log_of c.args.items.now) l c.loop-left.found.items c.loop-left.far) none c.loop-left.invariant)
    some

pub returns : goal.returns
returns c =
    let none : c.loop-left.rest.items ≡ [] = nil_of c.loop-left.rest.items (omega (arith, c.in_default.ensures.cases.0)) in
    let empty : length c.loop-left.found.items ≡ 0 = search rules in
    let G = Gathers c.args.heads.now c.args.lefts.items (log_of c.args.items.now) in
    all_departed c.args.heads.now c.args.lefts.items (log_of c.args.items.now) c.loop-left.found.items c.in-Some-far.departure
    (subst (λ (o : Option Departure). G [] c.loop-left.found.items o) c.in-Some-far.is
    (subst (λ (l : List Left). G l c.loop-left.found.items c.loop-left.far) none c.loop-left.invariant))
    empty

pub unreachable-requires : goal.unreachable-requires
unreachable-requires c =
    let none : c.loop-left.rest.items ≡ [] = nil_of c.loop-left.rest.items (omega (arith, c.in_default.ensures.cases.0)) in
    let empty : length c.loop-left.found.items ≡ 0 = search rules in
    let G = Gathers c.args.heads.now c.args.lefts.items (log_of c.args.items.now) in
    one_departed c.args.heads.now c.args.lefts.items (log_of c.args.items.now) c.loop-left.found.items
    (subst (λ (o : Option Departure). G [] c.loop-left.found.items o) c.in-None.is
    (subst (λ (l : List Left). G l c.loop-left.found.items c.loop-left.far) none c.loop-left.invariant))
    c.requires.some empty
