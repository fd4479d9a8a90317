use Rattle.std.proofs.Common.{◌≡◌, ◌≤◌, ℕ, List, [], ◌∷◌, length, sym, ap, subst, ◌∙◌, rules, arith}
use Rattle.fw_names.specs.Name.{Campaign}
use Rattle.fw_book.specs.Contents.{Offered}
use Rattle.fw_fleet_audit.specs.Rows.{campaign_of}
use Rattle.fw_head_audit.specs.Private.{Lets, kind_of}
use Rattle.fw_head_audit.proofs.Books.{entry_next, passed_all, passed_at, passed_more, passed_none}
use Rattle.fw_head_audit.proofs.offers.is_asked_to.Goals as goal

pub loop-serial-init : goal.loop-serial-init
loop-serial-init c = passed_none c.args.book.now c.args.meter (kind_of c.args.asking.now) c.into_iter-serial-iterator.result (search rules)

pub campaign_of-campaign-requires : goal.campaign_of-campaign-requires
campaign_of-campaign-requires c =
    let entry : ℕ × Offered = (c.in-Some.serial.now, c.in-Some.offer.now) in
    let rest : List (ℕ × Offered) = c.next.new.self in
    let next : c.loop-serial.serial-iterator ≡ entry ∷ rest = search (c.in-Some.ensures.steps) in
    let is = entry_next c.args.book.now c.args.meter (kind_of c.args.asking.now) c.loop-serial.serial-iterator rest entry c.head-head.ensures.book c.loop-serial.invariant next in
    is.serial_begins

pub lets-requires-clause-fits : goal.lets-requires-clause-fits
lets-requires-clause-fits c =
    let entry : ℕ × Offered = (c.in-Some.serial.now, c.in-Some.offer.now) in
    let rest : List (ℕ × Offered) = c.next.new.self in
    let next : c.loop-serial.serial-iterator ≡ entry ∷ rest = search (c.in-Some.ensures.steps) in
    let is = entry_next c.args.book.now c.args.meter (kind_of c.args.asking.now) c.loop-serial.serial-iterator rest entry c.head-head.ensures.book c.loop-serial.invariant next in
    let ends : length entry.1.image ≤ 16777216 = is.image_ends in
    omega (arith, ends)

pub loop-serial-preserved : goal.loop-serial-preserved
loop-serial-preserved c =
    let book = c.args.book.now in
    let entry : ℕ × Offered = (c.in-Some.serial.now, c.in-Some.offer.now) in
    let rest : List (ℕ × Offered) = c.next.new.self in
    let next : c.loop-serial.serial-iterator ≡ entry ∷ rest = search (c.in-Some.ensures.steps) in
    let own : c.campaign_of-campaign.result ≡ campaign_of book.head entry.0 =
    c.campaign_of-campaign.ensures.value ∙ ap (λ (h : ℕ). campaign_of h entry.0) c.head-head.ensures.value in
    passed_more book c.args.meter (kind_of c.args.asking.now) c.loop-serial.serial-iterator rest entry c.loop-serial.invariant next
    (λ lets. c.lets.ensures.none c.if-lets.false (subst (λ (k : Campaign). Lets entry.1 k c.args.meter (kind_of c.args.asking.now)) (sym own) lets))

pub returns-then-lets-clause-some : goal.returns-then-lets-clause-some
returns-then-lets-clause-some c is =
    let book = c.args.book.now in
    let entry : ℕ × Offered = (c.in-Some.serial.now, c.in-Some.offer.now) in
    let rest : List (ℕ × Offered) = c.next.new.self in
    let next : c.loop-serial.serial-iterator ≡ entry ∷ rest = search (c.in-Some.ensures.steps) in
    let own : c.campaign_of-campaign.result ≡ campaign_of book.head entry.0 =
    c.campaign_of-campaign.ensures.value ∙ ap (λ (h : ℕ). campaign_of h entry.0) c.head-head.ensures.value in
    passed_at book c.args.meter (kind_of c.args.asking.now) c.loop-serial.serial-iterator rest entry c.campaign_of-campaign.result c.head-head.ensures.book c.loop-serial.invariant next own
    (c.lets.ensures.some c.if-lets.true)

pub returns-clause-none : goal.returns-clause-none
returns-clause-none c is =
    let none : c.loop-serial.serial-iterator ≡ [] = search (c.in-None.ensures.steps) in
    passed_all c.args.book.now c.args.meter (kind_of c.args.asking.now) c.loop-serial.serial-iterator c.head-head.ensures.book c.loop-serial.invariant none
