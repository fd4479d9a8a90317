use Rattle.std.proofs.Common.{◌≡◌, ℕ, List, [], ◌∷◌, ap, ◌∙◌, rules}
use Rattle.fw_names.specs.Name.{Campaign, name_of}
use Rattle.fw_book.specs.Contents.{Offered}
use Rattle.fw_fleet_audit.specs.Rows.{campaign_of, offered_name}
use Rattle.fw_fleet_audit.proofs.Passing.{borne_as, departs_at, first_as, next_number, passed_all, passed_more, passed_none}
use Rattle.fw_fleet_audit.proofs.rows.audit_book.Goals as goal

pub loop-serial-init : goal.loop-serial-init
loop-serial-init c = passed_none c.args.book.now c.args.meters.now c.into_iter-serial-iterator.result (search rules) c.head-head.ensures.book

pub campaign_of-campaign-requires : goal.campaign_of-campaign-requires
campaign_of-campaign-requires c =
    let entry : ℕ × Offered = (c.in-Some.serial.now, c.in-Some.offer.now) in
    let rest : List (ℕ × Offered) = c.next.new.self in
    let next : c.loop-serial.serial-iterator ≡ entry ∷ rest = search (c.in-Some.ensures.steps) in
    next_number c.args.book.now c.args.meters.now c.loop-serial.serial-iterator rest entry c.loop-serial.invariant next

pub loop-serial-preserved : goal.loop-serial-preserved
loop-serial-preserved c =
    let book = c.args.book.now in
    let meters = c.args.meters.now in
    let entry : ℕ × Offered = (c.in-Some.serial.now, c.in-Some.offer.now) in
    let rest : List (ℕ × Offered) = c.next.new.self in
    let next : c.loop-serial.serial-iterator ≡ entry ∷ rest = search (c.in-Some.ensures.steps) in
    let own : c.campaign_of-campaign.result ≡ campaign_of book.head entry.0 =
    c.campaign_of-campaign.ensures.value ∙ ap (λ (h : ℕ). campaign_of h entry.0) c.head-head.ensures.value in
    let named : c.name-name.result ≡ offered_name book.head entry =
    c.name-name.ensures ∙ ap (λ (k : Campaign). name_of k entry.1.release entry.1.image) own in
    passed_more book meters c.loop-serial.serial-iterator rest entry c.loop-serial.invariant next
    (borne_as meters book.head entry c.name-name.result c.rows.result.now named c.rows.ensures c.in_default.ensures.none)

pub returns-in-Some-first_lacking-clause-departs : goal.returns-in-Some-first_lacking-clause-departs
returns-in-Some-first_lacking-clause-departs c =
    let book = c.args.book.now in
    let meters = c.args.meters.now in
    let entry : ℕ × Offered = (c.in-Some.serial.now, c.in-Some.offer.now) in
    let rest : List (ℕ × Offered) = c.next.new.self in
    let next : c.loop-serial.serial-iterator ≡ entry ∷ rest = search (c.in-Some.ensures.steps) in
    let own : c.campaign_of-campaign.result ≡ campaign_of book.head entry.0 =
    c.campaign_of-campaign.ensures.value ∙ ap (λ (h : ℕ). campaign_of h entry.0) c.head-head.ensures.value in
    let named : c.name-name.result ≡ offered_name book.head entry =
    c.name-name.ensures ∙ ap (λ (k : Campaign). name_of k entry.1.release entry.1.image) own in
    let found = c.in-Some-first_lacking.lacking in
    departs_at book meters c.loop-serial.serial-iterator rest entry c.campaign_of-campaign.result found.0 found.1 c.loop-serial.invariant next own
    (first_as meters book.head entry c.name-name.result c.rows.result.now found.0 found.1 named c.rows.ensures c.in-Some-first_lacking.ensures.some)

pub returns-clause-borne_out : goal.returns-clause-borne_out
returns-clause-borne_out c =
    let none : c.loop-serial.serial-iterator ≡ [] = search (c.in-None.ensures.steps) in
    passed_all c.args.book.now c.args.meters.now c.loop-serial.serial-iterator c.loop-serial.invariant none
