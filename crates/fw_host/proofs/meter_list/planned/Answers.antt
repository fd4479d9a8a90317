use Rattle.std.proofs.Common.{◌≡◌, subst, inr}
use Rattle.fw_host.specs.Lists.{SpellsNumber}
use Rattle.fw_host.proofs.Listings.{has_fields, no_address, spells_planned}
use Rattle.fw_host.proofs.meter_list.planned.Goals as goal

pub returns-in_default : goal.returns-in_default
returns-in_default g c = inr (λ planned spells. c.in_default.ensures planned.wave (has_fields _ _ planned spells).has_wave)

pub returns-in_default-text_at : goal.returns-in_default-text_at
returns-in_default-text_at g c = inr (λ planned spells.
    let has = has_fields _ _ planned spells in
    rw has.first at c.in_default-text_at.ensures.none has.number_is_text)

pub returns-in_default-text_at-2 : goal.returns-in_default-text_at-2
returns-in_default-text_at-2 g c = inr (λ planned spells.
    let has = has_fields _ _ planned spells in
    rw has.second at c.in_default-text_at-2.ensures.none has.address_is_text)

pub returns-in_default-meter_of : goal.returns-in_default-meter_of
returns-in_default-meter_of g c = inr (λ planned spells.
    let has = has_fields _ _ planned spells in
    let same : has.number ≡ c.in-Some-text_at.number.now = cc (has.first, c.in-Some-text_at.ensures.found.0) in
    c.in_default-meter_of.ensures planned.at.meter (subst (λ text. SpellsNumber 32 text planned.at.meter) same has.is_number))

pub returns-in_default-address_of : goal.returns-in_default-address_of
returns-in_default-address_of g c =
    no_address _ _ _ _ c.in-Some.wave c.in-Some.ensures c.in-Some-text_at.ensures.found.0 c.in-Some-text_at-2.ensures.found.0 c.in_default-address_of.ensures

pub returns : goal.returns
returns g c = spells_planned _ _ _ _ _ c.in-Some.ensures c.in-Some-text_at.ensures.found c.in-Some-text_at-2.ensures.found c.in-Some-meter_of.ensures c.in-Some-address_of.ensures
