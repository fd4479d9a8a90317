use Rattle.fw_book.proofs.Parts.{headless, other_campaigns, parts_found}
use Rattle.fw_book.proofs.search.parts_of.Goals as goal

pub returns-in_default-clause-none : goal.returns-in_default-clause-none
returns-in_default-clause-none c = headless c.args.bytes.now c.in_default.ensures.none

pub returns-then-not-are_campaigns-clause-none : goal.returns-then-not-are_campaigns-clause-none
returns-then-not-are_campaigns-clause-none c =
    other_campaigns c.in-Some.front.version c.args.bytes.now c.in-Some.entries.now c.in-Some.front.head c.in-Some.ensures.found c.in-Some.ensures.fits
    c.if-not-are_campaigns.ensures

pub returns-clause-found : goal.returns-clause-found
returns-clause-found c =
    parts_found c.in-Some.front.version c.args.bytes.now c.in-Some.entries.now c.in-Some.front.head c.in-Some.ensures.found c.if-not-are_campaigns.ensures
