use Rattle.fw_sealport.proofs.Cases.{err_weaker, ok_weaker}
use Rattle.fw_sealport.proofs.WireFacts.{open_refused, opened_fits, opened_from, opened_is_short}
use Rattle.fw_sealport.proofs.wire.open_wire.Goals as goal

pub returns-clause-opens : goal.returns-clause-opens
returns-clause-opens c =
    let ends = c.args.link.now in
    let frame = c.in-Ok.frame in
    ok_weaker c.open.result _ _
    (λ o is. opened_from ends.keys ends.other c.args.wire.now frame.apdu.now frame.source frame.dest c.in-Ok.ensures.found o.counter o.apdu.items is) c.open.ensures.opens

pub returns-clause-short : goal.returns-clause-short
returns-clause-short c =
    let ends = c.args.link.now in
    let frame = c.in-Ok.frame in
    ok_weaker c.open.result _ _
    (λ o is. opened_is_short ends.keys ends.other c.args.wire.now o.counter o.apdu.items
    (opened_from ends.keys ends.other c.args.wire.now frame.apdu.now frame.source frame.dest c.in-Ok.ensures.found o.counter o.apdu.items is)) c.open.ensures.opens

pub returns-clause-fits : goal.returns-clause-fits
returns-clause-fits c =
    let ends = c.args.link.now in
    let frame = c.in-Ok.frame in
    ok_weaker c.open.result _ _
    (λ o is. opened_fits ends.keys ends.other c.args.wire.now o.counter o.apdu.items
    (opened_from ends.keys ends.other c.args.wire.now frame.apdu.now frame.source frame.dest c.in-Ok.ensures.found o.counter o.apdu.items is)) c.open.ensures.opens

pub returns-clause-refused : goal.returns-clause-refused
returns-clause-refused c =
    let ends = c.args.link.now in
    let frame = c.in-Ok.frame in
    err_weaker c.open.result _ _
    (λ e is. open_refused ends.keys ends.other c.args.wire.now frame.apdu.now frame.source frame.dest c.in-Ok.ensures.found
    (λ s d other w. (c.in-Ok.ensures.unique s d other w).2) e is) c.open.ensures.refused
