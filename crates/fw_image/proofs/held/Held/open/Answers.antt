use Rattle.fw_image.specs.Stored.{seen}
use Rattle.fw_image.proofs.Meters.{seen_size}
use Rattle.fw_image.proofs.Openings.{opened_again, not_refused, length-running}
use Rattle.fw_image.proofs.held.Held.open.Goals as goal

pub returns-in-Ok-clause-again : goal.returns-in-Ok-clause-again
returns-in-Ok-clause-again g c = λ meter is trusted honest sound.
    let told = c.in-Ok.ensures in
    rw c.of.ensures (opened_again (g.S.ImageStore.known c.args.store) (g.S.ImageStore.known c.examine.new.store) c.in-Ok.header meter c.one_header.ensures told.kept told.same told.held is honest)

pub returns-in-Err-clause-again : goal.returns-in-Err-clause-again
returns-in-Err-clause-again g c = λ meter is trusted honest sound.
    not_refused (g.S.ImageStore.known c.args.store) (g.S.ImageStore.known c.examine.new.store) c.in-Err.error meter c.one_header.ensures c.in-Err.ensures.refused is trusted honest sound

pub returns-in-Ok-clause-spends : goal.returns-in-Ok-clause-spends
returns-in-Ok-clause-spends g c =
    let known = g.S.ImageStore.known in
    let store = known c.examine.new.store in
    let told = c.in-Ok.ensures in
    let sized = seen_size store.honest store.capacity store.device (g.met.S.ImageStore.sized c.examine.new.store) in
    rw (c.of.ensures, length-running store.capacity c.in-Ok.header (seen store.honest store.capacity store.device) told.held.valid sized) told.spends

pub returns-in-Err-clause-cut : goal.returns-in-Err-clause-cut
returns-in-Err-clause-cut g c = c.in-Err.ensures.cut
