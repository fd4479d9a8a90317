use Rattle.std.proofs.Common.{◌≡◌, map, arith}
use Rattle.fw_book.specs.Rows.{live_row}
use Rattle.fw_book.proofs.Openings.{opening_admits}
use Rattle.fw_book.proofs.book.Book.open_campaign.Goals as goal

pub add-requires : goal.add-requires
add-requires c =
    let rows = c.in_ok-rows.ensures.rows in
    let offer : c.in_ok-offer.offer ≡ record { release = c.args.release; image = c.args.image.now; rows = map live_row c.args.meters.now } =
    rw (← rows) c.in_ok-offer.ensures.offer in
    rw (offer, c.serial.ensures)
    (opening_admits c.args.self.now c.args.campaign c.args.release c.args.image.now c.args.meters.now c.in_ok-check_opening.ensures.opened (omega arith)
    (rw (← rows) c.in_ok-rows.ensures.fit) c.in_ok-check_opening.ensures.admitted)
