use Rattle.std.proofs.Common.{All, sym, subst}
use Rattle.fw_book.specs.Contents.{Contents}
use Rattle.fw_head.specs.Row.{bytes_of}
use Rattle.fw_head.specs.Head.{IsOfferedIn}
use Rattle.fw_kept.specs.Kept.{Keeps}
use Rattle.fw_kept.specs.Head.{OfferSame}
use Rattle.fw_kept.proofs.Heads.{all_offered, if_ok, same_also, ticked_book}
use Rattle.fw_kept.specs.Head.{HasOffers}
use Rattle.fw_kept.proofs.head.KeptHead.tick.Goals as goal

pub returns-clause-permitted : goal.returns-clause-permitted
returns-clause-permitted g c = λ synced holds.
    let book = c.args.self.now.head.book in
    if_ok c.tick.result (λ sent. All (IsOfferedIn book) (bytes_of sent.items)) (λ sent. All (IsOfferedIn synced) (bytes_of sent.items))
    (λ sent permitted. all_offered book synced (bytes_of sent.items) (same_also book synced holds.1.offers) permitted) c.tick.ensures.permitted

pub returns-clause-offered : goal.returns-clause-offered
returns-clause-offered g c = λ book also.
    let own = c.args.self.now.head.book in
    if_ok c.tick.result (λ sent. All (IsOfferedIn own) (bytes_of sent.items)) (λ sent. All (IsOfferedIn book) (bytes_of sent.items))
    (λ sent permitted. all_offered own book (bytes_of sent.items) also permitted) c.tick.ensures.permitted

pub returns-clause-book : goal.returns-clause-book
returns-clause-book g c = ticked_book c.tick.result c.args.self.now.head c.tick.new.self c.args.meter c.tick.ensures.ticked c.tick.ensures.same

pub returns-clause-noted : goal.returns-clause-noted
returns-clause-noted g c = λ synced noted holds.
    let kept = c.args.self.now in
    let same = ticked_book c.tick.result kept.head c.tick.new.self c.args.meter c.tick.ensures.ticked c.tick.ensures.same in
    record {
      works = holds.works;
      keeps = subst (λ (b : Contents). Keeps g.D.JournalDevice.honest g.D.JournalDevice.contents g.D.JournalDevice.may_leave b.head kept.journal synced b noted kept.notes) (sym same) holds.keeps;
      offers = subst (λ (b : Contents). OfferSame b synced) (sym same) holds.offers;
    }

pub returns-clause-waits : goal.returns-clause-waits
returns-clause-waits g c = λ synced holds. (holds.0, returns-clause-noted g c synced holds.0 holds.1)

pub returns-clause-backed : goal.returns-clause-backed
returns-clause-backed g c = λ back left now. subst (λ (b : Contents). HasOffers b left) (sym (returns-clause-book g c)) (back left now)
