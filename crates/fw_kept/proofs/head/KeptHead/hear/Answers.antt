use Rattle.std.proofs.Common.{ℕ, sym, subst}
use Rattle.fw_book.specs.Contents.{Contents}
use Rattle.fw_kept.specs.Kept.{Keeps}
use Rattle.fw_kept.specs.Private.{IsNewsOf}
use Rattle.fw_kept.proofs.Heads.{head_hears, told_offers, told_number, offers_on}
use Rattle.fw_kept.proofs.Backs.{offers_back}
use Rattle.fw_kept.proofs.head.KeptHead.hear.Goals as goal

pub keep_end-requires : goal.keep_end-requires
keep_end-requires g c =
    let hears = head_hears c.row_keeps_goal.ensures c.args.self.now.head c.hear_why.new.self c.args.from c.args.datagram.now c.in-Ok.told.news c.view-view.ensures.live c.in-Ok.ensures.heard in
    subst (λ (b : Contents). IsNewsOf b c.in-Ok.told.news) (sym c.view.ensures.book) hears.news

pub returns-in-Ok-keep_end-clause-waits_noted : goal.returns-in-Ok-keep_end-clause-waits_noted
returns-in-Ok-keep_end-clause-waits_noted g c = λ synced noted holds.
    let book = c.args.self.now.head.book in
    let next = c.hear_why.new.self.book in
    let hears = head_hears c.row_keeps_goal.ensures c.args.self.now.head c.hear_why.new.self c.args.from c.args.datagram.now c.in-Ok.told.news c.view-view.ensures.live c.in-Ok.ensures.heard in
    let keeps = c.in-Ok-keep_end.ensures.waits book.head synced book next noted holds.keeps hears.makes in
    record {
      works = holds.works;
      keeps = subst (λ (n : ℕ). Keeps g.D.JournalDevice.honest g.D.JournalDevice.contents g.D.JournalDevice.may_leave n c.keep_end.new.journal synced next noted c.keep_end.new.notes) (sym hears.number) keeps;
      offers = offers_on next book synced hears.offers holds.offers;
    }

pub returns-in-Ok-keep_end-clause-waits : goal.returns-in-Ok-keep_end-clause-waits
returns-in-Ok-keep_end-clause-waits g c = λ synced holds. (holds.0, returns-in-Ok-keep_end-clause-waits_noted g c synced holds.0 holds.1)

pub returns-in-Ok-keep_end-clause-offers : goal.returns-in-Ok-keep_end-clause-offers
returns-in-Ok-keep_end-clause-offers g c = told_offers c.row_keeps_goal.ensures c.hear_why.result c.args.self.now.head c.hear_why.new.self c.args.from c.args.datagram.now c.view-view.ensures.live c.hear_why.ensures.heard c.hear_why.ensures.same

pub returns-in-Err-clause-offers : goal.returns-in-Err-clause-offers
returns-in-Err-clause-offers g c = told_offers c.row_keeps_goal.ensures c.hear_why.result c.args.self.now.head c.hear_why.new.self c.args.from c.args.datagram.now c.view-view.ensures.live c.hear_why.ensures.heard c.hear_why.ensures.same

pub returns-in-Ok-keep_end-clause-backed : goal.returns-in-Ok-keep_end-clause-backed
returns-in-Ok-keep_end-clause-backed g c = λ back left now.
    offers_back c.args.self.now.head.book c.hear_why.new.self.book left (told_number c.row_keeps_goal.ensures c.hear_why.result c.args.self.now.head c.hear_why.new.self c.args.from c.args.datagram.now c.view-view.ensures.live c.hear_why.ensures.heard c.hear_why.ensures.same)
    (told_offers c.row_keeps_goal.ensures c.hear_why.result c.args.self.now.head c.hear_why.new.self c.args.from c.args.datagram.now c.view-view.ensures.live c.hear_why.ensures.heard c.hear_why.ensures.same) (back left (subst (λ d. g.D.JournalDevice.may_leave d left) c.keep_end.ensures.device now))

pub returns-in-Err-clause-backed : goal.returns-in-Err-clause-backed
returns-in-Err-clause-backed g c = λ back left now.
    offers_back c.args.self.now.head.book c.hear_why.new.self.book left (told_number c.row_keeps_goal.ensures c.hear_why.result c.args.self.now.head c.hear_why.new.self c.args.from c.args.datagram.now c.view-view.ensures.live c.hear_why.ensures.heard c.hear_why.ensures.same)
    (told_offers c.row_keeps_goal.ensures c.hear_why.result c.args.self.now.head c.hear_why.new.self c.args.from c.args.datagram.now c.view-view.ensures.live c.hear_why.ensures.heard c.hear_why.ensures.same) (back left (subst (λ d. g.D.JournalDevice.may_leave d left) c.keep_end.ensures.device now))

pub returns-in_default-clause-backed : goal.returns-in_default-clause-backed
returns-in_default-clause-backed g c = λ back left now.
    offers_back c.args.self.now.head.book c.hear_why.new.self.book left (told_number c.row_keeps_goal.ensures c.hear_why.result c.args.self.now.head c.hear_why.new.self c.args.from c.args.datagram.now c.view-view.ensures.live c.hear_why.ensures.heard c.hear_why.ensures.same)
    (told_offers c.row_keeps_goal.ensures c.hear_why.result c.args.self.now.head c.hear_why.new.self c.args.from c.args.datagram.now c.view-view.ensures.live c.hear_why.ensures.heard c.hear_why.ensures.same) (back left now)
