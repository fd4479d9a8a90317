use Rattle.std.proofs.Common.{ℕ, sym, subst}
use Rattle.fw_book.specs.Contents.{Contents}
use Rattle.fw_head.specs.declared.news.News.TheVariants as news
use Rattle.fw_kept.specs.Kept.{Keeps}
use Rattle.fw_kept.specs.Private.{IsNewsOf}
use Rattle.fw_kept.proofs.Heads.{gives_up, offers_on}
use Rattle.fw_kept.proofs.Backs.{offers_back}
use Rattle.fw_kept.proofs.head.KeptHead.give_up.Goals as goal

pub keep_end-requires : goal.keep_end-requires
keep_end-requires g c =
    let hears = gives_up c.args.self.now.head c.give_up.new.self c.args.meter c.args.why c.in-Some.given c.give_up.ensures.was c.in-Some.ensures.given_up in
    subst (λ (b : Contents). IsNewsOf b (news.Failed c.in-Some.given.campaign c.args.meter)) (sym c.view.ensures.book) hears.news

pub returns-in-Ok-clause-waits_noted : goal.returns-in-Ok-clause-waits_noted
returns-in-Ok-clause-waits_noted g c = λ synced noted holds.
    let book = c.args.self.now.head.book in
    let next = c.give_up.new.self.book in
    let hears = gives_up c.args.self.now.head c.give_up.new.self c.args.meter c.args.why c.in-Some.given c.give_up.ensures.was c.in-Some.ensures.given_up in
    let keeps = c.in-Ok.ensures.waits book.head synced book next noted holds.keeps hears.makes in
    record {
      works = holds.works;
      keeps = subst (λ (n : ℕ). Keeps g.D.JournalDevice.honest g.D.JournalDevice.contents g.D.JournalDevice.may_leave n c.keep_end.new.journal synced next noted c.keep_end.new.notes) (sym hears.number) keeps;
      offers = offers_on next book synced hears.offers holds.offers;
    }

pub returns-in-Ok-clause-waits : goal.returns-in-Ok-clause-waits
returns-in-Ok-clause-waits g c = λ synced holds. (holds.0, returns-in-Ok-clause-waits_noted g c synced holds.0 holds.1)

pub returns-in-Ok-clause-offers : goal.returns-in-Ok-clause-offers
returns-in-Ok-clause-offers g c =
    (gives_up c.args.self.now.head c.give_up.new.self c.args.meter c.args.why c.in-Some.given c.give_up.ensures.was c.in-Some.ensures.given_up).offers

pub returns-in-Err-clause-offers : goal.returns-in-Err-clause-offers
returns-in-Err-clause-offers g c =
    (gives_up c.args.self.now.head c.give_up.new.self c.args.meter c.args.why c.in-Some.given c.give_up.ensures.was c.in-Some.ensures.given_up).offers

pub returns-in-Ok-clause-backed : goal.returns-in-Ok-clause-backed
returns-in-Ok-clause-backed g c = λ back left now.
    let hears = gives_up c.args.self.now.head c.give_up.new.self c.args.meter c.args.why c.in-Some.given c.give_up.ensures.was c.in-Some.ensures.given_up in
    offers_back c.args.self.now.head.book c.give_up.new.self.book left hears.number hears.offers
    (back left (subst (λ d. g.D.JournalDevice.may_leave d left) c.keep_end.ensures.device now))

pub returns-in-Err-clause-backed : goal.returns-in-Err-clause-backed
returns-in-Err-clause-backed g c = λ back left now.
    let hears = gives_up c.args.self.now.head c.give_up.new.self c.args.meter c.args.why c.in-Some.given c.give_up.ensures.was c.in-Some.ensures.given_up in
    offers_back c.args.self.now.head.book c.give_up.new.self.book left hears.number hears.offers
    (back left (subst (λ d. g.D.JournalDevice.may_leave d left) c.keep_end.ensures.device now))
