use Rattle.std.proofs.Common.{rules, ◌≡◌, Result, Ok, Err, IfErr, refl, sym, ◌∙◌, ap, subst}
use Rattle.fw_book.specs.Changes.{opened, opening_refusal}
use Rattle.fw_head.specs.Head.{Head, campaign_at}
use Rattle.fw_kept.specs.Head.{Commits}
use Rattle.fw_kept.specs.Refusals.{IsRefusedFor}
use Rattle.fw_kept.specs.declared.error.KeptError.{KeptError}
use Rattle.fw_kept.specs.declared.error.KeptError.TheVariants.{Full, BookFault, OutOfMemory}
use Rattle.fw_kept.proofs.Books.{err_is, commit_refused}
use Rattle.fw_kept.proofs.Backs.{opened_also}
use Rattle.fw_names.specs.Name.{Campaign, Name}
use Rattle.fw_book.specs.Notes.{Known, with_opening}
use Rattle.fw_ledger.specs.Entry.{note}
use Rattle.fw_ledger.specs.declared.record.Note.TheVariants.{Opened}
use Rattle.fw_ledger.specs.View.{entry_of}
use Rattle.fw_kept.specs.Private.{Puts}
use Rattle.fw_kept.proofs.Notings.{opened_there, opening_makes, opening_known}
use Rattle.fw_kept.proofs.Commits.{undone, fails, done, lost, begun, begun_broken}
use Rattle.fw_kept.proofs.head.KeptHead.open_campaign.Goals as goal

pub returns-in_err-opening-clause-commits : goal.returns-in_err-opening-clause-commits
returns-in_err-opening-clause-commits g c =
    let J = g.D.JournalDevice in
    let met = g.met.D.JournalDevice in
    let old = c.args.self.now in
    let first = opening_refusal old.head.book (campaign_at old.head c.args.serial) c.args.image.now c.args.meters.now in
    let next = opened old.head.book c.args.serial c.args.release c.args.image.now c.args.meters.now in
    let later = with_opening old.notes c.args.serial c.args.now in
    let refusal = c.in_err-opening.field-0.0 in
    let same : c.from_residual.result ≡ Err refusal = search rules in
    subst (λ r. Commits J BookFault first old r old next later) (sym same)
    (undone J met.counts_now met.only_now met.reads_may_be_left BookFault first old next later refusal (λ broken none. err_is refusal BookFault (c.in_err-opening.ensures.broken broken none))
    (λ is. c.in_err-opening.ensures.fault (ap (λ (e : KeptError). Err e) is)))

pub returns-in_err-put_noted-clause-refused : goal.returns-in_err-put_noted-clause-refused
returns-in_err-put_noted-clause-refused g c =
    let refusal = c.in_err-put_noted.field-0.0 in
    let same : c.from_residual-in_err-put_noted.result ≡ Err refusal = search rules in
    let first = opening_refusal c.args.self.now.head.book (campaign_at c.args.self.now.head c.args.serial) c.args.image.now c.args.meters.now in
    subst (λ r. IfErr r (IsRefusedFor first)) (sym same) (commit_refused first refusal c.in_err-put_noted.ensures.refusals c.in_ok-opening.ensures.admitted)

pub returns-in_err-put_noted-clause-commits : goal.returns-in_err-put_noted-clause-commits
returns-in_err-put_noted-clause-commits g c =
    let J = g.D.JournalDevice in
    let met = g.met.D.JournalDevice in
    let old = c.args.self.now in
    let first = opening_refusal old.head.book (campaign_at old.head c.args.serial) c.args.image.now c.args.meters.now in
    let next = opened old.head.book c.args.serial c.args.release c.args.image.now c.args.meters.now in
    let later = with_opening old.notes c.args.serial c.args.now in
    let is_note : entry_of c.opened_note-note.result ≡ note (campaign_at old.head c.args.serial) (Opened c.args.now) =
    c.opened_note-note.ensures.entry ∙ ap (λ (k : Campaign). note k (Opened c.args.now)) c.campaign.ensures.value in
    let there = opened_there c.opening_offers.ensures c.admitted_opens.ensures old.head.book (campaign_at old.head c.args.serial) c.args.release c.args.image.now c.args.meters.now c.in_ok-opening.ensures.admitted in
    let refusal = c.in_err-put_noted.field-0.0 in
    let same : c.from_residual-in_err-put_noted.result ≡ Err refusal = search rules in
    subst (λ r. Commits J BookFault first old r (record old { journal = c.put_noted.new.journal }) next later) (sym same)
    (fails J met.counts_now met.only_now met.reads_may_be_left BookFault first old next later c.put_noted.new.journal refusal c.in_ok-opening.ensures.works
    (opened_also old.head.book c.args.serial c.args.release c.args.image.now c.args.meters.now) (subst (λ (k : Known). Puts J BookFault old.journal (let r : Result (Unit {0}) KeptError = Err refusal in r) c.put_noted.new.journal old.head.book next old.notes k)
    (opening_known old.notes (entry_of c.in_ok-opening.opening) (entry_of c.opened_note-note.result) (campaign_at old.head c.args.serial) c.args.now c.in_ok-opening.ensures.no_note is_note)
    (c.in_err-put_noted.ensures.puts old.head.book next next old.notes c.in_ok-opening.ensures.makes (opening_makes next (campaign_at old.head c.args.serial) c.args.now (entry_of c.opened_note-note.result) is_note there))))

pub returns-in_err-put_noted-clause-full : goal.returns-in_err-put_noted-clause-full
returns-in_err-put_noted-clause-full g c = λ full.
    let refusal = c.in_err-put_noted.field-0.0 in
    let same : c.from_residual-in_err-put_noted.result ≡ Err refusal = search rules in
    c.in_err-put_noted.ensures.full (ap (λ (e : KeptError). Err e) (err_is refusal Full (sym same ∙ full)))

pub returns-in-Ok-clause-commits : goal.returns-in-Ok-clause-commits
returns-in-Ok-clause-commits g c =
    let met = g.met.D.JournalDevice in
    let old = c.args.self.now in
    let first = opening_refusal old.head.book (campaign_at old.head c.args.serial) c.args.image.now c.args.meters.now in
    let next = opened old.head.book c.args.serial c.args.release c.args.image.now c.args.meters.now in
    let later = with_opening old.notes c.args.serial c.args.now in
    let is_note : entry_of c.opened_note-note.result ≡ note (campaign_at old.head c.args.serial) (Opened c.args.now) =
    c.opened_note-note.ensures.entry ∙ ap (λ (k : Campaign). note k (Opened c.args.now)) c.campaign.ensures.value in
    let there = opened_there c.opening_offers.ensures c.admitted_opens.ensures old.head.book (campaign_at old.head c.args.serial) c.args.release c.args.image.now c.args.meters.now c.in_ok-opening.ensures.admitted in
    subst (λ k. Commits g.D.JournalDevice BookFault first old (let r : Result Name KeptError = Ok c.in-Ok.name in r) k next later) (begun old c.begin.new.self c.put_noted.new.journal c.begin.ensures.journal c.begin.ensures.broken)
    (done g.D.JournalDevice met.counts_now met.only_now met.reads_may_be_left BookFault first old next later c.begin.new.self.head c.begin.new.self.notes c.put_noted.new.journal c.in-Ok.name tt c.in_ok-opening.ensures.works
    (ap (λ (h : Head). h.book) c.in-Ok.ensures.opened) refl c.in-Ok.ensures.noted
    (subst (λ (k : Known). Puts g.D.JournalDevice BookFault old.journal (let r : Result (Unit {0}) KeptError = Ok tt in r) c.put_noted.new.journal old.head.book next old.notes k)
    (opening_known old.notes (entry_of c.in_ok-opening.opening) (entry_of c.opened_note-note.result) (campaign_at old.head c.args.serial) c.args.now c.in_ok-opening.ensures.no_note is_note)
    (c.in_ok-put_noted.ensures.puts old.head.book next next old.notes c.in_ok-opening.ensures.makes (opening_makes next (campaign_at old.head c.args.serial) c.args.now (entry_of c.opened_note-note.result) is_note there))))

pub returns-clause-commits : goal.returns-clause-commits
returns-clause-commits g c =
    let met = g.met.D.JournalDevice in
    let old = c.args.self.now in
    let first = opening_refusal old.head.book (campaign_at old.head c.args.serial) c.args.image.now c.args.meters.now in
    let next = opened old.head.book c.args.serial c.args.release c.args.image.now c.args.meters.now in
    let later = with_opening old.notes c.args.serial c.args.now in
    let is_note : entry_of c.opened_note-note.result ≡ note (campaign_at old.head c.args.serial) (Opened c.args.now) =
    c.opened_note-note.ensures.entry ∙ ap (λ (k : Campaign). note k (Opened c.args.now)) c.campaign.ensures.value in
    let there = opened_there c.opening_offers.ensures c.admitted_opens.ensures old.head.book (campaign_at old.head c.args.serial) c.args.release c.args.image.now c.args.meters.now c.in_ok-opening.ensures.admitted in
    subst (λ k. Commits g.D.JournalDevice BookFault first old (let r : Result Name KeptError = Err OutOfMemory in r) k next later) (begun_broken old c.begin.new.self c.put_noted.new.journal c.begin.ensures.journal)
    (lost g.D.JournalDevice met.counts_now met.only_now met.reads_may_be_left BookFault first old next later c.begin.new.self.head c.begin.new.self.notes c.put_noted.new.journal OutOfMemory tt c.in_ok-opening.ensures.works (λ is. cc is)
    (opened_also old.head.book c.args.serial c.args.release c.args.image.now c.args.meters.now) c.in-Err.ensures.same (subst (λ (k : Known). Puts g.D.JournalDevice BookFault old.journal (let r : Result (Unit {0}) KeptError = Ok tt in r) c.put_noted.new.journal old.head.book next old.notes k)
    (opening_known old.notes (entry_of c.in_ok-opening.opening) (entry_of c.opened_note-note.result) (campaign_at old.head c.args.serial) c.args.now c.in_ok-opening.ensures.no_note is_note)
    (c.in_ok-put_noted.ensures.puts old.head.book next next old.notes c.in_ok-opening.ensures.makes (opening_makes next (campaign_at old.head c.args.serial) c.args.now (entry_of c.opened_note-note.result) is_note there))))
