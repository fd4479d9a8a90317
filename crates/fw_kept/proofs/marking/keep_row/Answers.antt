use Rattle.std.proofs.Common.{◌≡◌, sym, ap, subst, ◌∙◌}
use Rattle.fw_book.specs.Notes.{Known, with_ending}
use Rattle.fw_ledger.specs.declared.record.Note.TheVariants.{Ended}
use Rattle.fw_ledger.specs.Entry.{Entry, mark, note}
use Rattle.fw_ledger.specs.Replay.{Makes}
use Rattle.fw_ledger.specs.View.{entry_of}
use Rattle.fw_ledger.specs.Noted.{known_with}
use Rattle.fw_kept.specs.Kept.{Keeps}
use Rattle.fw_kept.proofs.Notings.{marked_end, ending_makes}
use Rattle.fw_kept.proofs.marking.keep_row.Goals as goal

pub returns-in-Ok-clause-waits : goal.returns-in-Ok-clause-waits
returns-in-Ok-clause-waits g c = λ head synced before next noted keeps makes.
    let J = g.D.JournalDevice in
    let campaign = c.args.campaign in
    let meter = c.args.meter in
    let known = c.args.notes.now in
    let one = entry_of c.mark_of.result in
    let two = entry_of c.note_of.result in
    let is_one : one ≡ mark campaign meter c.args.ending = c.mark_of.ensures.entry in
    let is_two : two ≡ note campaign (Ended meter c.args.end.now) = c.note_of.ensures.entry in
    let first = c.in_ok-add.ensures.waits head synced before next noted known keeps (subst (λ (e : Entry). Makes e before next) (sym is_one) makes) in
    let plain : known_with known one ≡ known = ap (λ (e : Entry). known_with known e) is_one in
    let mid : Keeps J.honest J.contents J.may_leave head c.add.new.journal synced next noted known = subst (λ (k : Known). Keeps J.honest J.contents J.may_leave head c.add.new.journal synced next noted k) plain first in
    let has = marked_end c.states_follow.ensures before next campaign meter c.args.ending c.args.end.now makes c.requires.so in
    let second = c.in_ok-add-2.ensures.waits head synced next next noted known mid (ending_makes next campaign meter c.args.end.now two is_two has) in
    let told : known_with known two ≡ c.note_end.new.self = ap (λ (e : Entry). known_with known e) is_two ∙ sym c.in-Ok.ensures.noted in
    subst (λ (k : Known). Keeps J.honest J.contents J.may_leave head c.add-2.new.journal synced next noted k) told second
