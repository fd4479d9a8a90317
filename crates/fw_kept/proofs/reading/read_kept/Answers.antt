use Rattle.std.proofs.Common.{rules, ◌≡◌, ℕ, List, Vec, Err, ap, subst}
use Rattle.std.specs.declared.alloc.Global.{Global}
use Rattle.fw_journal.specs.declared.error.JournalError.{JournalError}
use Rattle.fw_ledger.specs.Noted.{AreNotesOf}
use Rattle.fw_ledger.specs.Replay.{records_of}
use Rattle.fw_ledger.specs.declared.error.ReplayError.{ReplayError}
use Rattle.fw_ledger.specs.declared.error.ReplayError.TheVariants.{BadRecord, OutOfMemory}
use Rattle.fw_kept.specs.Kept.{HasBadRecord}
use Rattle.fw_kept.specs.Private.{AreReadAs, IsReadingRefusal}
use Rattle.fw_kept.proofs.Readings.{read_as, notes_read, records_bad, records_memory, same_index, read_is}
use Rattle.fw_kept.proofs.reading.read_kept.Goals as goal

pub returns-in-Ok-book_in-clause-found : goal.returns-in-Ok-book_in-clause-found
returns-in-Ok-book_in-clause-found c =
    let vs = c.in-Ok.records.items in
    let here : c.deref.result.now ≡ vs = search rules in
    read_as c.one_reading.ensures c.args.bytes.now vs c.in-Ok-book_in.book c.in-Ok.ensures.records (subst (λ (l : List (Vec ℕ Global)). AreReadAs (records_of l) c.in-Ok-book_in.book) here c.in-Ok-book_in.ensures.found)

pub returns-in-Ok-book_in-clause-noted : goal.returns-in-Ok-book_in-clause-noted
returns-in-Ok-book_in-clause-noted c =
    let vs = c.in-Ok.records.items in
    let here : c.deref.result.now ≡ vs = search rules in
    notes_read c.args.bytes.now vs c.in-Ok-book_in.notes c.in-Ok.ensures.records (subst (λ (l : List (Vec ℕ Global)). AreNotesOf (records_of l) c.in-Ok-book_in.notes) here c.in-Ok-book_in.ensures.noted)

pub returns-in-Err-BadRecord-clause-bad_record : goal.returns-in-Err-BadRecord-clause-bad_record
returns-in-Err-BadRecord-clause-bad_record c = λ index is.
    let vs = c.in-Ok.records.items in
    let at = c.in-Err-BadRecord.index in
    let refusal = c.in-Err-BadRecord.field-0 in
    let here : c.deref.result.now ≡ vs = search rules in
    let same : refusal ≡ BadRecord at = search rules in
    let refused = subst (λ (l : List (Vec ℕ Global)). IsReadingRefusal (records_of l) refusal) here c.in-Err-BadRecord.ensures.refused in
    subst (λ (n : ℕ). (head : ℕ) × HasBadRecord head c.args.bytes.now n) (same_index at index is)
    (records_bad c.args.bytes.now vs at c.in-Ok.ensures.records (subst (λ (e : ReplayError). IsReadingRefusal (records_of vs) e) same refused))

pub returns-in-Err-BadRecord-clause-no_book : goal.returns-in-Err-BadRecord-clause-no_book
returns-in-Err-BadRecord-clause-no_book c = λ index is.
    let bad = returns-in-Err-BadRecord-clause-bad_record c index is in
    c.bad_records_have_none.ensures bad.0 c.args.bytes.now index bad.1

pub returns-in-Ok-clause-memory : goal.returns-in-Ok-clause-memory
returns-in-Ok-clause-memory c = λ is.
    let vs = c.in-Ok.records.items in
    let refusal = c.in-Err-OutOfMemory.field-0 in
    let here : c.deref.result.now ≡ vs = search rules in
    let same : refusal ≡ OutOfMemory = search rules in
    let refused = subst (λ (l : List (Vec ℕ Global)). IsReadingRefusal (records_of l) refusal) here c.in-Err-OutOfMemory.ensures.refused in
    records_memory c.args.bytes.now vs c.in-Ok.ensures.records (subst (λ (e : ReplayError). IsReadingRefusal (records_of vs) e) same refused)

pub returns-clause-bad : goal.returns-clause-bad
returns-clause-bad c = λ offset is. c.in-Err.ensures.bad offset (ap (λ (e : JournalError). Err e) (c.unread.ensures.bad offset (read_is _ _ is)))

pub returns-clause-bad_record : goal.returns-clause-bad_record
returns-clause-bad_record c = λ index is. absurd (c.unread.ensures.record index (read_is _ _ is))

pub returns-clause-no_book : goal.returns-clause-no_book
returns-clause-no_book c = λ index is. absurd (c.unread.ensures.record index (read_is _ _ is))

pub returns-clause-memory : goal.returns-clause-memory
returns-clause-memory c = λ is. c.in-Err.ensures.memory (ap (λ (e : JournalError). Err e) (c.unread.ensures.memory (read_is _ _ is)))
