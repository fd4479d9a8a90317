use Rattle.std.proofs.Common.{rules, ◌≡◌}
use Rattle.fw_ledger.specs.Replay.{records_of}
use Rattle.fw_kept.proofs.Readings.{none_of, first_of, some_records, books_read, reading_refused, not_foreign, bad_first}
use Rattle.std.proofs.Common.{Err, List, [], ℕ, ap, sym, subst}
use Rattle.fw_book.specs.Notes.{Known, nothing_known}
use Rattle.fw_ledger.specs.Noted.{AreNotesOf}
use Rattle.fw_ledger.specs.declared.error.ReplayError.{ReplayError}
use Rattle.fw_kept.proofs.reading.book_in.Goals as goal

pub returns-in_default-clause-found : goal.returns-in_default-clause-found
returns-in_default-clause-found c = none_of c.args.records.now c.in_default.ensures.cases

pub returns-in_default-clause-noted : goal.returns-in_default-clause-noted
returns-in_default-clause-noted c =
    let none = none_of c.args.records.now c.in_default.ensures.cases in
    subst (λ (k : Known). AreNotesOf (records_of c.args.records.now) k) (sym c.none.ensures) (subst (λ (l : List (List ℕ)). AreNotesOf l nothing_known) (sym none) (c.nothing_noted.ensures [] [] tt tt))

pub returns-in-Ok-read_records-clause-found : goal.returns-in-Ok-read_records-clause-found
returns-in-Ok-read_records-clause-found c =
    let bytes = c.as_slice.result.now in
    let same : bytes ≡ c.in-Some.first.now.items = search rules in
    let next = first_of c.args.records.now _ c.in-Some.first.now bytes c.in-Some.ensures.cases.0 same in
    books_read c.in-Ok.head (records_of c.args.records.now) c.in-Ok-read_records.book c.in-Ok-read_records.ensures.found (some_records (records_of c.args.records.now) _ bytes next)

pub returns-in-Err-clause-refused : goal.returns-in-Err-clause-refused
returns-in-Err-clause-refused c =
    let bytes = c.as_slice.result.now in
    let same : bytes ≡ c.in-Some.first.now.items = search rules in
    let next = first_of c.args.records.now _ c.in-Some.first.now bytes c.in-Some.ensures.cases.0 same in
    let found = c.in-Ok.ensures.found in
    reading_refused c.in-Ok.head (records_of c.args.records.now) c.in-Err.refusal
    (λ index is. c.in-Err.ensures.bad index (ap (λ (e : ReplayError). Err e) is))
    (not_foreign c.one_record.ensures c.in-Ok.head (records_of c.args.records.now) _ bytes found.0 next found.1 found.2)
    (some_records (records_of c.args.records.now) _ bytes next)

pub returns-in-Err-BadRecord-clause-refused : goal.returns-in-Err-BadRecord-clause-refused
returns-in-Err-BadRecord-clause-refused c =
    let bytes = c.as_slice.result.now in
    let same : bytes ≡ c.in-Some.first.now.items = search rules in
    let next = first_of c.args.records.now _ c.in-Some.first.now bytes c.in-Some.ensures.cases.0 same in
    (1, bad_first 1 (records_of c.args.records.now) _ bytes next (c.in-Err-BadRecord.ensures.bad (search rules)))

pub returns-in-Err-OutOfMemory-clause-refused : goal.returns-in-Err-OutOfMemory-clause-refused
returns-in-Err-OutOfMemory-clause-refused c =
    let bytes = c.as_slice.result.now in
    let same : bytes ≡ c.in-Some.first.now.items = search rules in
    let next = first_of c.args.records.now _ c.in-Some.first.now bytes c.in-Some.ensures.cases.0 same in
    some_records (records_of c.args.records.now) _ bytes next
