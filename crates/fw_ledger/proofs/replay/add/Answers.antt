use Rattle.std.proofs.Common.{rules, ◌≢◌, inl}
use Rattle.fw_book.specs.declared.error.BookError.{BookError}
use Rattle.fw_book.specs.declared.error.BookError.TheVariants.{OutOfMemory}
use Rattle.fw_book.specs.Contents.{Contents}
use Rattle.fw_ledger.specs.Replay.{Makes, AddsNothing}
use Rattle.fw_ledger.specs.View.{entry_of}
use Rattle.fw_ledger.proofs.Books.{if_err, spelled_adds_nothing, spelled_takes, taken_begins}
use Rattle.fw_ledger.proofs.replay.add.Goals as goal

pub returns-in-Ok-clause-refused : goal.returns-in-Ok-clause-refused
returns-in-Ok-clause-refused c =
    if_err c.make.result (λ (e : BookError). e ≢ OutOfMemory → (next : Contents) → ¬ Makes (entry_of c.in-Ok.record) c.args.book.now next) (λ (e : BookError). e ≢ OutOfMemory → AddsNothing c.args.bytes.now c.args.book.now)
    (λ e none other. spelled_adds_nothing c.args.bytes.now (entry_of c.in-Ok.record) c.args.book.now c.in-Ok.ensures.found (none other)) c.make.ensures.refused

pub returns-in-Ok-clause-memory : goal.returns-in-Ok-clause-memory
returns-in-Ok-clause-memory c = λ is. spelled_takes c.args.bytes.now (entry_of c.in-Ok.record) c.in-Ok.ensures.found (c.make.ensures.memory is)

pub returns-in-Err-OutOfMemory-clause-memory : goal.returns-in-Err-OutOfMemory-clause-memory
returns-in-Err-OutOfMemory-clause-memory c = λ is. inl (taken_begins c.args.bytes.now (c.in-Err-OutOfMemory.ensures.memory (search rules)))
