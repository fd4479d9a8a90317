use Rattle.std.proofs.Common.{inl, inr, arith}
use Rattle.fw_journal.proofs.begun.BegunJournalKind.is_ours.Goals as goal

pub returns-else-len : goal.returns-else-len
returns-else-len c = λ bytes front len.
    let begins = c.begins_book.ensures bytes front in (
      λ is. inr (begins.0 is),
      λ begun. elim begun [
        | inl few ↦ absurd (omega (arith, few, len, c.if-len.false))
        | inr marked ↦ begins.1 marked
      ],
    )
