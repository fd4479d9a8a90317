use Rattle.std.proofs.Common.{sym, arith}
use Rattle.fw_auditor.proofs.books.book_at.Goals as goal

pub returns-then-is_at : goal.returns-then-is_at
returns-then-is_at c = (c.loop-number.number, omega (arith, c.loop-number-test.true), sym c.index-books-number.is)
