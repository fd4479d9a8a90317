use Rattle.std.proofs.Common.{take, sym, ap, ◌∙◌, inr, lit≤}
use Rattle.std.proofs.lemmas.List.{take-take}
use Rattle.fw_journal.specs.Book.{book_bytes}
use Rattle.fw_journal.proofs.laws.first_bytes_begin.Goals as goal

pub returns : goal.returns
returns c records left same =
    inr (sym (take-take 4 5 left (lit≤ tt)) ∙ ap (take 4) same ∙ take-take 4 5 (book_bytes records) (lit≤ tt))
