-- For private clauses alone: what is known of the inputs of `head` before a file is made.
use Rattle.std.specs.Prelude.{◌≡◌, List, [], Option, None, Some, All}
use Rattle.fw_book.specs.Contents.{Contents}
use Rattle.fw_plan.specs.declared.part.Part.{Part}
use Rattle.fw_host.specs.Openings.{IsCancelledBy, IsTakenBy}
use Rattle.fw_cli.specs.declared.beginning.Changes.{Changes}
use Rattle.fw_cli.specs.declared.beginning.Opened.{Opened}

-- the book takes each of these campaigns of what is opened
abbrev pub AreTaken : Contents → Option Opened → List Part → Type 0
AreTaken book None parts = Unit {0}
AreTaken book (Some opened) parts = All (IsTakenBy book opened.image.items) parts

-- The book refuses nothing that is asked of it: no cancelling, and no opening, if none is cancelled first.
pub record IsJudged (book : Contents) (opened : Option Opened) (changes : Changes) : Type 0 where
  pub admitted : All (IsCancelledBy book) changes.cancels.items
  pub taken : changes.cancels.items ≡ [] → AreTaken book opened changes.parts.items
