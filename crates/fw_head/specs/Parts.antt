-- Public vocabulary: the parts of a head end, and what they are when they are put together.
use Rattle.std.specs.Prelude.{◌≢◌, ℕ, not, List, [], ◌∷◌, map, filter}
use Rattle.fw_book.specs.declared.row.RowState.TheVariants as state
use Rattle.fw_book.specs.Contents.{Contents}
use Rattle.fw_book.specs.Changes.{marked}
use Rattle.fw_head.specs.declared.error.PutError.{PutError}
use Rattle.fw_head.specs.declared.error.PutError.TheVariants.{WrongRows, OutOfMemory}
use Rattle.fw_head.specs.declared.stage.Stage.{Stage}
use Rattle.fw_head.specs.declared.stage.Stage.TheVariants.{Done, Failed}
use Rattle.fw_head.specs.Phase.{has_ended}
use Rattle.fw_head.specs.Row.{Row}
use Rattle.fw_head.specs.Head.{Head, Rows, renewed, AreRowsOf}

-- the rows, each under the number of its meter
abbrev pub by_meter : List Row → Rows
by_meter rows = map (λ (row : Row). (row.client.meter, row)) rows

-- The rows are the live ones of the book, each once, in any order and however far they went on: each made new, they are those of a
-- head end with this book.
abbrev pub AreLiveRows : Contents → List Row → Type 0
AreLiveRows book rows = AreRowsOf book (renewed (by_meter rows))

-- the rows that have not ended
abbrev pub still_live : Rows → Rows
still_live rows = filter (λ (entry : ℕ × Row). not (has_ended entry.1.stage)) rows

-- the book with the end of a meter's row marked, if this stage is one
abbrev pub with_end : Contents → ℕ → ℕ → Stage → Contents
with_end book serial meter (Done claim) = marked book serial meter state.Done
with_end book serial meter (Failed why) = marked book serial meter state.Failed
with_end book serial meter stage = book

-- the book with the ends of these rows marked
abbrev pub with_ends : Contents → List Row → Contents
with_ends book [] = book
with_ends book (row ∷ rows) = with_ends (with_end book row.name.campaign.serial row.client.meter row.stage) rows

-- the head end of this book and these rows: those that ended are marked, and the others are its live rows
abbrev pub joined : Contents → ℕ → List Row → Head
joined book width rows = record { book = with_ends book rows; width = width; rows = still_live (by_meter rows) }

-- why parts are not put together: the rows are not those of the book; or memory ran out, and they are, and there are some
abbrev pub PutRefused : Contents → List Row → PutError → Type 0
PutRefused book rows WrongRows = ¬ AreLiveRows book rows
PutRefused book rows OutOfMemory = AreLiveRows book rows × (rows ≢ [])
