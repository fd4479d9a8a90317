-- The exit statuses of the program: 0 if its work is done, 1 at a fault, a refused event or files that don't fit, 2 at a wrong command line,
-- 4 where a row failed, 5 where rows aren't in the list, or a meter that is named has none, 6 where too many rows failed for the next wave.
use Rattle.std.specs.Prelude.{◌≡◌, ◌≢◌, ℕ, ◌⊎◌, Result, Ok, Err}
use Rattle.clap.specs.declared.error.kind.ErrorKind.{ErrorKind}
use Rattle.clap.specs.declared.error.kind.ErrorKind.TheVariants.{DisplayHelp, DisplayVersion, OutOfMemory}
use Rattle.clap.specs.Values.{kind_of}
use Rattle.dlmsfw.specs.Places.{book_status}
use Rattle.dlmsfw.specs.declared.Ending.{Ending}
use Rattle.dlmsfw.specs.declared.Ending.TheVariants.{Fault, Capture, Trace, Answer, Meter, Book, Told, Keys, Audit, Refused, Departs, RowsFailed, RowsUnlisted, RowsLacking, CommandLine, NoText}

-- the text that was asked for
abbrev pub IsHelp : ErrorKind → Type 0
IsHelp kind = (kind ≡ DisplayHelp) ⊎ (kind ≡ DisplayVersion)

-- What was asked for is printed or can't be printed; the parser found no memory; the command line is wrong.
pub record EndsParse (kind : ErrorKind) (status : ℕ) : Type 0 where
  pub help : IsHelp kind → (status ≡ 0) ⊎ (status ≡ 1)
  pub memory : kind ≡ OutOfMemory → status ≡ 1
  pub wrong : kind ≢ DisplayHelp → kind ≢ DisplayVersion → kind ≢ OutOfMemory → status ≡ 2

-- the program may end so with this status
abbrev pub EndsWith : Ending → ℕ → Type 0
EndsWith (Fault fault) status = status ≡ 1
EndsWith (Capture path cause) status = status ≡ 1
EndsWith (Trace ended reason places) status = status ≡ 1
EndsWith (Answer because store) status = status ≡ 1
EndsWith (Meter ended places) status = status ≡ 1
EndsWith (Book because places input) status = status ≡ book_status because.error
EndsWith (Told untold shown) status = status ≡ 1
EndsWith (Keys failure places input) status = status ≡ 1
EndsWith (Audit ended list) status = status ≡ 1
EndsWith Refused status = status ≡ 1
EndsWith Departs status = status ≡ 1
EndsWith RowsFailed status = status ≡ 4
EndsWith RowsUnlisted status = status ≡ 5
EndsWith RowsLacking status = status ≡ 5
EndsWith (CommandLine error) status = EndsParse (kind_of error) status
EndsWith NoText status = status ≡ 2

-- the status of what was done
abbrev pub EndsAs : Result (Unit {0}) Ending → ℕ → Type 0
EndsAs (Ok done) status = status ≡ 0
EndsAs (Err ending) status = EndsWith ending status
