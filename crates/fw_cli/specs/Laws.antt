-- Public vocabulary: what the law says.
use Rattle.std.specs.Prelude.{◌≡◌, ℕ, List, Option}
use Rattle.fw_image.specs.Meter.{Meter}
use Rattle.fw_cli.specs.declared.answer.AnswerOptions.{AnswerOptions}
use Rattle.fw_cli.specs.Options.{Describes}
use Rattle.fw_cli.specs.Session.{AnswersLine, Session}

-- The options and the input determine the text that answers it, and the bad line.
abbrev pub OneAnswer : Type 0
OneAnswer = (options : AnswerOptions) (meter second : Meter) (input text other : List ℕ) (bad_line another : Option ℕ)
    → Describes options meter → Session AnswersLine meter input text bad_line
    → Describes options second → Session AnswersLine second input other another
    → (text ≡ other) × (bad_line ≡ another)
