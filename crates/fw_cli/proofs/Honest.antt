-- A session over an honest store that doesn't fail is one of the meter alone.
use Rattle.std.proofs.Common.{ℕ, List, [], ◌∷◌, Option, ap, ◌∙◌}
use Rattle.std.specs.Prelude.{IsTrue}
use Rattle.fw_image.specs.State.{State}
use Rattle.fw_meter.specs.Laws.{Faultless}
use Rattle.fw_cli.specs.Session.{AnswersLine, AnswersLineOver, AnswersLines, Session}
use Rattle.fw_cli.specs.Answering.{WritesSession}

one_line : Faultless → (old new : State) (line text : List ℕ) → IsTrue old.honest → IsTrue old.sound → AnswersLineOver old line text new → AnswersLine old.meter line text new.meter
one_line law old new line text honest sound turn = record {
  datagram = turn.datagram;
  reply = turn.reply;
  activated = turn.activated;
  spelled = turn.spelled;
  step = law old new turn.datagram turn.reply turn.activated honest sound turn.step;
  told = turn.told;
}

each_line : Faultless → (old new : State) (lines : List (List ℕ)) (text : List ℕ) → IsTrue old.honest → IsTrue old.sound → AnswersLines AnswersLineOver old lines text new
    → AnswersLines AnswersLine old.meter lines text new.meter
each_line law old new [] text honest sound (none, same) = (none, ap (λ (s : State). s.meter) same)
each_line law old new (line ∷ lines) text honest sound (first, rest, next, turn, others, told) = (
  first,
  rest,
  next.meter,
  one_line law old next line first honest sound turn,
  each_line law next new lines rest (turn.follows.honesty ∙ honest) (turn.follows.soundness sound) others,
  told,
)

session : Faultless → (old : State) (input text : List ℕ) (bad_line : Option ℕ) → IsTrue old.honest → IsTrue old.sound → Session AnswersLineOver old input text bad_line
    → Session AnswersLine old.meter input text bad_line
session law old input text bad_line honest sound s = record {
  answered = s.answered;
  left = s.left;
  after = s.after.meter;
  lines = s.lines;
  answers = each_line law old s.after s.answered text honest sound s.answers;
  ends = s.ends;
}

pub writes : Faultless → (old : State) (bad_line : Option ℕ) (before after first last : Option (List ℕ)) → IsTrue old.honest → IsTrue old.sound
    → WritesSession AnswersLineOver old bad_line before after first last → WritesSession AnswersLine old.meter bad_line before after first last
writes law old bad_line before after first last honest sound w = record {
  input = w.input;
  text = w.text;
  read = w.read;
  session = session law old w.input w.text bad_line honest sound w.session;
  written = w.written;
}
