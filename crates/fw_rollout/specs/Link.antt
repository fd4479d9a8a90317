-- For private clauses alone: the link of one meter, and what its times are after a tick, an answer and a silence. Times are in microseconds.
use Rattle.std.specs.Prelude.{◌≡◌, ◌≢◌, ◌⊎◌, ℕ, ◌+◌, ◌-◌, ◌<◌, ◌≤◌, ◌^◌, nat_le, Bool, true, false, Option, Some, None, min, if◌then◌else◌}
use Rattle.fw_rollout.specs.Timing.{first_pause, lengthened, longer, longest_pause, wait_after}
use Rattle.fw_rollout.specs.declared.link.Answer.{Answer}
use Rattle.fw_rollout.specs.declared.link.Answer.TheVariants as answers
use Rattle.fw_rollout.specs.declared.link.Link.{Link}
use Rattle.fw_rollout.specs.declared.link.Listed.{Listed}
use Rattle.fw_rollout.specs.declared.link.Turn.{Turn}
use Rattle.fw_rollout.specs.declared.link.Turn.TheVariants as turns

-- the greatest time
abbrev pub last_time : ℕ
last_time = 2 ^ 64 - 1

-- so long after a time
abbrev pub after : ℕ → ℕ → ℕ
after time wait = min (time + wait) last_time

abbrev pub IsReady : Link → Type 0
IsReady link = link.turn ≡ turns.Ready

abbrev pub IsLiveLink : Link → Type 0
IsLiveLink link = link.turn ≢ turns.Over

abbrev pub until_of : Turn → Option ℕ
until_of turns.Over = None
until_of turns.Ready = None
until_of (turns.Awaited until) = Some until
until_of (turns.Silent until) = Some until
until_of (turns.Paused until) = Some until

abbrev pub is_paused : Turn → Bool
is_paused turns.Over = false
is_paused turns.Ready = false
is_paused (turns.Awaited until) = false
is_paused (turns.Silent until) = false
is_paused (turns.Paused until) = true

-- the time is over until which was waited
abbrev pub has_passed : ℕ → Option ℕ → Bool
has_passed now None = false
has_passed now (Some until) = nat_le until now

abbrev pub is_expired : ℕ → Link → Bool
is_expired now link = has_passed now (until_of link.turn)

-- The link may be ticked at this time: it waits for nothing, or no longer than until then, and for no answer, or its patience is over.
abbrev pub IsReadyBy : ℕ → Link → Type 0
IsReadyBy now link =
    IsReady link ⊎ ((is_expired now link ≡ true) × ((link.is_heard ≡ true) ⊎ (after link.sent_at link.patience ≤ now)))

-- Once the time is over until which was waited, the row is ticked again since no answer came, or not all of them: the meter didn't pause, and
-- its patience is over if nothing at all came.
abbrev pub lacks_answer : ℕ → Link → Bool
lacks_answer now link =
    if is_paused link.turn then false else (if link.is_heard then true else nat_le (after link.sent_at link.patience) now)

abbrev pub is_resent : ℕ → Link → Bool
is_resent now link = if is_expired now link then lacks_answer now link else false

-- how many datagrams are out at this time
abbrev pub out_by : ℕ → Link → ℕ
out_by now link = if is_expired now link then 0 else link.out

-- a meter that was not asked yet
abbrev pub IsNewLink : Listed → Bool → ℕ → Link → Type 0
IsNewLink at is_live resend link = link ≡ record {
  at = at;
  turn = if is_live then turns.Ready else turns.Over;
  out = 0;
  sent_at = 0;
  is_heard = false;
  wait = resend;
  patience = resend;
  pause = first_pause;
}

-- the row was ticked, and this number of datagrams was sent
abbrev pub IsSent : ℕ → ℕ → Link → Link → Type 0
IsSent now count old new =
    new ≡ record old { turn = turns.Awaited (after now old.wait); out = count; sent_at = now; is_heard = false }

-- how many of the datagrams that are out an answer leaves no more: all if no ask is outstanding
abbrev pub answered_of : Answer → ℕ → ℕ
answered_of answers.Partial out = min out 1
answered_of answers.Last out = out
answered_of answers.Early out = out

-- the row may not be asked now, and is looked at again after the longest pause
abbrev pub IsHeld : ℕ → Link → Link → Type 0
IsHeld now old new = new ≡ record old { turn = turns.Paused (after now longest_pause) }

-- where the link is after an answer: where the meter isn't ready, it pauses until this time, if it may not be ticked already
abbrev pub turn_after : Answer → ℕ → Turn → Turn
turn_after answers.Partial until turn = turn
turn_after answers.Last until turn = turns.Ready
turn_after answers.Early until turns.Ready = turns.Ready
turn_after answers.Early until turns.Over = turns.Paused until
turn_after answers.Early until (turns.Awaited time) = turns.Paused until
turn_after answers.Early until (turns.Silent time) = turns.Paused until
turn_after answers.Early until (turns.Paused time) = turns.Paused until

-- pauses grow as long as the meter isn't ready
abbrev pub pause_after : Answer → ℕ → ℕ
pause_after answers.Partial pause = pause
pause_after answers.Last pause = first_pause
pause_after answers.Early pause = longer pause

-- the row took an answer, and later waits go by the time that it took
abbrev pub IsAnswered : ℕ → ℕ → Answer → Link → ℕ → Link → Type 0
IsAnswered now resend answer old answered new =
    (answered ≡ answered_of answer old.out)
    × (new ≡ record old {
      turn = turn_after answer (after now old.pause) old.turn;
      out = old.out - answered;
      is_heard = true;
      wait = wait_after resend (now - old.sent_at);
      patience = wait_after resend (now - old.sent_at);
      pause = pause_after answer old.pause;
    })

-- What became of a link once the time was over until which was waited: nothing that was sent is out. After an answer the row is ticked again.
-- After a silence it is ticked again at the end of its patience, which is a quarter longer then.
abbrev pub IsGivenUp : ℕ → Link → ℕ → Link → Type 0
IsGivenUp now old given_up new =
    (given_up ≡ old.out)
    × (((old.is_heard ≡ true) × (new ≡ record old { turn = turns.Ready; out = 0 }))
    ⊎ (((old.is_heard ≡ false) × (now < after old.sent_at old.patience)
    × (new ≡ record old { turn = turns.Silent (after old.sent_at old.patience); out = 0 }))
    ⊎ ((old.is_heard ≡ false) × (after old.sent_at old.patience ≤ now)
    × (new ≡ record old { turn = turns.Ready; out = 0; patience = lengthened old.patience }))))
