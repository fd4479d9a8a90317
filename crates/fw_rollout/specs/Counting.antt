-- Public vocabulary: what the daemon of a head end counts.
use Rattle.std.specs.Prelude.{◌≡◌, ◌⊎◌, ◌+◌, ◌-◌, ◌^◌, ℕ, Bool, true, false, min, List, [], ◌∷◌, ◌++◌, count_by}
use Rattle.fw_ledger.specs.declared.record.Ending.{Ending}
use Rattle.fw_ledger.specs.declared.record.Ending.TheVariants as ends
use Rattle.fw_port.specs.Acts.{came, quiet, sent, told}
use Rattle.fw_rollout.specs.Acts.{Act}
use Rattle.fw_rollout.specs.declared.daemon.Counts.{Counts}
use Rattle.fw_rollout.specs.declared.daemon.HeadDaemon.{HeadDaemon}
use Rattle.fw_rollout.specs.declared.daemon.Heard.{Heard}
use Rattle.fw_rollout.specs.declared.daemon.Heard.TheVariants as returned
use Rattle.fw_rollout.specs.declared.ended.Ended.{Ended}

-- the greatest number that is counted
abbrev pub greatest : ℕ
greatest = 2 ^ 64 - 1

-- one more, up to that
abbrev pub one_more : ℕ → ℕ
one_more n = min (n + 1) greatest

-- so many more, up to that
abbrev pub IsMore : ℕ → ℕ → ℕ → Type 0
IsMore old more new = (new ≡ min (old + more) greatest) ⊎ ((more ≡ 0) × (new ≡ old))

-- what a daemon counts by itself: all but the rows that are live, and how often a row was ticked again
abbrev pub counted_of : {D : Type 0} → HeadDaemon D → Counts
counted_of daemon = daemon.counts

-- nothing
abbrev pub none_counted : Counts
none_counted = record { live = 0; done = 0; failed = 0; sent = 0; received = 0; resends = 0; strangers = 0 }

-- a datagram is counted by what came of it: it came from a meter of the list, or from another address
abbrev pub with_heard : Heard → Counts → Counts
with_heard returned.Stranger counts = record counts { strangers = one_more counts.strangers }
with_heard what counts = record counts { received = one_more counts.received }

abbrev pub is_done_end : Ending → Bool
is_done_end ends.Done = true
is_done_end ends.Failed = false

abbrev pub is_failed_end : Ending → Bool
is_failed_end ends.Done = false
is_failed_end ends.Failed = true

-- one row more, by how it ended
abbrev pub with_row : Ending → Counts → Counts
with_row ends.Done counts = record counts { done = one_more counts.done }
with_row ends.Failed counts = record counts { failed = one_more counts.failed }

-- how many of these rows are done, and how many were given up
abbrev pub done_of : List Ended → ℕ
done_of rows = count_by (λ (row : Ended). is_done_end row.ending) rows

abbrev pub failed_of : List Ended → ℕ
failed_of rows = count_by (λ (row : Ended). is_failed_end row.ending) rows

-- these rows are counted, by how they ended
pub record CountsRows (rows : List Ended) (old new : Counts) : Type 0 where
  pub done : IsMore old.done (done_of rows) new.done
  pub failed : IsMore old.failed (failed_of rows) new.failed

-- and nothing else
pub record CountsJust (rows : List Ended) (old new : Counts) : Type 0 where
  pub counts : CountsRows rows old new
  pub others : new ≡ record old { done = new.done; failed = new.failed }

-- the rows that were reported, the oldest first
abbrev pub told_in : List Act → List Ended
told_in [] = []
told_in (told ended ∷ acts) = told_in acts ++ ended ∷ []
told_in (came from datagram ∷ acts) = told_in acts
told_in (quiet ∷ acts) = told_in acts
told_in (sent to bytes ∷ acts) = told_in acts

-- what was counted as done and as given up meanwhile is what was reported
pub record CountsTold (before after : List Act) (old new : Counts) : Type 0 where
  pub rows : List Ended
  pub adds : told_in after ≡ told_in before ++ rows
  pub counts : CountsRows rows old new

-- these rows were reported meanwhile, the oldest first, whatever else is known of the port
abbrev pub TellsRows : {P : Type 0} → (P → List Ended → P → Type 0) → List Ended → P → P → Type 0
TellsRows {P} tells rows old new = (start : P) (before : List Ended) → tells start before old → tells start (before ++ rows) new

-- and they are what was counted as done and as given up
pub record TellsCounted {P : Type 0} (tells : P → List Ended → P → Type 0) (old new : P) (before after : Counts) : Type 0 where
  pub rows : List Ended
  pub told : TellsRows tells rows old new
  pub counts : CountsRows rows before after
