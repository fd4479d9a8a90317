-- Public vocabulary: why there is no report of what workers left.
use Rattle.std.specs.Prelude.{◌≡◌, ◌≢◌, ◌≤◌, ◌⊎◌, ℕ, List, length, All}
use Rattle.fw_air.specs.Audits.{Differs}
use Rattle.fw_air.specs.Logs.{Entry}
use Rattle.fw_air.specs.Rounds.{links}
use Rattle.fw_air.specs.declared.audits.AuditError.{AuditError}
use Rattle.fw_air.specs.declared.audits.AuditError.TheVariants as audit
use Rattle.fw_head.specs.Head.{Head}
use Rattle.fw_image.specs.Meter.{Meter}
use Rattle.fw_air.specs.Events.{Receipt}
use Rattle.fw_world.specs.Done.{done_rows}
use Rattle.fw_world.specs.Setup.{IsSetup, opening_state}
use Rattle.fw_world.specs.State.{State, StateRun}
use Rattle.fw_world.specs.Step.{Event}
use Rattle.fw_world.specs.World.{Datagram}
use Rattle.fw_world.specs.declared.setup.Setup.{Setup}
use Rattle.fw_accounts.specs.Accounts.{AreDealt, AreNumbered, IsRising, all_of, recorded}
use Rattle.fw_accounts.specs.declared.error.AccountError.{AccountError}
use Rattle.fw_accounts.specs.declared.error.AccountError.TheVariants as refused

-- What an audit refuses isn't accounted for, except that it is out of memory.
abbrev pub of_audit : AuditError → AccountError
of_audit audit.BadSetup = refused.Mismatch
of_audit audit.Mismatch = refused.Mismatch
of_audit audit.OutOfMemory = refused.OutOfMemory

-- there are receipts of each worker, and their numbers rise
abbrev pub AreOfWorkers : ℕ → List (List Receipt) → Type 0
AreOfWorkers workers receipts = (length receipts ≡ workers) × All IsRising receipts

-- in the world of a run over the record the ticks of some worker aren't its own, or another number of rows is done than the board has
pub record IsMiscounted (setup : Setup) (events : List Event) (rounds workers board : ℕ) (receipts : List (List Receipt)) : Type 0 where
  pub world : State
  pub run : StateRun (opening_state setup) events world
  pub other : (¬ AreDealt (links setup world) rounds workers receipts) ⊎ (board ≢ done_rows setup world)

-- What workers left isn't what their record says: there aren't receipts of each worker, whose numbers rise; or the receipts aren't
-- those of the record; or no world can be made; or an event of the record is refused, or it leads to other parts; or it leads to a world
-- with other ticks or another number of done rows.
abbrev pub IsUnaccounted : Setup → List Event → ℕ → ℕ → List Head → List (ℕ × Meter) → List Datagram → List Entry → ℕ → List (List Receipt) → Type 0
IsUnaccounted setup given rounds workers heads meters sent entries board receipts =
    (¬ AreOfWorkers workers receipts)
    ⊎ ((¬ AreNumbered given (recorded given entries) receipts)
    ⊎ ((¬ IsSetup setup)
    ⊎ (Differs setup (recorded given entries) heads meters sent
    ⊎ IsMiscounted setup (recorded given entries) rounds workers board receipts)))

-- Memory may be wanted: there are events or receipts to copy, or there is a world to make.
abbrev pub WantsMemory : Setup → List Event → List Entry → List (List Receipt) → Type 0
WantsMemory setup given entries receipts =
    (1 ≤ length (recorded given entries)) ⊎ ((1 ≤ length (all_of receipts)) ⊎ IsSetup setup)
