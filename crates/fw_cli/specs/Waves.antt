-- For private clauses alone: the waves of a rollout, and which meters are asked when.
use Rattle.std.specs.Prelude.{◌≡◌, ◌⊎◌, ℕ, List, Option, None, Some}
use Rattle.fw_book.specs.Contents.{Contents}
use Rattle.fw_kept.specs.Head.{book_of}
use Rattle.fw_plan.specs.Waves.{IsGate, wave_rows}
use Rattle.fw_plan.specs.declared.gate.Gate.{Gate}
use Rattle.fw_plan.specs.declared.gate.Gate.TheVariants as gate
use Rattle.fw_plan.specs.declared.threshold.MaxFailed.{MaxFailed}
use Rattle.fw_rollout.specs.Daemon.{kept_of, meters_of}
use Rattle.fw_rollout.specs.Rollout.{Lists}
use Rattle.fw_rollout.specs.declared.daemon.HeadDaemon.{HeadDaemon}
use Rattle.fw_host.specs.Waves.{listed_in, up_to_wave, wave_meters}
use Rattle.fw_host.specs.declared.wave_list.Planned.{Planned}
use Rattle.fw_cli.specs.declared.waves.Waves.{Waves}
use Rattle.fw_cli.specs.declared.waves.WaveStop.{WaveStop}
use Rattle.fw_cli.specs.declared.waves.WaveStop.TheVariants as stopped

-- the waves are those of this list, where so many rows may fail
pub record AreWaves (list : List Planned) (max_failed : MaxFailed) (waves : Waves) : Type 0 where
  pub list_is : waves.list.now ≡ list
  pub meters : waves.meters.items ≡ wave_meters list
  pub max_is : waves.max_failed ≡ max_failed

-- how far they are, by this book
abbrev pub IsGateOf : Waves → Contents → Gate → Type 0
IsGateOf waves book how = IsGate waves.max_failed (wave_rows book waves.meters.items) how

-- The daemon asks the meters whose time has come: those of a wave whose gate is open, and of the waves before it; or all, once no row is live.
abbrev pub AsksNow : {D : Type 0} → Waves → Option ℕ → HeadDaemon D → Type 0
AsksNow waves (Some wave) daemon =
    IsGateOf waves (book_of (kept_of daemon)) (gate.Open wave) × (meters_of daemon ≡ up_to_wave wave waves.list.now)
AsksNow waves None daemon =
    IsGateOf waves (book_of (kept_of daemon)) gate.Over × (meters_of daemon ≡ listed_in waves.list.now)

-- the lists that a rollout of this list may come to ask: all of it, or those of a wave and of the waves before it
abbrev pub wave_lists : List Planned → Lists
wave_lists list meters = (meters ≡ listed_in list) ⊎ ((wave : ℕ) × (meters ≡ up_to_wave wave list))

-- a rollout stops before a wave only if the gate says so
abbrev pub IsWaveStop : Waves → Contents → WaveStop → Type 0
IsWaveStop waves book (stopped.Stop stop) = Unit {0}
IsWaveStop waves book (stopped.TooManyFailed stop) = IsGateOf waves book (gate.TooManyFailed stop)
