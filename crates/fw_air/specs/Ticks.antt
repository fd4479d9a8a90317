-- Public vocabulary: how often head ends tick meters.
use Rattle.std.specs.Prelude.{◌≡◌, ℕ, Bool, true, false, nat_eq, ◌==◌, ◌&&◌, List, length, filter}
use Rattle.std.specs.List.{list_any}
use Rattle.fw_world.specs.declared.setup.HeadSetup.{HeadSetup}
use Rattle.fw_world.specs.declared.setup.MeterSetup.{MeterSetup}
use Rattle.fw_world.specs.declared.setup.Setup.{Setup}
use Rattle.fw_world.specs.Setup.{number_of_head, number_of_meter}
use Rattle.fw_world.specs.State.{State}
use Rattle.fw_world.specs.Step.{Event, tick}
use Rattle.fw_air.specs.Rounds.{is_link}

-- whether the head end of this number ticks the meter of that one
abbrev pub is_tick : ℕ → ℕ → Event → Bool
is_tick head meter (tick h m) = nat_eq h head && nat_eq m meter
is_tick head meter event = false

-- how often it does
abbrev pub ticks : ℕ → ℕ → List Event → ℕ
ticks head meter events = length (filter (is_tick head meter) events)

-- the numbers of a head end and a meter of the setup, and the meter stands in the head end's book
pub record IsLink (setup : Setup) (s : State) (head meter : ℕ) : Type 0 where
  pub head_there : list_any (λ (h : HeadSetup). number_of_head h == head) setup.heads.items ≡ true
  pub meter_there : list_any (λ (m : MeterSetup). number_of_meter m == meter) setup.meters.items ≡ true
  pub stands : is_link s head meter ≡ true
