-- For private clauses alone: what the head ends and the meters of a world end as, where a `&mut` to one of them is returned.
use Rattle.std.specs.Prelude.{ℕ, nat_eq, List, Option}
use Rattle.std.specs.Borrow.{Lends, LendsIf, Fml, MutBor}
use Rattle.std.specs.Map.{set_value}
use Rattle.fw_image.specs.Meter.{Meter}
use Rattle.fw_head.specs.Head.{Head}
use Rattle.fw_head.specs.contracts.head.HeadCore.{the_row as head_row}
use Rattle.fw_world.specs.contracts.heads.Heads.{the_row as heads_row}
use Rattle.fw_world.specs.contracts.meters.Meters.{the_row as meters_row}
use Rattle.fw_world.specs.contracts.meters.NumberedMeter.{the_row as numbered_row}
use Rattle.fw_world.specs.contracts.world_meter.WorldMeter.{the_row as world_meter_row}
use Rattle.fw_world.specs.Parts.{head_behind}
use Rattle.fw_world.specs.Private.{set_entry}

-- the head end of this number ends as it is left, under the number that its book then has
abbrev pub lends_head : MutBor (List (ℕ × Head)) → ℕ → Option (MutBor Head) → Fml
lends_head s number r = LendsIf heads_row head_row s r (λ w. set_entry (nat_eq number) s.now (head_behind w)) s.now

-- the meter ends as it is left, under its number
abbrev pub lends_world_meter : MutBor (ℕ × Meter) → MutBor Meter → Fml
lends_world_meter s r = Lends numbered_row world_meter_row s r (λ w. (s.now.0, w))

-- so does the meter of this number
abbrev pub lends_meter : MutBor (List (ℕ × Meter)) → ℕ → Option (MutBor Meter) → Fml
lends_meter s number r = LendsIf meters_row world_meter_row s r (set_value (nat_eq number) s.now) s.now
