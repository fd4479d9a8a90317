-- Public vocabulary: lists of meters with their waves.
use Rattle.std.specs.Prelude.{ℕ, nat_le, List, map, filter}
use Rattle.fw_plan.specs.declared.rows.WaveMeter.{WaveMeter}
use Rattle.fw_rollout.specs.declared.link.Listed.{Listed}
use Rattle.fw_host.specs.declared.wave_list.Planned.{Planned}

-- the meters and their addresses
abbrev pub listed_in : List Planned → List Listed
listed_in list = map (λ (planned : Planned). planned.at) list

-- those of a wave and of the waves before it
abbrev pub up_to_wave : ℕ → List Planned → List Listed
up_to_wave wave list = listed_in (filter (λ (planned : Planned). nat_le planned.wave wave) list)

-- the meters and their waves
abbrev pub wave_meters : List Planned → List WaveMeter
wave_meters list = map (λ (planned : Planned). record { meter = planned.at.meter; wave = planned.wave }) list
