-- For private clauses alone: no public clause cites it.
use Rattle.std.specs.Prelude.{Bool, false, ◌||◌, bytes_eq, codes, List, [], ◌∷◌, ℕ}
use Rattle.fw_world.specs.Runs.{events_of}
use Rattle.fw_world.specs.View.{event_of}
use Rattle.fw_script.specs.declared.item.Item.{Item as Read}
use Rattle.fw_script.specs.declared.item.Item.TheVariants as read
use Rattle.fw_script.specs.Script.{Said, head_item, meter_item, events_item, head_of, meter_of}

-- an item without where its lists lie in memory
abbrev pub item_read : Read → Said
item_read (read.Head head) = head_item (head_of head)
item_read (read.Meter meter) = meter_item (meter_of meter)
item_read (read.Event event) = events_item (event_of event ∷ [])
item_read (read.Deliveries events) = events_item (events_of events.items)

-- the first word is that of a setup line
abbrev pub names_setup : List (List ℕ) → Bool
names_setup [] = false
names_setup (first ∷ words) = bytes_eq first (codes "head") || bytes_eq first (codes "meter")
