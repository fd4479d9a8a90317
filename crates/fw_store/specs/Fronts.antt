-- The first 622 bytes of a header. For private members alone: no public clause cites it.
use Rattle.std.specs.Prelude.{ℕ, List, [], ◌∷◌, ◌++◌, is_some, take}
use Rattle.std.specs.Int.{w32, to_be_bytes}
use Rattle.fw_axdr.specs.Bits.{packed}
use Rattle.fw_store.specs.Versions.{first_limit}
use Rattle.fw_store.specs.Layout.{form, flag, slot_number, status_number, stored_name_bytes, goal_bytes, goal_release}
use Rattle.fw_store.specs.declared.header.Header.{Header}

-- the bytes of a header in front of the marks of the blocks from 4,096 on
unfoldable pub front_of : Header → List ℕ
front_of h =
    form h.version
    ++ (flag h.enabled ∷ slot_number h.running_slot ∷ status_number h.status ∷ flag (is_some h.goal) ∷ [])
    ++ to_be_bytes w32 h.block_size
    ++ to_be_bytes w32 h.running_size
    ++ stored_name_bytes h.running_name
    ++ goal_bytes h.goal
    ++ packed (take first_limit h.marks)
    ++ to_be_bytes w32 h.running_name.release
    ++ to_be_bytes w32 (goal_release h.goal)
