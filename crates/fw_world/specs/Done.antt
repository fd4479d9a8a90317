-- Public vocabulary: how many meters are done, in all campaigns together.
use Rattle.std.specs.Prelude.{◌≡◌, ◌≢◌, ◌↔◌, ℕ, true, Some, List, count_by, Contains, AllPairs}
use Rattle.std.specs.List.{sum_by}
use Rattle.std.specs.Option.{option_map_or}
use Rattle.fw_names.specs.Name.{Campaign}
use Rattle.fw_book.specs.Contents.{Contents, Offered}
use Rattle.fw_book.specs.declared.row.Row.{Row}
use Rattle.fw_head.specs.Head.{Head}
use Rattle.fw_world.specs.declared.setup.HeadSetup.{HeadSetup}
use Rattle.fw_world.specs.declared.setup.Setup.{Setup}
use Rattle.fw_world.specs.Setup.{number_of_head}
use Rattle.fw_world.specs.State.{State, head_at, is_done}
use Rattle.fw_world.specs.World.{World}

-- how many rows of a campaign are done, of a book, of a head end, and of all head ends of a world
abbrev pub done_of : ℕ × Offered → ℕ
done_of entry = count_by (λ (row : Row). is_done (Some row.state)) entry.1.rows

abbrev pub done_in : Contents → ℕ
done_in book = sum_by done_of book.campaigns

abbrev pub done_with : State → HeadSetup → ℕ
done_with s head = option_map_or (λ (h : Head). done_in h.book) (head_at s (number_of_head head)) 0

abbrev pub done_rows : Setup → State → ℕ
done_rows setup s = sum_by (done_with s) setup.heads.items

-- the done rows of a world, each as its campaign and its meter: these and no others, and none stands twice
pub record AreDoneRows (w : World) (rows : List (Campaign × ℕ)) : Type 0 where
  pub each : (campaign : Campaign) (meter : ℕ) → Contains rows (campaign, meter) ↔ (w.done campaign meter ≡ true)
  pub once : AllPairs ◌≢◌ rows
