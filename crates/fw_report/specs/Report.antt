-- Public vocabulary: the report of a world, a whole text. It has a line for each row of each campaign, a line for each meter, and one that
-- counts the images that meters ever switched to. Numbers are in decimal, and a line feed ends each line.
use Rattle.std.specs.Prelude.{ℕ, List, [], ◌++◌, length, flat_map, Option, None, Some, codes, decimal}
use Rattle.std.specs.Option.{option_map}
use Rattle.fw_image.specs.Meter.{Meter, status_of}
use Rattle.fw_image.specs.Status.{status_number}
use Rattle.fw_book.specs.declared.row.Row.{Row}
use Rattle.fw_book.specs.Contents.{Contents, Offered}
use Rattle.fw_head.specs.Head.{Head}
use Rattle.fw_world.specs.declared.setup.HeadSetup.{HeadSetup}
use Rattle.fw_world.specs.declared.setup.MeterSetup.{MeterSetup}
use Rattle.fw_world.specs.declared.setup.Setup.{Setup}
use Rattle.fw_world.specs.State.{State, head_at, meter_at}
use Rattle.fw_rows.specs.States.{state_word}

-- the head end, the campaign's serial number, the meter, and how far it is
abbrev pub row_line : ℕ → ℕ → Row → List ℕ
row_line head serial row =
    codes "row " ++ (decimal head ++ (codes " " ++ (decimal serial ++ (codes " " ++ (decimal row.meter ++ (codes " " ++ (state_word row.state ++ codes "\n")))))))

-- the rows of a campaign, in the order given
abbrev pub campaign_lines : ℕ → ℕ × Offered → List ℕ
campaign_lines head entry = flat_map (λ (row : Row). row_line head entry.0 row) entry.1.rows

-- the campaigns of a head end, in opening order
abbrev pub book_lines : ℕ → Option Contents → List ℕ
book_lines head None = []
book_lines head (Some book) = flat_map (λ (entry : ℕ × Offered). campaign_lines head entry) book.campaigns

abbrev pub head_lines : State → HeadSetup → List ℕ
head_lines s head = book_lines head.head (option_map (λ (h : Head). h.book) (head_at s head.head))

-- the meter, its status, and the name and the size of the image that it runs
abbrev pub meter_line : ℕ → Option Meter → List ℕ
meter_line number None = []
meter_line number (Some meter) =
    codes "meter " ++ (decimal number ++ (codes " status " ++ (decimal (status_number (status_of meter.phase)) ++ (codes " active "
    ++ (decimal meter.running.name.campaign.head ++ (codes " " ++ (decimal meter.running.name.campaign.serial ++ (codes " size "
    ++ (decimal (length meter.running.bytes) ++ codes "\n")))))))))

abbrev pub meter_lines : State → MeterSetup → List ℕ
meter_lines s meter = meter_line meter.meter (meter_at s meter.meter)

abbrev pub activations_line : ℕ → List ℕ
activations_line count = codes "activations " ++ (decimal count ++ codes "\n")

-- head ends and meters in the order of the setup
abbrev pub report_of : Setup → State → List ℕ
report_of setup s =
    flat_map (λ (head : HeadSetup). head_lines s head) setup.heads.items
    ++ (flat_map (λ (meter : MeterSetup). meter_lines s meter) setup.meters.items ++ activations_line (length s.activations))

-- how many rows the workers of a rehearsal counted as done
abbrev pub board_line : ℕ → List ℕ
board_line board = codes "board " ++ (decimal board ++ codes "\n")
