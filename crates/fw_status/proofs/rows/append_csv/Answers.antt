use Rattle.std.proofs.Common.{◌∙◌, ◌++◌, ap, append_assoc, flat_map}
use Rattle.std.specs.Prelude.{string_bytes}
use Rattle.fw_rows.specs.Noted.{Noted, csv_headings, csv_row}
use Rattle.fw_status.proofs.rows.append_csv.Goals as goal

pub returns : goal.returns
returns c =
    let rows = flat_map (λ (row : Noted). csv_row row) c.args.rows.now in
    c.in_ok-append_noted_csv.ensures ∙ ap (λ text. text ++ rows) c.in_ok-push_str.ensures.bytes ∙ append_assoc (string_bytes c.args.text.now) csv_headings rows
