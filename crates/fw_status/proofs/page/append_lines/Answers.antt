use Rattle.std.proofs.Common.{arith}
use Rattle.std.specs.Prelude.{string_bytes}
use Rattle.fw_status.specs.Page.{IsLineOf}
use Rattle.fw_status.proofs.Told.{all_told, none_told, told_next}
use Rattle.fw_status.proofs.page.append_lines.Goals as goal

pub loop-row-init : goal.loop-row-init
loop-row-init c = none_told (IsLineOf c.args.state) (string_bytes c.args.text.now)

pub loop-row-preserved : goal.loop-row-preserved
loop-row-preserved c =
    told_next (IsLineOf c.args.state) c.args.rows.now c.loop-row.row-index c.row-item.result (string_bytes c.args.text.now)
    (string_bytes c.loop-row.text) (string_bytes c.append_line_of.new.text) (omega (arith, c.loop-row-test.true)) c.row-item.is
    c.loop-row.invariant c.in_ok-append_line_of.ensures

pub returns : goal.returns
returns c =
    all_told (IsLineOf c.args.state) c.args.rows.now c.loop-row.row-index (string_bytes c.args.text.now) (string_bytes c.loop-row.text)
    (omega (arith, c.loop-row-test.false)) c.loop-row.invariant
