use Rattle.std.proofs.Common.{◌≡◌, Option, ap, ◌∙◌, rules}
use Rattle.std.specs.Option.{option_copied}
use Rattle.fw_head.specs.Row.{Row}
use Rattle.fw_head.specs.Private.{is_row_in}
use Rattle.fw_head.proofs.ByMeter.{first_row}
use Rattle.fw_head.proofs.matching.has_row.Goals as goal

pub returns : goal.returns
returns c =
    let of_first : c.is_some_and.result ≡ is_row_in c.args.serial (option_copied c.find.result) = search rules in
    of_first ∙ ap (λ (o : Option Row). is_row_in c.args.serial o) (c.find.ensures ∙ first_row c.args.meter c.args.rows.now)
