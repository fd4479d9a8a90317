use Rattle.std.proofs.Common.{◌++◌}
use Rattle.std.proofs.lemmas.Result.{on_ok_weaker}
use Rattle.std.specs.Prelude.{codes, string_bytes}
use Rattle.fw_status.specs.Page.{number_html}
use Rattle.fw_status.proofs.Told.{three_parts}
use Rattle.fw_status.proofs.page.append_title.Goals as goal

pub returns : goal.returns
returns c =
    on_ok_weaker c.put-2.result
    (λ it. three_parts (string_bytes c.args.text.now) (string_bytes c.put.new.text) (string_bytes c.append_number.new.text) (string_bytes c.put-2.new.text)
    (codes "<h2>Campaign ") (number_html c.args.campaign.now) (codes "</h2>\n") c.in_ok-put.ensures c.in_ok-append_number.ensures it)
    c.put-2.ensures
