use Rattle.std.proofs.Common.{◌++◌, refl}
use Rattle.std.proofs.lemmas.Result.{on_ok_weaker}
use Rattle.std.specs.Prelude.{string_bytes}
use Rattle.fw_status.specs.Page.{page_head}
use Rattle.fw_status.proofs.Told.{onto}
use Rattle.fw_status.proofs.page.append_campaigns_page.Goals as goal

pub returns : goal.returns
returns c =
    on_ok_weaker c.append_campaigns.result
    (λ bars. (
      page_head ++ bars.0,
      (bars.0, bars.1, refl),
      onto (string_bytes c.args.text.now) (string_bytes c.append_head.new.text) (string_bytes c.append_campaigns.new.text) page_head bars.0
          c.in_ok-append_head.ensures bars.2,
    ))
    c.append_campaigns.ensures
