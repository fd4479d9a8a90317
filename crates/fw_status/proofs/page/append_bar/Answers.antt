use Rattle.std.proofs.Common.{◌++◌, ◌∙◌, ap, List, ℕ}
use Rattle.std.proofs.lemmas.Result.{on_ok_weaker}
use Rattle.std.specs.Prelude.{codes, string_bytes}
use Rattle.hex.specs.Hex.{encode_lower}
use Rattle.fw_status.specs.Page.{bar, key}
use Rattle.fw_status.proofs.Told.{onto}
use Rattle.fw_status.proofs.page.append_bar.Goals as goal

pub returns : goal.returns
returns c =
    let t0 = string_bytes c.args.text.now in
    let t1 = string_bytes c.put.new.text in
    let t2 = string_bytes c.append_digest.new.text in
    let t3 = string_bytes c.put-2.new.text in
    let t4 = string_bytes c.append_parts.new.text in
    let t5 = string_bytes c.put-3.new.text in
    let t6 = string_bytes c.append_key.new.text in
    let t7 = string_bytes c.put-4.new.text in
    let campaign = c.args.campaign.now in
    on_ok_weaker c.put-4.result
    (λ it. onto t0 t1 t7 (codes "</p>\n<p class=digest>") ((encode_lower campaign.name.digest) ++ ((codes "</p>\n<div class=bar>") ++ ((bar campaign) ++ ((codes "</div>\n<p>") ++ ((key campaign) ++ codes "</p>\n"))))) c.in_ok-put.ensures
    (onto t1 t2 t7 (encode_lower campaign.name.digest) ((codes "</p>\n<div class=bar>") ++ ((bar campaign) ++ ((codes "</div>\n<p>") ++ ((key campaign) ++ codes "</p>\n")))) c.in_ok-append_digest.ensures
    (onto t2 t3 t7 (codes "</p>\n<div class=bar>") ((bar campaign) ++ ((codes "</div>\n<p>") ++ ((key campaign) ++ codes "</p>\n"))) c.in_ok-put-2.ensures
    (onto t3 t4 t7 (bar campaign) ((codes "</div>\n<p>") ++ ((key campaign) ++ codes "</p>\n")) c.in_ok-append_parts.ensures
    (onto t4 t5 t7 (codes "</div>\n<p>") ((key campaign) ++ codes "</p>\n") c.in_ok-put-3.ensures
    (onto t5 t6 t7 (key campaign) (codes "</p>\n") c.in_ok-append_key.ensures
    (it)))))))
    c.put-4.ensures
