use Rattle.std.proofs.Common.{◌≡◌, ◌∙◌, ◌++◌, ℕ, List, [], Option, ap, append_assoc, refl, subst}
use Rattle.std.proofs.lemmas.Result.{on_ok_weaker}
use Rattle.std.specs.Prelude.{codes, string_bytes}
use Rattle.fw_book.specs.declared.notes.End.{End}
use Rattle.fw_rows.specs.Noted.{Noted, end_time}
use Rattle.fw_status.specs.Campaigns.{IsTimeIf}
use Rattle.fw_status.specs.Page.{reason_html, row_html}
use Rattle.fw_status.proofs.Told.{three_parts}
use Rattle.fw_status.proofs.page.append_row.Goals as goal

pub returns : goal.returns
returns c =
    let noted = c.args.noted.now in
    let text = string_bytes c.args.text.now in
    let ended = c.in_ok-append_time_if.ensures in
    let at = subst (λ (time : Option ℕ). IsTimeIf [] time ended.0) (c.time_of.ensures ∙ ap (λ (end : Option End). end_time end) (ap (λ (n : Noted). n.end) c.noted.view_is)) ended.1 in
    let cell : string_bytes c.push_str.new.self ≡ text ++ (row_html noted ++ codes "<td>") =
    c.in_ok-push_str.ensures.bytes ∙ ap (λ (t : List ℕ). t ++ codes "<td>") c.in_ok-append_place.ensures ∙ append_assoc text (row_html noted) (codes "<td>") in
    on_ok_weaker c.append_reason.result
    (λ it. (
      row_html noted ++ (codes "<td>" ++ (ended.0 ++ reason_html noted)),
      (ended.0, at, refl),
      three_parts text (string_bytes c.push_str.new.self) (string_bytes c.append_time_if.new.text) (string_bytes c.append_reason.new.text)
          (row_html noted ++ codes "<td>") ended.0 (reason_html noted) cell ended.2 it
          ∙ ap (λ (t : List ℕ). text ++ t) (append_assoc (row_html noted) (codes "<td>") (ended.0 ++ reason_html noted)),
    ))
    c.append_reason.ensures
