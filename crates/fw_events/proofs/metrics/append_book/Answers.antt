use Rattle.std.proofs.lemmas.Result.{on_ok_weaker}
use Rattle.std.specs.Prelude.{codes, flat_map, string_bytes}
use Rattle.fw_status.specs.declared.campaign.CampaignStatus.{CampaignStatus}
use Rattle.fw_events.specs.Metrics.{book_sample, heading}
use Rattle.fw_events.proofs.Parts.{onto}
use Rattle.fw_events.proofs.metrics.append_book.Goals as goal

pub returns : goal.returns
returns c =
    on_ok_weaker c.append_book_sample.result
    (λ it. onto (string_bytes c.args.text.now) (string_bytes c.append_heading.new.text) (string_bytes c.append_book_sample.new.text)
    (heading (codes "dlmsfw_book_info") (codes "The book of a head end.") (codes "gauge")) (book_sample c.args.head c.args.book.now) c.in_ok-append_heading.ensures it)
    c.append_book_sample.ensures
