use Rattle.std.proofs.Common.{◌≡◌, ◌∙◌, ◌++◌, ℕ, List, ap, subst}
use Rattle.std.proofs.lemmas.Result.{on_ok_weaker}
use Rattle.std.specs.Prelude.{codes, string_bytes}
use Rattle.fw_status.specs.declared.campaign.CampaignStatus.{CampaignStatus}
use Rattle.fw_events.specs.Metrics.{row_sample}
use Rattle.fw_events.proofs.Parts.{onto}
use Rattle.fw_events.proofs.metrics.append_campaign.Goals as goal

-- the samples of a campaign, with this serial number
abbrev samples : ℕ → ℕ → CampaignStatus → List ℕ
samples head serial campaign =
    row_sample head serial (codes "live") campaign.live
    ++ (row_sample head serial (codes "done") campaign.done
    ++ (row_sample head serial (codes "failed") campaign.failed ++ row_sample head serial (codes "cancelled") campaign.cancelled))

pub returns : goal.returns
returns c =
    let t0 = string_bytes c.args.text.now in
    let t1 = string_bytes c.append_row_sample.new.text in
    let t2 = string_bytes c.append_row_sample-2.new.text in
    let t3 = string_bytes c.append_row_sample-3.new.text in
    let t4 = string_bytes c.append_row_sample-4.new.text in
    let campaign = c.args.campaign.now in
    let head = c.args.head in
    let serial = c.serial-serial.result in
    let live = λ (n : ℕ). row_sample head serial (codes "live") n in
    let done = λ (n : ℕ). row_sample head serial (codes "done") n in
    let failed = λ (n : ℕ). row_sample head serial (codes "failed") n in
    let cancelled = λ (n : ℕ). row_sample head serial (codes "cancelled") n in
    let is = c.campaign.view_is in
    let first = subst (λ (n : ℕ). t1 ≡ t0 ++ live n) (ap (λ (k : CampaignStatus). k.live) is) c.in_ok-append_row_sample.ensures in
    let second = subst (λ (n : ℕ). t2 ≡ t1 ++ done n) (ap (λ (k : CampaignStatus). k.done) is) c.in_ok-append_row_sample-2.ensures in
    let third = subst (λ (n : ℕ). t3 ≡ t2 ++ failed n) (ap (λ (k : CampaignStatus). k.failed) is) c.in_ok-append_row_sample-3.ensures in
    on_ok_weaker c.append_row_sample-4.result
    (λ it. subst (λ (s : ℕ). t4 ≡ t0 ++ samples head s campaign) (c.serial-serial.ensures ∙ ap (λ (k : CampaignStatus). k.name.campaign.serial) is)
    (onto t0 t1 t4 (live campaign.live) (done campaign.done ++ (failed campaign.failed ++ cancelled campaign.cancelled)) first
    (onto t1 t2 t4 (done campaign.done) (failed campaign.failed ++ cancelled campaign.cancelled) second
    (onto t2 t3 t4 (failed campaign.failed) (cancelled campaign.cancelled) third
    (subst (λ (n : ℕ). t4 ≡ t3 ++ cancelled n) (ap (λ (k : CampaignStatus). k.cancelled) is) it)))))
    c.append_row_sample-4.ensures
