use Rattle.std.proofs.Common.{rules, ◌≡◌, ◌≤◌, ◌++◌, ℕ, List, [], ◌∷◌, map, sym, ap, subst, ◌∙◌, append_assoc}
use Rattle.std.specs.List.{AllByRecursion}
use Rattle.fw_names.specs.Name.{Campaign}
use Rattle.fw_book.specs.Contents.{Offered, IsEntry}
use Rattle.fw_status.specs.Campaigns.{campaign_status, status_of_entry}
use Rattle.fw_status.specs.declared.campaign.CampaignStatus.{CampaignStatus}
use Rattle.fw_status.proofs.campaign.push_campaigns.Goals as goal

abbrev Numbered : List (ℕ × Offered) → Type 0
Numbered entries = AllByRecursion (λ (entry : ℕ × Offered). 1 ≤ entry.0) entries

-- the campaigns of a book are numbered from 1 on
numbered : (entries : List (ℕ × Offered)) → AllByRecursion (λ (entry : ℕ × Offered). IsEntry entry) entries → Numbered entries
numbered [] all = tt
numbered (entry ∷ entries) all = (all.0.serial_begins, numbered entries all.1)

pub campaign-requires : goal.campaign-requires
campaign-requires c =
    let entry : ℕ × Offered = (c.in-Some.serial.now, c.in-Some.offer.now) in
    let rest : List (ℕ × Offered) = c.next.new.self in
    let next : c.loop-serial.serial-iterator ≡ entry ∷ rest = search (c.in-Some.ensures.steps) in
    (subst (λ (l : List (ℕ × Offered)). Numbered l) next c.loop-serial.invariant.numbered).0

pub loop-serial-init : goal.loop-serial-init
loop-serial-init c =
    let all = numbered c.args.book.now.campaigns c.head-head.ensures.book.entries in
    record { numbered = search (rules, all); campaigns = search rules }

pub loop-serial-preserved : goal.loop-serial-preserved
loop-serial-preserved c =
    let i = c.loop-serial.invariant in
    let book = c.args.book.now in
    let notes = c.args.notes.now in
    let entry : ℕ × Offered = (c.in-Some.serial.now, c.in-Some.offer.now) in
    let rest : List (ℕ × Offered) = c.next.new.self in
    let next : c.loop-serial.serial-iterator ≡ entry ∷ rest = search (c.in-Some.ensures.steps) in
    let own : Campaign = record { head = book.head; serial = entry.0 } in
    let is : c.campaign.result ≡ own = c.campaign.ensures.value ∙ ap (λ (h : ℕ). (let k : Campaign = record { head = h; serial = entry.0 } in k)) c.head-head.ensures.value in
    let items = c.loop-serial.campaigns.items in
    let its : CampaignStatus = status_of_entry notes book.head entry in
    let others : List CampaignStatus = map (λ (e : ℕ × Offered). status_of_entry notes book.head e) rest in
    let added : c.campaign_status.result ≡ its = c.campaign_status.ensures ∙ ap (λ (k : Campaign). campaign_status notes k entry.1) is in
    let pushed : c.push.new.self.items ≡ items ++ its ∷ [] = c.in_ok-push.ensures.items ∙ ap (λ (x : CampaignStatus). items ++ x ∷ []) added in
    record {
      numbered = (subst (λ (l : List (ℕ × Offered)). Numbered l) next i.numbered).1;
      campaigns = ap (λ (l : List CampaignStatus). l ++ others) pushed ∙ append_assoc items (its ∷ []) others
          ∙ ap (λ (l : List (ℕ × Offered)). items ++ map (λ (e : ℕ × Offered). status_of_entry notes book.head e) l) (sym next) ∙ i.campaigns;
    }
