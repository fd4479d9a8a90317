-- A row that is given up: its book offers the same as before, and the same rows are done in it.
use Rattle.std.proofs.Common.{◌≡◌, ℕ, nat_eq, Bool, true, false, ◌&&◌, cond, Option, Some, option_map, refl, sym, ap, ◌∙◌, eqb-true}
use Rattle.std.proofs.lemmas.Bool.{false≢true}
use Rattle.fw_names.specs.Name.{Campaign}
use Rattle.fw_book.specs.declared.row.RowState.{RowState}
use Rattle.fw_book.specs.declared.row.RowState.TheVariants as states
use Rattle.fw_book.specs.Contents.{Contents, image_in, state_in}
use Rattle.fw_book.specs.Changes.{marked}
use Rattle.fw_book.specs.Laws.{ImagesStay, StatesFollowCalls, StatesGoOn, marked_state}
use Rattle.fw_head.specs.Head.{Head}
use Rattle.fw_world.specs.State.{is_done}
use Rattle.fw_world.specs.World.{same_campaign}
use Rattle.fw_field.proofs.Maps.{itself, same_campaign_is}
use Rattle.fw_field.proofs.Mini.{Same}

own_campaign : (c : Campaign) → same_campaign c c ≡ true
own_campaign c = ap (λ x. x && nat_eq c.serial c.serial) (itself c.head) ∙ itself c.serial

-- a live row is marked as failed: it is done neither before nor after, and no other row changes
none_more : StatesFollowCalls → (book : Contents) (campaign : Campaign) (meter : ℕ) → campaign.head ≡ book.head → state_in book campaign meter ≡ Some states.Live
    → (c : Campaign) (m : ℕ) → is_done (state_in (marked book campaign.serial meter states.Failed) c m) ≡ is_done (state_in book c m)
none_more follow book campaign meter own live c m = campaigns (same_campaign c campaign) refl
  where
    new : Contents
    new = marked book campaign.serial meter states.Failed

    goes : StatesGoOn book new campaign (marked_state book campaign meter states.Failed)
    goes = (follow book campaign own).at_mark meter states.Failed

    failed : Option RowState
    failed = option_map (λ was. states.Failed) (state_in book campaign m)

    meters : (x : Bool) → nat_eq m meter ≡ x → is_done (cond x failed (state_in book campaign m)) ≡ is_done (state_in book campaign m)
    meters true is =
        let was : state_in book campaign m ≡ Some states.Live = ap (λ n. state_in book campaign n) (eqb-true m meter is) ∙ live in
        ap (λ (o : Option RowState). is_done (option_map (λ was. states.Failed) o)) was ∙ sym (ap is_done was)
    meters false away = refl

    campaigns : (x : Bool) → same_campaign c campaign ≡ x → is_done (state_in new c m) ≡ is_done (state_in book c m)
    campaigns true is =
        let same : c ≡ campaign = same_campaign_is c campaign is in
        ap (λ k. is_done (state_in new k m)) same ∙ ap is_done (goes.own m) ∙ meters (nat_eq m meter) refl ∙ ap (λ k. is_done (state_in book k m)) (sym same)
    campaigns false away =
        ap is_done (goes.others c m (λ same. false≢true (sym away ∙ ap (λ k. same_campaign k campaign) same ∙ own_campaign campaign)))

pub giving_up : StatesFollowCalls → ImagesStay → (number : ℕ) (a b : Head) (campaign : Campaign) (meter : ℕ) → campaign.head ≡ a.book.head → state_in a.book campaign meter ≡ Some states.Live
    → b.book ≡ marked a.book campaign.serial meter states.Failed → Same number a b
giving_up follow stay number a b campaign meter own live is = record {
  images = λ c at. ap (λ (x : Contents). image_in x c) is ∙ (stay a.book c).at_mark campaign.serial meter states.Failed;
  done = λ c m at. ap (λ (x : Contents). is_done (state_in x c m)) is ∙ none_more follow a.book campaign meter own live c m;
}
