-- What is kept makes the steps of the world that it is.
use Rattle.std.proofs.Common.{◌≡◌, ◌≢◌, ℕ, nat_eq, nat_le, if◌then◌else◌, Bool, true, false, ◌&&◌, cond, ◌⊎◌, inl, inr, List, [], ◌∷◌, ◌++◌, is_some, Option, Some, None, option_map, refl, sym, ap, subst, ◌∙◌, ⊎_elim, All}
use Rattle.std.specs.List.{list_any}
use Rattle.std.specs.Map.{lookup, set_value}
use Rattle.std.specs.Option.{option_and_then}
use Rattle.std.proofs.lemmas.List.Elements.{All-nil, All-cons, All-head, All-tail}
use Rattle.std.proofs.lemmas.Bool.{cases_Bool, cond-true, cond-false, false_from_ne_true, false≢true}
use Rattle.std.proofs.lemmas.Bool.Decides.{Decides-eqb}
use Rattle.fw_names.specs.Name.{Campaign, Name, IsRelease, name_of, SpellsName}
use Rattle.fw_image.specs.Meter as image
use Rattle.fw_image.specs.Meter.{Meter, reopened}
use Rattle.fw_image.specs.Calls.{restart_calls}
use Rattle.fw_client.specs.Ask.{Ask, block_size, first_missing, blocks, status, info, active_name, enable, initiate, block, verify, activate}
use Rattle.fw_client.specs.Claim.{Claim}
use Rattle.fw_client.specs.State.{invoke_byte}
use Rattle.fw_book.specs.declared.row.RowState.{RowState}
use Rattle.fw_book.specs.declared.row.RowState.TheVariants as states
use Rattle.fw_book.specs.Rows.{is_live, state_of}
use Rattle.fw_book.specs.Contents.{Contents, Offered, offered_in, image_in, state_in, has_serial}
use Rattle.fw_book.specs.Changes.{opened, marked, cancelled}
use Rattle.fw_book.specs.Laws.{ImagesStay, OpeningOffers, StatesFollowCalls, AdmittedOpens}
use Rattle.fw_book.specs.declared.notes.Reason.{Reason}
use Rattle.fw_head.specs.declared.news.RowNews.{RowNews}
use Rattle.fw_head.specs.declared.news.RowNews.TheVariants.{Nothing, Moved, Done, Failed}
use Rattle.fw_head.specs.Row.{Row, MaySend}
use Rattle.fw_head.specs.Head.{Head, IsOfferedIn, HeadTakes, went_on, news_of, opened_head, cancelled_head, ticked_head, restarted, sends_to}
use Rattle.fw_head.specs.Laws.{RowKeepsGoal}
use Rattle.fw_world.specs.declared.datagram.Direction.{Direction}
use Rattle.fw_world.specs.declared.datagram.Direction.TheVariants.{ToMeter, ToHead}
use Rattle.fw_world.specs.World.{Datagram, Offers, World, put, same_campaign, with_meter, with_done}
use Rattle.fw_world.specs.Step.{open_campaign, cancel_campaign, tick, deliver, stop, restart_meter, stop_restart, restart_head, turn, replies, activated, MayAsk, Permits, Serves, Marks, Delivers, StopsAt, WorldStep}
use Rattle.fw_meter.specs.Laws.{StopAfterIsStop}
use Rattle.fw_world.specs.State.{State, head_at, meter_at, set_head, set_meter, IsState, is_done, world_of, OpensAt, CancelsAt, sent_to, TicksAt, ServesAt, HearsAt, DeliversAt, StopsIn}
use Rattle.fw_world.specs.Laws.{StateStepsAsWorld}
use Rattle.fw_world.proofs.Maps.{same_campaign_is}

-- ---- functions and worlds with the same values

funext : {A B : Type 0} (f g : A → B) → ((x : A) → f x ≡ g x) → f ≡ g
funext f g same = λ i x. same x i

same_world : (a b : World) → a.offered ≡ b.offered → a.sent ≡ b.sent → a.meters ≡ b.meters → a.activations ≡ b.activations → a.done ≡ b.done → a ≡ b
same_world a b offered sent meters activations done = λ i. record { offered = offered i; sent = sent i; meters = meters i; activations = activations i; done = done i }

-- ---- one of several in place of what was there

none_some : {X : Type 0} (x : X) → (let o : Option X = None in o ≡ Some x) → ⊥
none_some x e = cc

found_set : {X : Type 0} (k q : ℕ) (v w : X) (es : List (ℕ × X)) → lookup (nat_eq k) es ≡ Some v → lookup (nat_eq q) (set_value (nat_eq k) es w) ≡ cond (nat_eq q k) (Some w) (lookup (nat_eq q) es)
found_set k q v w [] there = absurd (none_some v there)
found_set k q v w (entry ∷ entries) there =
    ⊎_elim
    (λ here.
    let at : k ≡ entry.0 = (Decides-eqb k entry.0).0 here in
    ap (λ es. lookup (nat_eq q) es) (cond-true (nat_eq k entry.0) ((entry.0, w) ∷ entries) (entry ∷ set_value (nat_eq k) entries w) here)
    ∙ ap (λ n. cond (nat_eq q n) (Some w) (lookup (nat_eq q) entries)) (sym at)
    ∙ over (nat_eq q k) (nat_eq q entry.0) (ap (λ n. nat_eq q n) at) (Some w) (Some entry.1) (lookup (nat_eq q) entries))
    (λ away.
    let later = sym (cond-false (nat_eq k entry.0) (Some entry.1) (lookup (nat_eq k) entries) away) ∙ there in
    let apart : nat_eq q k ≡ true → nat_eq q entry.0 ≡ false = λ same. ap (λ n. nat_eq n entry.0) ((Decides-eqb q k).0 same) ∙ away in
    ap (λ es. lookup (nat_eq q) es) (cond-false (nat_eq k entry.0) ((entry.0, w) ∷ entries) (entry ∷ set_value (nat_eq k) entries w) away)
    ∙ ap (λ o. cond (nat_eq q entry.0) (Some entry.1) o) (found_set k q v w entries later)
    ∙ swap (nat_eq q k) (nat_eq q entry.0) apart (Some w) (Some entry.1) (lookup (nat_eq q) entries))
    (cases_Bool (nat_eq k entry.0))
  where
    over : {Y : Type 0} (a b : Bool) → a ≡ b → (w x y : Y) → cond a w y ≡ cond a w (cond b x y)
    over true b same w x y = refl
    over false b same w x y = ap (λ c. cond c x y) same

    swap : {Y : Type 0} (a b : Bool) → (a ≡ true → b ≡ false) → (w x y : Y) → cond b x (cond a w y) ≡ cond a w (cond b x y)
    swap true b apart w x y = ap (λ c. cond c x w) (apart refl)
    swap false b apart w x y = refl

-- the head end of a number, once one is changed: that one, or what was there
pub record HeadAt (old : State) (number : ℕ) (before after : Head) (q : ℕ) : Type 0 where
  pub is : q ≡ number
  pub becomes : head_at (set_head old number after) q ≡ Some after
  pub was : head_at old q ≡ Some before

pub head_cases : (old : State) (number : ℕ) (before after : Head) → head_at old number ≡ Some before → (q : ℕ)
    → HeadAt old number before after q ⊎ ((q ≢ number) × (head_at (set_head old number after) q ≡ head_at old q))
head_cases old number before after there q =
    let found = found_set number q before after old.heads there in
    ⊎_elim
    (λ here.
    let is : q ≡ number = (Decides-eqb q number).0 here in
    inl (record { is = is; becomes = found ∙ cond-true (nat_eq q number) (Some after) (lookup (nat_eq q) old.heads) here; was = ap (λ n. head_at old n) is ∙ there }))
    (λ away. inr (λ is. false≢true (sym away ∙ (Decides-eqb q number).1 is), found ∙ cond-false (nat_eq q number) (Some after) (lookup (nat_eq q) old.heads) away))
    (cases_Bool (nat_eq q number))

abbrev offered_at : Option Head → Campaign → Option (List ℕ)
offered_at o campaign = option_and_then (λ (head : Head). image_in head.book campaign) o

abbrev done_at : Option Head → Campaign → ℕ → Bool
done_at o campaign meter = is_done (option_and_then (λ (head : Head). state_in head.book campaign meter) o)

-- what a head end offers, and who is done there, goes on to these; all else stays
heads_go : (old : State) (number : ℕ) (before after : Head) (offered : Offers) (done : Campaign → ℕ → Bool) → head_at old number ≡ Some before
    → ((c : Campaign) → c.head ≡ number → image_in after.book c ≡ offered c) → ((c : Campaign) → c.head ≢ number → (world_of old).offered c ≡ offered c)
    → ((c : Campaign) (m : ℕ) → c.head ≡ number → is_done (state_in after.book c m) ≡ done c m) → ((c : Campaign) (m : ℕ) → c.head ≢ number → (world_of old).done c m ≡ done c m)
    → world_of (set_head old number after) ≡ record (world_of old) { offered = offered; done = done }
heads_go old number before after offered done there images others states elsewhere =
    same_world (world_of (set_head old number after)) (record (world_of old) { offered = offered; done = done })
    (funext _ offered (λ c. image c (head_cases old number before after there c.head))) refl refl refl
    (funext _ done (λ c. funext _ (done c) (λ m. state c m (head_cases old number before after there c.head))))
  where
    image : (c : Campaign) → HeadAt old number before after c.head ⊎ ((c.head ≢ number) × (head_at (set_head old number after) c.head ≡ head_at old c.head)) → offered_at (head_at (set_head old number after) c.head) c ≡ offered c
    image c (inl at) = ap (λ o. offered_at o c) at.becomes ∙ images c at.is
    image c (inr away) = ap (λ o. offered_at o c) away.1 ∙ others c away.0

    state : (c : Campaign) (m : ℕ) → HeadAt old number before after c.head ⊎ ((c.head ≢ number) × (head_at (set_head old number after) c.head ≡ head_at old c.head)) → done_at (head_at (set_head old number after) c.head) c m ≡ done c m
    state c m (inl at) = ap (λ o. done_at o c m) at.becomes ∙ states c m at.is
    state c m (inr away) = ap (λ o. done_at o c m) away.1 ∙ elsewhere c m away.0

-- a change that keeps both keeps the world
heads_stay : (old : State) (number : ℕ) (before after : Head) → head_at old number ≡ Some before
    → ((c : Campaign) → c.head ≡ number → image_in after.book c ≡ image_in before.book c)
    → ((c : Campaign) (m : ℕ) → c.head ≡ number → is_done (state_in after.book c m) ≡ is_done (state_in before.book c m))
    → world_of (set_head old number after) ≡ world_of old
heads_stay old number before after there images states =
    heads_go old number before after (world_of old).offered (world_of old).done there
    (λ c is. images c is ∙ sym (ap (λ o. offered_at o c) (ap (λ n. head_at old n) is ∙ there))) (λ c away. refl)
    (λ c m is. states c m is ∙ sym (ap (λ o. done_at o c m) (ap (λ n. head_at old n) is ∙ there))) (λ c m away. refl)

-- a change of the rows alone does
rows_change : (old : State) (number : ℕ) (before after : Head) → head_at old number ≡ Some before → after.book ≡ before.book → world_of (set_head old number after) ≡ world_of old
rows_change old number before after there same =
    heads_stay old number before after there (λ c is. ap (λ (b : Contents). image_in b c) same) (λ c m is. ap (λ (b : Contents). is_done (state_in b c m)) same)

-- ---- campaigns of a book

same_or_not : (a b : Campaign) → (a ≡ b) ⊎ (a ≢ b)
same_or_not a b =
    ⊎_elim
    (λ same. inl (same_campaign_is a b same))
    (λ other. inr (λ is. false≢true (sym other ∙ ap (λ c. same_campaign c b) is ∙ itself b)))
    (cases_Bool (same_campaign a b))
  where
    itself : (c : Campaign) → same_campaign c c ≡ true
    itself c = both (nat_eq c.head c.head) (nat_eq c.serial c.serial) ((Decides-eqb c.head c.head).1 refl) ((Decides-eqb c.serial c.serial).1 refl)
      where
        both : (a b : Bool) → a ≡ true → b ≡ true → (a && b) ≡ true
        both true b x y = y
        both false b x y = absurd (false≢true x)

put_there : {A : Type 0} (values : Campaign → A) (key : Campaign) (value : A) → put same_campaign values key value key ≡ value
put_there values key value =
    ⊎_elim
    (λ same. cond-true (same_campaign key key) value (values key) same)
    (λ other. absurd (none (same_or_not key key) other))
    (cases_Bool (same_campaign key key))
  where
    none : (key ≡ key) ⊎ (key ≢ key) → same_campaign key key ≡ false → ⊥
    none x other = false≢true (sym other ∙ yes (Decides-eqb key.head key.head) (Decides-eqb key.serial key.serial))
      where
        yes : ((nat_eq key.head key.head ≡ true → key.head ≡ key.head) × (key.head ≡ key.head → nat_eq key.head key.head ≡ true)) → ((nat_eq key.serial key.serial ≡ true → key.serial ≡ key.serial) × (key.serial ≡ key.serial → nat_eq key.serial key.serial ≡ true)) → same_campaign key key ≡ true
        yes h s = both (nat_eq key.head key.head) (nat_eq key.serial key.serial) (h.1 refl) (s.1 refl)
          where
            both : (a b : Bool) → a ≡ true → b ≡ true → (a && b) ≡ true
            both true b x y = y
            both false b x y = absurd (false≢true x)

put_other : {A : Type 0} (values : Campaign → A) (key other : Campaign) (value : A) → other ≢ key → put same_campaign values key value other ≡ values other
put_other values key other value apart = cond-false (same_campaign other key) value (values other) (false_from_ne_true (same_campaign other key) (λ same. apart (same_campaign_is other key same)))

-- only a campaign of the book's head end has an image or a state
abbrev in_head : {X : Type 0} → (Option Offered → Option X) → Contents → Campaign → Option X
in_head f book c = f (cond (nat_eq c.head book.head) (lookup (nat_eq c.serial) book.campaigns) None)

of_head : {X : Type 0} (f : Option Offered → Option X) (x : X) (book : Contents) (c : Campaign) → f None ≡ None → in_head f book c ≡ Some x → c.head ≡ book.head
of_head f x book c none found =
    ⊎_elim
    (λ here. (Decides-eqb c.head book.head).0 here)
    (λ away. absurd (none_some x (sym none ∙ ap f (sym (cond-false (nat_eq c.head book.head) (lookup (nat_eq c.serial) book.campaigns) None away)) ∙ found)))
    (cases_Bool (nat_eq c.head book.head))

image_of_head : (book : Contents) (c : Campaign) (image : List ℕ) → image_in book c ≡ Some image → c.head ≡ book.head
image_of_head book c image found = of_head (λ o. option_map (λ (offer : Offered). offer.image) o) image book c refl found

state_of_head : (book : Contents) (c : Campaign) (m : ℕ) (s : RowState) → state_in book c m ≡ Some s → c.head ≡ book.head
state_of_head book c m s found = of_head (λ o. option_and_then (λ (offer : Offered). state_of offer.rows m) o) s book c refl found

unknown : (book : Contents) (c : Campaign) (m : ℕ) → has_serial book c.serial ≡ false → (state_in book c m ≡ None) × (image_in book c ≡ None)
unknown book c m new = go (nat_eq c.head book.head) (lookup (nat_eq c.serial) book.campaigns) new
  where
    go : (b : Bool) (x : Option Offered) → is_some x ≡ false → (option_and_then (λ (offer : Offered). state_of offer.rows m) (cond b x None) ≡ None) × (option_map (λ (offer : Offered). offer.image) (cond b x None) ≡ None)
    go true None h = (refl, refl)
    go true (Some offer) h = absurd (false≢true (sym h))
    go false x h = (refl, refl)

named_offer : (o : Option Offered) (c : Campaign) (name : Name) → option_map (λ (offer : Offered). name_of c offer.release offer.image) o ≡ Some name
    → (offer : Offered) × (o ≡ Some offer) × (name_of c offer.release offer.image ≡ name)
named_offer None c name e = absurd (none_some name e)
named_offer (Some offer) c name e = (offer, refl, cc)

offer_image : (book : Contents) (c : Campaign) (offer : Offered) → offered_in book c ≡ Some offer → image_in book c ≡ Some offer.image
offer_image book c offer offered = ap (λ (o : Option Offered). option_map (λ (x : Offered). x.image) o) offered

-- ---- meters

meter_goes : (old : State) (number : ℕ) (before after : Meter) → meter_at old number ≡ Some before → world_of (set_meter old number after) ≡ with_meter (world_of old) number after
meter_goes old number before after there =
    same_world (world_of (set_meter old number after)) (with_meter (world_of old) number after) refl refl
    (funext _ _ (λ q. found_set number q before after old.meters there)) refl refl

-- ---- each event

module _ (stay : ImagesStay) (offers : OpeningOffers) (follow : StatesFollowCalls) (opens : AdmittedOpens) (keeps : RowKeepsGoal) (stop_is : StopAfterIsStop) where
  opened_as : (old new : State) (campaign : Campaign) (release : ℕ) (image meters : List ℕ) → IsState old → OpensAt old campaign release image meters new
      → WorldStep (world_of old) (open_campaign campaign release image meters) (world_of new)
  opened_as old new campaign release image meters is o =
      let book = o.head.book in
      let admits = (opens book campaign image meters).0 o.admitted in
      let adds = offers book campaign release image meters admits.own admits.serial_new in
      let goes = (follow book campaign admits.own).at_opening release image meters admits.serial_new in
      let before = unknown book campaign 0 admits.serial_new in
      let none : (world_of old).offered campaign ≡ None = ap (λ h. offered_at h campaign) o.there ∙ before.1 in
      let offered : Offers = put same_campaign (world_of old).offered campaign (Some image) in (
        o.is_opened,
        none,
        ap world_of o.new_is ∙ heads_go old campaign.head o.head (opened_head o.head campaign.serial release image meters) offered (world_of old).done o.there
            (λ c at. ⊎_elim
            (λ same. ap (λ x. image_in (opened book campaign.serial release image meters) x) same ∙ adds.own ∙ sym (put_there (world_of old).offered campaign (Some image)) ∙ ap offered (sym same))
            (λ other. adds.others c other ∙ sym (ap (λ h. offered_at h c) (ap (λ n. head_at old n) at ∙ o.there)) ∙ sym (put_other (world_of old).offered campaign c (Some image) other))
            (same_or_not c campaign))
            (λ c away. sym (put_other (world_of old).offered campaign c (Some image) (λ same. away (ap (λ (x : Campaign). x.head) same))))
            (λ c m at. ⊎_elim
            (λ same.
            ap (λ x. is_done (state_in (opened book campaign.serial release image meters) x m)) same ∙ ap is_done (goes.own m) ∙ not_yet (list_any (λ other. nat_eq other m) meters)
            ∙ sym (ap is_done (unknown book campaign m admits.serial_new).0) ∙ ap (λ x. is_done (state_in book x m)) (sym same) ∙ sym (was c m at))
            (λ other. ap is_done (goes.others c m other) ∙ sym (was c m at))
            (same_or_not c campaign))
            (λ c m away. refl),
      )
    where
      not_yet : (b : Bool) → is_done (cond b (Some states.Live) None) ≡ false
      not_yet true = refl
      not_yet false = refl

      was : (c : Campaign) (m : ℕ) → c.head ≡ campaign.head → (world_of old).done c m ≡ is_done (state_in o.head.book c m)
      was c m at = ap (λ h. done_at h c m) (ap (λ n. head_at old n) at ∙ o.there)

  cancelled_as : (old new : State) (campaign : Campaign) → IsState old → CancelsAt old campaign new → world_of new ≡ world_of old
  cancelled_as old new campaign is o =
      let book = o.head.book in
      let own : campaign.head ≡ book.head = sym (is.own campaign.head o.head o.there) in
      let goes = (follow book campaign own).at_cancelling in
      ap world_of o.new_is ∙ heads_stay old campaign.head o.head (cancelled_head o.head campaign.serial) o.there
      (λ c at. (stay book c).at_cancelling campaign.serial)
      (λ c m at. ⊎_elim
      (λ same. ap (λ x. is_done (state_in (cancelled book campaign.serial) x m)) same ∙ ap is_done (goes.own m) ∙ over (state_in book campaign m) ∙ ap (λ x. is_done (state_in book x m)) (sym same))
      (λ other. ap is_done (goes.others c m other))
      (same_or_not c campaign))
    where
      ends : (s : RowState) → is_done (Some (cond (is_live s) states.Cancelled s)) ≡ is_done (Some s)
      ends states.Live = refl
      ends states.Done = refl
      ends states.Failed = refl
      ends states.Cancelled = refl

      over : (o : Option RowState) → is_done (option_map (λ was. cond (is_live was) states.Cancelled was) o) ≡ is_done o
      over None = refl
      over (Some s) = ends s

  may_ask : (offered : Offers) (head : ℕ) (campaign : Campaign) (release : ℕ) (image : List ℕ) → campaign.head ≡ head → IsRelease campaign release → offered campaign ≡ Some image → (asked : Ask)
      → MaySend (name_of campaign release image) image asked → MayAsk offered head asked
  may_ask offered head campaign release image own is offers block_size may = tt
  may_ask offered head campaign release image own is offers first_missing may = tt
  may_ask offered head campaign release image own is offers blocks may = tt
  may_ask offered head campaign release image own is offers status may = tt
  may_ask offered head campaign release image own is offers info may = tt
  may_ask offered head campaign release image own is offers active_name may = tt
  may_ask offered head campaign release image own is offers enable may = tt
  may_ask offered head campaign release image own is offers (initiate name size) may = record { campaign = campaign; release = release; image = image; own = own; is_release = is; offers = offers; may = may }
  may_ask offered head campaign release image own is offers (block number value) may = record { campaign = campaign; release = release; image = image; own = own; is_release = is; offers = offers; may = may }
  may_ask offered head campaign release image own is offers verify may = tt
  may_ask offered head campaign release image own is offers activate may = tt

  all_permitted : (old : State) (number meter : ℕ) (head : Head) → head_at old number ≡ Some head → head.book.head ≡ number → (datagrams : List (List ℕ)) → All (IsOfferedIn head.book) datagrams
      → All (Permits (world_of old).offered number meter) (sent_to number meter datagrams)
  all_permitted old number meter head there own [] may = All-nil (Permits (world_of old).offered number meter)
  all_permitted old number meter head there own (datagram ∷ datagrams) may =
      let offer = All-head (IsOfferedIn head.book) datagram datagrams may in
      let image : image_in head.book offer.campaign ≡ Some offer.offer.image = offer_image head.book offer.campaign offer.offer offer.offered in
      let at : offer.campaign.head ≡ number = image_of_head head.book offer.campaign offer.offer.image image ∙ own in
      let offers : (world_of old).offered offer.campaign ≡ Some offer.offer.image = ap (λ h. offered_at h offer.campaign) (ap (λ n. head_at old n) at ∙ there) ∙ image in
      All-cons (Permits (world_of old).offered number meter) (record { head = number; meter = meter; direction = ToMeter; bytes = datagram }) (sent_to number meter datagrams)
      (record {
        asked = offer.permitted.asked;
        invoke = invoke_byte offer.permitted.id;
        may = may_ask (world_of old).offered number offer.campaign offer.offer.release offer.offer.image at offer.is_release offers offer.permitted.asked offer.permitted.may;
        carries = offer.permitted.carries;
        link = refl;
      })
      (all_permitted old number meter head there own datagrams (All-tail (IsOfferedIn head.book) datagram datagrams may))

  ticked_as : (old new : State) (number meter : ℕ) → IsState old → TicksAt old number meter new → WorldStep (world_of old) (tick number meter) (world_of new)
  ticked_as old new number meter is o =
      let sends = sent_to number meter (sends_to o.head meter) in (
        sends,
        all_permitted old number meter o.head o.there (is.own number o.head o.there) (sends_to o.head meter) o.permitted,
        ap world_of o.new_is ∙ ap (λ (w : World). (let x : World = record w { sent = old.sent ++ sends } in x)) (rows_change old number o.head (ticked_head o.head meter) o.there refl),
      )

  served_as : (old new : State) (d : Datagram) → ServesAt old d new → Serves (world_of old) d (world_of new)
  served_as old new d o = record {
    before = o.before;
    after = o.after;
    reply = o.reply;
    name = o.name;
    there = o.there;
    handles = o.handles;
    new_is = ap world_of o.new_is ∙ ap (λ (w : World). (let x : World = record w { sent = old.sent ++ replies d o.reply; activations = old.activations ++ activated d.meter o.name o.after } in x)) (meter_goes old d.meter o.before o.after o.there);
  }

  stopped_as : (old new : State) (d : Datagram) (calls torn : ℕ) → StopsIn old d calls torn new → StopsAt (world_of old) d (world_of new)
  stopped_as old new d calls torn o = record {
    before = o.before;
    after = o.after;
    name = o.name;
    there = o.there;
    stops = stop_is calls torn o.before o.after d.bytes o.name o.stops;
    new_is = ap world_of o.new_is ∙ ap (λ (w : World). (let x : World = record w { activations = old.activations ++ activated d.meter o.name o.after } in x)) (meter_goes old d.meter o.before (image.restarted o.after) o.there);
  }

  -- a mark of a live row: the state of its meter in its campaign, and every other as it was
  mark_cases : (book : Contents) (campaign : Campaign) (meter : ℕ) (state : RowState) → campaign.head ≡ book.head → state_in book campaign meter ≡ Some states.Live → (c : Campaign) (m : ℕ)
      → ((c ≡ campaign) × (m ≡ meter) × (state_in (marked book campaign.serial meter state) c m ≡ Some state))
      ⊎ ((¬ ((c ≡ campaign) × (m ≡ meter))) × (state_in (marked book campaign.serial meter state) c m ≡ state_in book c m))
  mark_cases book campaign meter state own live c m =
      let goes = (follow book campaign own).at_mark meter state in
      let given : Option RowState = option_map (λ was. state) (state_in book campaign m) in
      ⊎_elim
      (λ same.
      let at : state_in (marked book campaign.serial meter state) c m ≡ cond (nat_eq m meter) given (state_in book campaign m) = ap (λ x. state_in (marked book campaign.serial meter state) x m) same ∙ goes.own m in
      ⊎_elim
      (λ here.
      let is : m ≡ meter = (Decides-eqb m meter).0 here in
      inl (same, is, at ∙ cond-true (nat_eq m meter) given (state_in book campaign m) here ∙ ap (λ o. option_map (λ was. state) o) (ap (λ n. state_in book campaign n) is ∙ live)))
      (λ away. inr (λ both. false≢true (sym away ∙ (Decides-eqb m meter).1 both.1), at ∙ cond-false (nat_eq m meter) given (state_in book campaign m) away ∙ ap (λ x. state_in book x m) (sym same)))
      (cases_Bool (nat_eq m meter)))
      (λ other. inr (λ both. other both.0, goes.others c m other))
      (same_or_not c campaign)

  -- the live row of a meter that goes on in its campaign
  pub record Goes (old : State) (d : Datagram) (before : Head) (row next : Row) : Type 0 where
    pub live : state_in before.book row.name.campaign d.meter ≡ Some states.Live
    pub own : row.name.campaign.head ≡ before.book.head
    pub at : row.name.campaign.head ≡ d.head
    pub name : next.name ≡ row.name

  ended_as : (old : State) (d : Datagram) (before after : Head) (row next : Row) (why : Reason) → head_at old d.head ≡ Some before → Goes old d before row next
      → after ≡ went_on before d.meter next (Failed why) → world_of (set_head old d.head after) ≡ world_of old
  ended_as old d before after row next why there goes is =
      let campaign = row.name.campaign in
      let book : after.book ≡ marked before.book campaign.serial d.meter states.Failed = ap (λ (h : Head). h.book) is ∙ ap (λ (n : Name). marked before.book n.campaign.serial d.meter states.Failed) goes.name in
      heads_stay old d.head before after there
      (λ c at. ap (λ (b : Contents). image_in b c) book ∙ (stay before.book c).at_mark campaign.serial d.meter states.Failed)
      (λ c m at. ap (λ (b : Contents). is_done (state_in b c m)) book
      ∙ ⊎_elim
      (λ here. ap is_done here.2 ∙ sym (ap is_done (ap (λ x. state_in before.book x m) here.0 ∙ ap (λ n. state_in before.book campaign n) here.1 ∙ goes.live)))
      (λ away. ap is_done away.1)
      (mark_cases before.book campaign d.meter states.Failed goes.own goes.live c m))

  put_both : (values : Campaign → ℕ → Bool) (key c : Campaign) (meter m : ℕ) → ¬ ((c ≡ key) × (m ≡ meter)) → values c m ≡ put same_campaign values key (put nat_eq (values key) meter true) c m
  put_both values key c meter m apart =
      let row : ℕ → Bool = put nat_eq (values key) meter true in
      ⊎_elim
      (λ same.
      let away : nat_eq m meter ≡ false = false_from_ne_true (nat_eq m meter) (λ here. apart (same, (Decides-eqb m meter).0 here)) in
      ap (λ x. values x m) same ∙ sym (cond-false (nat_eq m meter) true (values key m) away)
      ∙ sym (ap (λ (f : ℕ → Bool). f m) (put_there values key row)) ∙ ap (λ x. put same_campaign values key row x m) (sym same))
      (λ other. sym (ap (λ (f : ℕ → Bool). f m) (put_other values key c row other)))
      (same_or_not c key)

  put_at : (values : Campaign → ℕ → Bool) (key c : Campaign) (meter m : ℕ) → c ≡ key → m ≡ meter → true ≡ put same_campaign values key (put nat_eq (values key) meter true) c m
  put_at values key c meter m same is =
      let row : ℕ → Bool = put nat_eq (values key) meter true in
      sym (cond-true (nat_eq m meter) true (values key m) ((Decides-eqb m meter).1 is))
      ∙ sym (ap (λ (f : ℕ → Bool). f m) (put_there values key row)) ∙ ap (λ x. put same_campaign values key row x m) (sym same)

  done_as : (old : State) (d : Datagram) (before after : Head) (row next : Row) (claim : Claim) → head_at old d.head ≡ Some before → Goes old d before row next
      → after ≡ went_on before d.meter next (Done claim) → world_of (set_head old d.head after) ≡ with_done (world_of old) row.name.campaign d.meter
  done_as old d before after row next claim there goes is =
      let campaign = row.name.campaign in
      let w = world_of old in
      let done : Campaign → ℕ → Bool = put same_campaign w.done campaign (put nat_eq (w.done campaign) d.meter true) in
      let book : after.book ≡ marked before.book campaign.serial d.meter states.Done = ap (λ (h : Head). h.book) is ∙ ap (λ (n : Name). marked before.book n.campaign.serial d.meter states.Done) goes.name in
      heads_go old d.head before after w.offered done there
      (λ c at.
      ap (λ (b : Contents). image_in b c) book ∙ (stay before.book c).at_mark campaign.serial d.meter states.Done ∙ sym (ap (λ o. offered_at o c) (ap (λ n. head_at old n) at ∙ there)))
      (λ c away. refl)
      (λ c m at.
      ap (λ (b : Contents). is_done (state_in b c m)) book
      ∙ ⊎_elim
      (λ here. ap is_done here.2 ∙ put_at w.done campaign c d.meter m here.0 here.1)
      (λ away. ap is_done away.1 ∙ sym (ap (λ o. done_at o c m) (ap (λ n. head_at old n) at ∙ there)) ∙ put_both w.done campaign c d.meter m away.0)
      (mark_cases before.book campaign d.meter states.Done goes.own goes.live c m))
      (λ c m away. put_both w.done campaign c d.meter m (λ both. away (ap (λ (x : Campaign). x.head) both.0 ∙ goes.at)))

  goes : (old new : State) (d : Datagram) → IsState old → (o : HearsAt old d new) → (takes : HeadTakes o.before d.meter d.bytes o.told o.after) → Goes old d o.before takes.row takes.next
  goes old new d is o takes =
      let row = o.is_head.of_book d.meter takes.row takes.found in
      let own = state_of_head o.before.book takes.row.name.campaign d.meter states.Live row.live in
      record { live = row.live; own = own; at = own ∙ is.own d.head o.before o.there; name = (keeps takes.row takes.next d.bytes takes.heard takes.hears).name }

  took_as : (old new : State) (d : Datagram) → IsState old → (o : HearsAt old d new) → (takes : HeadTakes o.before d.meter d.bytes o.told o.after) → (heard : RowNews) → takes.heard ≡ heard
      → (world_of new ≡ world_of old) ⊎ Marks (world_of old) d (world_of new)
  took_as old new d is o takes Nothing e =
      inl (ap world_of o.new_is ∙ rows_change old d.head o.before o.after o.there (ap (λ (h : Head). h.book) (takes.new_is ∙ ap (λ n. went_on o.before d.meter takes.next n) e)))
  took_as old new d is o takes Moved e =
      inl (ap world_of o.new_is ∙ rows_change old d.head o.before o.after o.there (ap (λ (h : Head). h.book) (takes.new_is ∙ ap (λ n. went_on o.before d.meter takes.next n) e)))
  took_as old new d is o takes (Failed why) e =
      inl (ap world_of o.new_is ∙ ended_as old d o.before o.after takes.row takes.next why o.there (goes old new d is o takes) (takes.new_is ∙ ap (λ n. went_on o.before d.meter takes.next n) e))
  took_as old new d is o takes (Done claim) e =
      let campaign = takes.row.name.campaign in
      let told = takes.told_is ∙ ap (λ n. news_of campaign d.meter n) e in
      let by = ((o.done campaign d.meter).0 told).1 in
      let offer = named_offer (offered_in o.before.book campaign) campaign by.claim.name by.named in
      let g = goes old new d is o takes in
      inr (record {
        campaign = campaign;
        release = offer.0.release;
        image = offer.0.image;
        invoke = invoke_byte by.claimed.id;
        bytes = by.claimed.bytes;
        own = g.at;
        offers = ap (λ h. offered_at h campaign) (ap (λ n. head_at old n) g.at ∙ o.there) ∙ offer_image o.before.book campaign offer.0 offer.1;
        carries = by.claimed.carries;
        spells = subst (λ (n : Name). SpellsName by.claimed.bytes n) (sym offer.2) by.claimed.spells;
        new_is = ap world_of o.new_is ∙ done_as old d o.before o.after takes.row takes.next claim o.there g (takes.new_is ∙ ap (λ n. went_on o.before d.meter takes.next n) e);
      })

  heard_as : (old new : State) (d : Datagram) → IsState old → HearsAt old d new → (world_of new ≡ world_of old) ⊎ Marks (world_of old) d (world_of new)
  heard_as old new d is o =
      elim o.hears [
        | inl takes ↦ took_as old new d is o takes takes.heard refl
        | inr ignores ↦ inl (ap world_of o.new_is ∙ rows_change old d.head o.before o.after o.there (ap (λ (h : Head). h.book) ignores.2))
      ]

  delivered_as : (old new : State) (d : Datagram) (direction : Direction) → IsState old → DeliversAt direction old d new → Delivers direction (world_of old) d (world_of new)
  delivered_as old new d ToMeter is o = served_as old new d o
  delivered_as old new d ToHead is o = heard_as old new d is o

  within_as : (old new : State) (number : ℕ) (meter : Meter) → meter_at old number ≡ Some meter → (whole : Bool)
      → new ≡ set_meter old number (if whole then image.restarted meter else reopened meter)
      → (world_of new ≡ with_meter (world_of old) number (image.restarted meter)) ⊎ (world_of new ≡ with_meter (world_of old) number (reopened meter))
  within_as old new number meter there true is = inl (ap world_of is ∙ meter_goes old number meter (image.restarted meter) there)
  within_as old new number meter there false is = inr (ap world_of is ∙ meter_goes old number meter (reopened meter) there)

  pub state_steps : StateStepsAsWorld
  state_steps old new (open_campaign campaign release image meters) is o = opened_as old new campaign release image meters is o
  state_steps old new (cancel_campaign campaign) is o = cancelled_as old new campaign is o
  state_steps old new (tick head meter) is o = ticked_as old new head meter is o
  state_steps old new (deliver number) is o = (o.0, o.1, delivered_as old new o.0 o.0.direction is o.2)
  state_steps old new (stop number calls torn) is o = (o.0, o.1, o.2, stopped_as old new o.0 calls torn o.3)
  state_steps old new (restart_meter number) is o = (o.0, o.1, ap world_of o.2 ∙ meter_goes old number o.0 (image.restarted o.0) o.1)
  state_steps old new (stop_restart number calls torn) is o =
      (o.0, o.1, within_as old new number o.0 o.1 (nat_le (restart_calls o.0) calls) o.2)
  state_steps old new (restart_head number) is o = ap world_of o.2 ∙ rows_change old number o.0 (restarted o.0) o.1 refl
  state_steps old new (turn number) is o = (o.0, o.1, o.2, o.3, ap world_of o.4 ∙ meter_goes old number o.0 o.1 o.2)
