-- A world of one head end alone, in which its calls are the events that the world's law knows.
use Rattle.std.proofs.Common.{◌≡◌, ℕ, nat_eq, Bool, true, false, cond, ◌⊎◌, inl, inr, List, [], ◌∷◌, Option, Some, None, option_and_then, slice_get, refl, sym, ap, subst, ◌∙◌, eqb-true}
use Rattle.std.proofs.lemmas.Bool.{cond-true}
use Rattle.std.specs.Map.{lookup}
use Rattle.fw_names.specs.Name.{Campaign, IsOpened, SpellsName, name_of}
use Rattle.fw_axdr.specs.Value.{octet_string}
use Rattle.fw_apdu.specs.Response.{value, get_response}
use Rattle.fw_client.specs.Hearing.{CarriesResponse}
use Rattle.fw_book.specs.Contents.{Contents, image_in, state_in}
use Rattle.fw_book.specs.Changes.{opening_refusal, cancel_refusal}
use Rattle.fw_head.specs.declared.news.News.{News}
use Rattle.fw_head.specs.Head.{Head, HeadHears, IsHead, opened_head, cancelled_head}
use Rattle.fw_head.specs.Laws.{ReportedByClaim}
use Rattle.fw_world.specs.World.{Datagram, World, put, same_campaign}
use Rattle.fw_world.specs.Step.{open_campaign, cancel_campaign, deliver, Delivers, Marks}
use Rattle.fw_world.specs.State as kept
use Rattle.fw_world.specs.State.{State, IsState, head_at, is_done, set_head}
use Rattle.fw_world.specs.Laws.{StateStepsAsWorld}
use Rattle.fw_field.specs.Moves.{to_head}
use Rattle.fw_field.proofs.Maps.{Done, itself, marked, some_is, none_some}

abbrev pub mini : ℕ → Head → List Datagram → State
mini number head sent = record { heads = (number, head) ∷ []; meters = []; sent = sent; activations = [] }

-- the rows that are done in its book
abbrev pub marks_in : ℕ → Head → Done
marks_in number head = (kept.world_of (mini number head [])).done

there : (number : ℕ) (head : Head) (sent : List Datagram) → head_at (mini number head sent) number ≡ Some head
there number head sent = cond-true (nat_eq number number) (Some head) (lookup (nat_eq number) []) (itself number)

set_is : (number : ℕ) (a b : Head) (sent : List Datagram) → mini number b sent ≡ set_head (mini number a sent) number b
set_is number a b sent =
    let M : List (ℕ × Head) → State = λ es. record { heads = es; meters = []; sent = sent; activations = [] } in
    sym (ap M (cond-true (nat_eq number number) ((number, b) ∷ []) ((number, a) ∷ []) (itself number)))

is_state : (number : ℕ) (head : Head) (sent : List Datagram) → head.book.head ≡ number → IsState (mini number head sent)
is_state number head sent own = record { own = λ q found e. at q found (nat_eq q number) refl e }
  where
    at : (q : ℕ) (found : Head) (b : Bool) → nat_eq q number ≡ b → (let o : Option Head = cond b (Some head) None in o ≡ Some found) → found.book.head ≡ q
    at q found true is e = ap (λ (h : Head). h.book.head) (sym (some_is head found e)) ∙ own ∙ sym (eqb-true q number is)
    at q found false is e = absurd (none_some found e)

image_of : (number : ℕ) (head : Head) (sent : List Datagram) (c : Campaign) → nat_eq c.head number ≡ true → (kept.world_of (mini number head sent)).offered c ≡ image_in head.book c
image_of number head sent c is = ap (λ o. option_and_then (λ (h : Head). image_in h.book c) o) (cond-true (nat_eq c.head number) (Some head) (lookup (nat_eq c.head) []) is)

pub mark_of : (number : ℕ) (head : Head) (c : Campaign) (m : ℕ) → nat_eq c.head number ≡ true → marks_in number head c m ≡ is_done (state_in head.book c m)
mark_of number head c m is = ap (λ o. is_done (option_and_then (λ (h : Head). state_in h.book c m) o)) (cond-true (nat_eq c.head number) (Some head) (lookup (nat_eq c.head) []) is)

-- ---- a book that offers the same, with the same rows done

pub record Same (number : ℕ) (a b : Head) : Type 0 where
  pub images : (c : Campaign) → nat_eq c.head number ≡ true → image_in b.book c ≡ image_in a.book c
  pub done : (c : Campaign) (m : ℕ) → nat_eq c.head number ≡ true → is_done (state_in b.book c m) ≡ is_done (state_in a.book c m)

same_of : (number : ℕ) (a b : Head) (sent : List Datagram) → kept.world_of (mini number b sent) ≡ kept.world_of (mini number a sent) → Same number a b
same_of number a b sent e = record {
  images = λ c is. sym (image_of number b sent c is) ∙ ap (λ (w : World). w.offered c) e ∙ image_of number a sent c is;
  done = λ c m is. sym (mark_of number b c m is) ∙ ap (λ (w : World). w.done c m) e ∙ mark_of number a c m is;
}

pub same_book : (number : ℕ) (a b : Head) → b.book ≡ a.book → Same number a b
same_book number a b e = record { images = λ c is. ap (λ (x : Contents). image_in x c) e; done = λ c m is. ap (λ (x : Contents). is_done (state_in x c m)) e }

-- one row more is done, since its meter told the name
pub record Marked (number : ℕ) (a b : Head) (meter : ℕ) (datagram : List ℕ) : Type 0 where
  pub campaign : Campaign
  pub release : ℕ
  pub image : List ℕ
  pub invoke : ℕ
  pub bytes : List ℕ
  pub own : campaign.head ≡ number
  pub at : nat_eq campaign.head number ≡ true
  pub offers : image_in a.book campaign ≡ Some image
  pub carries : CarriesResponse datagram invoke (get_response (value (octet_string bytes)))
  pub spells : SpellsName bytes (name_of campaign release image)
  pub images : (c : Campaign) → nat_eq c.head number ≡ true → image_in b.book c ≡ image_in a.book c
  pub done : (c : Campaign) (m : ℕ) → nat_eq c.head number ≡ true → is_done (state_in b.book c m) ≡ marked (marks_in number a) campaign meter c m

-- an image more is offered
pub record Opened (number : ℕ) (a b : Head) (campaign : Campaign) (image : List ℕ) : Type 0 where
  pub none : image_in a.book campaign ≡ None
  pub images : (c : Campaign) → nat_eq c.head number ≡ true → image_in b.book c ≡ put same_campaign (kept.world_of (mini number a [])).offered campaign (Some image) c
  pub before : (c : Campaign) → nat_eq c.head number ≡ true → (kept.world_of (mini number a [])).offered c ≡ image_in a.book c
  pub done : (c : Campaign) (m : ℕ) → nat_eq c.head number ≡ true → is_done (state_in b.book c m) ≡ is_done (state_in a.book c m)

module _ (steps : StateStepsAsWorld) where
  pub opening : (a : Head) (campaign : Campaign) (release : ℕ) (image meters : List ℕ) → a.book.head ≡ campaign.head → IsOpened campaign
      → opening_refusal a.book campaign image meters ≡ None → Opened campaign.head a (opened_head a campaign.serial release image meters) campaign image
  opening a campaign release image meters own is admitted =
      let number = campaign.head in
      let b = opened_head a campaign.serial release image meters in
      let s = steps (mini number a []) (mini number b []) (open_campaign campaign release image meters) (is_state number a [] own)
      (record { is_opened = is; head = a; there = there number a []; admitted = admitted; new_is = set_is number a b [] }) in
      record {
        none = sym (image_of number a [] campaign (itself number)) ∙ s.1;
        images = λ c at. sym (image_of number b [] c at) ∙ ap (λ (w : World). w.offered c) s.2;
        before = λ c at. image_of number a [] c at;
        done = λ c m at. sym (mark_of number b c m at) ∙ ap (λ (w : World). w.done c m) s.2 ∙ mark_of number a c m at;
      }

  pub cancelling : (a : Head) (campaign : Campaign) → a.book.head ≡ campaign.head → cancel_refusal a.book campaign ≡ None
      → Same campaign.head a (cancelled_head a campaign.serial)
  cancelling a campaign own admitted =
      let number = campaign.head in
      let b = cancelled_head a campaign.serial in
      same_of number a b []
      (steps (mini number a []) (mini number b []) (cancel_campaign campaign) (is_state number a [] own)
      (record { head = a; there = there number a []; admitted = admitted; new_is = set_is number a b [] }))

  pub hearing : ReportedByClaim → (number : ℕ) (a b : Head) (meter : ℕ) (datagram : List ℕ) (told : News) → a.book.head ≡ number → IsHead a → HeadHears a meter datagram told b
      → Same number a b ⊎ Marked number a b meter datagram
  hearing law number a b meter datagram told own is hears = went s.0 (some_is d s.0 s.1) s.2
    where
      d : Datagram
      d = to_head number meter datagram

      sent : List Datagram
      sent = d ∷ []

      Went : Datagram → Type 0
      Went x = Delivers x.direction (kept.world_of (mini number a sent)) x (kept.world_of (mini number b sent))

      s : (x : Datagram) × (slice_get sent 0 ≡ Some x) × Went x
      s = steps (mini number a sent) (mini number b sent) (deliver 0) (is_state number a sent own) (
        d,
        refl,
        record {
          before = a;
          after = b;
          told = told;
          there = there number a sent;
          is_head = is;
          hears = hears;
          done = λ campaign at. law a b meter datagram told campaign at is hears;
          new_is = set_is number a b sent;
        },
      )

      either : (kept.world_of (mini number b sent) ≡ kept.world_of (mini number a sent)) ⊎ Marks (kept.world_of (mini number a sent)) d (kept.world_of (mini number b sent)) → Same number a b ⊎ Marked number a b meter datagram
      either (inl same) = inl (same_of number a b sent same)
      either (inr m) =
          let at : nat_eq m.campaign.head number ≡ true = ap (λ n. nat_eq n number) m.own ∙ itself number in
          inr (record {
            campaign = m.campaign;
            release = m.release;
            image = m.image;
            invoke = m.invoke;
            bytes = m.bytes;
            own = m.own;
            at = at;
            offers = sym (image_of number a sent m.campaign at) ∙ m.offers;
            carries = m.carries;
            spells = m.spells;
            images = λ c here. sym (image_of number b sent c here) ∙ ap (λ (w : World). w.offered c) m.new_is ∙ image_of number a sent c here;
            done = λ c n here. sym (mark_of number b c n here) ∙ ap (λ (w : World). w.done c n) m.new_is;
          })

      went : (x : Datagram) → d ≡ x → Went x → Same number a b ⊎ Marked number a b meter datagram
      went x same w = either (subst Went (sym same) w)
