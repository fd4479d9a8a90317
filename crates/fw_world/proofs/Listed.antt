-- The done rows of a world as a list, in the order of the setup and of the books.
use Rattle.std.proofs.Common.{◌≡◌, ℕ, ◌==◌, nat_eq, Bool, true, false, cond, if◌then◌else◌, inl, inr, List, [], ◌∷◌, map, length, find, Option, Some, None, option_map, refl, sym, ap, subst, ◌∙◌}
use Rattle.std.specs.List.{flat_map, sum_by}
use Rattle.std.specs.Map.{lookup}
use Rattle.std.specs.Option.{option_and_then, option_map_or}
use Rattle.std.proofs.lemmas.List.Concat.{length-flat_map}
use Rattle.std.proofs.lemmas.Bool.{}
use Rattle.std.proofs.lemmas.Bool.Decides.{Decides-eqb}
use Rattle.fw_names.specs.Name.{Campaign}
use Rattle.fw_book.specs.declared.row.Row.{Row}
use Rattle.fw_book.specs.declared.row.RowState.{RowState}
use Rattle.fw_book.specs.Rows.{meters_of, state_of}
use Rattle.fw_book.specs.Contents.{Contents, Offered, state_in}
use Rattle.fw_head.specs.Head.{Head}
use Rattle.fw_world.specs.declared.setup.HeadSetup.{HeadSetup}
use Rattle.fw_world.specs.declared.setup.Setup.{Setup}
use Rattle.fw_world.specs.Setup.{number_of_head}
use Rattle.fw_world.specs.State.{State, head_at, is_done, world_of}
use Rattle.fw_world.specs.Done.{done_of, done_in, done_with, done_rows}
use Rattle.fw_world.proofs.Joined.{In, Once, from_map, in_joined, from_joined, once_joined, found_in, in_found, search_in, in_search}

abbrev Done : Type 0
Done = Campaign × ℕ

abbrev of_row : Campaign → Row → List Done
of_row campaign row = cond (is_done (Some row.state)) ((campaign, row.meter) ∷ []) []

abbrev campaign_of : ℕ → ℕ → Campaign
campaign_of head serial = record { head = head; serial = serial }

abbrev of_offer : ℕ → ℕ × Offered → List Done
of_offer head entry = flat_map (of_row (campaign_of head entry.0)) entry.1.rows

abbrev of_book : Contents → List Done
of_book book = flat_map (of_offer book.head) book.campaigns

abbrev at_head : Option Head → List Done
at_head o = option_map_or (λ (h : Head). of_book h.book) o []

abbrev of_head : State → HeadSetup → List Done
of_head s head = at_head (head_at s (number_of_head head))

abbrev pub listed : Setup → State → List (Campaign × ℕ)
listed setup s = flat_map (of_head s) setup.heads.items

-- ---- how many there are

same_sum : {X : Type 0} (f g : X → ℕ) (xs : List X) → ((x : X) → f x ≡ g x) → sum_by f xs ≡ sum_by g xs
same_sum f g xs same = ap (λ h. sum_by h xs) (λ i x. same x i)

one_or_none : {X : Type 0} (b : Bool) (x : X) → length (cond b (x ∷ []) []) ≡ cond b 1 0
one_or_none true x = refl
one_or_none false x = refl

offer_counted : (head : ℕ) (entry : ℕ × Offered) → length (of_offer head entry) ≡ done_of entry
offer_counted head entry =
    length-flat_map (of_row (campaign_of head entry.0)) entry.1.rows
    ∙ same_sum (λ (row : Row). length (of_row (campaign_of head entry.0) row)) (λ (row : Row). cond (is_done (Some row.state)) 1 0) entry.1.rows
    (λ row. one_or_none (is_done (Some row.state)) (campaign_of head entry.0, row.meter))

book_counted : (book : Contents) → length (of_book book) ≡ done_in book
book_counted book =
    length-flat_map (of_offer book.head) book.campaigns
    ∙ same_sum (λ (entry : ℕ × Offered). length (of_offer book.head entry)) done_of book.campaigns (offer_counted book.head)

head_counted : (o : Option Head) → length (at_head o) ≡ option_map_or (λ (h : Head). done_in h.book) o 0
head_counted None = refl
head_counted (Some h) = book_counted h.book

pub counted : (setup : Setup) (s : State) → length (listed setup s) ≡ done_rows setup s
counted setup s =
    length-flat_map (of_head s) setup.heads.items
    ∙ same_sum (λ (head : HeadSetup). length (of_head s head)) (done_with s) setup.heads.items (λ head. head_counted (head_at s (number_of_head head)))

-- ---- which stand in it

record IsOfRow (a : Done) (campaign : Campaign) (row : Row) : Type 0 where
  done : is_done (Some row.state) ≡ true
  is : (campaign, row.meter) ≡ a

in_row : (a : Done) (campaign : Campaign) (row : Row) → In a (of_row campaign row) → IsOfRow a campaign row
in_row a campaign row = go (is_done (Some row.state)) refl
  where
    go : (b : Bool) → is_done (Some row.state) ≡ b → In a (cond b ((campaign, row.meter) ∷ []) []) → IsOfRow a campaign row
    go true done (inl same) = record { done = done; is = same }
    go true done (inr none) = absurd none
    go false live is = absurd is

row_in : (campaign : Campaign) (row : Row) → is_done (Some row.state) ≡ true → In (campaign, row.meter) (of_row campaign row)
row_in campaign row done = subst (λ b. In {X = Done} (campaign, row.meter) (cond b ((campaign, row.meter) ∷ []) [])) (sym done) (inl refl)

-- a row of the book that is done
record IsDoneIn (book : Contents) (campaign : Campaign) (meter : ℕ) : Type 0 where
  entry : ℕ × Offered
  row : Row
  has_entry : In entry book.campaigns
  has_row : In row entry.1.rows
  of : campaign ≡ campaign_of book.head entry.0
  is : meter ≡ row.meter
  done : is_done (Some row.state) ≡ true

from_book : (book : Contents) (campaign : Campaign) (meter : ℕ) → In (campaign, meter) (of_book book) → IsDoneIn book campaign meter
from_book book campaign meter is =
    let entry = from_joined (of_offer book.head) (campaign, meter) book.campaigns is in
    let at = campaign_of book.head entry.of.0 in
    let row = from_joined (of_row at) (campaign, meter) entry.of.1.rows entry.has in
    let found = in_row (campaign, meter) at row.of row.has in
    record {
      entry = entry.of;
      row = row.of;
      has_entry = entry.there;
      has_row = row.there;
      of = ap (λ (a : Done). a.0) (sym found.is);
      is = ap (λ (a : Done). a.1) (sym found.is);
      done = found.done;
    }

to_book : (book : Contents) (campaign : Campaign) (meter : ℕ) → IsDoneIn book campaign meter → In (campaign, meter) (of_book book)
to_book book campaign meter d =
    let at = campaign_of book.head d.entry.0 in
    let here : In (at, d.row.meter) (of_offer book.head d.entry) = in_joined (of_row at) d.row (at, d.row.meter) d.entry.1.rows d.has_row (row_in at d.row d.done) in
    let there : In (at, d.row.meter) (of_book book) = in_joined (of_offer book.head) d.entry (at, d.row.meter) book.campaigns d.has_entry here in
    subst (λ (a : Done). In a (of_book book)) (λ i. (sym d.of i, sym d.is i)) there

-- ---- a book whose serial numbers and meters stand once

pub record IsOnceBook (book : Contents) : Type 0 where
  pub serials : Once (map (λ (entry : ℕ × Offered). entry.0) book.campaigns)
  pub meters : (entry : ℕ × Offered) → In entry book.campaigns → Once (meters_of entry.1.rows)

abbrev state_at : ℕ → Option Offered → Option RowState
state_at meter o = option_and_then (λ (offer : Offered). state_of offer.rows meter) o

is_in_state : (book : Contents) (campaign : Campaign) (meter : ℕ) → IsOnceBook book → IsDoneIn book campaign meter → is_done (state_in book campaign meter) ≡ true
is_in_state book campaign meter once d =
    ap (λ c. is_done (state_in book c meter)) d.of ∙ ap (λ m. is_done (state_in book (campaign_of book.head d.entry.0) m)) d.is ∙ here
  where
    found : lookup (nat_eq d.entry.0) book.campaigns ≡ Some d.entry.1
    found = in_found d.entry.0 d.entry.1 book.campaigns once.serials d.has_entry

    searched : find (λ (row : Row). row.meter == d.row.meter) d.entry.1.rows ≡ Some d.row
    searched = in_search (λ (row : Row). row.meter) d.row d.entry.1.rows (once.meters d.entry d.has_entry) d.has_row

    here : is_done (state_in book (campaign_of book.head d.entry.0) d.row.meter) ≡ true
    here =
        ap (λ b. is_done (state_at d.row.meter (if b then lookup (nat_eq d.entry.0) book.campaigns else None))) ((Decides-eqb book.head book.head).1 refl)
        ∙ ap (λ o. is_done (state_at d.row.meter o)) found
        ∙ ap (λ (o : Option Row). is_done (option_map (λ (row : Row). row.state) o)) searched
        ∙ d.done

from_state : (book : Contents) (campaign : Campaign) (meter : ℕ) → is_done (state_in book campaign meter) ≡ true → IsDoneIn book campaign meter
from_state book campaign meter = of_head_end (campaign.head == book.head) refl
  where
    of_rows : (offer : Offered) (o : Option Row) → find (λ (row : Row). row.meter == meter) offer.rows ≡ o → campaign.head ≡ book.head → lookup (nat_eq campaign.serial) book.campaigns ≡ Some offer
        → is_done (option_map (λ (row : Row). row.state) o) ≡ true → IsDoneIn book campaign meter
    of_rows offer None none head there done = absurd cc
    of_rows offer (Some row) found head there done =
        let searched = search_in (λ (r : Row). r.meter) meter row offer.rows found in
        record {
          entry = (campaign.serial, offer);
          row = row;
          has_entry = found_in campaign.serial offer book.campaigns there;
          has_row = searched.there;
          of = λ i. record { head = head i; serial = campaign.serial };
          is = sym searched.is;
          done = done;
        }

    of_campaigns : (o : Option Offered) → lookup (nat_eq campaign.serial) book.campaigns ≡ o → campaign.head ≡ book.head → is_done (state_at meter o) ≡ true → IsDoneIn book campaign meter
    of_campaigns None none head done = absurd cc
    of_campaigns (Some offer) there head done = of_rows offer (find (λ (row : Row). row.meter == meter) offer.rows) refl head there done

    of_head_end : (b : Bool) → (campaign.head == book.head) ≡ b → is_done (state_at meter (if b then lookup (nat_eq campaign.serial) book.campaigns else None)) ≡ true → IsDoneIn book campaign meter
    of_head_end true own done = of_campaigns (lookup (nat_eq campaign.serial) book.campaigns) refl ((Decides-eqb campaign.head book.head).0 own) done
    of_head_end false foreign done = absurd cc

-- ---- a world of such books

pub record AreOnce (setup : Setup) (s : State) : Type 0 where
  pub own : (number : ℕ) (head : Head) → head_at s number ≡ Some head → head.book.head ≡ number
  pub once : (number : ℕ) (head : Head) → head_at s number ≡ Some head → IsOnceBook head.book
  pub there : (number : ℕ) (head : Head) → head_at s number ≡ Some head → In number (map number_of_head setup.heads.items)

-- a done row of a head end that is there
record IsDoneAt (s : State) (number : ℕ) (campaign : Campaign) (meter : ℕ) : Type 0 where
  head : Head
  found : head_at s number ≡ Some head
  done : IsDoneIn head.book campaign meter

from_head : (s : State) (number : ℕ) (campaign : Campaign) (meter : ℕ) → In (campaign, meter) (at_head (head_at s number)) → IsDoneAt s number campaign meter
from_head s number campaign meter = go (head_at s number) refl
  where
    go : (o : Option Head) → head_at s number ≡ o → In (campaign, meter) (at_head o) → IsDoneAt s number campaign meter
    go None none is = absurd is
    go (Some head) found is = record { head = head; found = found; done = from_book head.book campaign meter is }

-- its campaign is of this head end
own_number : (setup : Setup) (s : State) (number : ℕ) (campaign : Campaign) (meter : ℕ) → AreOnce setup s → IsDoneAt s number campaign meter → campaign.head ≡ number
own_number setup s number campaign meter are d = ap (λ (c : Campaign). c.head) d.done.of ∙ are.own number d.head d.found

pub from_list : (setup : Setup) (s : State) (campaign : Campaign) (meter : ℕ) → AreOnce setup s → In (campaign, meter) (listed setup s) → (world_of s).done campaign meter ≡ true
from_list setup s campaign meter are is =
    let from = from_joined (of_head s) (campaign, meter) setup.heads.items is in
    let number : ℕ = number_of_head from.of in
    let d = from_head s number campaign meter from.has in
    ap (λ n. done_at (head_at s n)) (own_number setup s number campaign meter are d) ∙ ap done_at d.found
    ∙ is_in_state d.head.book campaign meter (are.once number d.head d.found) d.done
  where
    done_at : Option Head → Bool
    done_at o = is_done (option_and_then (λ (head : Head). state_in head.book campaign meter) o)

pub to_list : (setup : Setup) (s : State) (campaign : Campaign) (meter : ℕ) → AreOnce setup s → (world_of s).done campaign meter ≡ true → In (campaign, meter) (listed setup s)
to_list setup s campaign meter are = go (head_at s campaign.head) refl
  where
    go : (o : Option Head) → head_at s campaign.head ≡ o → is_done (option_and_then (λ (head : Head). state_in head.book campaign meter) o) ≡ true → In (campaign, meter) (listed setup s)
    go None none done = absurd cc
    go (Some head) found done =
        let of = from_map number_of_head campaign.head setup.heads.items (are.there campaign.head head found) in
        let here : In (campaign, meter) (at_head (Some head)) = to_book head.book campaign meter (from_state head.book campaign meter done) in
        let there : In (campaign, meter) (of_head s of.of) = subst (λ (o : Option Head). In (campaign, meter) (at_head o)) (sym (ap (λ n. head_at s n) of.is ∙ found)) here in
        in_joined (of_head s) of.of (campaign, meter) setup.heads.items of.there there

-- ---- none stands twice

row_once : (campaign : Campaign) (row : Row) → Once (of_row campaign row)
row_once campaign row = go (is_done (Some row.state))
  where
    go : (b : Bool) → Once {X = Done} (cond b ((campaign, row.meter) ∷ []) [])
    go true = ((λ none. none), tt)
    go false = tt

offer_once : (head : ℕ) (entry : ℕ × Offered) → Once (meters_of entry.1.rows) → Once (of_offer head entry)
offer_once head entry once =
    let at = campaign_of head entry.0 in
    once_joined (of_row at) (λ (row : Row). row.meter) (λ (a : Done). a.1) entry.1.rows once (λ row there. row_once at row)
    (λ row a there is. ap (λ (b : Done). b.1) (sym (in_row a at row is).is))

book_once : (book : Contents) → IsOnceBook book → Once (of_book book)
book_once book once =
    once_joined (of_offer book.head) (λ (entry : ℕ × Offered). entry.0) (λ (a : Done). a.0.serial) book.campaigns once.serials
    (λ entry there. offer_once book.head entry (once.meters entry there))
    (λ entry a there is.
    let at = campaign_of book.head entry.0 in
    let row = from_joined (of_row at) a entry.1.rows is in
    ap (λ (b : Done). b.0.serial) (sym (in_row a at row.of row.has).is))

pub listed_once : (setup : Setup) (s : State) → Once (map number_of_head setup.heads.items) → AreOnce setup s → Once (listed setup s)
listed_once setup s heads are =
    once_joined (of_head s) number_of_head (λ (a : Done). a.0.head) setup.heads.items heads
    (λ head there. go (number_of_head head) (head_at s (number_of_head head)) refl)
    (λ head a there is. own_number setup s (number_of_head head) a.0 a.1 are (from_head s (number_of_head head) a.0 a.1 is))
  where
    go : (number : ℕ) (o : Option Head) → head_at s number ≡ o → Once (at_head o)
    go number None none = tt
    go number (Some head) found = book_once head.book (are.once number head found)
