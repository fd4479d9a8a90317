-- Meters are marked as done, each by a datagram that was sent.
use Rattle.std.proofs.Common.{◌≡◌, ◌↔◌, ◌⊎◌, ℕ, nat_eq, Bool, true, false, cond, List, [], ◌∷◌, Some, slice_get, inl, inr, refl, sym, ap, subst, ◌∙◌, ⊎_elim, eqb-true}
use Rattle.std.specs.Prelude.{Contains}
use Rattle.std.proofs.lemmas.Bool.{false≢true}
use Rattle.fw_axdr.specs.Value.{octet_string}
use Rattle.fw_names.specs.Name.{Campaign, SpellsName, name_of}
use Rattle.fw_apdu.specs.Response.{get_response, value}
use Rattle.fw_client.specs.Hearing.{CarriesResponse}
use Rattle.fw_world.specs.declared.datagram.Direction.TheVariants.{ToHead}
use Rattle.fw_world.specs.World.{Datagram, Offers, World, put, same_campaign, with_done}
use Rattle.fw_world.specs.Step.{Event, Run, WorldStep, deliver}
use Rattle.fw_runs_told.proofs.Lists.{first_in, in_cases, in_rest, none_in}
use Rattle.fw_runs_told.proofs.Rows.{Pairs}
use Rattle.fw_runs_told.proofs.Worlds.{campaign_itself, itself, same_campaign_is}

abbrev pub Done : Type 0
Done = Campaign → ℕ → Bool

abbrev marked : Done → Campaign → ℕ → Done
marked done key number = put same_campaign done key (put nat_eq (done key) number true)

-- ---- a mark

mark_own : (done : Done) (key : Campaign) (number : ℕ) → marked done key number key number ≡ true
mark_own done key number = campaigns (same_campaign key key) (campaign_itself key)
  where
    meters : (x : Bool) → x ≡ true → cond x true (done key number) ≡ true
    meters true is = refl
    meters false is = absurd (false≢true is)

    campaigns : (x : Bool) → x ≡ true → cond x (put nat_eq (done key) number true) (done key) number ≡ true
    campaigns true is = meters (nat_eq number number) (itself number)
    campaigns false is = absurd (false≢true is)

mark_keeps : (done : Done) (key : Campaign) (number : ℕ) (c : Campaign) (m : ℕ) → done c m ≡ true → marked done key number c m ≡ true
mark_keeps done key number c m had = campaigns (same_campaign c key) refl
  where
    meters : (x : Bool) → c ≡ key → cond x true (done key m) ≡ true
    meters true same = refl
    meters false same = ap (λ k. done k m) (sym same) ∙ had

    campaigns : (x : Bool) → same_campaign c key ≡ x → cond x (put nat_eq (done key) number true) (done c) m ≡ true
    campaigns true is = meters (nat_eq m number) (same_campaign_is c key is)
    campaigns false is = had

mark_cases : (done : Done) (key : Campaign) (number : ℕ) (c : Campaign) (m : ℕ) → marked done key number c m ≡ true → (done c m ≡ true) ⊎ ((key ≡ c) × (number ≡ m))
mark_cases done key number c m e = campaigns (same_campaign c key) refl e
  where
    meters : (x : Bool) → nat_eq m number ≡ x → c ≡ key → cond x true (done key m) ≡ true → (done c m ≡ true) ⊎ ((key ≡ c) × (number ≡ m))
    meters true is same found = inr (sym same, sym (eqb-true m number is))
    meters false is same found = inl (ap (λ k. done k m) same ∙ found)

    campaigns : (x : Bool) → same_campaign c key ≡ x → cond x (put nat_eq (done key) number true) (done c) m ≡ true → (done c m ≡ true) ⊎ ((key ≡ c) × (number ≡ m))
    campaigns true is found = meters (nat_eq m number) refl (same_campaign_is c key is) found
    campaigns false is found = inl found

-- ---- marks

-- an answer of a meter, on its link with a head end
abbrev pub answer_of : ℕ → ℕ → List ℕ → Datagram
answer_of head meter bytes = record { head = head; meter = meter; direction = ToHead; bytes = bytes }

-- a datagram was sent on which the meter may be marked as done in the campaign
pub record MayMark (offered : Offers) (sent : List Datagram) (campaign : Campaign) (meter : ℕ) : Type 0 where
  pub datagram : List ℕ
  pub number : ℕ
  pub there : slice_get sent number ≡ Some (answer_of campaign.head meter datagram)
  pub release : ℕ
  pub image : List ℕ
  pub offers : offered campaign ≡ Some image
  pub invoke : ℕ
  pub bytes : List ℕ
  pub carries : CarriesResponse datagram invoke (get_response (value (octet_string bytes)))
  pub spells : SpellsName bytes (name_of campaign release image)

mark_step : (w : World) (campaign : Campaign) (meter : ℕ) (may : MayMark w.offered w.sent campaign meter) → WorldStep w (deliver may.number) (with_done w campaign meter)
mark_step w campaign meter may = (
  answer_of campaign.head meter may.datagram,
  may.there,
  inr (record {
    campaign = campaign;
    release = may.release;
    image = may.image;
    invoke = may.invoke;
    bytes = may.bytes;
    own = refl;
    offers = may.offers;
    carries = may.carries;
    spells = may.spells;
    new_is = refl;
  }),
)

-- the same world, with these marks
abbrev pub with_marks : World → Done → World
with_marks w done = (let x : World = record w { done = done } in x)

-- Events mark these meters, and no other.
pub record Marks (w : World) (pairs : Pairs) : Type 0 where
  pub events : List Event
  pub done : Done
  pub run : Run w events (with_marks w done)
  pub are : (campaign : Campaign) (meter : ℕ) → (done campaign meter ≡ true) ↔ ((w.done campaign meter ≡ true) ⊎ Contains pairs (campaign, meter))

same_pair : (a b : Campaign) (m n : ℕ) → a ≡ b → m ≡ n → (let p : Campaign × ℕ = (a, m) in p) ≡ (b, n)
same_pair a b m n same also = λ i. (same i, also i)

first_pair : (pairs : Pairs) (pair : Campaign × ℕ) (campaign : Campaign) (meter : ℕ) → pair.0 ≡ campaign → pair.1 ≡ meter → Contains (pair ∷ pairs) (campaign, meter)
first_pair pairs pair campaign meter same also =
    subst (λ (p : Campaign × ℕ). Contains (pair ∷ pairs) p) (same_pair pair.0 campaign pair.1 meter same also) (first_in pair pairs)

pub mark_all : (pairs : Pairs) (w : World) → ((campaign : Campaign) (meter : ℕ) → Contains pairs (campaign, meter) → MayMark w.offered w.sent campaign meter) → Marks w pairs
mark_all [] w may = record {
  events = [];
  done = w.done;
  run = refl;
  are = λ campaign meter. (
    λ (e : w.done campaign meter ≡ true). inl e,
    λ (h : (w.done campaign meter ≡ true) ⊎ Contains [] (campaign, meter)). ⊎_elim (λ (e : w.done campaign meter ≡ true). e)
        (λ (c : Contains [] (campaign, meter)). absurd (none_in (campaign, meter) c)) h,
  );
}
mark_all (pair ∷ pairs) w may =
    let one : MayMark w.offered w.sent pair.0 pair.1 = may pair.0 pair.1 (first_in pair pairs) in
    let mid : World = with_done w pair.0 pair.1 in
    let rest = mark_all pairs mid (λ campaign meter c. may campaign meter (in_rest pair (campaign, meter) pairs c)) in
    record {
      events = deliver one.number ∷ rest.events;
      done = rest.done;
      run = (mid, mark_step w pair.0 pair.1 one, rest.run);
      are = λ campaign meter. (
        λ (e : rest.done campaign meter ≡ true). marked_so w pair pairs campaign meter ((rest.are campaign meter).0 e),
        λ (h : (w.done campaign meter ≡ true) ⊎ Contains (pair ∷ pairs) (campaign, meter)). (rest.are campaign meter).1 (so_marked w pair pairs campaign meter h),
      );
    }
  where
    marked_so : (w : World) (pair : Campaign × ℕ) (pairs : Pairs) (campaign : Campaign) (meter : ℕ)
        → (marked w.done pair.0 pair.1 campaign meter ≡ true) ⊎ Contains pairs (campaign, meter) → (w.done campaign meter ≡ true) ⊎ Contains (pair ∷ pairs) (campaign, meter)
    marked_so w pair pairs campaign meter (inr c) = inr (in_rest pair (campaign, meter) pairs c)
    marked_so w pair pairs campaign meter (inl e) =
        ⊎_elim (λ (had : w.done campaign meter ≡ true). inl had)
        (λ (now : (pair.0 ≡ campaign) × (pair.1 ≡ meter)). inr (first_pair pairs pair campaign meter now.0 now.1))
        (mark_cases w.done pair.0 pair.1 campaign meter e)

    so_marked : (w : World) (pair : Campaign × ℕ) (pairs : Pairs) (campaign : Campaign) (meter : ℕ)
        → (w.done campaign meter ≡ true) ⊎ Contains (pair ∷ pairs) (campaign, meter) → (marked w.done pair.0 pair.1 campaign meter ≡ true) ⊎ Contains pairs (campaign, meter)
    so_marked w pair pairs campaign meter (inl had) = inl (mark_keeps w.done pair.0 pair.1 campaign meter had)
    so_marked w pair pairs campaign meter (inr c) =
        ⊎_elim
        (λ (same : pair ≡ (campaign, meter)). inl (subst (λ (p : Campaign × ℕ). marked w.done pair.0 pair.1 p.0 p.1 ≡ true) same (mark_own w.done pair.0 pair.1)))
        (λ (later : Contains pairs (campaign, meter)). inr later)
        (in_cases pair (campaign, meter) pairs c)
