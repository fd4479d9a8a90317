-- Along an order of all items: each is made in the world, one after the other.
use Rattle.std.proofs.Common.{◌≡◌, ◌≢◌, ◌++◌, ◌⊎◌, ℕ, List, [], ◌∷◌, Option, Some, None, slice_get, refl, sym, ap, subst, ◌∙◌, ⊎_elim, append_assoc, append-nil}
use Rattle.std.specs.Prelude.{Contains}
use Rattle.std.specs.declared.net.socket_addr.SocketAddr.{SocketAddr}
use Rattle.std.proofs.lemmas.Bool.{cases_eq, ne_eqb}
use Rattle.std.proofs.lemmas.List.Elements.{All-contains}
use Rattle.fw_names.specs.Name.{Campaign}
use Rattle.fw_image.specs.Meter.{Meter}
use Rattle.fw_audit.specs.Log.{Item, came, sent}
use Rattle.fw_audit.specs.Stands.{MayAsk}
use Rattle.fw_fleet_audit.specs.Laws.{image_by}
use Rattle.fw_head_audit.specs.Heads.{IsOrderly}
use Rattle.fw_head_audit.specs.Laws.{OfferedInBook}
use Rattle.fw_order.specs.Order.{End, HasSent, IsCausal, IsExplained, IsOrder, Step, address_of, items_of, log_at}
use Rattle.fw_world.specs.World.{Activation, Datagram, Offers, World}
use Rattle.fw_runs_told.specs.Fleet.{Fleet, HeadEnd, IsAudited, IsHeadSound, IsMeterSound, IsNumber, MeterEnd, book_of_head, books_in, end_of_meter, ends_in}
use Rattle.fw_runs_told.specs.Runs.{switches_of, to_head, to_meter}
use Rattle.fw_runs_told.proofs.Ends.{head_is_end, head_log, head_no_meter, IsHead, IsMeter, meter_address, meter_below, meter_end, meter_no_head, no_address, one_head, one_meter, other_number, place, same_head, same_meter, who}
use Rattle.fw_runs_told.proofs.HeadSteps.{Asks, asks_so}
use Rattle.fw_runs_told.proofs.Lists.{got_in, map_in, never_some, same_some}
use Rattle.fw_runs_told.proofs.MeterSteps.{Goes, IsBrought, Stands, goes, stands_on}
use Rattle.fw_runs_told.proofs.Orders.{item_there, items_other, items_own, sent_cases}
use Rattle.fw_runs_told.proofs.Worlds.{Led, led_append, led_none}

-- each datagram that an end sent to another one in these steps was sent in the world
pub record Knows (fleet : Fleet) (steps : List Step) (w : World) : Type 0 where
  pub by_heads : (head : HeadEnd) (meter : MeterEnd) (bytes : List ℕ) → Contains fleet.heads head → Contains fleet.meters meter
      → HasSent (ends_in fleet) steps head.at meter.at bytes → Contains w.sent (to_meter head meter bytes)
  pub by_meters : (head : HeadEnd) (meter : MeterEnd) (bytes : List ℕ) → Contains fleet.heads head → Contains fleet.meters meter
      → HasSent (ends_in fleet) steps meter.at head.at bytes → Contains w.sent (to_head head meter bytes)

-- each meter stands where the rest of its log begins
abbrev pub AllStand : Fleet → List Step → World → Type 0
AllStand fleet rest w = (number : ℕ) (meter : MeterEnd) → slice_get fleet.meters number ≡ Some meter → Stands fleet w meter (items_of rest number)

-- An order has come so far in the world.
pub record IsCome (fleet : Fleet) (before after : List Step) (w : World) : Type 0 where
  pub offered : (campaign : Campaign) → w.offered campaign ≡ image_by (books_in fleet) campaign
  pub knows : Knows fleet before w
  pub stands : AllStand fleet after w
  pub others : (a : Activation) → Contains w.activations a → IsNumber fleet a.meter

-- and has come on by a step
pub record ComesOn (fleet : Fleet) (before : List Step) (step : Step) (after : List Step) (old : World) : Type 0 where
  pub new : World
  pub led : Led old new
  pub come : IsCome fleet (before ++ step ∷ []) after new

pub record ComesTo (fleet : Fleet) (order : List Step) (old : World) : Type 0 where
  pub new : World
  pub led : Led old new
  pub come : IsCome fleet order [] new

module _ (fleet : Fleet) (law : OfferedInBook) (is : IsAudited fleet) (order : List Step) (whole : IsOrder (ends_in fleet) order) (causal : IsCausal (ends_in fleet) order) where
  abbrev ends : List End
  ends = ends_in fleet

  -- ---- what was sent

  -- what a step sends was sent in the world, by a head end to a meter, or by a meter to a head end
  abbrev AsksOn : Step → World → Type 0
  AsksOn step new =
      (head : HeadEnd) (meter : MeterEnd) (bytes : List ℕ) → Contains fleet.heads head → Contains fleet.meters meter → address_of ends step.end ≡ Some head.at → step.item ≡ sent meter.at bytes
      → Contains new.sent (to_meter head meter bytes)

  abbrev AnswersOn : Step → World → Type 0
  AnswersOn step new =
      (head : HeadEnd) (meter : MeterEnd) (bytes : List ℕ) → Contains fleet.heads head → Contains fleet.meters meter → address_of ends step.end ≡ Some meter.at → step.item ≡ sent head.at bytes
      → Contains new.sent (to_head head meter bytes)

  knows_on : (before : List Step) (step : Step) (old new : World) → ((d : Datagram) → Contains old.sent d → Contains new.sent d) → Knows fleet before old → AsksOn step new → AnswersOn step new
      → Knows fleet (before ++ step ∷ []) new
  knows_on before step old new grows knows asks answers = record {
    by_heads = λ head meter bytes of_heads of_meters h.
        ⊎_elim (λ (early : HasSent ends before head.at meter.at bytes). grows (to_meter head meter bytes) (knows.by_heads head meter bytes of_heads of_meters early))
        (λ (late : (address_of ends step.end ≡ Some head.at) × (step.item ≡ sent meter.at bytes)). asks head meter bytes of_heads of_meters late.0 late.1)
        (sent_cases ends head.at meter.at bytes before step h);
    by_meters = λ head meter bytes of_heads of_meters h.
        ⊎_elim (λ (early : HasSent ends before meter.at head.at bytes). grows (to_head head meter bytes) (knows.by_meters head meter bytes of_heads of_meters early))
        (λ (late : (address_of ends step.end ≡ Some meter.at) × (step.item ≡ sent head.at bytes)). answers head meter bytes of_heads of_meters late.0 late.1)
        (sent_cases ends meter.at head.at bytes before step h);
  }

  -- ---- meters that do nothing in a step

  stands_still : (step : Step) (after : List Step) (old new : World) (number : ℕ) (meter : MeterEnd) → step.end ≢ number
      → new.meters meter.told.meter ≡ old.meters meter.told.meter → switches_of new.activations meter.told.meter ≡ switches_of old.activations meter.told.meter
      → ((d : Datagram) → Contains old.sent d → Contains new.sent d) → Stands fleet old meter (items_of (step ∷ after) number) → Stands fleet new meter (items_of after number)
  stands_still step after old new number meter apart same switches grows stands =
      stands_on fleet old new meter (items_of after number) same switches grows
      (subst (λ (l : List Item). Stands fleet old meter l) (items_other step after number (ne_eqb step.end number apart)) stands)

  -- ---- a step of a meter

  brought : (before : List Step) (step : Step) (old : World) (meter : MeterEnd) → slice_get fleet.meters step.end ≡ Some meter → Knows fleet before old → IsExplained ends before step
      → (from : SocketAddr) (datagram : List ℕ) → step.item ≡ came from datagram → MayAsk meter.told.heads from → IsBrought fleet old meter from datagram
  brought before step old meter there knows explained from datagram comes may =
      let of_meters : Contains fleet.meters meter = got_in fleet.meters step.end meter there in
      let asker = (All-contains (IsMeterSound fleet) fleet.meters meter is.meters of_meters).asked from may in
      let head : HeadEnd = asker.0 in
      let inside : Contains fleet.heads head = asker.1 in
      let own : head.at ≡ from = asker.2 in
      let item : step.item ≡ came head.at datagram = comes ∙ ap (λ (a : SocketAddr). came a datagram) (sym own) in
      (head, inside, (own, knows.by_heads head meter datagram inside of_meters (explained head.at meter.at datagram item (meter_address fleet step.end meter there) (head_is_end fleet head inside))))

  meter_comes : (before : List Step) (step : Step) (after : List Step) (old : World) (meter : MeterEnd) → slice_get fleet.meters step.end ≡ Some meter → IsExplained ends before step
      → IsCome fleet before (step ∷ after) old → ComesOn fleet before step after old
  meter_comes before step after old meter there explained come =
      let of_meters : Contains fleet.meters meter = got_in fleet.meters step.end meter there in
      let stands : Stands fleet old meter (step.item ∷ items_of after step.end) =
      subst (λ (l : List Item). Stands fleet old meter l) (items_own step after step.end refl) (come.stands step.end meter there) in
      let g : Goes fleet old meter step.item (items_of after step.end) =
      goes fleet old meter (items_of after step.end) step.item (brought before step old meter there come.knows explained) stands in
      record {
        new = g.new;
        led = g.led;
        come = record {
          offered = λ campaign. ap (λ (o : Offers). o campaign) g.led.offered ∙ come.offered campaign;
          knows = knows_on before step old g.new g.led.grows come.knows
              (λ head other bytes of_heads among own e. absurd (meter_no_head fleet is.addresses step.end meter head there of_heads own))
              (λ head other bytes of_heads among own e.
              let one : meter ≡ other = same_meter fleet is.addresses step.end meter other there among own in
              let sends = g.sends head.at bytes e in
              let same : sends.0 ≡ head = one_head fleet is.addresses sends.0 head sends.1 of_heads sends.2.0 in
              subst (λ (m : MeterEnd). Contains g.new.sent (to_head head m bytes)) one
              (subst (λ (h : HeadEnd). Contains g.new.sent (to_head h meter bytes)) same sends.2.1));
          stands = λ number other at. ⊎_elim
              (λ (same : step.end ≡ number).
              let one : meter ≡ other = same_some meter other (sym there ∙ ap (λ (n : ℕ). slice_get fleet.meters n) same ∙ at) in
              subst (λ (m : MeterEnd). Stands fleet g.new m (items_of after number)) one
              (subst (λ (n : ℕ). Stands fleet g.new meter (items_of after n)) same g.stands))
              (λ (apart : step.end ≡ number → ⊥).
              let differ : other.told.meter ≢ meter.told.meter = other_number fleet is.numbers number step.end other meter at there (λ (e : number ≡ step.end). apart (sym e)) in
              stands_still step after old g.new number other apart (g.others other.told.meter differ) (g.switches other.told.meter differ) g.led.grows (come.stands number other at))
              (cases_eq step.end number);
          others = λ a c. ⊎_elim (λ (early : Contains old.activations a). come.others a early)
              (λ (own : a.meter ≡ meter.told.meter). (meter, of_meters, sym own)) (g.own a c);
        };
      }

  -- ---- a step of a head end

  head_item : (before : List Step) (step : Step) (after : List Step) (k : ℕ) (head : HeadEnd) → order ≡ before ++ step ∷ after → step.end ≡ place fleet k → slice_get fleet.heads k ≡ Some head
      → Contains head.log step.item
  head_item before step after k head split own there =
      let c : Contains (items_of order step.end) step.item = subst (λ (o : List Step). Contains (items_of o step.end) step.item) (sym split) (item_there before after step) in
      subst (λ (l : List Item). Contains l step.item) (whole step.end ∙ ap (log_at ends) own ∙ head_log fleet k head there) c

  head_comes : (before : List Step) (step : Step) (after : List Step) (old : World) (k : ℕ) (head : HeadEnd) → order ≡ before ++ step ∷ after → step.end ≡ place fleet k
      → slice_get fleet.heads k ≡ Some head → IsCome fleet before (step ∷ after) old → ComesOn fleet before step after old
  head_comes before step after old k head split own there come =
      let of_heads : Contains fleet.heads head = got_in fleet.heads k head there in
      let sound : IsHeadSound fleet head = All-contains (IsHeadSound fleet) fleet.heads head is.heads of_heads in
      let orderly : IsOrderly head.book head.asked step.item =
      All-contains (IsOrderly head.book head.asked) head.log step.item sound.log.sends (head_item before step after k head split own there) in
      let a : Asks fleet old head step.item =
      asks_so fleet law is.books old come.offered head (map_in book_of_head fleet.heads head of_heads) step.item sound.asks orderly in
      record {
        new = a.new;
        led = a.led;
        come = record {
          offered = λ campaign. ap (λ (o : Offers). o campaign) a.led.offered ∙ come.offered campaign;
          knows = knows_on before step old a.new a.led.grows come.knows
              (λ other meter bytes among of_meters at e.
              let one : head ≡ other = same_head fleet is.addresses k head other there among (ap (address_of ends) (sym own) ∙ at) in
              let sends = a.sends meter.at bytes e in
              let same : sends.0 ≡ meter = one_meter fleet is.addresses sends.0 meter sends.1 of_meters sends.2.0 in
              subst (λ (h : HeadEnd). Contains a.new.sent (to_meter h meter bytes)) one
              (subst (λ (m : MeterEnd). Contains a.new.sent (to_meter head m bytes)) same sends.2.1))
              (λ other meter bytes among of_meters at e. absurd (head_no_meter fleet is.addresses k meter of_meters (ap (address_of ends) (sym own) ∙ at)));
          stands = λ number meter at.
              let apart : step.end ≢ number = λ (e : step.end ≡ number). meter_below fleet number k meter at (sym e ∙ own) in
              stands_still step after old a.new number meter apart (ap (λ (f : ℕ → Option Meter). f meter.told.meter) a.meters)
              (ap (λ (l : List Activation). switches_of l meter.told.meter) a.activations) a.led.grows (come.stands number meter at);
          others = λ x c. come.others x (subst (λ (l : List Activation). Contains l x) a.activations c);
        };
      }

  -- ---- a step of nobody

  no_meter : (step : Step) (number : ℕ) (meter : MeterEnd) → slice_get ends step.end ≡ None → slice_get fleet.meters number ≡ Some meter → step.end ≢ number
  no_meter step number meter none at e = never_some (end_of_meter meter) (slice_get ends step.end) none (ap (slice_get ends) e ∙ meter_end fleet number meter at)

  nobody_comes : (before : List Step) (step : Step) (after : List Step) (old : World) → slice_get ends step.end ≡ None → IsCome fleet before (step ∷ after) old → ComesOn fleet before step after old
  nobody_comes before step after old none come = record {
    new = old;
    led = led_none old;
    come = record {
      offered = come.offered;
      knows = knows_on before step old old (λ d c. c) come.knows (λ head meter bytes of_heads of_meters own e. absurd (no_address fleet step.end head.at none own))
          (λ head meter bytes of_heads of_meters own e. absurd (no_address fleet step.end meter.at none own));
      stands = λ number meter at. stands_still step after old old number meter (no_meter step number meter none at) refl refl (λ d c. c) (come.stands number meter at);
      others = come.others;
    };
  }

  -- ---- all steps

  step_comes : (before : List Step) (step : Step) (after : List Step) (old : World) → order ≡ before ++ step ∷ after → IsCome fleet before (step ∷ after) old → ComesOn fleet before step after old
  step_comes before step after old split come =
      ⊎_elim (λ (none : slice_get ends step.end ≡ None). nobody_comes before step after old none come)
      (λ (one : IsMeter fleet step.end ⊎ IsHead fleet step.end). ⊎_elim
      (λ (m : IsMeter fleet step.end). meter_comes before step after old m.0 m.1 (causal before after step split) come)
      (λ (h : IsHead fleet step.end). head_comes before step after old h.0 h.1 split h.2 h.3 come) one)
      (who fleet step.end)

  pub along : (after before : List Step) (old : World) → order ≡ before ++ after → IsCome fleet before after old → ComesTo fleet order old
  along [] before old split come = record {
    new = old;
    led = led_none old;
    come = subst (λ (o : List Step). IsCome fleet o [] old) (sym (split ∙ append-nil before)) come;
  }
  along (step ∷ after) before old split come =
      let one = step_comes before step after old split come in
      let rest = along after (before ++ step ∷ []) one.new (split ∙ sym (append_assoc before (step ∷ []) after)) one.come in
      record { new = rest.new; led = led_append old one.new rest.new one.led rest.led; come = rest.come }
