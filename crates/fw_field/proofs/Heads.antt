-- The moves of head ends.
use Rattle.std.proofs.Common.{◌≡◌, ℕ, nat_eq, true, false, ◌&&◌, cond, ◌⊎◌, inl, inr, ⊎_elim, List, [], ◌∷◌, ◌++◌, Option, Some, None, option_map, option_and_then, slice_get, Contains, refl, sym, ap, subst, ◌∙◌, eqb-true, append-nil}
use Rattle.std.specs.Map.{lookup}
use Rattle.std.proofs.lemmas.Bool.{cases_Bool, cond-false}
use Rattle.std.proofs.lemmas.List.Elements.{All-nil, All-cons, Contains-push_cases}
use Rattle.std.specs.declared.net.socket_addr.SocketAddr.{SocketAddr}
use Rattle.fw_names.specs.Name.{Campaign, IsRelease, name_of}
use Rattle.fw_client.specs.Ask.{Ask, block_size, first_missing, blocks, status, info, active_name, enable, initiate, block, verify, activate}
use Rattle.fw_client.specs.State.{invoke_byte}
use Rattle.fw_book.specs.declared.row.RowState.{RowState}
use Rattle.fw_book.specs.declared.row.RowState.TheVariants as states
use Rattle.fw_book.specs.Rows.{state_of}
use Rattle.fw_book.specs.Contents.{Contents, Offered, image_in, state_in}
use Rattle.fw_book.specs.Changes.{marked}
use Rattle.fw_book.specs.Laws.{ImagesStay, StatesFollowCalls}
use Rattle.fw_ledger.specs.declared.record.Ending.{Ending}
use Rattle.fw_ledger.specs.declared.record.Ending.TheVariants.{Done as IsDone}
use Rattle.fw_head.specs.declared.news.News.{News}
use Rattle.fw_head.specs.declared.news.RowNews.{RowNews}
use Rattle.fw_head.specs.declared.news.RowNews.TheVariants as by
use Rattle.fw_head.specs.Row.{MaySend, Row}
use Rattle.fw_head.specs.Head.{AreRowsOf, Head, HeadHears, IsHead, IsOfferedIn, cancelled_head, opened_head, went_on}
use Rattle.fw_head.specs.Laws.{HeadsStay, ReportedByClaim}
use Rattle.fw_rollout.specs.Leading.{Leader, Step, hears, idles, ticks, sends, saves, tells, Steps, HearsMeter, state_after}
use Rattle.fw_rollout.specs.declared.ended.Ended.{Ended}
use Rattle.fw_rollout.specs.declared.link.Listed.{Listed}
use Rattle.fw_rollout.specs.Plans.{with_meters}
use Rattle.fw_world.specs.Laws.{StateStepsAsWorld}
use Rattle.fw_world.specs.State.{is_done}
use Rattle.fw_world.specs.Step as worlds
use Rattle.fw_world.specs.Step.{Event, MayAsk, Permits, deliver, restart_head, tick}
use Rattle.fw_world.specs.World.{Datagram, Offers, World, same_campaign, with_done, with_offer}
use Rattle.fw_field.specs.Field.{Field}
use Rattle.fw_field.specs.Moves.{AsksOthers, CancelsAt, Comes, GivesRowUp, GoesOut, HeadIsKilledAt, OpensAt, StepsAt, WasAnswered, to_head, to_meter, told_by}
use Rattle.fw_field.proofs.Maps.{itself, mark_follows, mark_keeps, none_some, number_of}
use Rattle.fw_field.proofs.Mini.{Marked, Opened, Same, cancelling, hearing, mark_of, marks_in, opening, same_book}
use Rattle.fw_field.proofs.GivenUp.{giving_up}
use Rattle.fw_field.proofs.Following.{Follows, Goes, IsKept, IsSound, Saves, Simulates, done_of, head_moves, head_sound, next_head, offered_of}

-- ---- only a campaign of the book's head end has an image or a state

of_head : {X : Type 0} (f : Option Offered → Option X) (x : X) (book : Contents) (c : Campaign) → f None ≡ None
    → f (cond (nat_eq c.head book.head) (lookup (nat_eq c.serial) book.campaigns) None) ≡ Some x → c.head ≡ book.head
of_head f x book c none found =
    ⊎_elim
    (λ here. eqb-true c.head book.head here)
    (λ away. absurd (none_some x (sym none ∙ ap f (sym (cond-false (nat_eq c.head book.head) (lookup (nat_eq c.serial) book.campaigns) None away)) ∙ found)))
    (cases_Bool (nat_eq c.head book.head))

image_of_head : (book : Contents) (c : Campaign) (image : List ℕ) → image_in book c ≡ Some image → c.head ≡ book.head
image_of_head book c image found = of_head (λ o. option_map (λ (offer : Offered). offer.image) o) image book c refl found

state_of_head : (book : Contents) (c : Campaign) (m : ℕ) (s : RowState) → state_in book c m ≡ Some s → c.head ≡ book.head
state_of_head book c m s found = of_head (λ o. option_and_then (λ (offer : Offered). state_of offer.rows m) o) s book c refl found

-- what a head end hears keeps its number
went_head : (a : Head) (meter : ℕ) (row : Row) (heard : RowNews) → (went_on a meter row heard).book.head ≡ a.book.head
went_head a meter row by.Nothing = refl
went_head a meter row by.Moved = refl
went_head a meter row (by.Done claim) = refl
went_head a meter row (by.Failed why) = refl

heard_head : (a b : Head) (meter : ℕ) (datagram : List ℕ) (told : News) → HeadHears a meter datagram told b → b.book.head ≡ a.book.head
heard_head a b meter datagram told (inl takes) = ap (λ (h : Head). h.book.head) takes.new_is ∙ went_head a meter takes.next takes.heard
heard_head a b meter datagram told (inr ignores) = ap (λ (h : Head). h.book.head) ignores.2

-- ---- asks

may_ask : (offered : Offers) (head : ℕ) (campaign : Campaign) (release : ℕ) (image : List ℕ) → campaign.head ≡ head → IsRelease campaign release → offered campaign ≡ Some image → (asked : Ask)
    → MaySend (name_of campaign release image) image asked → MayAsk offered head asked
may_ask offered head campaign release image own is offers block_size may = tt
may_ask offered head campaign release image own is offers first_missing may = tt
may_ask offered head campaign release image own is offers blocks may = tt
may_ask offered head campaign release image own is offers status may = tt
may_ask offered head campaign release image own is offers info may = tt
may_ask offered head campaign release image own is offers active_name may = tt
may_ask offered head campaign release image own is offers enable may = tt
may_ask offered head campaign release image own is offers (initiate name size) may = record { campaign = campaign; release = release; image = image; own = own; is_release = is; offers = offers; may = may }
may_ask offered head campaign release image own is offers (block number value) may = record { campaign = campaign; release = release; image = image; own = own; is_release = is; offers = offers; may = may }
may_ask offered head campaign release image own is offers verify may = tt
may_ask offered head campaign release image own is offers activate may = tt

-- ---- a step of a head end

-- what becomes of its books
record Grows (number : ℕ) (before after : Leader) : Type 0 where
  pub kept : IsKept number after.head.book after.synced
  pub saves : Saves number before.synced after.synced

grows_by : (number : ℕ) (before after : Leader) → IsKept number before.head.book before.synced → after.head.book ≡ before.head.book → after.synced ≡ before.synced → Grows number before after
grows_by number before after kept book synced = record {
  kept = subst (λ (b : Contents). IsKept number b after.synced) (sym book) (subst (λ (x : Contents). IsKept number before.head.book x) (sym synced) kept);
  saves = λ c m is e. ap (λ (x : Contents). is_done (state_in x c m)) synced ∙ e;
}

module _ (old : Field) (w : World) (number : ℕ) (s : Simulates old w) (sound : IsSound old) (before after : Leader) (there : old.heads number ≡ Some before) where
  is_head : IsHead before.head
  is_head = sound.rows number before there

  same_head : after.head ≡ before.head → IsHead after.head
  same_head same = subst (λ (h : Head). IsHead h) (sym same) is_head

  kept_before : IsKept number before.head.book before.synced
  kept_before = sound.heads number before there

  -- the book offers the same, and no row more is done
  stays : (sent : List Datagram) (told : List Ended) → w.sent ≡ sent → Same number before.head after.head → Simulates (next_head old number after sent told) w
  stays sent told same_sent same =
      head_moves old number after sent told w w s same_sent refl refl
      (λ c is. offered_of old w number before s there c is ∙ sym (same.images c is))
      (λ c away. refl)
      (λ c m is e. done_of old w number before s there c m is (sym (same.done c m is) ∙ e))
      (λ c m e. e)

  stays_by : (sent : List Datagram) (told : List Ended) → w.sent ≡ sent → Same number before.head after.head → Follows w (next_head old number after sent told)
  stays_by sent told same_sent same = record { events = []; world = w; run = refl; simulates = stays sent told same_sent same }

  -- one row more is done
  marks_by : (meter : ℕ) (datagram : List ℕ) (sent : List Datagram) (told : List Ended) → w.sent ≡ sent → Contains old.sent (to_head number meter datagram) → Marked number before.head after.head meter datagram
      → Follows w (next_head old number after sent told)
  marks_by meter datagram sent told same_sent came m =
      let d : Datagram = to_head number meter datagram in
      let at = number_of old.sent d came in
      let new : World = with_done w m.campaign meter in
      record {
        events = deliver at.0 ∷ [];
        world = new;
        run = (
          new,
          (
            d,
            ap (λ (sent : List Datagram). slice_get sent at.0) s.sent ∙ at.1,
            inr (record {
              campaign = m.campaign;
              release = m.release;
              image = m.image;
              invoke = m.invoke;
              bytes = m.bytes;
              own = m.own;
              offers = offered_of old w number before s there m.campaign m.at ∙ m.offers;
              carries = m.carries;
              spells = m.spells;
              new_is = refl;
            }),
          ),
          refl,
        );
        simulates = head_moves old number after sent told w new s same_sent refl refl
            (λ c is. offered_of old w number before s there c is ∙ sym (m.images c is))
            (λ c away. refl)
            (λ c n is e. mark_follows (marks_in number before.head) w.done m.campaign meter c n
            (λ had. done_of old w number before s there c n is (sym (mark_of number before.head c n is) ∙ had))
            (sym (m.done c n is) ∙ e))
            (λ c n e. mark_keeps w.done m.campaign meter c n e);
      }

  -- what is heard of a meter
  heard_grows : after.synced ≡ before.synced → after.head.book.head ≡ before.head.book.head
      → ((c : Campaign) → nat_eq c.head number ≡ true → image_in after.head.book c ≡ image_in before.head.book c)
      → ((c : Campaign) (m : ℕ) → nat_eq c.head number ≡ true → is_done (state_in before.head.book c m) ≡ true → is_done (state_in after.head.book c m) ≡ true)
      → Grows number before after
  heard_grows synced own images done =
      let k = kept_before in
      record {
        kept = record {
          own = own ∙ k.own;
          synced_own = ap (λ (x : Contents). x.head) synced ∙ k.synced_own;
          images = λ c is. ap (λ (x : Contents). image_in x c) synced ∙ k.images c is ∙ sym (images c is);
          done = λ c m is e. done c m is (k.done c m is (sym (ap (λ (x : Contents). is_done (state_in x c m)) synced) ∙ e));
        };
        saves = λ c m is e. ap (λ (x : Contents). is_done (state_in x c m)) synced ∙ e;
      }

  -- a datagram of an image that the book on the device offers is sent
  sends_by : (meter : ℕ) (bytes : List ℕ) (told : List Ended) → IsOfferedIn before.synced bytes → after.head ≡ before.head
      → Follows w (next_head old number after (old.sent ++ to_meter number meter bytes ∷ []) told)
  sends_by meter bytes told offer same = record {
    events = tick number meter ∷ [];
    world = new;
    run = (new, (d ∷ [], All-cons P d [] may (All-nil P), refl), refl);
    simulates = head_moves old number after (old.sent ++ d ∷ []) told w new s (ap (λ sent. sent ++ d ∷ []) s.sent) refl refl
        (λ c is. offered_of old w number before s there c is ∙ ap (λ (h : Head). image_in h.book c) (sym same))
        (λ c away. refl)
        (λ c m is e. done_of old w number before s there c m is (ap (λ (h : Head). is_done (state_in h.book c m)) (sym same) ∙ e))
        (λ c m e. e);
  }
    where
      d : Datagram
      d = to_meter number meter bytes

      P : Datagram → Type 0
      P = Permits w.offered number meter

      new : World
      new = record w { sent = w.sent ++ d ∷ [] }

      image : image_in before.synced offer.campaign ≡ Some offer.offer.image
      image = ap (λ (o : Option Offered). option_map (λ (x : Offered). x.image) o) offer.offered

      own : offer.campaign.head ≡ number
      own = image_of_head before.synced offer.campaign offer.offer.image image ∙ kept_before.synced_own

      at : nat_eq offer.campaign.head number ≡ true
      at = ap (λ n. nat_eq n number) own ∙ itself number

      offers : w.offered offer.campaign ≡ Some offer.offer.image
      offers = offered_of old w number before s there offer.campaign at ∙ sym (kept_before.images offer.campaign at) ∙ image

      may : P d
      may = record {
        asked = offer.permitted.asked;
        invoke = invoke_byte offer.permitted.id;
        may = may_ask w.offered number offer.campaign offer.offer.release offer.offer.image own offer.is_release offers offer.permitted.asked offer.permitted.may;
        carries = offer.permitted.carries;
        link = refl;
      }

  -- ---- joined: the world and what is kept

  no_more : (told : List Ended) → told ≡ old.told
      → (ended : Ended) → Contains told ended → ended.ending ≡ IsDone → Contains old.told ended ⊎ ((nat_eq ended.campaign.head number ≡ true) × (is_done (state_in after.synced ended.campaign ended.meter) ≡ true))
  no_more told same ended has is = inl (subst (λ (xs : List Ended). Contains xs ended) same has)

  goes : (sent : List Datagram) (told : List Ended) → IsHead after.head → Follows w (next_head old number after sent told) → Grows number before after
      → ((ended : Ended) → Contains told ended → ended.ending ≡ IsDone → Contains old.told ended ⊎ ((nat_eq ended.campaign.head number ≡ true) × (is_done (state_in after.synced ended.campaign ended.meter) ≡ true)))
      → Goes w (next_head old number after sent told)
  goes sent told head follows grows more = record { follows = follows; sound = head_sound old number before after sent told sound there head grows.kept grows.saves more }

  -- nothing is sent or reported
  quiet : (out : List Datagram) → out ≡ [] → w.sent ≡ old.sent ++ out
  quiet out none = s.sent ∙ sym (append-nil old.sent) ∙ ap (λ xs. old.sent ++ xs) (sym none)

  untold : old.told ++ [] ≡ old.told
  untold = append-nil old.told

  goes_quietly : (out : List Datagram) → out ≡ [] → IsHead after.head → after.head.book ≡ before.head.book → after.synced ≡ before.synced → Goes w (next_head old number after (old.sent ++ out) (old.told ++ []))
  goes_quietly out none head book synced =
      goes (old.sent ++ out) (old.told ++ []) head (stays_by (old.sent ++ out) (old.told ++ []) (quiet out none) (same_book number before.head after.head book))
      (grows_by number before after kept_before book synced) (no_more (old.told ++ []) untold)

  module _ (stay_law : HeadsStay) (steps : StateStepsAsWorld) (law : ReportedByClaim) where
    hears_goes : (from : SocketAddr) (datagram : List ℕ) (out : List Datagram) → out ≡ [] → WasAnswered old number before from datagram → HearsMeter before from datagram after
        → Goes w (next_head old number after (old.sent ++ out) (old.told ++ []))
    hears_goes from datagram out none came h = either (hearing steps law number before.head after.head h.meter datagram h.heard kept_before.own is_head h.takes)
      where
        head : IsHead after.head
        head = stay_law.heard before.head after.head h.meter datagram h.heard is_head h.takes

        synced : after.synced ≡ before.synced
        synced = ap (λ (l : Leader). l.synced) h.others

        own : after.head.book.head ≡ before.head.book.head
        own = heard_head before.head after.head h.meter datagram h.heard h.takes

        either : Same number before.head after.head ⊎ Marked number before.head after.head h.meter datagram → Goes w (next_head old number after (old.sent ++ out) (old.told ++ []))
        either (inl same) =
            goes (old.sent ++ out) (old.told ++ []) head (stays_by (old.sent ++ out) (old.told ++ []) (quiet out none) same)
            (heard_grows synced own same.images (λ c m at e. same.done c m at ∙ e)) (no_more (old.told ++ []) untold)
        either (inr m) =
            goes (old.sent ++ out) (old.told ++ []) head (marks_by h.meter datagram (old.sent ++ out) (old.told ++ []) (quiet out none) (came h.meter h.listed) m)
            (heard_grows synced own m.images
            (λ c n at e. m.done c n at ∙ mark_keeps (marks_in number before.head) m.campaign h.meter c n (mark_of number before.head c n at ∙ e)))
            (no_more (old.told ++ []) untold)

    step_goes : (made : Step) (out : List Datagram) → Steps before made after → Comes old number before made → GoesOut number before made out
        → Goes w (next_head old number after (old.sent ++ out) (old.told ++ told_by made))
    step_goes (hears from datagram) out (inl h) came none = hears_goes from datagram out none came h
    step_goes (hears from datagram) out (inr (inl h)) came none =
        goes_quietly out none (same_head (ap (λ (l : Leader). l.head) h.same)) (ap (λ (l : Leader). l.head.book) h.same) (ap (λ (l : Leader). l.synced) h.same)
    step_goes (hears from datagram) out (inr (inr h)) came none =
        goes_quietly out none (same_head (ap (λ (l : Leader). l.head) h.same)) (ap (λ (l : Leader). l.head.book) h.same) (ap (λ (l : Leader). l.synced) h.same)
    step_goes idles out same came none =
        goes_quietly out none (same_head (ap (λ (l : Leader). l.head) same)) (ap (λ (l : Leader). l.head.book) same) (ap (λ (l : Leader). l.synced) same)
    step_goes (ticks meter) out t came none =
        goes_quietly out none (subst (λ (h : Head). IsHead h) (sym (ap (λ (l : Leader). l.head) t.others)) (stay_law.ticked before.head meter is_head)) (ap (λ (l : Leader). l.head.book) t.others) (ap (λ (l : Leader). l.synced) t.others)
    step_goes (sends to bytes) out t came (meter, listed, only) =
        let head : after.head ≡ before.head = ap (λ (l : Leader). l.head) t.others in
        let G : List Datagram → Type 0 = λ xs. Goes w (next_head old number after (old.sent ++ xs) (old.told ++ [])) in
        subst G (sym only)
        (goes (old.sent ++ to_meter number meter bytes ∷ []) (old.told ++ []) (same_head head) (sends_by meter bytes (old.told ++ []) t.offered head)
        (grows_by number before after kept_before (ap (λ (h : Head). h.book) head) (ap (λ (l : Leader). l.synced) t.others)) (no_more (old.told ++ []) untold))
    step_goes saves out same came none =
        let head : after.head ≡ before.head = ap (λ (l : Leader). l.head) same in
        let book : after.head.book ≡ before.head.book = ap (λ (h : Head). h.book) head in
        let synced : after.synced ≡ before.head.book = ap (λ (l : Leader). l.synced) same in
        goes (old.sent ++ out) (old.told ++ []) (same_head head) (stays_by (old.sent ++ out) (old.told ++ []) (quiet out none) (same_book number before.head after.head book))
        (record {
          kept = record {
            own = ap (λ (x : Contents). x.head) book ∙ kept_before.own;
            synced_own = ap (λ (x : Contents). x.head) synced ∙ kept_before.own;
            images = λ c at. ap (λ (x : Contents). image_in x c) (synced ∙ sym book);
            done = λ c m at e. ap (λ (x : Contents). is_done (state_in x c m)) (book ∙ sym synced) ∙ e;
          };
          saves = λ c m at e. ap (λ (x : Contents). is_done (state_in x c m)) synced ∙ kept_before.done c m at e;
        }) (no_more (old.told ++ []) untold)
    step_goes (tells ended) out t came none =
        let book : after.head.book ≡ before.head.book = ap (λ (l : Leader). l.head.book) t.others in
        let synced : after.synced ≡ before.synced = ap (λ (l : Leader). l.synced) t.others in
        goes (old.sent ++ out) (old.told ++ ended ∷ []) (same_head (ap (λ (l : Leader). l.head) t.others)) (stays_by (old.sent ++ out) (old.told ++ ended ∷ []) (quiet out none) (same_book number before.head after.head book))
        (grows_by number before after kept_before book synced)
        (λ other has done. ⊎_elim
        (λ was. inl was)
        (λ same. inr (
          ap (λ n. nat_eq n number) (ap (λ (x : Ended). x.campaign.head) (sym same) ∙ state_of_head before.synced ended.campaign ended.meter (state_after ended.ending) t.on_device ∙ kept_before.synced_own) ∙ itself number,
          ap (λ (x : Contents). is_done (state_in x other.campaign other.meter)) synced
              ∙ ap (λ (x : Ended). is_done (state_in before.synced x.campaign x.meter)) (sym same)
              ∙ ap is_done t.on_device ∙ ap (λ (e : Ending). is_done (Some (state_after e))) (ap (λ (x : Ended). x.ending) same ∙ done),
        ))
        (Contains-push_cases old.told ended other has))

-- ---- a head end that is led anew

-- its book is on the device
anew : (number : ℕ) (before after : Leader) → after.head.book.head ≡ number → after.synced ≡ after.head.book → Saves number before.synced after.head.book → Grows number before after
anew number before after own synced stay = record {
  kept = record {
    own = own;
    synced_own = ap (λ (x : Contents). x.head) synced ∙ own;
    images = λ c at. ap (λ (x : Contents). image_in x c) synced;
    done = λ c m at e. ap (λ (x : Contents). is_done (state_in x c m)) (sym synced) ∙ e;
  };
  saves = λ c m at e. ap (λ (x : Contents). is_done (state_in x c m)) synced ∙ stay c m at e;
}

module _ (stay_law : HeadsStay) (steps : StateStepsAsWorld) (old new : Field) (w : World) (s : Simulates old w) (sound : IsSound old) where
  pub made_goes : ReportedByClaim → (number : ℕ) (made : Step) → StepsAt old number made new → Goes w new
  made_goes law number made t =
      let G : Field → Type 0 = λ f. Goes w f in
      subst G (sym t.new_is) (step_goes old w number s sound t.before t.after t.there stay_law steps law made t.out t.steps t.came t.goes_out)

  pub cancel_goes : (campaign : Campaign) → CancelsAt old campaign new → Goes w new
  cancel_goes campaign t = subst G (sym t.new_is) (goes old w number s sound t.before t.after t.there old.sent old.told is follows grows (no_more old w number s sound t.before t.after t.there old.told refl))
    where
      number : ℕ
      number = campaign.head

      G : Field → Type 0
      G f = Goes w f

      b : Head
      b = cancelled_head t.before.head campaign.serial

      kept : IsKept number t.before.head.book t.before.synced
      kept = sound.heads number t.before t.there

      head : t.after.head ≡ b
      head = ap (λ (l : Leader). l.head) t.led

      is : IsHead t.after.head
      is = subst (λ (h : Head). IsHead h) (sym head) (stay_law.cancelled t.before.head campaign.serial (sound.rows number t.before t.there))

      same : Same number t.before.head t.after.head
      same = subst (λ (h : Head). Same number t.before.head h) (sym head) (cancelling steps t.before.head campaign kept.own t.admitted)

      follows : Follows w (next_head old number t.after old.sent old.told)
      follows = record {
        events = worlds.cancel_campaign campaign ∷ [];
        world = w;
        run = (w, refl, refl);
        simulates = stays old w number s sound t.before t.after t.there old.sent old.told s.sent same;
      }

      grows : Grows number t.before t.after
      grows = anew number t.before t.after (ap (λ (h : Head). h.book.head) head ∙ kept.own) (ap (λ (l : Leader). l.synced) t.led ∙ ap (λ (h : Head). h.book) (sym head))
          (λ c m at e. same.done c m at ∙ kept.done c m at e)

  pub give_up_goes : StatesFollowCalls → ImagesStay → (number meter : ℕ) → GivesRowUp old number meter new → Goes w new
  give_up_goes follow stay number meter t =
      subst G (sym t.new_is)
      (goes old w number s sound t.before t.after t.there old.sent old.told is
      (stays_by old w number s sound t.before t.after t.there old.sent old.told s.sent same) grows
      (no_more old w number s sound t.before t.after t.there old.told refl))
    where
      G : Field → Type 0
      G f = Goes w f

      was : IsHead t.before.head
      was = sound.rows number t.before t.there

      campaign : Campaign
      campaign = t.gives.row.name.campaign

      live : state_in t.before.head.book campaign meter ≡ Some states.Live
      live = (was.of_book meter t.gives.row t.gives.found).live

      book : t.after.head.book ≡ marked t.before.head.book campaign.serial meter states.Failed
      book = ap (λ (h : Head). h.book) t.gives.new_is

      is : IsHead t.after.head
      is = stay_law.given_up t.before.head t.after.head meter t.why t.given was t.gives

      same : Same number t.before.head t.after.head
      same = giving_up follow stay number t.before.head t.after.head campaign meter (state_of_head t.before.head.book campaign meter states.Live live) live book

      grows : Grows number t.before t.after
      grows = heard_grows old w number s sound t.before t.after t.there (ap (λ (l : Leader). l.synced) t.waits) (ap (λ (x : Contents). x.head) book) same.images
          (λ c m at e. same.done c m at ∙ e)

  -- it asks other meters: its books and its rows are the same
  pub others_go : (number : ℕ) (meters : List Listed) → AsksOthers old number meters new → Goes w new
  others_go number meters t =
      let after : Leader = with_meters meters t.before in
      subst (λ (f : Field). Goes w f) (sym t.new_is)
      (goes old w number s sound t.before after t.there old.sent old.told
      (same_head old w number s sound t.before after t.there refl)
      (stays_by old w number s sound t.before after t.there old.sent old.told s.sent (same_book number t.before.head t.before.head refl))
      (grows_by number t.before after (kept_before old w number s sound t.before after t.there) refl refl)
      (no_more old w number s sound t.before after t.there old.told refl))

  pub open_goes : (campaign : Campaign) (release : ℕ) (image meters : List ℕ) → OpensAt old campaign release image meters new → Goes w new
  open_goes campaign release image meters t = subst G (sym t.new_is) (goes old w number s sound t.before t.after t.there old.sent old.told is follows grows (no_more old w number s sound t.before t.after t.there old.told refl))
    where
      number : ℕ
      number = campaign.head

      G : Field → Type 0
      G f = Goes w f

      b : Head
      b = opened_head t.before.head campaign.serial release image meters

      kept : IsKept number t.before.head.book t.before.synced
      kept = sound.heads number t.before t.there

      head : t.after.head ≡ b
      head = ap (λ (l : Leader). l.head) t.led

      is : IsHead t.after.head
      is = subst (λ (h : Head). IsHead h) (sym head) (stay_law.opened t.before.head campaign release image meters (sound.rows number t.before t.there) t.admitted)

      o : Opened number t.before.head t.after.head campaign image
      o = subst (λ (h : Head). Opened number t.before.head h campaign image) (sym head) (opening steps t.before.head campaign release image meters kept.own t.is_opened t.admitted)

      world : World
      world = with_offer w campaign image

      was : (c : Campaign) → nat_eq c.head number ≡ true → w.offered c ≡ image_in t.before.head.book c
      was = offered_of old w number t.before s t.there

      other : (c : Campaign) → nat_eq c.head number ≡ false → same_campaign c campaign ≡ false
      other c away = ap (λ x. x && nat_eq c.serial campaign.serial) away

      follows : Follows w (next_head old number t.after old.sent old.told)
      follows = record {
        events = worlds.open_campaign campaign release image meters ∷ [];
        world = world;
        run = (world, (t.is_opened, was campaign (itself number) ∙ o.none, refl), refl);
        simulates = head_moves old number t.after old.sent old.told w world s s.sent refl refl
            (λ c at. ap (λ x. cond (same_campaign c campaign) (Some image) x) (was c at ∙ sym (o.before c at)) ∙ sym (o.images c at))
            (λ c away. cond-false (same_campaign c campaign) (Some image) (w.offered c) (other c away))
            (λ c m at e. done_of old w number t.before s t.there c m at (sym (o.done c m at) ∙ e))
            (λ c m e. e);
      }

      grows : Grows number t.before t.after
      grows = anew number t.before t.after (ap (λ (h : Head). h.book.head) head ∙ kept.own) (ap (λ (l : Leader). l.synced) t.led ∙ ap (λ (h : Head). h.book) (sym head))
          (λ c m at e. o.done c m at ∙ kept.done c m at e)

  pub kill_goes : (number : ℕ) → HeadIsKilledAt old number new → Goes w new
  kill_goes number t = subst G (sym t.new_is) (goes old w number s sound t.before t.after t.there old.sent old.told is follows grows (no_more old w number s sound t.before t.after t.there old.told refl))
    where
      G : Field → Type 0
      G f = Goes w f

      kept : IsKept number t.before.head.book t.before.synced
      kept = sound.heads number t.before t.there

      own : t.book.head ≡ number
      own = ⊎_elim (λ same. ap (λ (x : Contents). x.head) same ∙ kept.synced_own) (λ same. ap (λ (x : Contents). x.head) same ∙ kept.own) t.leaves

      images : (c : Campaign) → nat_eq c.head number ≡ true → image_in t.book c ≡ image_in t.before.head.book c
      images c at = ⊎_elim (λ same. ap (λ (x : Contents). image_in x c) same ∙ kept.images c at) (λ same. ap (λ (x : Contents). image_in x c) same) t.leaves

      fewer : (c : Campaign) (m : ℕ) → nat_eq c.head number ≡ true → is_done (state_in t.book c m) ≡ true → is_done (state_in t.before.head.book c m) ≡ true
      fewer c m at e =
          ⊎_elim
          (λ same. kept.done c m at (sym (ap (λ (x : Contents). is_done (state_in x c m)) same) ∙ e))
          (λ same. sym (ap (λ (x : Contents). is_done (state_in x c m)) same) ∙ e)
          t.leaves

      more : Saves number t.before.synced t.book
      more c m at e =
          ⊎_elim
          (λ same. ap (λ (x : Contents). is_done (state_in x c m)) same ∙ e)
          (λ same. ap (λ (x : Contents). is_done (state_in x c m)) same ∙ kept.done c m at e)
          t.leaves

      book : t.after.head.book ≡ t.book
      book = t.begins.book_is

      is : IsHead t.after.head
      is = subst (λ (b : Contents). AreRowsOf b t.after.head.rows) (sym book) t.begins.live

      follows : Follows w (next_head old number t.after old.sent old.told)
      follows = record {
        events = restart_head number ∷ [];
        world = w;
        run = (w, refl, refl);
        simulates = head_moves old number t.after old.sent old.told w w s s.sent refl refl
            (λ c at. offered_of old w number t.before s t.there c at ∙ sym (images c at) ∙ ap (λ (x : Contents). image_in x c) (sym book))
            (λ c away. refl)
            (λ c m at e. done_of old w number t.before s t.there c m at (fewer c m at (ap (λ (x : Contents). is_done (state_in x c m)) (sym book) ∙ e)))
            (λ c m e. e);
      }

      grows : Grows number t.before t.after
      grows = anew number t.before t.after (ap (λ (x : Contents). x.head) book ∙ own) (ap (λ (l : Leader). l.synced) t.led)
          (λ c m at e. ap (λ (x : Contents). is_done (state_in x c m)) book ∙ more c m at e)
