-- A run without some of the deliveries that mark meters done.
use Rattle.std.proofs.Common.{◌≡◌, ℕ, ◌+◌, ◌<◌, nat_eq, Bool, true, false, not, ◌&&◌, cond, ◌⊎◌, inl, inr, List, [], ◌∷◌, ◌++◌, Option, Some, slice_get, length, refl, sym, ap, subst, ◌∙◌, ⊎_elim, arith}
use Rattle.std.proofs.lemmas.Bool.{cases_Bool}
use Rattle.std.proofs.lemmas.Bool.Decides.{Decides-eqb}
use Rattle.std.proofs.lemmas.List.{get_or_append_left, length-append}
use Rattle.std.proofs.lemmas.Option.{slice_get_within, slice_get-get_or, get_or_from_slice_get}
use Rattle.fw_names.specs.Name.{Campaign}
use Rattle.fw_image.specs.Meter.{restarted, reopened}
use Rattle.fw_world.specs.declared.datagram.Direction.{Direction}
use Rattle.fw_world.specs.declared.datagram.Direction.TheVariants.{ToMeter, ToHead}
use Rattle.fw_world.specs.World.{Datagram, World, put, same_campaign, with_done, with_meter}
use Rattle.fw_world.specs.Step.{
  Event,
  open_campaign,
  cancel_campaign,
  tick,
  deliver,
  stop,
  restart_meter,
  stop_restart,
  restart_head,
  turn,
  Marks,
  Delivers,
  WorldStep,
  IsOpening,
  Run,
  replies,
}
use Rattle.fw_world.specs.Laws.{IsToHead, AreLess, LacksMarks, MarksMayBeMissing}
use Rattle.fw_world.proofs.Maps.{same_campaign_is}

abbrev Done : Type 0
Done = Campaign → ℕ → Bool

-- the world, with these marks
abbrev but : World → Done → World
but w done = record w { done = done }

abbrev Agrees : Done → World → Done → Type 0
Agrees missing w done = (campaign : Campaign) (meter : ℕ) → done campaign meter ≡ (w.done campaign meter && not (missing campaign meter))

-- ---- a mark

marked : (done : Done) (c : Campaign) (m : ℕ) → Done
marked done c m = put same_campaign done c (put nat_eq (done c) m true)

-- at its own meter, or elsewhere
marked_at : (a b : Done) (key : Campaign) (number : ℕ) (c : Campaign) (m : ℕ) (P : Bool → Bool → Type 0) → (c ≡ key → m ≡ number → P true true) → P (a c m) (b c m) → P (marked a key number c m) (marked b key number c m)
unfolding marked
marked_at a b key number c m P own other = campaigns (same_campaign c key) refl
  where
    meters : (x : Bool) → nat_eq m number ≡ x → c ≡ key → P (cond x true (a key m)) (cond x true (b key m))
    meters true is same = own same ((Decides-eqb m number).0 is)
    meters false is same =
        let Q : Campaign → Type 0 = λ k. P (a k m) (b k m) in
        subst Q same other

    campaigns : (x : Bool) → same_campaign c key ≡ x → P (cond x (put nat_eq (a key) number true) (a c) m) (cond x (put nat_eq (b key) number true) (b c) m)
    campaigns true is = meters (nat_eq m number) refl (same_campaign_is c key is)
    campaigns false is = other

-- ---- a step

-- the step, with fewer marks before and after it
record Kept (missing : Done) (event : Event) (less : World) (new : World) : Type 0 where
  pub after : Done
  pub step : WorldStep less event (but new after)
  pub agrees : Agrees missing new after

-- no step, since it only makes a mark that is missing
record Dropped (missing : Done) (event : Event) (old new : World) (done : Done) : Type 0 where
  pub to_head : IsToHead old.sent event
  pub same : but new done ≡ but old done
  pub agrees : Agrees missing new done

abbrev Follows : Done → Event → World → World → Done → Type 0
Follows missing event old new done = Kept missing event (but old done) new ⊎ Dropped missing event old new done

same_marks : (missing : Done) (old new : World) (done : Done) → new.done ≡ old.done → Agrees missing old done → Agrees missing new done
same_marks missing old new done same agrees campaign meter =
    agrees campaign meter ∙ ap (λ (d : Done). d campaign meter && not (missing campaign meter)) (sym same)

mark_kept : (missing : Done) (w : World) (done : Done) (key : Campaign) (number : ℕ) → missing key number ≡ false → Agrees missing w done → Agrees missing (with_done w key number) (marked done key number)
unfolding marked
mark_kept missing w done key number there agrees c m =
    marked_at done w.done key number c m (λ x y. x ≡ (y && not (missing c m)))
    (λ same also. sym (ap not (ap (λ k. missing k m) same ∙ ap (λ n. missing key n) also ∙ there)))
    (agrees c m)

mark_dropped : (missing : Done) (w : World) (done : Done) (key : Campaign) (number : ℕ) → missing key number ≡ true → Agrees missing w done → Agrees missing (with_done w key number) done
unfolding marked
mark_dropped missing w done key number gone agrees c m =
    agrees c m
    ∙ marked_at w.done w.done key number c m (λ x y. (w.done c m && not (missing c m)) ≡ (y && not (missing c m)))
    (λ same also.
    let none : not (missing c m) ≡ false = ap not (ap (λ k. missing k m) same ∙ ap (λ n. missing key n) also ∙ gone) in
    ap (λ b. w.done c m && b) none ∙ and_false (w.done c m) ∙ sym none)
    refl
  where
    and_false : (b : Bool) → (b && false) ≡ false
    and_false true = refl
    and_false false = refl

marks : (missing : Done) (old new : World) (done : Done) (number : ℕ) (d : Datagram) → Agrees missing old done → slice_get old.sent number ≡ Some d → d.direction ≡ ToHead → Marks old d new → Follows missing (deliver number) old new done
unfolding marked
marks missing old new done number d agrees at to_head m =
    let P : Direction → Type 0 = λ direction. Delivers direction (but old done) d (but new (marked done m.campaign d.meter)) in
    let to : World → Type 0 = λ w. Agrees missing w (marked done m.campaign d.meter) in
    let of : World → Type 0 = λ w. Agrees missing w done in
    ⊎_elim
    (λ gone. inr (record {
      to_head = (d, at, to_head);
      same = ap (λ w. but w done) m.new_is;
      agrees = subst of (sym m.new_is) (mark_dropped missing old done m.campaign d.meter gone agrees);
    }))
    (λ there. inl (record {
      after = marked done m.campaign d.meter;
      step = (
        d,
        at,
        subst P (sym to_head) (inr (record {
          campaign = m.campaign;
          release = m.release;
          image = m.image;
          invoke = m.invoke;
          bytes = m.bytes;
          own = m.own;
          offers = m.offers;
          carries = m.carries;
          spells = m.spells;
          new_is = ap (λ w. but w (marked done m.campaign d.meter)) m.new_is;
        })),
      );
      agrees = subst to (sym m.new_is) (mark_kept missing old done m.campaign d.meter there agrees);
    }))
    (cases_Bool (missing m.campaign d.meter))

delivered : (missing : Done) (old new : World) (done : Done) (number : ℕ) (d : Datagram) → Agrees missing old done → slice_get old.sent number ≡ Some d → (direction : Direction) → d.direction ≡ direction → Delivers direction old d new
    → Follows missing (deliver number) old new done
delivered missing old new done number d agrees at ToMeter is s =
    let P : Direction → Type 0 = λ direction. Delivers direction (but old done) d (but new done) in
    inl (record {
      after = done;
      step = (
        d,
        at,
        subst P (sym is) (record {
          before = s.before;
          after = s.after;
          reply = s.reply;
          name = s.name;
          there = s.there;
          handles = s.handles;
          new_is = ap (λ w. but w done) s.new_is;
        }),
      );
      agrees = same_marks missing old new done (ap (λ (w : World). w.done) s.new_is) agrees;
    })
delivered missing old new done number d agrees at ToHead is (inl nothing) =
    let P : Direction → Type 0 = λ direction. Delivers direction (but old done) d (but new done) in
    inl (record {
      after = done;
      step = (d, at, subst P (sym is) (inl (ap (λ w. but w done) nothing)));
      agrees = same_marks missing old new done (ap (λ (w : World). w.done) nothing) agrees;
    })
delivered missing old new done number d agrees at ToHead is (inr m) = marks missing old new done number d agrees at is m

follows : (missing : Done) (old new : World) (done : Done) (event : Event) → Agrees missing old done → WorldStep old event new → Follows missing event old new done
follows missing old new done (open_campaign campaign release image meters) agrees s =
    inl (record { after = done; step = (s.0, s.1, ap (λ w. but w done) s.2); agrees = same_marks missing old new done (ap (λ (w : World). w.done) s.2) agrees })
follows missing old new done (cancel_campaign campaign) agrees s =
    inl (record { after = done; step = ap (λ w. but w done) s; agrees = same_marks missing old new done (ap (λ (w : World). w.done) s) agrees })
follows missing old new done (tick head meter) agrees s =
    inl (record { after = done; step = (s.0, s.1, ap (λ w. but w done) s.2); agrees = same_marks missing old new done (ap (λ (w : World). w.done) s.2) agrees })
follows missing old new done (deliver number) agrees s = delivered missing old new done number s.0 agrees s.1 s.0.direction refl s.2
follows missing old new done (stop number calls torn) agrees s =
    let st = s.3 in
    inl (record {
      after = done;
      step = (
        s.0,
        s.1,
        s.2,
        record {
          before = st.before;
          after = st.after;
          name = st.name;
          there = st.there;
          stops = st.stops;
          new_is = ap (λ w. but w done) st.new_is;
        },
      );
      agrees = same_marks missing old new done (ap (λ (w : World). w.done) st.new_is) agrees;
    })
follows missing old new done (restart_meter number) agrees s =
    inl (record { after = done; step = (s.0, s.1, ap (λ w. but w done) s.2); agrees = same_marks missing old new done (ap (λ (w : World). w.done) s.2) agrees })
follows missing old new done (stop_restart number calls torn) agrees s = go s.2
  where
    go : ((new ≡ with_meter old number (restarted s.0)) ⊎ (new ≡ with_meter old number (reopened s.0))) → Follows missing (stop_restart number calls torn) old new done
    go (inl e) = inl (record { after = done; step = (s.0, s.1, inl (ap (λ w. but w done) e)); agrees = same_marks missing old new done (ap (λ (w : World). w.done) e) agrees })
    go (inr e) = inl (record { after = done; step = (s.0, s.1, inr (ap (λ w. but w done) e)); agrees = same_marks missing old new done (ap (λ (w : World). w.done) e) agrees })
follows missing old new done (restart_head head) agrees s =
    inl (record { after = done; step = ap (λ w. but w done) s; agrees = same_marks missing old new done (ap (λ (w : World). w.done) s) agrees })
follows missing old new done (turn number) agrees s =
    inl (record { after = done; step = (s.0, s.1, s.2, s.3, ap (λ w. but w done) s.4); agrees = same_marks missing old new done (ap (λ (w : World). w.done) s.4) agrees })

-- ---- what was sent stays sent

there_still : (xs ys : List Datagram) (n : ℕ) (d : Datagram) → slice_get xs n ≡ Some d → slice_get (xs ++ ys) n ≡ Some d
there_still xs ys n d at =
    let inside : n < length xs = slice_get_within xs n d at in
    let longer : length (xs ++ ys) ≡ length xs + length ys = length-append xs ys in
    let within : n < length (xs ++ ys) = omega (arith, inside, longer) in
    slice_get-get_or (xs ++ ys) n d within
    ∙ ap (λ (x : Datagram). (let o : Option Datagram = Some x in o)) (get_or_append_left xs ys d n inside ∙ get_or_from_slice_get xs n d d at)

abbrev Keeps : World → World → Type 0
Keeps old new = (n : ℕ) (d : Datagram) → slice_get old.sent n ≡ Some d → slice_get new.sent n ≡ Some d

sent_same : (old new : World) → new.sent ≡ old.sent → Keeps old new
sent_same old new same n d at = ap (λ (sent : List Datagram). slice_get sent n) same ∙ at

sent_more : (old new : World) (more : List Datagram) → new.sent ≡ old.sent ++ more → Keeps old new
sent_more old new more same n d at = ap (λ (sent : List Datagram). slice_get sent n) same ∙ there_still old.sent more n d at

delivery_keeps : (old new : World) (d : Datagram) (direction : Direction) → Delivers direction old d new → Keeps old new
delivery_keeps old new d ToMeter s = sent_more old new (replies d s.reply) (ap (λ (w : World). w.sent) s.new_is)
delivery_keeps old new d ToHead (inl same) = sent_same old new (ap (λ (w : World). w.sent) same)
delivery_keeps old new d ToHead (inr m) = sent_same old new (ap (λ (w : World). w.sent) m.new_is)

step_keeps : (old new : World) (event : Event) → WorldStep old event new → Keeps old new
step_keeps old new (open_campaign campaign release image meters) s = sent_same old new (ap (λ (w : World). w.sent) s.2)
step_keeps old new (cancel_campaign campaign) s = sent_same old new (ap (λ (w : World). w.sent) s)
step_keeps old new (tick head meter) s = sent_more old new s.0 (ap (λ (w : World). w.sent) s.2)
step_keeps old new (deliver number) s = delivery_keeps old new s.0 s.0.direction s.2
step_keeps old new (stop number calls torn) s = sent_same old new (ap (λ (w : World). w.sent) s.3.new_is)
step_keeps old new (restart_meter number) s = sent_same old new (ap (λ (w : World). w.sent) s.2)
step_keeps old new (stop_restart number calls torn) s = go s.2
  where
    go : ((new ≡ with_meter old number (restarted s.0)) ⊎ (new ≡ with_meter old number (reopened s.0))) → Keeps old new
    go (inl e) = sent_same old new (ap (λ (w : World). w.sent) e)
    go (inr e) = sent_same old new (ap (λ (w : World). w.sent) e)
step_keeps old new (restart_head head) s = sent_same old new (ap (λ (w : World). w.sent) s)
step_keeps old new (turn number) s = sent_same old new (ap (λ (w : World). w.sent) s.4)

run_keeps : (old new : World) (events : List Event) → Run old events new → Keeps old new
run_keeps old new [] run = sent_same old new (ap (λ (w : World). w.sent) run)
run_keeps old new (event ∷ events) run = λ n d at. run_keeps run.0 new events run.2 n d (step_keeps old run.0 event run.1 n d at)

to_head_later : (old new : World) (event : Event) → Keeps old new → IsToHead old.sent event → IsToHead new.sent event
to_head_later old new (deliver number) keeps h = (h.0, keeps number h.0 h.1, h.2)
to_head_later old new (open_campaign campaign release image meters) keeps h = absurd h
to_head_later old new (cancel_campaign campaign) keeps h = absurd h
to_head_later old new (tick head meter) keeps h = absurd h
to_head_later old new (stop number calls torn) keeps h = absurd h
to_head_later old new (restart_meter number) keeps h = absurd h
to_head_later old new (stop_restart number calls torn) keeps h = absurd h
to_head_later old new (restart_head head) keeps h = absurd h
to_head_later old new (turn number) keeps h = absurd h

-- ---- a run

record Less (missing : Done) (old : World) (done : Done) (events : List Event) (new : World) : Type 0 where
  pub kept : List Event
  pub are_less : AreLess new.sent events kept
  pub after : Done
  pub run : Run (but old done) kept (but new after)
  pub agrees : Agrees missing new after

less_run : (missing : Done) (old new : World) (done : Done) (events : List Event) → Agrees missing old done → Run old events new → Less missing old done events new
less_run missing old new done [] agrees run =
    record {
      kept = [];
      are_less = refl;
      after = done;
      run = ap (λ w. but w done) run;
      agrees = same_marks missing old new done (ap (λ (w : World). w.done) run) agrees;
    }
less_run missing old new done (event ∷ events) agrees run =
    let next = run.0 in
    let keeps = run_keeps next new events run.2 in
    ⊎_elim
    (λ (k : Kept missing event (but old done) next).
    let rest = less_run missing next new k.after events k.agrees run.2 in
    let less : Less missing old done (event ∷ events) new = record {
      kept = event ∷ rest.kept;
      are_less = inl (rest.kept, refl, rest.are_less);
      after = rest.after;
      run = (but next k.after, k.step, rest.run);
      agrees = rest.agrees;
    } in
    less)
    (λ (d : Dropped missing event old next done).
    let rest = less_run missing next new done events d.agrees run.2 in
    let P : World → Type 0 = λ w. Run w rest.kept (but new rest.after) in
    let less : Less missing old done (event ∷ events) new = record {
      kept = rest.kept;
      are_less = inr (to_head_later old new event (λ n x at. keeps n x (step_keeps old next event run.1 n x at)) d.to_head, rest.are_less);
      after = rest.after;
      run = subst P d.same rest.run;
      agrees = rest.agrees;
    } in
    less)
    (follows missing old next done event agrees run.1)

pub marks_may_be_missing : MarksMayBeMissing
marks_may_be_missing opening w events missing is run =
    let none : Agrees missing opening opening.done = λ campaign meter.
    is.done campaign meter ∙ ap (λ b. b && not (missing campaign meter)) (sym (is.done campaign meter)) in
    let less = less_run missing opening w opening.done events none run in
    (less.kept, less.are_less, but w less.after, less.run, record { same = refl; done = less.agrees })
