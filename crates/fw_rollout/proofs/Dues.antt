-- What may be ticked at a time, before and after what was waited for until then is given up.
use Rattle.std.proofs.Common.{◌≡◌, ◌⊎◌, ℕ, suc, ◌+◌, ◌≤◌, true, false, List, [], ◌∷◌, Option, Some, None, inl, inr, ⊎_elim, refl, sym, ap, subst, ◌∙◌, arith}
use Rattle.std.specs.Prelude.{MatchOption, if◌then◌else◌, slice_get, slice_set, sum_by}
use Rattle.std.specs.Option.{option_map}
use Rattle.std.proofs.lemmas.Bool.{false≢true}
use Rattle.std.proofs.lemmas.List.Sums.{sum_by-cons}
use Rattle.std.proofs.lemmas.Option.{none-some, same_Some}
use Rattle.fw_rollout.specs.Daemon.{IsOutSince}
use Rattle.fw_rollout.specs.Link.{IsGivenUp, IsReady, IsReadyBy, IsSent, after, has_passed, is_expired, out_by, until_of}
use Rattle.fw_rollout.specs.Schedule.{IsDueAt, IsLiveAt, IsSchedule, Sends, Settles, SettlesLink, links_of}
use Rattle.fw_rollout.specs.declared.daemon.HeadDaemon.{HeadDaemon}
use Rattle.fw_rollout.specs.declared.link.Link.{Link}
use Rattle.fw_rollout.specs.declared.link.Listed.{Listed}
use Rattle.fw_rollout.specs.declared.link.Turn.{Turn}
use Rattle.fw_rollout.specs.declared.link.Turn.TheVariants as turns
use Rattle.fw_rollout.specs.declared.schedule.Schedule.{Schedule}
use Rattle.fw_rollout.specs.Timing.{HasRoom}
use Rattle.fw_rollout.proofs.Moving.{given_up_kept}
use Rattle.fw_rollout.proofs.Queueing.{none_due}
use Rattle.fw_rollout.proofs.Turning.{at_place}

silent_waits : (turn : Turn) (until : ℕ) → turn ≡ turns.Silent until → turn ≡ turns.Ready → ⊥
silent_waits turn until e f = cc

pub due_lives : (s : Schedule) (place : ℕ) → IsDueAt s place → IsLiveAt s place
due_lives s place (link, is, ready) = (link, is, λ over. cc)

-- ---- one link

record WasReady (now : ℕ) (o : Option Link) : Type 0 where
  pub link : Link
  pub there : o ≡ Some link
  pub ready : IsReadyBy now link

given_up_ready : (now : ℕ) (link : Link) (gone : ℕ) (next : Link) → is_expired now link ≡ true → IsGivenUp now link gone next → IsReady next → IsReadyBy now link
given_up_ready now link gone next over up ready = ⊎_elim
    (λ a. inr (over, inl a.0))
    (λ b. ⊎_elim
    (λ a. absurd (silent_waits next.turn (after link.sent_at link.patience) (ap (λ (l : Link). l.turn) a.2) ready))
    (λ a. inr (over, inr a.1)) b)
    up.1

was_ready : (now : ℕ) (o n : Option Link) (next : Link) → SettlesLink now o n → n ≡ Some next → IsReady next → WasReady now o
was_ready now None n next h is ready = absurd (none-some next (sym h ∙ is))
was_ready now (Some link) n next h is ready =
    let same : h.0 ≡ next = same_Some h.0 next (sym h.1 ∙ is) in
    let goes : IsReady h.0 = subst IsReady (sym same) ready in
    record {
      link = link;
      there = refl;
      ready = ⊎_elim
          (λ (e : h.0 ≡ link). inl (subst IsReady e goes))
          (λ (g : (is_expired now link ≡ true) × ((given_up : ℕ) × IsGivenUp now link given_up h.0)). given_up_ready now link g.1.0 h.0 g.0 g.1.1 goes)
          h.2;
    }

given_up_now : (now : ℕ) (link : Link) (gone : ℕ) (next : Link) → (link.is_heard ≡ true) ⊎ (after link.sent_at link.patience ≤ now) → IsGivenUp now link gone next → IsReady next
given_up_now now link gone next over up = ⊎_elim
    (λ a. ap (λ (l : Link). l.turn) a.1)
    (λ b. ⊎_elim
    (λ a. absurd (⊎_elim (λ (h : link.is_heard ≡ true). false≢true (sym a.0 ∙ h)) (λ (h : after link.sent_at link.patience ≤ now). let early = a.1 in absurd (omega (arith, early, h))) over))
    (λ a. ap (λ (l : Link). l.turn) a.2) b)
    up.1

is_ready : (now : ℕ) (o n : Option Link) (link : Link) → SettlesLink now o n → ((next : Link) → n ≡ Some next → is_expired now next ≡ false) → o ≡ Some link → IsReadyBy now link
    → (next : Link) × (n ≡ Some next) × IsReady next
is_ready now None n link h none is ready = absurd (none-some link is)
is_ready now (Some was) n link h none is ready =
    let same : was ≡ link = same_Some was link is in (
      h.0,
      h.1,
      ⊎_elim
          (λ (r : IsReady link). ⊎_elim
          (λ (e : h.0 ≡ was). subst IsReady (sym (e ∙ same)) r)
          (λ (g : (is_expired now was ≡ true) × ((given_up : ℕ) × IsGivenUp now was given_up h.0)).
          absurd (false≢true (sym (ap (λ (l : Link). is_expired now l) same ∙ ap (λ (t : Turn). has_passed now (until_of t)) r) ∙ g.0)))
          h.2)
          (λ (r : (is_expired now link ≡ true) × ((link.is_heard ≡ true) ⊎ (after link.sent_at link.patience ≤ now))). ⊎_elim
          (λ (e : h.0 ≡ was). absurd (false≢true (sym (none h.0 h.1) ∙ ap (λ (l : Link). is_expired now l) (e ∙ same) ∙ r.0)))
          (λ (g : (is_expired now was ≡ true) × ((given_up : ℕ) × IsGivenUp now was given_up h.0)).
          given_up_now now link g.1.0 h.0 r.1 (subst (λ (l : Link). IsGivenUp now l g.1.0 h.0) same g.1.1))
          h.2)
          ready,
    )

-- ---- all links

pub due_before : (now : ℕ) (old new : Schedule) (place : ℕ) → Settles now old new → IsDueAt new place → (link : Link) × (slice_get (links_of old) place ≡ Some link) × IsReadyBy now link
due_before now old new place st (next, is, ready) =
    let w = was_ready now (slice_get (links_of old) place) (slice_get (links_of new) place) next (st.each place) is ready in
    (w.link, w.there, w.ready)

pub due_after : (now : ℕ) (old new : Schedule) (place : ℕ) (link : Link) → Settles now old new → slice_get (links_of old) place ≡ Some link → IsReadyBy now link → IsDueAt new place
due_after now old new place link st is ready =
    is_ready now (slice_get (links_of old) place) (slice_get (links_of new) place) link (st.each place) (st.all place) is ready

-- ---- how many datagrams are out

abbrev Agrees : ℕ → Option Link → Option Link → Type 0
Agrees now None n = n ≡ None
Agrees now (Some link) n = (next : Link) × (n ≡ Some next) × (next.out ≡ out_by now link)

agrees : (now : ℕ) (o n : Option Link) → SettlesLink now o n → ((next : Link) → n ≡ Some next → is_expired now next ≡ false) → Agrees now o n
agrees now None n h none = h
agrees now (Some link) n h none = (
  h.0,
  h.1,
  ⊎_elim
      (λ (e : h.0 ≡ link). ap (λ (l : Link). l.out) e ∙ sym (ap (λ b. if b then 0 else link.out) (ap (λ (l : Link). is_expired now l) (sym e) ∙ none h.0 h.1)))
      (λ (g : (is_expired now link ≡ true) × ((given_up : ℕ) × IsGivenUp now link given_up h.0)).
      (given_up_kept now link g.1.0 h.0 g.1.1).1 ∙ sym (ap (λ b. if b then 0 else link.out) g.0))
      h.2,
)

same_sums : (a b x y s t : ℕ) → a ≡ x + s → b ≡ y + t → x ≡ y → s ≡ t → a ≡ b
same_sums a b x y s t e f g h = omega arith

sums_agree : (now : ℕ) (xs ys : List Link) → ((place : ℕ) → Agrees now (slice_get xs place) (slice_get ys place)) → sum_by (λ (l : Link). l.out) ys ≡ sum_by (λ (l : Link). out_by now l) xs
sums_agree now [] [] h = refl
sums_agree now [] (y ∷ ys) h = absurd (none-some y (sym (h 0)))
sums_agree now (x ∷ xs) [] h = absurd (none-some (h 0).0 (h 0).1)
sums_agree now (x ∷ xs) (y ∷ ys) h =
    same_sums _ _ y.out (out_by now x) _ _ (sum_by-cons (λ (l : Link). l.out) y ys) (sum_by-cons (λ (l : Link). out_by now l) x xs)
    (ap (λ (l : Link). l.out) (same_Some y (h 0).0 (h 0).1) ∙ (h 0).2) (sums_agree now xs ys (λ place. h (suc place)))

pub out_settled : (now : ℕ) (old new : Schedule) → IsSchedule new → Settles now old new → new.out ≡ sum_by (λ (l : Link). out_by now l) (links_of old)
out_settled now old new i st =
    i.counts_out ∙ sums_agree now (links_of old) (links_of new) (λ place. agrees now (slice_get (links_of old) place) (slice_get (links_of new) place) (st.each place) (st.all place))

-- if the queue is empty, or too much is out, no meter may be asked, or too much is out at this time
pub none_asked : (now : ℕ) (old new : Schedule) → IsSchedule new → Settles now old new → new.timing ≡ old.timing → (new.ready.items ≡ []) ⊎ ¬ HasRoom new.out new.timing.flight
    → ((place : ℕ) → ¬ ((link : Link) × (slice_get (links_of old) place ≡ Some link) × IsReadyBy now link)) ⊎ ¬ HasRoom (sum_by (λ (l : Link). out_by now l) (links_of old)) old.timing.flight
none_asked now old new i st timing either = ⊎_elim
    (λ (empty : new.ready.items ≡ []). inl (λ place due. none_due new i empty place (due_after now old new place due.0 st due.1 due.2)))
    (λ (full : ¬ HasRoom new.out new.timing.flight). inr (λ room.
    full (subst (λ t. HasRoom new.out t.flight) (sym timing) (subst (λ (n : ℕ). HasRoom n old.timing.flight) (sym (out_settled now old new i st)) room))))
    either

-- what may be ticked is there
pub due_there : (s : Schedule) (place : ℕ) (o : Option Listed) → IsDueAt s place → o ≡ option_map (λ (link : Link). link.at) (slice_get (links_of s) place) → o ≡ None → ⊥
due_there s place o due e none = none-some due.0.at (sym none ∙ e ∙ ap (λ (l : Option Link). option_map (λ (link : Link). link.at) l) due.1)

-- ---- a link that was ticked

-- the link at a place, before and after
record WasSent (now count place : ℕ) (old new : Schedule) : Type 0 where
  pub link : Link
  pub next : Link
  pub was : slice_get (links_of old) place ≡ Some link
  pub sent : IsSent now count link next
  pub is : slice_get (links_of new) place ≡ Some next

was_sent : (now count place : ℕ) (old new : Schedule) → IsDueAt old place → Sends place now count old new → WasSent now count place old new
was_sent now count place old new (link, was, ready) sends =
    let M : Option Link → Type 0 = λ o. MatchOption o (links_of new ≡ links_of old) (λ l. (next : Link) × IsSent now count l next × (links_of new ≡ slice_set (links_of old) place next)) in
    let goes : (next : Link) × IsSent now count link next × (links_of new ≡ slice_set (links_of old) place next) = subst M was sends.there in
    record {
      link = link;
      next = goes.0;
      was = was;
      sent = goes.1;
      is = ap (λ (ls : List Link). slice_get ls place) goes.2 ∙ at_place (links_of old) place link goes.0 was;
    }

pub out_since : {D : Type 0} (now sent count place : ℕ) (at : Listed) (old : Schedule) (new : HeadDaemon D) → IsDueAt old place
    → option_map (λ (link : Link). link.at) (slice_get (links_of old) place) ≡ Some at → Sends place now sent old new.schedule → sent ≡ count → IsOutSince now count new at
out_since now sent count place at old new due named sends same =
    let s = was_sent now sent place old new.schedule due sends in
    record {
      place = place;
      link = s.next;
      there = s.is;
      is = ap (λ (l : Link). l.at) s.sent ∙ same_Some s.link.at at (sym (ap (λ (o : Option Link). option_map (λ (l : Link). l.at) o) s.was) ∙ named);
      sent = ap (λ (l : Link). l.sent_at) s.sent;
      out = ap (λ (l : Link). l.out) s.sent ∙ same;
      waits = ap (λ (l : Link). l.turn) s.sent ∙ ap (λ (wait : ℕ). turns.Awaited (after now wait)) (sym (ap (λ (l : Link). l.wait) s.sent));
      unheard = ap (λ (l : Link). l.is_heard) s.sent;
    }
