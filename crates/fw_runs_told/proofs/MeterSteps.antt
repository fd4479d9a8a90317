-- What a meter does, item by item of its log, as events of the world.
use Rattle.std.proofs.Common.{◌≡◌, ◌≢◌, ◌++◌, ◌⊎◌, ℕ, eqb, true, IsTrue, List, [], ◌∷◌, map, Option, Some, None, inl, inr, refl, sym, ap, subst, ◌∙◌, append_assoc, append-nil, ⊎_elim}
use Rattle.std.specs.Prelude.{Contains}
use Rattle.std.specs.declared.net.socket_addr.SocketAddr.{SocketAddr}
use Rattle.std.proofs.lemmas.Bool.{cond-true, cond-false, ne_eqb}
use Rattle.std.proofs.lemmas.List.{map-append}
use Rattle.std.proofs.lemmas.List.Elements.{Contains-append_cases, Contains-push, filter-append}
use Rattle.fw_names.specs.Name.{Name}
use Rattle.fw_image.specs.Meter.{Image, Meter, migrated, reopened, restarted}
use Rattle.fw_image.specs.Step.{Turn}
use Rattle.fw_meter.specs.Handling.{Handles}
use Rattle.fw_audit.specs.Log.{Item, came, sent, started, turned}
use Rattle.fw_audit.specs.Stands.{GoesOn, IsHandled, IsKilled, Leads, MayAsk, Stand, ended, left_by, owes, owing, switched_to, waits}
use Rattle.fw_world.specs.World.{Activation, Datagram, World, with_meter}
use Rattle.fw_world.specs.Step.{activated, deliver, replies, restart_meter, turn}
use Rattle.fw_runs_told.specs.Fleet.{Fleet, HeadEnd, MeterEnd}
use Rattle.fw_runs_told.specs.Runs.{switch_to, switches_of, to_head, to_meter}
use Rattle.fw_runs_told.proofs.Lists.{in_got, none_in, one_in}
use Rattle.fw_runs_told.proofs.Worlds.{Led, itself, led_none, led_one, put_other, put_own}

-- ---- where a meter stands

-- The meter of the world is the one of the stand. If its process doesn't run, it is that once it is opened again.
abbrev pub Holds : Stand → Meter → Type 0
Holds (ended left) meter = left ≡ reopened meter
Holds (waits old) meter = meter ≡ old
Holds (owes to reply old) meter = meter ≡ old

pub left_is : (stand : Stand) (meter : Meter) → Holds stand meter → left_by stand ≡ reopened meter
left_is (ended left) meter h = h
left_is (waits old) meter h = ap reopened (sym h)
left_is (owes to reply old) meter h = ap reopened (sym h)

-- what a meter sends to this address was sent to the head end there
abbrev pub IsSentTo : Fleet → World → MeterEnd → SocketAddr → List ℕ → Type 0
IsSentTo fleet w meter to bytes = (head : HeadEnd) × Contains fleet.heads head × ((head.at ≡ to) × Contains w.sent (to_head head meter bytes))

-- a reply that is owed was sent in the world already
abbrev pub IsOwed : Fleet → World → MeterEnd → Stand → Type 0
IsOwed fleet w meter (ended left) = Unit {0}
IsOwed fleet w meter (waits old) = Unit {0}
IsOwed fleet w meter (owes to reply old) = IsSentTo fleet w meter to reply

-- From here the rest of the log leads to where it ends.
pub record StandsAt (fleet : Fleet) (w : World) (meter : MeterEnd) (stand : Stand) (log : List Item) : Type 0 where
  pub now : Meter
  pub there : w.meters meter.told.meter ≡ Some now
  pub holds : Holds stand now
  pub owed : IsOwed fleet w meter stand
  pub had : List Image
  pub noted : switches_of w.activations meter.told.meter ≡ map (switch_to meter.told.meter) had
  pub later : List Image
  pub images : meter.told.images ≡ had ++ later
  pub last : Stand
  pub leads : Leads meter.told.heads stand log later last
  pub left : meter.told.end ≡ left_by last

abbrev pub Stands : Fleet → World → MeterEnd → List Item → Type 0
Stands fleet w meter log = (stand : Stand) × StandsAt fleet w meter stand log

-- in a world that has the same of it, the meter stands where it stood
pub stands_on : (fleet : Fleet) (old new : World) (meter : MeterEnd) (log : List Item) → new.meters meter.told.meter ≡ old.meters meter.told.meter
    → switches_of new.activations meter.told.meter ≡ switches_of old.activations meter.told.meter → ((d : Datagram) → Contains old.sent d → Contains new.sent d)
    → Stands fleet old meter log → Stands fleet new meter log
stands_on fleet old new meter log same switches grows (stand, s) = (
  stand,
  record {
    now = s.now;
    there = same ∙ s.there;
    holds = s.holds;
    owed = owed_on stand s.owed;
    had = s.had;
    noted = switches ∙ s.noted;
    later = s.later;
    images = s.images;
    last = s.last;
    leads = s.leads;
    left = s.left;
  },
)
  where
    owed_on : (stand : Stand) → IsOwed fleet old meter stand → IsOwed fleet new meter stand
    owed_on (ended left) h = tt
    owed_on (waits at) h = tt
    owed_on (owes to reply at) (head, inside, (own, c)) = (head, inside, (own, grows (to_head head meter reply) c))

-- ---- an item

-- The meter does an item, and then its log goes on. Nothing else of the world changes, but that more is sent.
pub record Goes (fleet : Fleet) (old : World) (meter : MeterEnd) (item : Item) (log : List Item) : Type 0 where
  pub new : World
  pub led : Led old new
  pub stands : Stands fleet new meter log
  pub others : (other : ℕ) → other ≢ meter.told.meter → new.meters other ≡ old.meters other
  pub switches : (other : ℕ) → other ≢ meter.told.meter → switches_of new.activations other ≡ switches_of old.activations other
  pub own : (a : Activation) → Contains new.activations a → Contains old.activations a ⊎ (a.meter ≡ meter.told.meter)
  pub sends : (to : SocketAddr) (bytes : List ℕ) → item ≡ sent to bytes → IsSentTo fleet new meter to bytes

-- what came to a meter from who may ask it was sent to it by the head end at that address
abbrev pub IsBrought : Fleet → World → MeterEnd → SocketAddr → List ℕ → Type 0
IsBrought fleet w meter from bytes = (head : HeadEnd) × Contains fleet.heads head × ((head.at ≡ from) × Contains w.sent (to_meter head meter bytes))

module _ (fleet : Fleet) (old : World) (meter : MeterEnd) (log : List Item) where
  abbrev number : ℕ
  number = meter.told.meter

  -- a meter that switched to nothing stands there
  now_at : (w : World) (stand next : Stand) (item : Item) (s : StandsAt fleet old meter stand (item ∷ log)) (now : Meter) (first later : List Image) → w.meters number ≡ Some now → Holds next now
      → IsOwed fleet w meter next → w.activations ≡ old.activations → first ≡ [] → s.later ≡ first ++ later → Leads meter.told.heads next log later s.last → StandsAt fleet w meter next log
  now_at w stand next item s now first later there holds owed same none split leads = record {
    now = now;
    there = there;
    holds = holds;
    owed = owed;
    had = s.had;
    noted = ap (λ (l : List Activation). switches_of l number) same ∙ s.noted;
    later = later;
    images = s.images ∙ ap (λ (l : List Image). s.had ++ l) (split ∙ ap (λ (l : List Image). l ++ later) none);
    last = s.last;
    leads = leads;
    left = s.left;
  }

  -- no event
  stays : (item : Item) → Stands fleet old meter log → ((to : SocketAddr) (bytes : List ℕ) → item ≡ sent to bytes → IsSentTo fleet old meter to bytes) → Goes fleet old meter item log
  stays item stands sends = record {
    new = old;
    led = led_none old;
    stands = stands;
    others = λ other apart. refl;
    switches = λ other apart. refl;
    own = λ a c. inl c;
    sends = sends;
  }

  no_sending : (w : World) (item : Item) → ((to : SocketAddr) (bytes : List ℕ) → item ≡ sent to bytes → ⊥) → (to : SocketAddr) (bytes : List ℕ) → item ≡ sent to bytes → IsSentTo fleet w meter to bytes
  no_sending w item never to bytes is = absurd (never to bytes is)

  -- ---- a start

  starts : (stand : Stand) (s : StandsAt fleet old meter stand (started ∷ log)) (next : Stand) (first later : List Image) → first ≡ [] → next ≡ waits (migrated (left_by stand))
      → Leads meter.told.heads next log later s.last → s.later ≡ first ++ later → Goes fleet old meter started log
  starts stand s next first later none is leads split =
      let new : World = with_meter old number (restarted s.now) in
      let after : Stand = waits (migrated (left_by stand)) in
      let holds : restarted s.now ≡ migrated (left_by stand) = ap migrated (sym (left_is stand s.now s.holds)) in
      record {
        new = new;
        led = led_one old new (restart_meter number) [] (s.now, s.there, refl) refl refl (sym (append-nil old.sent));
        stands = (
          after,
          now_at new stand after started s (restarted s.now) first later (put_own old.meters number (restarted s.now)) holds tt refl none split
              (subst (λ (x : Stand). Leads meter.told.heads x log later s.last) is leads),
        );
        others = λ other apart. put_other old.meters number other (restarted s.now) apart;
        switches = λ other apart. refl;
        own = λ a c. inl c;
        sends = no_sending new started (λ to bytes e. absurd cc);
      }

  -- ---- a datagram comes

  -- the world after a meter handled one
  abbrev served : HeadEnd → List ℕ → Option (List ℕ) → Option Name → Meter → World
  served head datagram reply name after =
      (let w : World = record (with_meter old number after) { sent = old.sent ++ replies (to_meter head meter datagram) reply; activations = old.activations ++ activated number name after } in w)

  owing_holds : (from : SocketAddr) (reply : Option (List ℕ)) (after : Meter) → Holds (owing from reply after) after
  owing_holds from None after = refl
  owing_holds from (Some reply) after = refl

  owing_sent : (head : HeadEnd) (from : SocketAddr) (datagram : List ℕ) (reply : Option (List ℕ)) (name : Option Name) (after : Meter) → Contains fleet.heads head → head.at ≡ from
      → IsOwed fleet (served head datagram reply name after) meter (owing from reply after)
  owing_sent head from datagram None name after inside own = tt
  owing_sent head from datagram (Some reply) name after inside own = (head, inside, (own, Contains-push old.sent (to_head head meter reply)))

  own_switch : (name : Option Name) (after : Meter) → switches_of (activated number name after) number ≡ map (switch_to number) (switched_to name after)
  own_switch None after = refl
  own_switch (Some name) after =
      let a : Activation = record { meter = number; name = name; bytes = after.running.bytes } in
      cond-true (eqb number number) (a ∷ []) [] (itself number)

  other_switch : (other : ℕ) (name : Option Name) (after : Meter) → other ≢ number → switches_of (activated number name after) other ≡ []
  other_switch other None after apart = refl
  other_switch other (Some name) after apart =
      let a : Activation = record { meter = number; name = name; bytes = after.running.bytes } in
      cond-false (eqb number other) (a ∷ []) [] (ne_eqb number other (λ (same : number ≡ other). apart (sym same)))

  switches_append : (more : List Activation) (other : ℕ) → switches_of (old.activations ++ more) other ≡ switches_of old.activations other ++ switches_of more other
  switches_append more other = filter-append (λ (a : Activation). eqb a.meter other) old.activations more

  own_more : (name : Option Name) (after : Meter) (a : Activation) → Contains (old.activations ++ activated number name after) a → Contains old.activations a ⊎ (a.meter ≡ number)
  own_more None after a c =
      ⊎_elim (λ (early : Contains old.activations a). inl early) (λ (none : Contains [] a). absurd (none_in a none)) (Contains-append_cases old.activations [] a c)
  own_more (Some name) after a c =
      let b : Activation = record { meter = number; name = name; bytes = after.running.bytes } in
      ⊎_elim (λ (early : Contains old.activations a). inl early)
      (λ (late : Contains (b ∷ []) a). inr (ap (λ (x : Activation). x.meter) (sym (one_in b a late))))
      (Contains-append_cases old.activations (b ∷ []) a c)

  handles : (from : SocketAddr) (datagram : List ℕ) (before : Meter) (s : StandsAt fleet old meter (waits before) (came from datagram ∷ log)) (next : Stand) (first later : List Image)
      → IsBrought fleet old meter from datagram → IsHandled meter.told.heads before from datagram first next → Leads meter.told.heads next log later s.last → s.later ≡ first ++ later
      → Goes fleet old meter (came from datagram) log
  handles from datagram before s next first later (head, inside, (own, c)) h leads split =
      let at = in_got old.sent (to_meter head meter datagram) c in
      let new : World = served head datagram h.reply h.name h.after in
      let after : Stand = owing from h.reply h.after in
      let images : List Image = switched_to h.name h.after in
      record {
        new = new;
        led = led_one old new (deliver at.0) (replies (to_meter head meter datagram) h.reply) (
          to_meter head meter datagram,
          at.1,
          record {
            before = s.now;
            after = h.after;
            reply = h.reply;
            name = h.name;
            there = s.there;
            handles = subst (λ (m : Meter). Handles true IsTrue m datagram h.reply h.name h.after) (sym s.holds) h.handles;
            new_is = refl;
          },
        )
            refl refl refl;
        stands = (
          after,
          record {
            now = h.after;
            there = put_own old.meters number h.after;
            holds = owing_holds from h.reply h.after;
            owed = owing_sent head from datagram h.reply h.name h.after inside own;
            had = s.had ++ images;
            noted = switches_append (activated number h.name h.after) number
                ∙ ap (λ (l : List Activation). l ++ switches_of (activated number h.name h.after) number) s.noted
                ∙ ap (λ (l : List Activation). map (switch_to number) s.had ++ l) (own_switch h.name h.after)
                ∙ sym (map-append (switch_to number) s.had images);
            later = later;
            images = s.images ∙ ap (λ (l : List Image). s.had ++ l) (split ∙ ap (λ (l : List Image). l ++ later) h.switches) ∙ sym (append_assoc s.had images later);
            last = s.last;
            leads = subst (λ (x : Stand). Leads meter.told.heads x log later s.last) h.stands leads;
            left = s.left;
          },
        );
        others = λ other apart. put_other old.meters number other h.after apart;
        switches = λ other apart. switches_append (activated number h.name h.after) other
            ∙ ap (λ (l : List Activation). switches_of old.activations other ++ l) (other_switch other h.name h.after apart) ∙ append-nil (switches_of old.activations other);
        own = own_more h.name h.after;
        sends = no_sending new (came from datagram) (λ to bytes e. absurd cc);
      }

  -- it is killed before it does what it noted
  dies : (item : Item) (before : Meter) (s : StandsAt fleet old meter (waits before) (item ∷ log)) (next : Stand) (first later : List Image) → IsKilled before first next
      → Leads meter.told.heads next log later s.last → s.later ≡ first ++ later → Stands fleet old meter log
  dies item before s next first later h leads split =
      let after : Stand = ended (reopened before) in (
        after,
        now_at old (waits before) after item s s.now first later s.there (ap reopened (sym s.holds)) tt refl h.none split
            (subst (λ (x : Stand). Leads meter.told.heads x log later s.last) h.ends leads),
      )

  comes : (from : SocketAddr) (datagram : List ℕ) (stand : Stand) → (MayAsk meter.told.heads from → IsBrought fleet old meter from datagram) → (s : StandsAt fleet old meter stand (came from datagram ∷ log))
      → Leads meter.told.heads stand (came from datagram ∷ log) s.later s.last → Goes fleet old meter (came from datagram) log
  comes from datagram (ended left) brought s (next, first, later, makes, leads, split) = absurd makes
  comes from datagram (waits before) brought s (next, first, later, inl h, leads, split) = handles from datagram before s next first later (brought h.may_ask) h leads split
  comes from datagram (waits before) brought s (next, first, later, inr (inl h), leads, split) =
      stays (came from datagram) (
        waits before,
        now_at old (waits before) (waits before) (came from datagram) s s.now first later s.there s.holds tt refl h.none split
            (subst (λ (x : Stand). Leads meter.told.heads x log later s.last) h.stands leads),
      )
      (no_sending old (came from datagram) (λ to bytes e. absurd cc))
  comes from datagram (waits before) brought s (next, first, later, inr (inr h), leads, split) =
      stays (came from datagram) (dies (came from datagram) before s next first later h leads split) (no_sending old (came from datagram) (λ to bytes e. absurd cc))
  comes from datagram (owes to reply before) brought s (next, first, later, makes, leads, split) = absurd makes

  -- ---- a datagram is sent

  same_sent : (t to : SocketAddr) (b bytes : List ℕ) → sent t b ≡ sent to bytes → (t ≡ to) × (b ≡ bytes)
  same_sent t to b bytes e = (cc, cc)

  replies_so : (to : SocketAddr) (bytes : List ℕ) (stand : Stand) (s : StandsAt fleet old meter stand (sent to bytes ∷ log)) → Leads meter.told.heads stand (sent to bytes ∷ log) s.later s.last
      → Goes fleet old meter (sent to bytes) log
  replies_so to bytes (ended left) s (next, first, later, makes, leads, split) = absurd makes
  replies_so to bytes (waits before) s (next, first, later, makes, leads, split) = absurd makes
  replies_so to bytes (owes there reply before) s (next, first, later, (where_to, what, none, is), leads, split) =
      stays (sent to bytes) (
        waits before,
        now_at old (owes there reply before) (waits before) (sent to bytes) s s.now first later s.there s.holds tt refl none split
            (subst (λ (x : Stand). Leads meter.told.heads x log later s.last) is leads),
      )
      (λ t b e.
      let same = same_sent to t bytes b e in
      subst (λ (a : SocketAddr). IsSentTo fleet old meter a b) (sym where_to ∙ same.0)
      (subst (λ (l : List ℕ). IsSentTo fleet old meter there l) (sym what ∙ same.1) s.owed))

  -- ---- a turn

  turns : (before : Meter) (s : StandsAt fleet old meter (waits before) (turned ∷ log)) (next : Stand) (first later : List Image) → GoesOn before first next
      → Leads meter.told.heads next log later s.last → s.later ≡ first ++ later → Goes fleet old meter turned log
  turns before s next first later h leads split =
      let new : World = with_meter old number h.after in
      record {
        new = new;
        led = led_one old new (turn number) [] (s.now, h.after, s.there, subst (λ (m : Meter). Turn true m true h.after) (sym s.holds) h.turn, refl) refl refl (sym (append-nil old.sent));
        stands = (
          waits h.after,
          now_at new (waits before) (waits h.after) turned s h.after first later (put_own old.meters number h.after) refl tt refl h.none split
              (subst (λ (x : Stand). Leads meter.told.heads x log later s.last) h.stands leads),
        );
        others = λ other apart. put_other old.meters number other h.after apart;
        switches = λ other apart. refl;
        own = λ a c. inl c;
        sends = no_sending new turned (λ to bytes e. absurd cc);
      }

  takes_turn : (stand : Stand) (s : StandsAt fleet old meter stand (turned ∷ log)) → Leads meter.told.heads stand (turned ∷ log) s.later s.last → Goes fleet old meter turned log
  takes_turn (ended left) s (next, first, later, makes, leads, split) = absurd makes
  takes_turn (waits before) s (next, first, later, (verifies, inl h), leads, split) = turns before s next first later h leads split
  takes_turn (waits before) s (next, first, later, (verifies, inr h), leads, split) =
      stays turned (dies turned before s next first later h leads split) (no_sending old turned (λ to bytes e. absurd cc))
  takes_turn (owes to reply before) s (next, first, later, makes, leads, split) = absurd makes

  -- ---- any item

  begins_again : (stand : Stand) (s : StandsAt fleet old meter stand (started ∷ log)) → Leads meter.told.heads stand (started ∷ log) s.later s.last → Goes fleet old meter started log
  begins_again stand s (next, first, later, (none, is), leads, split) = starts stand s next first later none is leads split

  pub goes : (item : Item) → ((from : SocketAddr) (datagram : List ℕ) → item ≡ came from datagram → MayAsk meter.told.heads from → IsBrought fleet old meter from datagram)
      → Stands fleet old meter (item ∷ log) → Goes fleet old meter item log
  goes started brought (stand, s) = begins_again stand s s.leads
  goes (came from datagram) brought (stand, s) = comes from datagram stand (brought from datagram refl) s s.leads
  goes (sent to bytes) brought (stand, s) = replies_so to bytes stand s s.leads
  goes turned brought (stand, s) = takes_turn stand s s.leads
