-- The daemon of a head end: which of its links are live, as its rows go on and end.
use Rattle.std.proofs.Common.{◌≡◌, ◌≢◌, ◌↔◌, ⊎_elim, cond, ℕ, ◌+◌, ◌≤◌, arith, Bool, true, false, List, [], ◌∷◌, ◌++◌, map, All, Contains, Option, Some, None, is_some, option_map, slice_get, slice_set, inl, inr, refl, sym, ap, subst, ◌∙◌, append-nil}
use Rattle.std.specs.Prelude.{IsTrue, count_by}
use Rattle.std.proofs.lemmas.Bool.{false≢true}
use Rattle.std.proofs.lemmas.List.Elements.{All-nil, All-push, All-weaker}
use Rattle.std.proofs.lemmas.List.Sums.{sum_by-cons}
use Rattle.std.proofs.lemmas.Option.{none-some, same_Some, slice_get-map}
use Rattle.std.specs.declared.net.socket_addr.SocketAddr.{SocketAddr}
use Rattle.fw_book.specs.Contents.{Contents}
use Rattle.fw_book.specs.declared.notes.End.{End}
use Rattle.fw_book.specs.Laws.{StatesFollowCalls}
use Rattle.fw_head.specs.Head.{GivesUpRow, Head, HeadHears, IsHead, IsOfferedIn, TellsReason, row_of, sends_to, ticked_head}
use Rattle.fw_head.specs.Laws.{RowKeepsGoal}
use Rattle.fw_head.specs.declared.giving_up.GivenUp.{GivenUp}
use Rattle.fw_head.specs.declared.giving_up.WhyGivenUp.TheVariants as why
use Rattle.fw_head.specs.declared.news.News.{News}
use Rattle.fw_head.specs.declared.news.News.TheVariants as news
use Rattle.fw_kept.specs.Head.{Holds, head_of}
use Rattle.fw_kept.specs.declared.error.KeptError.{KeptError}
use Rattle.fw_kept.specs.declared.error.KeptError.TheVariants as kept
use Rattle.fw_kept.specs.Refusals.{IsCommitRefusal}
use Rattle.fw_rollout.specs.declared.ended.Ended.{Ended}
use Rattle.fw_rollout.specs.declared.link.Link.{Link}
use Rattle.fw_rollout.specs.declared.link.Listed.{Listed}
use Rattle.fw_rollout.specs.declared.link.Turn.{Turn}
use Rattle.fw_rollout.specs.declared.link.Turn.TheVariants as turns
use Rattle.fw_rollout.specs.declared.schedule.Schedule.{Schedule}
use Rattle.fw_rollout.specs.Link.{IsLiveLink}
use Rattle.fw_rollout.specs.declared.daemon.HeadDaemon.{HeadDaemon}
use Rattle.fw_rollout.specs.declared.daemon.Heard.{Heard}
use Rattle.fw_rollout.specs.declared.daemon.Heard.TheVariants as returned
use Rattle.fw_rollout.specs.Leading.{HearsAs, IsAboutToSend, IsAboutToTell, IsNotedIn, Leader, SavesAll, TicksMeter, ended_by, heard_of}
use Rattle.fw_rollout.specs.Schedule.{EndsMeter, IsLiveAt, IsSchedule, SameMeters, is_live, is_live_turn, links_of, listed_of, lives_of}
use Rattle.fw_rollout.specs.Daemon.{IsLed, IsList, IsOver, IsSaveDue, ended_of, hold, kept_of, live_of, live_rows}
use Rattle.fw_rollout.specs.Plans.{GivesUpAt, given_up_at, with_meters}
use Rattle.fw_rollout.specs.Stopping.{IsSaveStop, stop_of}
use Rattle.fw_rollout.specs.Timing.{HasRoom, most_out, max_tick}
use Rattle.fw_rollout.proofs.Hearing.{Moves, Ends, given_up_ends, hears_nothing, hears_moved, hears_end}
use Rattle.fw_rollout.proofs.Lives.{at_place, false_of_none, map_agree, none_of_false, one_over}
use Rattle.fw_rollout.proofs.Rows.{stays}

pub live_ticked : (head : Head) (meter : ℕ) (meters : List Listed) → live_of (ticked_head head meter) meters ≡ live_of head meters
live_ticked head meter meters = map_agree _ _ meters (λ at within. stays meter _ head.rows at.meter)

pub live_moved : (old new : Head) (meter : ℕ) (meters : List Listed) → Moves old new meter → live_of new meters ≡ live_of old meters
live_moved old new meter meters moves = map_agree _ _ meters (λ at within. moves.rows at.meter)

pub live_ended : (old new : Head) (ended : Ended) (meters : List Listed) (place : ℕ) (at : Listed) → Ends old new at.meter ended → IsList meters → slice_get meters place ≡ Some at → slice_set (live_of old meters) place false ≡ live_of new meters
live_ended old new ended meters place at ends list there =
    one_over (λ (x : Listed). is_some (row_of old.rows x.meter)) (λ (x : Listed). is_some (row_of new.rows x.meter)) meters place at list there ends.over (λ other apart. ends.others other.meter apart)

-- ---- a live link

live_turn : (turn : Turn) → is_live_turn turn ≡ true → turn ≢ turns.Over
live_turn turns.Over e = absurd (cc e)
live_turn turns.Ready e = λ is. cc
live_turn (turns.Awaited until) e = λ is. cc
live_turn (turns.Silent until) e = λ is. cc
live_turn (turns.Paused until) e = λ is. cc

live_at : (o : Option Link) → option_map is_live o ≡ Some true → (link : Link) × (o ≡ Some link) × IsLiveLink link
live_at None e = absurd (none-some true e)
live_at (Some link) e = (link, refl, live_turn link.turn (same_Some (is_live link) true e))

pub live_link : (s : Schedule) (head : Head) (meters : List Listed) (place : ℕ) (at : Listed) → lives_of s ≡ live_of head meters → slice_get meters place ≡ Some at → is_some (row_of head.rows at.meter) ≡ true → IsLiveAt s place
live_link s head meters place at lives there live =
    live_at (slice_get (links_of s) place)
    (sym (slice_get-map is_live (links_of s) place)
    ∙ ap (λ (bs : List Bool). slice_get bs place) lives
    ∙ slice_get-map (λ (x : Listed). is_some (row_of head.rows x.meter)) meters place
    ∙ ap (λ (o : Option Listed). option_map (λ (x : Listed). is_some (row_of head.rows x.meter)) o) there
    ∙ ap (λ (b : Bool). Some b) live)

-- ---- what waits to be put on the device

pub noted_more : (old new : Head) (meter : ℕ) (ended : Ended) (unsaved : List Ended) → Ends old new meter ended → All (IsNotedIn old.book) unsaved → All (IsNotedIn new.book) (unsaved ++ ended ∷ [])
noted_more old new meter ended unsaved ends all =
    All-push (IsNotedIn new.book) unsaved ended (All-weaker (IsNotedIn old.book) (IsNotedIn new.book) ends.keeps unsaved all) ends.noted

pub commit_stop : (e : KeptError) → IsCommitRefusal e → IsSaveStop (stop_of e)
commit_stop (kept.Refused x) is = tt
commit_stop kept.Full is = tt
commit_stop kept.BookFault is = tt
commit_stop kept.OutOfMemory is = tt

pub same_on : (a b c : Schedule) → SameMeters a b → SameMeters b c → SameMeters a c
same_on a b c first second = record { timing = second.timing ∙ first.timing; listed = second.listed ∙ first.listed; lives = second.lives ∙ first.lives }

-- ---- how many there are

same_more : (a b x s t : ℕ) → a ≡ x + s → b ≡ x + t → s ≡ t → a ≡ b
same_more a b x s t e f g = omega arith

count_mapped : {X : Type 0} (p : X → Bool) (xs : List X) → count_by p xs ≡ count_by (λ (b : Bool). b) (map p xs)
count_mapped p [] = refl
count_mapped {X = X} p (x ∷ xs) =
    same_more _ _ (cond (p x) 1 0) _ _ (sum_by-cons (λ (y : X). cond (p y) 1 0) x xs) (sum_by-cons (λ (b : Bool). cond b 1 0) (p x) (map p xs)) (count_mapped p xs)

-- ---- how much is out

pub in_flight : (out new count flight : ℕ) → HasRoom out flight → new ≤ out + count → count ≤ max_tick → new ≤ most_out flight
in_flight out new count flight (inl none) most few = omega arith
in_flight out new count flight (inr room) most few = omega arith

-- ---- a step of the daemon

module _ {D : Type 0} (honest : D → Bool) (contents : D → List ℕ) (may_leave : D → List ℕ → Type 0) where
  -- the daemon heard a datagram of a meter, and is that of a head end that did
  abbrev pub HeardOn : HeadDaemon D → Leader → SocketAddr → List ℕ → Heard → Type 0
  HeardOn new leader from datagram what = (next : Leader) × HearsAs leader from datagram what next × IsLed honest contents may_leave new next

  pub is_listed : (old : HeadDaemon D) (leader : Leader) (place : ℕ) (at : Listed) → IsLed honest contents may_leave old leader → slice_get (listed_of old.schedule) place ≡ Some at → Contains leader.meters at
  is_listed old leader place at led there = subst (λ (ms : List Listed). Contains ms at) (sym led.meters) (at_place (listed_of old.schedule) place at there)

  module _ (old new : HeadDaemon D) (leader : Leader) (led : IsLed honest contents may_leave old leader) (place meter : ℕ) (from : SocketAddr) (there : slice_get (listed_of old.schedule) place ≡ Some (record { meter = meter; address = from }))
      (datagram : List ℕ) (told : News) (end : End) (hears_it : HeadHears (head_of (kept_of old)) meter datagram told (head_of (kept_of new))) (tells : TellsReason (head_of (kept_of old)) meter datagram told end.reason) (holds : Holds honest contents may_leave (kept_of new) leader.synced) where
    there_too : slice_get leader.meters place ≡ Some (record { meter = meter; address = from })
    there_too = ap (λ (ms : List Listed). slice_get ms place) led.meters ∙ there

    heard_on : ended_of new ≡ ended_of old ++ ended_by told end → All (IsNotedIn (head_of (kept_of new)).book) (leader.unsaved ++ ended_by told end) → IsSchedule new.schedule → listed_of new.schedule ≡ listed_of old.schedule
        → lives_of new.schedule ≡ live_of (head_of (kept_of new)) leader.meters → HeardOn new leader from datagram (heard_of told)
    heard_on ended noted schedule listed lives = (
      record leader { head = head_of (kept_of new); unsaved = leader.unsaved ++ ended_by told end },
      inl (
        record {
          meter = meter;
          listed = is_listed old leader place (record { meter = meter; address = from }) led there;
          heard = told;
          end = end;
          takes = subst (λ (h : Head). HeadHears h meter datagram told (head_of (kept_of new))) (sym led.head) hears_it;
          tells = subst (λ (h : Head). TellsReason h meter datagram told end.reason) (sym led.head) tells;
          others = refl;
        },
        refl,
      ),
      record {
        holds = holds;
        meters = led.meters ∙ sym listed;
        list = led.list;
        head = refl;
        unsaved = ap (λ (xs : List Ended). xs ++ ended_by told end) led.unsaved ∙ sym ended;
        noted = noted;
        schedule = schedule;
        lives = lives;
      },
    )

    -- nothing ended
    heard_none : ended_by told end ≡ [] → (head_of (kept_of new)).book ≡ (head_of (kept_of old)).book → ended_of new ≡ ended_of old → IsSchedule new.schedule → listed_of new.schedule ≡ listed_of old.schedule
        → lives_of new.schedule ≡ live_of (head_of (kept_of new)) leader.meters → HeardOn new leader from datagram (heard_of told)
    heard_none none book ended schedule listed lives =
        let before : All (IsNotedIn (head_of (kept_of new)).book) leader.unsaved =
        subst (λ (b : Contents). All (IsNotedIn b) leader.unsaved) (ap (λ (h : Head). h.book) led.head ∙ sym book) led.noted in
        heard_on (ended ∙ sym (append-nil (ended_of old)) ∙ ap (λ (xs : List Ended). ended_of old ++ xs) (sym none))
        (subst (λ (xs : List Ended). All (IsNotedIn (head_of (kept_of new)).book) xs) (sym (append-nil leader.unsaved) ∙ ap (λ (xs : List Ended). leader.unsaved ++ xs) (sym none)) before)
        schedule listed lives

    pub nothing_on : told ≡ news.Nothing → ended_of new ≡ ended_of old → new.schedule ≡ old.schedule → HeardOn new leader from datagram returned.Nothing
    nothing_on nothing ended schedule =
        let same : head_of (kept_of new) ≡ head_of (kept_of old) =
        hears_nothing (head_of (kept_of old)) (head_of (kept_of new)) meter datagram
        (subst (λ (n : News). HeadHears (head_of (kept_of old)) meter datagram n (head_of (kept_of new))) nothing hears_it) in
        subst (λ (what : Heard). HeardOn new leader from datagram what) (ap heard_of nothing)
        (heard_none (ap (λ (n : News). ended_by n end) nothing) (ap (λ (h : Head). h.book) same) ended
        (subst (λ (s : Schedule). IsSchedule s) (sym schedule) led.schedule) (ap (λ (s : Schedule). listed_of s) schedule)
        (ap (λ (s : Schedule). lives_of s) schedule ∙ led.lives ∙ ap (λ (h : Head). live_of h leader.meters) (led.head ∙ sym same)))

    -- the meter's link is live where its row goes on
    pub moved_live : told ≡ news.Moved → IsLiveAt old.schedule place
    moved_live moved =
        let moves = hears_moved (head_of (kept_of old)) (head_of (kept_of new)) meter datagram
        (subst (λ (n : News). HeadHears (head_of (kept_of old)) meter datagram n (head_of (kept_of new))) moved hears_it) in
        live_link old.schedule (head_of (kept_of old)) leader.meters place (record { meter = meter; address = from })
        (led.lives ∙ ap (λ (h : Head). live_of h leader.meters) led.head) there_too moves.live

    pub moved_on : told ≡ news.Moved → ended_of new ≡ ended_of old → IsSchedule new.schedule → SameMeters old.schedule new.schedule → HeardOn new leader from datagram returned.Moved
    moved_on moved ended schedule same =
        let moves = hears_moved (head_of (kept_of old)) (head_of (kept_of new)) meter datagram
        (subst (λ (n : News). HeadHears (head_of (kept_of old)) meter datagram n (head_of (kept_of new))) moved hears_it) in
        subst (λ (what : Heard). HeardOn new leader from datagram what) (ap heard_of moved)
        (heard_none (ap (λ (n : News). ended_by n end) moved) moves.book ended schedule same.listed
        (same.lives ∙ led.lives ∙ ap (λ (h : Head). live_of h leader.meters) led.head
        ∙ sym (live_moved (head_of (kept_of old)) (head_of (kept_of new)) meter leader.meters moves)))

    pub ended_on : StatesFollowCalls → RowKeepsGoal → IsHead (head_of (kept_of old)) → (one : Ended) → ended_by told end ≡ one ∷ [] → ended_of new ≡ ended_of old ++ one ∷ [] → IsSchedule new.schedule
        → EndsMeter place old.schedule new.schedule → heard_of told ≡ returned.Ended → HeardOn new leader from datagram returned.Ended
    ended_on follow keeps head one by ended schedule ends over =
        let was = head_of (kept_of old) in
        let is = head_of (kept_of new) in
        let its = hears_end follow keeps was is meter datagram told end one head hears_it by in
        let before : All (IsNotedIn was.book) leader.unsaved = subst (λ (h : Head). All (IsNotedIn h.book) leader.unsaved) led.head led.noted in
        subst (λ (what : Heard). HeardOn new leader from datagram what) over
        (heard_on (ended ∙ ap (λ (xs : List Ended). ended_of old ++ xs) (sym by))
        (subst (λ (xs : List Ended). All (IsNotedIn is.book) (leader.unsaved ++ xs)) (sym by) (noted_more was is meter one leader.unsaved its before))
        schedule ends.listed
        (ends.lives ∙ ap (λ (bs : List Bool). slice_set bs place false) (led.lives ∙ ap (λ (h : Head). live_of h leader.meters) led.head)
        ∙ live_ended was is one leader.meters place (record { meter = meter; address = from }) its led.list there_too))

  -- a row is given up
  pub gives_up_on : StatesFollowCalls → (old new : HeadDaemon D) (leader : Leader) → IsLed honest contents may_leave old leader → IsHead (head_of (kept_of old))
      → (place meter : ℕ) (address : SocketAddr) (time : ℕ) (given : GivenUp) → slice_get (listed_of old.schedule) place ≡ Some (record { meter = meter; address = address })
      → GivesUpRow (head_of (kept_of old)) meter why.Silent given (head_of (kept_of new)) → Holds honest contents may_leave (kept_of new) leader.synced
      → ended_of new ≡ ended_of old ++ given_up_at time meter given ∷ [] → IsSchedule new.schedule → EndsMeter place old.schedule new.schedule
      → (next : Leader) × GivesUpAt leader address time next × IsLed honest contents may_leave new next
  gives_up_on follow old new leader led head place meter address time given there gives holds ended schedule ends =
      let was = head_of (kept_of old) in
      let is = head_of (kept_of new) in
      let at : Listed = record { meter = meter; address = address } in
      let one : Ended = given_up_at time meter given in
      let its = given_up_ends follow was is meter time given head gives in
      let before : All (IsNotedIn was.book) leader.unsaved = subst (λ (h : Head). All (IsNotedIn h.book) leader.unsaved) led.head led.noted in
      let there_now : slice_get leader.meters place ≡ Some at = ap (λ (ms : List Listed). slice_get ms place) led.meters ∙ there in (
        record leader { head = is; unsaved = leader.unsaved ++ one ∷ [] },
        record {
          meter = meter;
          given = given;
          listed = is_listed old leader place at led there;
          gives = subst (λ (h : Head). GivesUpRow h meter why.Silent given is) (sym led.head) gives;
          others = refl;
        },
        record {
          holds = holds;
          meters = led.meters ∙ sym ends.listed;
          list = led.list;
          head = refl;
          unsaved = ap (λ (xs : List Ended). xs ++ one ∷ []) led.unsaved ∙ sym ended;
          noted = noted_more was is meter one leader.unsaved its before;
          schedule = schedule;
          lives = ends.lives ∙ ap (λ (bs : List Bool). slice_set bs place false) (led.lives ∙ ap (λ (h : Head). live_of h leader.meters) led.head)
              ∙ live_ended was is one leader.meters place at its led.list there_now;
        },
      )

  -- other meters are asked from now on
  pub relisted_on : (old new : HeadDaemon D) (leader : Leader) (meters : List Listed) (head : Head) (list : List Listed) → head ≡ head_of (kept_of old) → list ≡ meters
      → IsLed honest contents may_leave old leader → IsList meters → kept_of new ≡ kept_of old → ended_of new ≡ ended_of old → IsSchedule new.schedule
      → listed_of new.schedule ≡ list → lives_of new.schedule ≡ live_of head list → IsLed honest contents may_leave new (with_meters meters leader)
  relisted_on old new leader meters head list head_is list_is led once kept ended schedule listed lives = record {
    holds = subst (λ k. Holds honest contents may_leave k leader.synced) (sym kept) led.holds;
    meters = sym (listed ∙ list_is);
    list = once;
    head = led.head ∙ sym (ap (λ k. head_of k) kept);
    unsaved = led.unsaved ∙ sym ended;
    noted = led.noted;
    schedule = schedule;
    lives = lives ∙ ap (λ (ms : List Listed). live_of head ms) list_is ∙ ap (λ (h : Head). live_of h meters) (head_is ∙ sym led.head);
  }

  -- a tick
  pub ticked_on : (old new : HeadDaemon D) (leader : Leader) → IsLed honest contents may_leave old leader → leader.going ≡ [] → (place : ℕ) (at : Listed) → slice_get (listed_of old.schedule) place ≡ Some at → (datagrams : List (List ℕ))
      → datagrams ≡ sends_to (head_of (kept_of old)) at.meter → All (IsOfferedIn leader.synced) datagrams → head_of (kept_of new) ≡ ticked_head (head_of (kept_of old)) at.meter → Holds honest contents may_leave (kept_of new) leader.synced
      → ended_of new ≡ ended_of old → IsSchedule new.schedule → SameMeters old.schedule new.schedule
      → (next : Leader) × TicksMeter leader at.meter next × IsLed honest contents may_leave new next × IsAboutToSend next at.address datagrams
  ticked_on old new leader led sent_all place at there datagrams sends offered ticks holds ended schedule same =
      let was : leader.head ≡ head_of (kept_of old) = led.head in
      let next : Leader = record leader { head = ticked_head leader.head at.meter; going = map (λ (bytes : List ℕ). (at.address, bytes)) (sends_to leader.head at.meter) } in
      let goes : sends_to leader.head at.meter ≡ datagrams = ap (λ (h : Head). sends_to h at.meter) was ∙ sym sends in (
        next,
        record { sent_all = sent_all; to = at.address; listed = is_listed old leader place at led there; others = refl },
        record {
          holds = holds;
          meters = led.meters ∙ sym same.listed;
          list = led.list;
          head = ap (λ (h : Head). ticked_head h at.meter) was ∙ sym ticks;
          unsaved = led.unsaved ∙ sym ended;
          noted = led.noted;
          schedule = schedule;
          lives = same.lives ∙ led.lives ∙ sym (live_ticked leader.head at.meter leader.meters);
        },
        record { going = ap (λ (ds : List (List ℕ)). map (λ (bytes : List ℕ). (at.address, bytes)) ds) goes; offered = offered },
      )

  -- nothing is due
  pub waits_on : (old new : HeadDaemon D) (leader : Leader) → IsLed honest contents may_leave old leader → kept_of new ≡ kept_of old → ended_of new ≡ ended_of old → IsSchedule new.schedule → SameMeters old.schedule new.schedule → IsLed honest contents may_leave new leader
  waits_on old new leader led kept ended schedule same = record {
    holds = subst (λ k. Holds honest contents may_leave k leader.synced) (sym kept) led.holds;
    meters = led.meters ∙ sym same.listed;
    list = led.list;
    head = led.head ∙ sym (ap (λ k. head_of k) kept);
    unsaved = led.unsaved ∙ sym ended;
    noted = led.noted;
    schedule = schedule;
    lives = same.lives ∙ led.lives;
  }

  -- a commit
  pub saved_on : (old new : HeadDaemon D) (leader : Leader) → IsLed honest contents may_leave old leader → leader.untold ≡ [] → (saved : List Ended) → saved ≡ ended_of old → head_of (kept_of new) ≡ head_of (kept_of old)
      → Holds honest contents may_leave (kept_of new) (head_of (kept_of old)).book → ended_of new ≡ [] → new.schedule ≡ old.schedule
      → (next : Leader) × SavesAll leader next × IsLed honest contents may_leave new next × IsAboutToTell next saved
  saved_on old new leader led told_all saved all same holds none schedule =
      let next : Leader = record leader { synced = leader.head.book; unsaved = []; untold = leader.untold ++ leader.unsaved } in
      let its : leader.unsaved ≡ saved = led.unsaved ∙ sym all in (
        next,
        refl,
        record {
          holds = subst (λ (b : Contents). Holds honest contents may_leave (kept_of new) b) (sym (ap (λ (h : Head). h.book) led.head)) holds;
          meters = led.meters ∙ sym (ap (λ (s : Schedule). listed_of s) schedule);
          list = led.list;
          head = led.head ∙ sym same;
          unsaved = sym none;
          noted = All-nil (IsNotedIn leader.head.book);
          schedule = subst (λ (s : Schedule). IsSchedule s) (sym schedule) led.schedule;
          lives = ap (λ (s : Schedule). lives_of s) schedule ∙ led.lives;
        },
        record {
          untold = ap (λ (xs : List Ended). xs ++ leader.unsaved) told_all ∙ its;
          on_device = subst (λ (xs : List Ended). All (IsNotedIn leader.head.book) xs) its led.noted;
        },
      )

  over_rows : (daemon : HeadDaemon D) (leader : Leader) → IsLed honest contents may_leave daemon leader → All (λ b. b ≡ false) (lives_of daemon.schedule)
      → All (λ (at : Listed). row_of leader.head.rows at.meter ≡ None) leader.meters
  over_rows daemon leader led none =
      none_of_false (λ (at : Listed). row_of leader.head.rows at.meter) leader.meters (subst (λ (bs : List Bool). All (λ b. b ≡ false) bs) led.lives none)

  -- nothing is left to do
  pub over_of : (daemon : HeadDaemon D) (leader : Leader) → IsLed honest contents may_leave daemon leader → All (λ b. b ≡ false) (lives_of daemon.schedule) → ended_of daemon ≡ [] → IsOver leader
  over_of daemon leader led none all = record {
    saved_all = led.unsaved ∙ all;
    no_row = none_of_false (λ (at : Listed). row_of leader.head.rows at.meter) leader.meters (subst (λ (bs : List Bool). All (λ b. b ≡ false) bs) led.lives none);
  }

  pub none_live : (daemon : HeadDaemon D) (leader : Leader) → IsLed honest contents may_leave daemon leader → IsOver leader → All (λ b. b ≡ false) (lives_of daemon.schedule)
  none_live daemon leader led over =
      subst (λ (bs : List Bool). All (λ b. b ≡ false) bs) (sym led.lives) (false_of_none (λ (at : Listed). row_of leader.head.rows at.meter) leader.meters over.no_row)

  pub none_ended : (daemon : HeadDaemon D) (leader : Leader) → IsLed honest contents may_leave daemon leader → IsOver leader → ended_of daemon ≡ []
  none_ended daemon leader led over = sym led.unsaved ∙ over.saved_all

  -- one from another address
  pub stranger_on : (old new : HeadDaemon D) (leader : Leader) (from : SocketAddr) (datagram : List ℕ) → IsLed honest contents may_leave old leader → ((meter : ℕ) → ¬ Contains (listed_of old.schedule) (record { meter = meter; address = from }))
      → kept_of new ≡ kept_of old → ended_of new ≡ ended_of old → new.schedule ≡ old.schedule → HeardOn new leader from datagram returned.Stranger
  stranger_on old new leader from datagram led strange kept ended schedule = (
    leader,
    inr (
      refl,
      record {
        strange = λ meter listed. strange meter (subst (λ (ms : List Listed). Contains ms (record { meter = meter; address = from })) led.meters listed);
        same = refl;
      },
    ),
    waits_on old new leader led kept ended (subst (λ (s : Schedule). IsSchedule s) (sym schedule) led.schedule)
        (record { timing = ap (λ (s : Schedule). s.timing) schedule; listed = ap (λ (s : Schedule). listed_of s) schedule; lives = ap (λ (s : Schedule). lives_of s) schedule }),
  )

  -- when rows that ended are put on the device
  pub saves_none : (daemon : HeadDaemon D) (leader : Leader) (now since : ℕ) → IsLed honest contents may_leave daemon leader → ended_of daemon ≡ [] → IsTrue false ↔ IsSaveDue now since leader
  saves_none daemon leader now since led empty = (λ e. absurd (false≢true e), λ s. absurd (s.some (led.unsaved ∙ empty)))

  pub saves_all : (daemon : HeadDaemon D) (leader : Leader) (now since : ℕ) → IsLed honest contents may_leave daemon leader → ended_of daemon ≢ [] → All (λ b. b ≡ false) (lives_of daemon.schedule)
      → IsTrue true ↔ IsSaveDue now since leader
  saves_all daemon leader now since led some none = (
    λ e. record { some = λ (is : leader.unsaved ≡ []). some (sym led.unsaved ∙ is); due = inl (over_rows daemon leader led none) },
    λ s. refl,
  )

  pub saves_by : (daemon : HeadDaemon D) (leader : Leader) (now since : ℕ) (r : Bool) → IsLed honest contents may_leave daemon leader → ended_of daemon ≢ [] → ¬ All (λ b. b ≡ false) (lives_of daemon.schedule)
      → (IsTrue r ↔ (since + hold ≤ now)) → IsTrue r ↔ IsSaveDue now since leader
  saves_by daemon leader now since r led some live by = (
    λ e. record { some = λ (is : leader.unsaved ≡ []). some (sym led.unsaved ∙ is); due = inr (by.0 e) },
    λ s. by.1 (⊎_elim
        (λ (none : All (λ (at : Listed). row_of leader.head.rows at.meter ≡ None) leader.meters). absurd (live (subst (λ (bs : List Bool). All (λ b. b ≡ false) bs) (sym led.lives)
        (false_of_none (λ (at : Listed). row_of leader.head.rows at.meter) leader.meters none))))
        (λ (h : since + hold ≤ now). h) s.due),
  )

  -- how many rows are live
  pub counts_rows : (daemon : HeadDaemon D) (leader : Leader) → IsLed honest contents may_leave daemon leader → daemon.schedule.live ≡ live_rows leader
  counts_rows daemon leader led =
      led.schedule.counts_live ∙ count_mapped is_live (links_of daemon.schedule) ∙ ap (λ (bs : List Bool). count_by (λ (b : Bool). b) bs) led.lives
      ∙ sym (count_mapped (λ (at : Listed). is_some (row_of leader.head.rows at.meter)) leader.meters)
