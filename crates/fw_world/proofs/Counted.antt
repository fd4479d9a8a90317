-- Over every run serial numbers stand once in a book and meters once in a campaign, so that done rows are counted.
use Rattle.std.proofs.Common.{◌≡◌, ℕ, ◌==◌, nat_eq, Bool, true, false, cond, inl, inr, List, [], ◌∷◌, ◌++◌, map, is_some, Some, refl, sym, ap, subst, ◌∙◌, ⊎_elim}
use Rattle.std.specs.List.{list_any}
use Rattle.std.specs.Map.{lookup, set_value}
use Rattle.std.proofs.lemmas.Bool.{or_parts, false≢true}
use Rattle.std.proofs.lemmas.Bool.Decides.{Decides-eqb}
use Rattle.fw_book.specs.declared.row.Row.{Row}
use Rattle.fw_book.specs.declared.row.RowState.{RowState}
use Rattle.fw_book.specs.declared.row.RowState.TheVariants as states
use Rattle.fw_book.specs.Rows.{is_live, live_row, meters_of, repeats as meters_repeat, with_state, cancelled_rows}
use Rattle.fw_book.specs.Contents.{Contents, Offered, has_serial}
use Rattle.fw_book.specs.Changes.{at_serial, opened, marked}
use Rattle.fw_book.specs.Laws.{AdmittedOpens}
use Rattle.fw_head.specs.declared.news.News.{News}
use Rattle.fw_head.specs.declared.news.RowNews.{RowNews}
use Rattle.fw_head.specs.declared.news.RowNews.TheVariants.{Nothing, Moved, Done, Failed}
use Rattle.fw_head.specs.Row.{Row as HeadRow}
use Rattle.fw_head.specs.Head.{Head, HeadHears, went_on, opened_head}
use Rattle.fw_world.specs.declared.datagram.Direction.{Direction}
use Rattle.fw_world.specs.declared.datagram.Direction.TheVariants.{ToMeter, ToHead}
use Rattle.fw_world.specs.declared.setup.HeadSetup.{HeadSetup}
use Rattle.fw_world.specs.declared.setup.Setup.{Setup}
use Rattle.fw_world.specs.Setup.{repeats, number_of_head, head_of, head_entry, opening_state}
use Rattle.fw_world.specs.World.{Datagram}
use Rattle.fw_world.specs.Step.{Event, open_campaign, cancel_campaign, tick, deliver, stop, restart_meter, stop_restart, restart_head, turn}
use Rattle.fw_world.specs.State.{State, head_at, set_head, DeliversAt, StateStep, StateRun}
use Rattle.fw_world.specs.Laws.{DoneRowsAreCounted}
use Rattle.fw_world.proofs.Refinement.{head_cases}
use Rattle.fw_world.proofs.Staying.{actors_stay}
use Rattle.fw_world.proofs.Joined.{In, Once, once_more, pairs_once, in_contained, contained_in, found_key, key_found}
use Rattle.fw_world.proofs.Listed.{IsOnceBook, AreOnce, listed, counted, from_list, to_list, listed_once}

-- ---- what no test finds twice

none_such : {X : Type 0} (key : X → ℕ) (k : ℕ) (xs : List X) → list_any (λ other. key other == k) xs ≡ false → ¬ In k (map key xs)
none_such key k [] e is = is
none_such key k (x ∷ xs) e (inl same) = false≢true (sym (or_parts (key x == k) (list_any (λ other. key other == k) xs) e).0 ∙ (Decides-eqb (key x) k).1 same)
none_such key k (x ∷ xs) e (inr later) = none_such key k xs (or_parts (key x == k) (list_any (λ other. key other == k) xs) e).1 later

heads_once : (heads : List HeadSetup) → repeats number_of_head heads ≡ false → Once (map number_of_head heads)
heads_once [] e = tt
heads_once (head ∷ others) e =
    let parts = or_parts (list_any (λ other. number_of_head other == number_of_head head) others) (repeats number_of_head others) e in
    (none_such number_of_head (number_of_head head) others parts.0, heads_once others parts.1)

meters_once : (meters : List ℕ) → meters_repeat meters ≡ false → Once (meters_of (map live_row meters))
meters_once [] e = tt
meters_once (meter ∷ meters) e =
    let parts = or_parts (list_any (λ other. other == meter) meters) (meters_repeat meters) e in
    (λ is. none_such (λ (n : ℕ). n) meter meters parts.0 (same meters is), meters_once meters parts.1)
  where
    same : (others : List ℕ) → In meter (meters_of (map live_row others)) → In meter (map (λ (n : ℕ). n) others)
    same [] is = is
    same (other ∷ others) (inl is) = inl is
    same (other ∷ others) (inr later) = inr (same others later)

-- ---- what is kept of a book

-- the book is of the head end of this number
record IsOwnBook (number : ℕ) (book : Contents) : Type 0 where
  own : book.head ≡ number
  once : IsOnceBook book

abbrev serial_of : ℕ × Offered → ℕ
serial_of entry = entry.0

opening_once : (book : Contents) (serial release : ℕ) (image meters : List ℕ) → has_serial book serial ≡ false → meters_repeat meters ≡ false → IsOnceBook book → IsOnceBook (opened book serial release image meters)
opening_once book serial release image meters fresh apart once = record {
  serials = subst Once (sym (map_more book.campaigns)) (once_more serial (map serial_of book.campaigns) once.serials (λ is. false≢true (sym fresh ∙ key_found serial book.campaigns is)));
  meters = each book.campaigns once.meters;
}
  where
    new : ℕ × Offered
    new = (serial, record { release = release; image = image; rows = map live_row meters })

    map_more : (entries : List (ℕ × Offered)) → map serial_of (entries ++ new ∷ []) ≡ map serial_of entries ++ serial ∷ []
    map_more [] = refl
    map_more (entry ∷ entries) = ap (λ ns. entry.0 ∷ ns) (map_more entries)

    each : (entries : List (ℕ × Offered)) → ((entry : ℕ × Offered) → In entry entries → Once (meters_of entry.1.rows)) → (entry : ℕ × Offered) → In entry (entries ++ new ∷ []) → Once (meters_of entry.1.rows)
    each [] all entry (inl same) = subst (λ (e : ℕ × Offered). Once (meters_of e.1.rows)) same (meters_once meters apart)
    each [] all entry (inr none) = absurd none
    each (first ∷ others) all entry (inl same) = all entry (inl same)
    each (first ∷ others) all entry (inr later) = each others (λ e is. all e (inr is)) entry later

-- a change of the rows of one campaign that leaves their meters
changed_once : (book : Contents) (serial : ℕ) (change : List Row → List Row) → ((rows : List Row) → meters_of (change rows) ≡ meters_of rows) → IsOnceBook book
    → IsOnceBook (record { head = book.head; campaigns = at_serial serial change book.campaigns })
changed_once book serial change leaves once = record {
  serials = subst Once (sym (same book.campaigns)) once.serials;
  meters = each book.campaigns once.meters;
}
  where
    new : ℕ × Offered → ℕ × Offered
    new entry = (entry.0, record { release = entry.1.release; image = entry.1.image; rows = change entry.1.rows })

    same : (entries : List (ℕ × Offered)) → map serial_of (at_serial serial change entries) ≡ map serial_of entries
    same [] = refl
    same (entry ∷ entries) = go (serial == entry.0) (same entries)
      where
        go : (b : Bool) → map serial_of (at_serial serial change entries) ≡ map serial_of entries
            → map serial_of (cond b ((entry.0, record { release = entry.1.release; image = entry.1.image; rows = change entry.1.rows }) ∷ entries) (entry ∷ at_serial serial change entries)) ≡ entry.0 ∷ map serial_of entries
        go true others = refl
        go false others = ap (λ ns. entry.0 ∷ ns) others

    each : (entries : List (ℕ × Offered)) → ((entry : ℕ × Offered) → In entry entries → Once (meters_of entry.1.rows)) → (entry : ℕ × Offered) → In entry (at_serial serial change entries) → Once (meters_of entry.1.rows)
    each [] all entry is = absurd is
    each (first ∷ others) all entry is = go (serial == first.0) is (each others (λ e later. all e (inr later)) entry)
      where
        go : (b : Bool) → In entry (cond b ((first.0, record { release = first.1.release; image = first.1.image; rows = change first.1.rows }) ∷ others) (first ∷ at_serial serial change others))
            → (In entry (at_serial serial change others) → Once (meters_of entry.1.rows)) → Once (meters_of entry.1.rows)
        go true (inl is) rest = subst (λ (e : ℕ × Offered). Once (meters_of e.1.rows)) is (subst Once (sym (leaves first.1.rows)) (all first (inl refl)))
        go true (inr later) rest = all entry (inr later)
        go false (inl is) rest = all entry (inl is)
        go false (inr later) rest = rest later

marks_leave : (meter : ℕ) (state : RowState) (rows : List Row) → meters_of (with_state meter state rows) ≡ meters_of rows
marks_leave meter state [] = refl
marks_leave meter state (row ∷ rows) = λ i. go (row.meter == meter) i ∷ marks_leave meter state rows i
  where
    go : (b : Bool) → (cond b (record { meter = row.meter; state = state }) row).meter ≡ row.meter
    go true = refl
    go false = refl

cancelling_leaves : (rows : List Row) → meters_of (cancelled_rows rows) ≡ meters_of rows
cancelling_leaves [] = refl
cancelling_leaves (row ∷ rows) = λ i. go (is_live row.state) i ∷ cancelling_leaves rows i
  where
    go : (b : Bool) → (cond b (record { meter = row.meter; state = states.Cancelled }) row).meter ≡ row.meter
    go true = refl
    go false = refl

-- ---- what each event leaves

marked_book : (number : ℕ) (book : Contents) (serial meter : ℕ) (state : RowState) → IsOwnBook number book → IsOwnBook number (marked book serial meter state)
marked_book number book serial meter state is = record { own = is.own; once = changed_once book serial (with_state meter state) (marks_leave meter state) is.once }

gone_on : (number : ℕ) (before : Head) (meter : ℕ) (row : HeadRow) (heard : RowNews) → IsOwnBook number before.book → IsOwnBook number (went_on before meter row heard).book
gone_on number before meter row Nothing is = is
gone_on number before meter row Moved is = is
gone_on number before meter row (Done claim) is = marked_book number before.book row.name.campaign.serial meter states.Done is
gone_on number before meter row (Failed why) is = marked_book number before.book row.name.campaign.serial meter states.Failed is

heard : (number : ℕ) (before after : Head) (meter : ℕ) (bytes : List ℕ) (told : News) → HeadHears before meter bytes told after → IsOwnBook number before.book → IsOwnBook number after.book
heard number before after meter bytes told (inl takes) is =
    subst (λ (h : Head). IsOwnBook number h.book) (sym takes.new_is) (gone_on number before meter takes.next takes.heard is)
heard number before after meter bytes told (inr ignores) is = subst (λ (h : Head). IsOwnBook number h.book) (sym ignores.2) is

abbrev AreOwnBooks : State → Type 0
AreOwnBooks s = (number : ℕ) (head : Head) → head_at s number ≡ Some head → IsOwnBook number head.book

-- one head end is another one, whose book is as it was before or goes on
head_goes : (old new : State) (number : ℕ) (before after : Head) → head_at old number ≡ Some before → new.heads ≡ set_value (nat_eq number) old.heads after
    → (IsOwnBook number before.book → IsOwnBook number after.book) → AreOwnBooks old → AreOwnBooks new
head_goes old new number before after there heads keeps are q head found =
    let at : head_at (set_head old number after) q ≡ Some head = ap (λ es. lookup (nat_eq q) es) (sym heads) ∙ found in
    ⊎_elim
    (λ here.
    let same : after ≡ head = one after head (sym here.becomes ∙ at) in
    subst (λ (h : Head). IsOwnBook q h.book) same (subst (λ n. IsOwnBook n after.book) (sym here.is) (keeps (are number before there))))
    (λ away. are q head (sym away.1 ∙ at))
    (head_cases old number before after there q)
  where
    one : (a b : Head) → Some a ≡ Some b → a ≡ b
    one a b e = cc

heads_stay : (old new : State) → new.heads ≡ old.heads → AreOwnBooks old → AreOwnBooks new
heads_stay old new heads are q head found = are q head (ap (λ es. lookup (nat_eq q) es) (sym heads) ∙ found)

delivered : (old new : State) (d : Datagram) (way : Direction) → DeliversAt way old d new → AreOwnBooks old → AreOwnBooks new
delivered old new d ToMeter o = heads_stay old new (ap (λ (s : State). s.heads) o.new_is)
delivered old new d ToHead o = head_goes old new d.head o.before o.after o.there (ap (λ (s : State). s.heads) o.new_is) (heard d.head o.before o.after d.meter d.bytes o.told o.hears)

step_keeps : AdmittedOpens → (old new : State) (event : Event) → StateStep old event new → AreOwnBooks old → AreOwnBooks new
step_keeps admitted old new (open_campaign campaign release image meters) o =
    let opens = (admitted o.head.book campaign image meters).0 o.admitted in
    head_goes old new campaign.head o.head (opened_head o.head campaign.serial release image meters) o.there (ap (λ (s : State). s.heads) o.new_is)
    (λ is. record { own = is.own; once = opening_once o.head.book campaign.serial release image meters opens.serial_new opens.meters_once is.once })
step_keeps admitted old new (cancel_campaign campaign) o =
    head_goes old new campaign.head o.head _ o.there (ap (λ (s : State). s.heads) o.new_is)
    (λ is. record { own = is.own; once = changed_once o.head.book campaign.serial cancelled_rows cancelling_leaves is.once })
step_keeps admitted old new (tick head meter) o = head_goes old new head o.head _ o.there (ap (λ (s : State). s.heads) o.new_is) (λ is. is)
step_keeps admitted old new (deliver number) o = delivered old new o.0 o.0.direction o.2
step_keeps admitted old new (stop number calls torn) o = let s = o.3 in heads_stay old new (ap (λ (t : State). t.heads) s.new_is)
step_keeps admitted old new (restart_meter number) o = heads_stay old new (ap (λ (s : State). s.heads) o.2)
step_keeps admitted old new (stop_restart number calls torn) o = heads_stay old new (ap (λ (s : State). s.heads) o.2)
step_keeps admitted old new (restart_head number) o = head_goes old new number o.0 _ o.1 (ap (λ (s : State). s.heads) o.2) (λ is. is)
step_keeps admitted old new (turn number) o = heads_stay old new (ap (λ (s : State). s.heads) o.4)

-- ---- over every run

record IsKept (setup : Setup) (s : State) : Type 0 where
  books : AreOwnBooks s
  there : (number : ℕ) → is_some (head_at s number) ≡ true → In number (map number_of_head setup.heads.items)

-- no campaign was opened yet
new_books : (heads : List HeadSetup) (number : ℕ) (head : Head) → lookup (nat_eq number) (map head_entry heads) ≡ Some head → IsOwnBook number head.book
new_books [] number head found = absurd cc
new_books (first ∷ others) number head found = go (nat_eq number first.head) refl found (new_books others number head)
  where
    go : (b : Bool) → nat_eq number first.head ≡ b → cond b (Some (head_of first)) (lookup (nat_eq number) (map head_entry others)) ≡ Some head
        → (lookup (nat_eq number) (map head_entry others) ≡ Some head → IsOwnBook number head.book) → IsOwnBook number head.book
    go true here e later =
        let same : head_of first ≡ head = cc in
        subst (λ (h : Head). IsOwnBook number h.book) same
        (record { own = sym ((Decides-eqb number first.head).0 here); once = record { serials = tt; meters = λ entry none. absurd none } })
    go false away e later = later e

new_there : (heads : List HeadSetup) → map (λ (entry : ℕ × Head). entry.0) (map head_entry heads) ≡ map number_of_head heads
new_there [] = refl
new_there (head ∷ heads) = ap (λ ns. number_of_head head ∷ ns) (new_there heads)

at_opening : (setup : Setup) → IsKept setup (opening_state setup)
at_opening setup = record {
  books = new_books setup.heads.items;
  there = λ number is. subst (In number) (new_there setup.heads.items) (found_key number (map head_entry setup.heads.items) is);
}

over_run : AdmittedOpens → (setup : Setup) (events : List Event) (old new : State) → StateRun old events new → IsKept setup old → IsKept setup new
over_run admitted setup [] old new run kept = subst (IsKept setup) (sym run) kept
over_run admitted setup (event ∷ events) old new run kept =
    over_run admitted setup events run.0 new run.2 (record {
      books = step_keeps admitted old run.0 event run.1 kept.books;
      there = λ number is. kept.there number (sym (actors_stay old run.0 event run.1 number).0 ∙ is);
    })

once_after : AdmittedOpens → (setup : Setup) (events : List Event) (s : State) → StateRun (opening_state setup) events s → AreOnce setup s
once_after admitted setup events s run =
    let kept = over_run admitted setup events (opening_state setup) s run (at_opening setup) in
    record {
      own = λ number head found. (kept.books number head found).own;
      once = λ number head found. (kept.books number head found).once;
      there = λ number head found. kept.there number (ap is_some found);
    }

pub done_rows_counted : AdmittedOpens → DoneRowsAreCounted
done_rows_counted admitted setup events s is run =
    let are = once_after admitted setup events s run in (
      listed setup s,
      record {
        each = λ campaign meter. (
          λ there. from_list setup s campaign meter are (in_contained (campaign, meter) (listed setup s) there),
          λ done. contained_in (campaign, meter) (listed setup s) (to_list setup s campaign meter are done),
        );
        once = pairs_once (listed setup s) (listed_once setup s (heads_once setup.heads.items is.heads_once) are);
      },
      sym (counted setup s),
    )
