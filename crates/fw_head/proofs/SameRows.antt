-- A call that keeps the meters that have a row, and of each row its name, its size and its meter, keeps a head end.
use Rattle.std.proofs.Common.{◌≡◌, ℕ, ◌+◌, nat_eq, nat_lt, Bool, true, false, if◌then◌else◌, List, [], ◌∷◌, Option, Some, None, inl, inr, refl, sym, ap, subst, ◌∙◌, ⊎_elim}
use Rattle.std.specs.List.{IsDistinct}
use Rattle.std.specs.Map.{lookup, keys_of}
use Rattle.std.proofs.lemmas.Map.Made.{keys_of-map_values}
use Rattle.std.proofs.lemmas.Bool.{cases_Bool, cond-true, cond-false}
use Rattle.fw_names.specs.Name.{Name}
use Rattle.fw_blocks.specs.Cuts.{Partition}
use Rattle.fw_client.specs.State.{forgetting}
use Rattle.fw_book.specs.declared.row.RowState.TheVariants as state
use Rattle.fw_book.specs.Contents.{Contents, state_in}
use Rattle.fw_book.specs.declared.notes.Reason.{Reason}
use Rattle.fw_head.specs.declared.stage.Stage.{Stage}
use Rattle.fw_head.specs.declared.stage.Stage.TheVariants.{Start, Blocks, Done, Failed}
use Rattle.fw_head.specs.declared.answers.Step.{Step}
use Rattle.fw_head.specs.declared.answers.Step.TheVariants.{Stay, Took, Move, Return, Fail}
use Rattle.fw_head.specs.declared.news.RowNews.{RowNews}
use Rattle.fw_head.specs.declared.news.RowNews.TheVariants as news
use Rattle.fw_head.specs.Phase.{IsLive}
use Rattle.fw_head.specs.Reason.{reason_at}
use Rattle.fw_head.specs.Row.{Row, news_in, max_returns, new_row, ticked, tick_asks, moved, returned, settled, with_block, went, confirm_first, asked_first, stepped, RowHears}
use Rattle.fw_head.specs.Head.{Rows, RowsHear, row_of, at_meter, renewed, IsRowOf, IsHead}
use Rattle.fw_head.specs.Laws.{IsOfSameGoal, RowKeepsGoal}
use Rattle.fw_head.proofs.Heard.{kept_meter}
use Rattle.fw_head.proofs.LiveRows.{same_found}
use Rattle.fw_head.proofs.Sending.{same_meter}

itself : (row : Row) → IsOfSameGoal row row
itself row = record { name = refl; size = refl; meter = refl }

-- and the second hasn't ended where the first hasn't
pub record GoesOn (a b : Row) : Type 0 where
  pub goal : IsOfSameGoal a b
  pub going : IsLive a.stage → IsLive b.stage

stays : (row : Row) → GoesOn row row
stays row = record { goal = itself row; going = λ live. live }

-- ---- what a row does keeps its goal

goal_moved : (row : Row) (stage : Stage) → IsOfSameGoal row (moved row stage)
goal_moved row stage = record { name = refl; size = refl; meter = refl }

goal_settled : (row : Row) (stage : Stage) → IsOfSameGoal row (settled row stage)
goal_settled row (Blocks g known) = record { name = refl; size = refl; meter = refl }
goal_settled row _ = record { name = refl; size = refl; meter = refl }

goal_either : (b : Bool) (row x y : Row) → IsOfSameGoal row x → IsOfSameGoal row y → IsOfSameGoal row (if b then x else y)
goal_either true row x y h k = h
goal_either false row x y h k = k

goal_returned : (row : Row) (g : Partition) (why : Reason) → IsOfSameGoal row (returned row g why)
goal_returned row g why =
    goal_either (nat_lt (row.returns + 1) max_returns) row (record (moved row (Start g)) { returns = row.returns + 1 }) (moved row (Failed why))
    (record { name = refl; size = refl; meter = refl }) (goal_moved row (Failed why))

goal_went : (row : Row) (step : Step) (why : Reason) → IsOfSameGoal row (went row step why)
goal_went row Stay why = itself row
goal_went row (Took n) why = goal_settled row (with_block row.stage n)
goal_went row (Move stage) why = goal_moved row stage
goal_went row (Return g) why = goal_returned row g why
goal_went row Fail why = goal_moved row (Failed why)

goal_asking : (row : Row) (step : Step) (why : Reason) → IsOfSameGoal row (asked_first row step why)
goal_asking row (Move stage) why = goal_moved row (confirm_first stage)
goal_asking row (Return g) why = record { name = refl; size = refl; meter = refl }
goal_asking row step why = goal_went row step why

goal_stepped : (row : Row) (step : Step) (why : Reason) → IsOfSameGoal row (stepped row step why)
goal_stepped row step why = goal_either row.asks_first row (asked_first row step why) (went row step why) (goal_asking row step why) (goal_went row step why)

pub goes_ticked : (row : Row) (image : List ℕ) (width : ℕ) → GoesOn row (ticked row image width)
goes_ticked row image width =
    record { goal = record { name = refl; size = refl; meter = same_meter (forgetting row.client) (tick_asks row image width) }; going = λ live. live }

pub goal_heard : RowKeepsGoal
goal_heard row next datagram told (inl takes) =
    let between : Row = record row { client = takes.client } in
    let kept = goal_stepped between takes.step (reason_at row.stage takes.answer) in
    record {
      name = ap (λ (r : Row). r.name) takes.new_is ∙ kept.name;
      size = ap (λ (r : Row). r.size) takes.new_is ∙ kept.size;
      meter = ap (λ (r : Row). r.client.meter) takes.new_is ∙ kept.meter ∙ kept_meter row.client takes.client datagram takes.heard takes.takes;
    }
goal_heard row next datagram told (inr ignores) =
    record {
      name = ap (λ (r : Row). r.name) ignores.2;
      size = ap (λ (r : Row). r.size) ignores.2;
      meter = ap (λ (r : Row). r.client.meter) ignores.2;
    }

-- what reports no end leaves the row going
abbrev pub TellsNoEnd : RowNews → Type 0
TellsNoEnd (news.Done claim) = ⊥
TellsNoEnd (news.Failed why) = ⊥
TellsNoEnd told = Unit {0}

no_end : (stage : Stage) (told : RowNews) → told ≡ news_in stage → TellsNoEnd told → IsLive stage
no_end (Done claim) told is none = subst TellsNoEnd is none
no_end (Failed why) told is none = subst TellsNoEnd is none
no_end stage told is none = tt

goes_heard : (row next : Row) (datagram : List ℕ) (told : RowNews) → RowHears row datagram told next → TellsNoEnd told → GoesOn row next
goes_heard row next datagram told (inl takes) none =
    record { goal = goal_heard row next datagram told (inl takes); going = λ live. no_end next.stage told takes.told_is none }
goes_heard row next datagram told (inr ignores) none =
    let P : Row → Type 0 = λ r. GoesOn row r in
    subst P (sym ignores.2) (stays row)

-- ---- rows of the same meters for the same goals

abbrev pub Agree : Option Row → Option Row → Type 0
Agree (Some a) (Some b) = GoesOn a b
Agree None None = Unit {0}
Agree _ _ = ⊥

agree_itself : (o : Option Row) → Agree o o
agree_itself None = tt
agree_itself (Some row) = stays row

agree_same : (a b : Option Row) → a ≡ b → Agree a b
agree_same a b e =
    let P : Option Row → Type 0 = λ o. Agree a o in
    subst P e (agree_itself a)

agree_along : (a a' b b' : Option Row) → a ≡ a' → b ≡ b' → Agree a' b' → Agree a b
agree_along a a' b b' p q h =
    let P : Option Row → Type 0 = λ o. Agree o b in
    let Q : Option Row → Type 0 = λ o. Agree a' o in
    subst P (sym p) (subst Q (sym q) h)

pub agree_at : (meter : ℕ) (change : Row → Row) (rows : Rows) → ((row : Row) → row_of rows meter ≡ Some row → GoesOn row (change row)) → (m : ℕ) → Agree (row_of rows m) (row_of (at_meter meter change rows) m)
agree_at meter change [] keeps m = tt
agree_at meter change (entry ∷ entries) keeps m =
    let rows : Rows = entry ∷ entries in
    let one : Rows = (entry.0, change entry.1) ∷ entries in
    let rest : Rows = entry ∷ at_meter meter change entries in
    ⊎_elim
    (λ here.
    let new : at_meter meter change rows ≡ one = cond-true (nat_eq meter entry.0) one rest here in
    let first : row_of rows meter ≡ Some entry.1 = cond-true (nat_eq meter entry.0) (Some entry.1) (lookup (nat_eq meter) entries) here in
    let written : row_of (at_meter meter change rows) m ≡ row_of one m = ap (λ (es : Rows). row_of es m) new in
    ⊎_elim
    (λ it. agree_along _ (Some entry.1) _ (Some (change entry.1))
    (cond-true (nat_eq m entry.0) (Some entry.1) (lookup (nat_eq m) entries) it)
    (written ∙ cond-true (nat_eq m entry.0) (Some (change entry.1)) (lookup (nat_eq m) entries) it)
    (keeps entry.1 first))
    (λ other. agree_along _ (lookup (nat_eq m) entries) _ (lookup (nat_eq m) entries)
    (cond-false (nat_eq m entry.0) (Some entry.1) (lookup (nat_eq m) entries) other)
    (written ∙ cond-false (nat_eq m entry.0) (Some (change entry.1)) (lookup (nat_eq m) entries) other)
    (agree_itself (lookup (nat_eq m) entries)))
    (cases_Bool (nat_eq m entry.0)))
    (λ away.
    let new : at_meter meter change rows ≡ rest = cond-false (nat_eq meter entry.0) one rest away in
    let later : row_of rows meter ≡ row_of entries meter = cond-false (nat_eq meter entry.0) (Some entry.1) (lookup (nat_eq meter) entries) away in
    let written : row_of (at_meter meter change rows) m ≡ row_of rest m = ap (λ (es : Rows). row_of es m) new in
    ⊎_elim
    (λ it. agree_along _ (Some entry.1) _ (Some entry.1)
    (cond-true (nat_eq m entry.0) (Some entry.1) (lookup (nat_eq m) entries) it)
    (written ∙ cond-true (nat_eq m entry.0) (Some entry.1) (lookup (nat_eq m) (at_meter meter change entries)) it)
    (stays entry.1))
    (λ other. agree_along _ (lookup (nat_eq m) entries) _ (lookup (nat_eq m) (at_meter meter change entries))
    (cond-false (nat_eq m entry.0) (Some entry.1) (lookup (nat_eq m) entries) other)
    (written ∙ cond-false (nat_eq m entry.0) (Some entry.1) (lookup (nat_eq m) (at_meter meter change entries)) other)
    (agree_at meter change entries (λ row found. keeps row (later ∙ found)) m))
    (cases_Bool (nat_eq m entry.0)))
    (cases_Bool (nat_eq meter entry.0))

pub agree_renewed : (rows : Rows) (m : ℕ) → Agree (row_of rows m) (row_of (renewed rows) m)
agree_renewed [] m = tt
agree_renewed (entry ∷ entries) m =
    let new : Row = new_row entry.1.client.meter entry.1.name entry.1.size in
    ⊎_elim
    (λ it. agree_along _ (Some entry.1) _ (Some new)
    (cond-true (nat_eq m entry.0) (Some entry.1) (lookup (nat_eq m) entries) it)
    (cond-true (nat_eq m entry.0) (Some new) (lookup (nat_eq m) (renewed entries)) it)
    (record { goal = record { name = refl; size = refl; meter = refl }; going = λ live. tt }))
    (λ other. agree_along _ (lookup (nat_eq m) entries) _ (lookup (nat_eq m) (renewed entries))
    (cond-false (nat_eq m entry.0) (Some entry.1) (lookup (nat_eq m) entries) other)
    (cond-false (nat_eq m entry.0) (Some new) (lookup (nat_eq m) (renewed entries)) other)
    (agree_renewed entries m))
    (cases_Bool (nat_eq m entry.0))

-- a write to a row leaves the meters that have one
pub keys_at : (meter : ℕ) (change : Row → Row) (rows : Rows) → keys_of (at_meter meter change rows) ≡ keys_of rows
keys_at meter change [] = refl
keys_at meter change (entry ∷ entries) =
    let one : Rows = (entry.0, change entry.1) ∷ entries in
    let rest : Rows = entry ∷ at_meter meter change entries in
    ⊎_elim
    (λ here. ap (λ (rs : Rows). keys_of rs) (cond-true (nat_eq meter entry.0) one rest here))
    (λ away.
    ap (λ (rs : Rows). keys_of rs) (cond-false (nat_eq meter entry.0) one rest away)
    ∙ ap (λ (ks : List ℕ). (let all : List ℕ = entry.0 ∷ ks in all)) (keys_at meter change entries))
    (cases_Bool (nat_eq meter entry.0))

pub keys_renewed : (rows : Rows) → keys_of (renewed rows) ≡ keys_of rows
keys_renewed rows = keys_of-map_values (λ (row : Row). new_row row.client.meter row.name row.size) rows

pub keys_heard : (old new : Rows) (meter : ℕ) (datagram : List ℕ) (told : RowNews) → RowsHear old meter datagram told new → keys_of new ≡ keys_of old
keys_heard old new meter datagram told (inl x) = ap (λ (rs : Rows). keys_of rs) x.4 ∙ keys_at meter (λ was. x.1) old
keys_heard old new meter datagram told (inr x) = ap (λ (rs : Rows). keys_of rs) x.2

back : (a : Option Row) (b : Row) → Agree a (Some b) → (row : Row) × (a ≡ Some row) × GoesOn row b
back None b h = absurd h
back (Some row) b h = (row, refl, h)

forth : (a : Row) (b : Option Row) → Agree (Some a) b → (row : Row) × (b ≡ Some row) × GoesOn a row
forth a None h = absurd h
forth a (Some row) h = (row, refl, h)

row_kept : (book : Contents) (meter : ℕ) (a b : Row) → GoesOn a b → IsRowOf book meter a → IsRowOf book meter b
row_kept book meter a b goes is =
    let same = goes.goal in
    let P : Name → Type 0 = λ n. state_in book n.campaign meter ≡ Some state.Live in
    record {
      asks = same.meter ∙ is.asks;
      live = subst P (sym same.name) is.live;
      named = rw same.name is.named;
      sized = rw (same.name, same.size) is.sized;
      going = goes.going is.going;
    }

pub head_kept : (book : Contents) (width : ℕ) (old new : Rows) → keys_of new ≡ keys_of old → ((m : ℕ) → Agree (row_of old m) (row_of new m)) → IsHead (record { book = book; width = width; rows = old }) → IsHead (record { book = book; width = width; rows = new })
head_kept book width old new keys agree is =
    let R : List ℕ → Type 0 = λ ks. IsDistinct nat_eq ks in
    let P : (m : ℕ) → Option Row → Type 0 = λ m o. Agree (row_of old m) o in
    let Q : (m : ℕ) → Option Row → Type 0 = λ m o. Agree o (row_of new m) in
    record {
      of_book = λ m row found.
          let was = back (row_of old m) row (subst (P m) found (agree m)) in
          row_kept book m was.0 row was.2 (is.of_book m was.0 was.1);
      of_rows = λ campaign m live.
          let was = is.of_rows campaign m live in
          let now = forth was.0 (row_of new m) (subst (Q m) was.1 (agree m)) in
          (now.0, now.1, ap (λ (n : Name). n.campaign) now.2.goal.name ∙ was.2);
      once = subst R (sym keys) is.once;
    }

-- the same for rows that equal the new ones
pub head_kept_by : (book : Contents) (width : ℕ) (old by new : Rows) → new ≡ by → keys_of by ≡ keys_of old → ((m : ℕ) → Agree (row_of old m) (row_of by m)) → IsHead (record { book = book; width = width; rows = old }) → IsHead (record { book = book; width = width; rows = new })
head_kept_by book width old by new e keys agree is =
    let P : Rows → Type 0 = λ rows. IsHead (record { book = book; width = width; rows = rows }) in
    subst P (sym e) (head_kept book width old by keys agree is)

pub agree_all : (rows : Rows) (m : ℕ) → Agree (row_of rows m) (row_of rows m)
agree_all rows m = agree_itself (row_of rows m)

-- a row that goes on
agree_heard : (old new : Rows) (meter : ℕ) (datagram : List ℕ) (told : RowNews) → RowsHear old meter datagram told new → TellsNoEnd told → (m : ℕ) → Agree (row_of old m) (row_of new m)
agree_heard old new meter datagram told (inl x) none m =
    let P : Row → Type 0 = λ r. GoesOn r x.1 in
    let went = goes_heard x.0 x.1 datagram told x.3 none in
    agree_along (row_of old m) (row_of old m) (row_of new m) (row_of (at_meter meter (λ was. x.1) old) m) refl (ap (λ (rs : Rows). row_of rs m) x.4)
    (agree_at meter (λ was. x.1) old (λ row found. subst P (same_found meter meter old x.0 row refl x.2 found) went) m)
agree_heard old new meter datagram told (inr x) none m = agree_same (row_of old m) (row_of new m) (ap (λ (rs : Rows). row_of rs m) (sym x.2))

-- keeps the head end
pub head_heard : (book : Contents) (width : ℕ) (old new : Rows) (meter : ℕ) (datagram : List ℕ) (told : RowNews) → RowsHear old meter datagram told new → TellsNoEnd told → IsHead (record { book = book; width = width; rows = old }) → IsHead (record { book = book; width = width; rows = new })
head_heard book width old new meter datagram told hears none is =
    head_kept book width old new (keys_heard old new meter datagram told hears) (agree_heard old new meter datagram told hears none) is
