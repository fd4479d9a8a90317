-- How far the own row of each meter is, with one row more, and with those of a campaign.
use Rattle.std.proofs.Common.{◌≡◌, ℕ, ◌==◌, nat_eq, ◌&&◌, ◌||◌, Bool, true, false, cond, List, [], ◌∷◌, ◌++◌, Option, Some, None, refl, sym, ap, ◌∙◌, eqb-true, append_assoc, append-nil}
use Rattle.std.specs.Option.{option_or}
use Rattle.std.proofs.lemmas.Bool.{or_parts}
use Rattle.fw_book.specs.declared.row.Row.{Row}
use Rattle.fw_book.specs.declared.row.RowState.{RowState}
use Rattle.fw_book.specs.declared.row.RowState.TheVariants.{Live, Done, Failed, Cancelled}
use Rattle.fw_book.specs.Contents.{Offered}
use Rattle.fw_book.specs.Rows.{is_live, is_live_in}
use Rattle.fw_plan.specs.Private.{after_row, after_rows, is_live_state}
use Rattle.fw_plan.specs.Waves.{last_state, own_state_in, rows_of}

-- ---- a row more at the end

or_assoc : (a b c : Bool) → ((a || b) || c) ≡ (a || (b || c))
or_assoc true b c = refl
or_assoc false b c = refl

or_none : (a : Bool) → (a || false) ≡ a
or_none true = refl
or_none false = refl

live_push : (rows : List Row) (row : Row) (meter : ℕ) → is_live_in (rows ++ row ∷ []) meter ≡ (is_live_in rows meter || ((row.meter == meter) && is_live row.state))
live_push [] row meter = or_none ((row.meter == meter) && is_live row.state)
live_push (first ∷ rows) row meter =
    ap (λ (b : Bool). ((first.meter == meter) && is_live first.state) || b) (live_push rows row meter)
    ∙ sym (or_assoc ((first.meter == meter) && is_live first.state) (is_live_in rows meter) ((row.meter == meter) && is_live row.state))

or_last : (b : Bool) (state : RowState) (last other : Option RowState) → option_or (cond b (Some state) last) other ≡ cond b (Some state) (option_or last other)
or_last true state last other = refl
or_last false state last other = refl

last_push : (rows : List Row) (row : Row) (meter : ℕ) → last_state (rows ++ row ∷ []) meter ≡ cond (row.meter == meter) (Some row.state) (last_state rows meter)
last_push [] row meter = refl
last_push (first ∷ rows) row meter =
    ap (λ (o : Option RowState). option_or o (cond (first.meter == meter) (Some first.state) None)) (last_push rows row meter)
    ∙ or_last (row.meter == meter) row.state (last_state rows meter) (cond (first.meter == meter) (Some first.state) None)

one_more : (own live : Bool) (state : RowState) (last : Option RowState)
    → cond (live || (own && is_live state)) (Some Live) (cond own (Some state) last) ≡ cond own (cond live (Some Live) (Some state)) (cond live (Some Live) last)
one_more true true state last = refl
one_more true false Live last = refl
one_more true false Done last = refl
one_more true false Failed last = refl
one_more true false Cancelled last = refl
one_more false true state last = refl
one_more false false state last = refl

own_push : (rows : List Row) (row : Row) (meter : ℕ) → own_state_in (rows ++ row ∷ []) meter
    ≡ cond (row.meter == meter) (cond (is_live_in rows meter) (Some Live) (Some row.state)) (own_state_in rows meter)
own_push rows row meter =
    ap (λ (b : Bool). cond b (Some Live) (last_state (rows ++ row ∷ []) meter)) (live_push rows row meter)
    ∙ ap (λ (o : Option RowState). cond (is_live_in rows meter || ((row.meter == meter) && is_live row.state)) (Some Live) o) (last_push rows row meter)
    ∙ one_more (row.meter == meter) (is_live_in rows meter) row.state (last_state rows meter)

-- ---- whether a live row is noted

or_dead : (o : Option RowState) (own : Bool) (state : RowState) → (own && is_live state) ≡ false → is_live_state o ≡ false
    → is_live_state (option_or o (cond own (Some state) None)) ≡ false
or_dead (Some other) own state e dead = dead
or_dead None true state e dead = e
or_dead None false state e dead = refl

last_dead : (rows : List Row) (meter : ℕ) → is_live_in rows meter ≡ false → is_live_state (last_state rows meter) ≡ false
last_dead [] meter e = refl
last_dead (row ∷ rows) meter e =
    let parts = or_parts ((row.meter == meter) && is_live row.state) (is_live_in rows meter) e in
    or_dead (last_state rows meter) (row.meter == meter) row.state parts.0 (last_dead rows meter parts.1)

live_if : (live : Bool) (o : Option RowState) → (live ≡ false → is_live_state o ≡ false) → is_live_state (cond live (Some Live) o) ≡ live
live_if true o dead = refl
live_if false o dead = dead refl

pub own_live : (rows : List Row) (meter : ℕ) → is_live_state (own_state_in rows meter) ≡ is_live_in rows meter
own_live rows meter = live_if (is_live_in rows meter) (last_state rows meter) (last_dead rows meter)

-- ---- one row more, and some

-- a row whose meter has no live one counts
counts_at : (own : Bool) (old : Option RowState) (state : RowState) → (own ≡ true → is_live_state old ≡ false)
    → cond own (Some state) old ≡ cond own (cond (is_live_state old) old (Some state)) old
counts_at true old state dead = ap (λ (b : Bool). cond b old (Some state)) (sym (dead refl))
counts_at false old state dead = refl

pub noted : (row : Row) (old new : ℕ → Option RowState) → is_live_state (old row.meter) ≡ false → ((meter : ℕ) → new meter ≡ cond (nat_eq row.meter meter) (Some row.state) (old meter))
    → (meter : ℕ) → new meter ≡ after_row (old meter) row meter
noted row old new dead puts meter =
    puts meter ∙ counts_at (row.meter == meter) (old meter) row.state (λ same. ap (λ (m : ℕ). is_live_state (old m)) (sym (eqb-true row.meter meter same)) ∙ dead)

-- one whose meter has a live one doesn't
stays_at : (own : Bool) (old : Option RowState) (state : RowState) → (own ≡ true → is_live_state old ≡ true)
    → old ≡ cond own (cond (is_live_state old) old (Some state)) old
stays_at true old state lives = ap (λ (b : Bool). cond b old (Some state)) (sym (lives refl))
stays_at false old state lives = refl

pub kept : (row : Row) (old : ℕ → Option RowState) → is_live_state (old row.meter) ≡ true → (meter : ℕ) → old meter ≡ after_row (old meter) row meter
kept row old lives meter =
    stays_at (row.meter == meter) (old meter) row.state (λ same. ap (λ (m : ℕ). is_live_state (old m)) (sym (eqb-true row.meter meter same)) ∙ lives)

pub after_push : (state : Option RowState) (rows : List Row) (row : Row) (meter : ℕ) → after_rows state (rows ++ row ∷ []) meter ≡ after_row (after_rows state rows meter) row meter
after_push state [] row meter = refl
after_push state (first ∷ rows) row meter = after_push (after_row state first meter) rows row meter

after_append : (state : Option RowState) (rows more : List Row) (meter : ℕ) → after_rows state (rows ++ more) meter ≡ after_rows (after_rows state rows meter) more meter
after_append state [] more meter = refl
after_append state (first ∷ rows) more meter = after_append (after_row state first meter) rows more meter

-- ---- all rows

same_live : (live : Bool) (last : Option RowState) (state : RowState) → is_live_state (cond live (Some Live) last) ≡ live
    → cond (is_live_state (cond live (Some Live) last)) (cond live (Some Live) last) (Some state) ≡ cond live (Some Live) (Some state)
same_live true last state is = refl
same_live false last state is = ap (λ (b : Bool). cond b last (Some state)) is

own_row : (before : List Row) (row : Row) (meter : ℕ) → after_row (own_state_in before meter) row meter ≡ own_state_in (before ++ row ∷ []) meter
own_row before row meter =
    ap (λ (o : Option RowState). cond (row.meter == meter) o (own_state_in before meter)) (same_live (is_live_in before meter) (last_state before meter) row.state (own_live before meter))
    ∙ sym (own_push before row meter)

own_rows : (before rows : List Row) (meter : ℕ) → after_rows (own_state_in before meter) rows meter ≡ own_state_in (before ++ rows) meter
own_rows before [] meter = ap (λ (rs : List Row). own_state_in rs meter) (sym (append-nil before))
own_rows before (row ∷ rows) meter =
    ap (λ (o : Option RowState). after_rows o rows meter) (own_row before row meter) ∙ own_rows (before ++ row ∷ []) rows meter
    ∙ ap (λ (rs : List Row). own_state_in rs meter) (append_assoc before (row ∷ []) rows)

-- ---- the campaigns of a book

-- nothing is noted, and all campaigns are left
pub begun : (states : ℕ → Option RowState) (left campaigns : List (ℕ × Offered)) → left ≡ campaigns → ((meter : ℕ) → states meter ≡ None)
    → (meter : ℕ) → after_rows (states meter) (rows_of left) meter ≡ own_state_in (rows_of campaigns) meter
begun states left campaigns all none meter =
    ap (λ (o : Option RowState). after_rows o (rows_of left) meter) (none meter) ∙ ap (λ (es : List (ℕ × Offered)). after_rows None (rows_of es) meter) all
    ∙ own_rows [] (rows_of campaigns) meter

-- the rows of one campaign more are noted
pub noted_more : (old new : ℕ → Option RowState) (rows : List Row) (offer : Offered) (serial : ℕ) (left rest campaigns : List (ℕ × Offered)) → left ≡ (serial, offer) ∷ rest
    → rows ≡ offer.rows → ((meter : ℕ) → new meter ≡ after_rows (old meter) rows meter)
    → ((meter : ℕ) → after_rows (old meter) (rows_of left) meter ≡ own_state_in (rows_of campaigns) meter)
    → (meter : ℕ) → after_rows (new meter) (rows_of rest) meter ≡ own_state_in (rows_of campaigns) meter
noted_more old new rows offer serial left rest campaigns next same notes so_far meter =
    ap (λ (o : Option RowState). after_rows o (rows_of rest) meter) (notes meter ∙ ap (λ (rs : List Row). after_rows (old meter) rs meter) same)
    ∙ sym (after_append (old meter) offer.rows (rows_of rest) meter)
    ∙ ap (λ (es : List (ℕ × Offered)). after_rows (old meter) (rows_of es) meter) (sym next)
    ∙ so_far meter
