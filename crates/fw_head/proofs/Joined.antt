-- The ends of rows are marked, and those that have not ended stay: that makes a head end of the live rows of a book.
use Rattle.std.proofs.Common.{◌≡◌, ◌≢◌, ℕ, ◌==◌, nat_eq, not, Bool, true, false, List, [], ◌∷◌, Option, Some, None, option_map, refl, sym, ap, subst, ◌∙◌, ⊎_elim}
use Rattle.std.specs.List.{IsDistinct, AllByRecursion}
use Rattle.std.specs.Map.{lookup, keys_of, values_of}
use Rattle.std.proofs.lemmas.Map.Keys.{IsDistinct-head, IsDistinct-tail}
use Rattle.std.proofs.lemmas.Map.Made.{IsDistinct-keys_filter}
use Rattle.std.proofs.lemmas.Bool.{cases_Bool, cond-true, cond-false, false≢true}
use Rattle.std.proofs.lemmas.Bool.Decides.{Decides-eqb}
use Rattle.fw_names.specs.Name.{Campaign}
use Rattle.fw_book.specs.declared.row.RowState.{RowState}
use Rattle.fw_book.specs.declared.row.RowState.TheVariants as state
use Rattle.fw_book.specs.Contents.{Contents, image_in, name_in, state_in}
use Rattle.fw_book.specs.Changes.{marked}
use Rattle.fw_book.specs.Laws.{ImagesStay, StatesFollowCalls}
use Rattle.fw_head.specs.declared.stage.Stage.{Stage}
use Rattle.fw_head.specs.declared.stage.Stage.TheVariants.{Done, Failed}
use Rattle.fw_head.specs.Phase.{IsLive, has_ended}
use Rattle.fw_head.specs.Row.{Row, new_row}
use Rattle.fw_head.specs.Head.{Rows, row_of, IsRowOf, AreRowsOf}
use Rattle.fw_head.specs.Parts.{by_meter, AreLiveRows, still_live, with_end, with_ends}
use Rattle.fw_head.specs.Laws.{state_of_stage, EndsAreMarked}
use Rattle.fw_head.specs.Private.{IsOfBook}
use Rattle.fw_head.proofs.LiveRows.{some_row}
use Rattle.fw_head.proofs.Names.{mark_name}
use Rattle.fw_head.proofs.States.{same_campaign, either_campaign, of_head, state_stays, marked_ends, row_stays}
use Rattle.fw_head.proofs.ByMeter.{all_from, behind, once_from, own_meter, own_from, rows_from, has_each_from}

none_row : (row : Row) → (let o : Option Row = None in o ≡ Some row) → ⊥
none_row row e = cc

-- ---- the rows that have not ended

abbrev goes : ℕ × Row → Bool
goes entry = not (has_ended entry.1.stage)

live_stage : (stage : Stage) → not (has_ended stage) ≡ true → IsLive stage
live_stage (Done claim) e = false≢true e
live_stage (Failed why) e = false≢true e
live_stage stage e = tt

-- a row that is found among those that have not ended is found among all
pub kept_found : (es : Rows) (m : ℕ) (row : Row) → IsDistinct nat_eq (keys_of es) → row_of (still_live es) m ≡ Some row → (row_of es m ≡ Some row) × (not (has_ended row.stage) ≡ true)
kept_found [] m row once found = absurd (none_row row found)
kept_found (entry ∷ es) m row once found =
    let rest : Rows = still_live es in
    let kept : Rows = entry ∷ rest in
    let later : row_of rest m ≡ Some row → (row_of (entry ∷ es) m ≡ Some row) × (not (has_ended row.stage) ≡ true) = λ at.
    let was = kept_found es m row (IsDistinct-tail nat_eq entry.0 (keys_of es) once) at in
    (cond-false (nat_eq m entry.0) (Some entry.1) (lookup (nat_eq m) es) (behind entry es m row once was.0) ∙ was.0, was.1) in
    ⊎_elim
    (λ stays.
    let is : still_live (entry ∷ es) ≡ kept = cond-true (goes entry) kept rest stays in
    let at : row_of kept m ≡ Some row = ap (λ (rs : Rows). row_of rs m) (sym is) ∙ found in
    ⊎_elim
    (λ here.
    let same : entry.1 ≡ row = some_row entry.1 row (sym (cond-true (nat_eq m entry.0) (Some entry.1) (lookup (nat_eq m) rest) here) ∙ at) in (
      cond-true (nat_eq m entry.0) (Some entry.1) (lookup (nat_eq m) es) here ∙ ap (λ (r : Row). (let o : Option Row = Some r in o)) same,
      ap (λ (r : Row). not (has_ended r.stage)) (sym same) ∙ stays,
    ))
    (λ away. later (sym (cond-false (nat_eq m entry.0) (Some entry.1) (lookup (nat_eq m) rest) away) ∙ at))
    (cases_Bool (nat_eq m entry.0)))
    (λ out.
    let is : still_live (entry ∷ es) ≡ rest = cond-false (goes entry) kept rest out in
    later (ap (λ (rs : Rows). row_of rs m) (sym is) ∙ found))
    (cases_Bool (goes entry))

-- and one that has not ended is found among them
pub found_kept : (es : Rows) (m : ℕ) (row : Row) → row_of es m ≡ Some row → not (has_ended row.stage) ≡ true → row_of (still_live es) m ≡ Some row
found_kept [] m row found stays = found
found_kept (entry ∷ es) m row found stays =
    let rest : Rows = still_live es in
    let kept : Rows = entry ∷ rest in
    ⊎_elim
    (λ here.
    let same : entry.1 ≡ row = some_row entry.1 row (sym (cond-true (nat_eq m entry.0) (Some entry.1) (lookup (nat_eq m) es) here) ∙ found) in
    let is : still_live (entry ∷ es) ≡ kept = cond-true (goes entry) kept rest (ap (λ (r : Row). not (has_ended r.stage)) same ∙ stays) in
    ap (λ (rs : Rows). row_of rs m) is ∙ cond-true (nat_eq m entry.0) (Some entry.1) (lookup (nat_eq m) rest) here ∙ ap (λ (r : Row). (let o : Option Row = Some r in o)) same)
    (λ away.
    let later : row_of rest m ≡ Some row = found_kept es m row (sym (cond-false (nat_eq m entry.0) (Some entry.1) (lookup (nat_eq m) es) away) ∙ found) stays in
    ⊎_elim
    (λ in_front. ap (λ (rs : Rows). row_of rs m) (cond-true (goes entry) kept rest in_front) ∙ cond-false (nat_eq m entry.0) (Some entry.1) (lookup (nat_eq m) rest) away ∙ later)
    (λ out. ap (λ (rs : Rows). row_of rs m) (cond-false (goes entry) kept rest out) ∙ later)
    (cases_Bool (goes entry)))
    (cases_Bool (nat_eq m entry.0))

-- ---- the ends in the book

-- a row that has not ended leaves the book
pub end_none : (book : Contents) (serial meter : ℕ) (stage : Stage) → has_ended stage ≡ false → with_end book serial meter stage ≡ book
end_none book serial meter (Done claim) e = absurd (false≢true (sym e))
end_none book serial meter (Failed why) e = absurd (false≢true (sym e))
end_none book serial meter stage e = refl

module _ (follow : StatesFollowCalls) (stay : ImagesStay) where
  end_image : (book : Contents) (serial meter : ℕ) (stage : Stage) (c : Campaign) → image_in (with_end book serial meter stage) c ≡ image_in book c
  end_image book serial meter (Done claim) c = (stay book c).at_mark serial meter state.Done
  end_image book serial meter (Failed why) c = (stay book c).at_mark serial meter state.Failed
  end_image book serial meter stage c = refl

  end_name : (book : Contents) (serial meter : ℕ) (stage : Stage) (c : Campaign) → name_in (with_end book serial meter stage) c ≡ name_in book c
  end_name book serial meter (Done claim) c = mark_name book serial meter state.Done c
  end_name book serial meter (Failed why) c = mark_name book serial meter state.Failed c
  end_name book serial meter stage c = refl

  end_elsewhere : (book : Contents) (serial meter : ℕ) (stage : Stage) (c : Campaign) (m : ℕ) → m ≢ meter → state_in (with_end book serial meter stage) c m ≡ state_in book c m
  end_elsewhere book serial meter (Done claim) c m apart = state_stays follow book serial meter state.Done c m apart
  end_elsewhere book serial meter (Failed why) c m apart = state_stays follow book serial meter state.Failed c m apart
  end_elsewhere book serial meter stage c m apart = refl

  -- who is live after the end of a row was live before, and its meter isn't in the row's campaign then
  end_live : (book : Contents) (serial meter : ℕ) (stage : Stage) (c : Campaign) (m : ℕ) → state_in (with_end book serial meter stage) c m ≡ Some state.Live → state_in book c m ≡ Some state.Live
  end_live book serial meter stage c m live =
      ⊎_elim
      (λ here.
      let same : m ≡ meter = (Decides-eqb m meter).0 here in
      let at : state_in (with_end book serial meter stage) c meter ≡ Some state.Live = ap (λ k. state_in (with_end book serial meter stage) c k) (sym same) ∙ live in
      ap (λ k. state_in book c k) same ∙ before stage at)
      (λ away. sym (end_elsewhere book serial meter stage c m (λ same. false≢true (sym away ∙ (Decides-eqb m meter).1 same))) ∙ live)
      (cases_Bool (m == meter))
    where
      before : (stage : Stage) → state_in (with_end book serial meter stage) c meter ≡ Some state.Live → state_in book c meter ≡ Some state.Live
      before (Done claim) at = (marked_ends follow book serial meter state.Done c refl at).1
      before (Failed why) at = (marked_ends follow book serial meter state.Failed c refl at).1
      before stage at = at

  end_not_live : (book : Contents) (c : Campaign) (meter : ℕ) (stage : Stage) → has_ended stage ≡ true → ¬ (state_in (with_end book c.serial meter stage) c meter ≡ Some state.Live)
  end_not_live book c meter (Done claim) ended live = (marked_ends follow book c.serial meter state.Done c refl live).0 refl
  end_not_live book c meter (Failed why) ended live = (marked_ends follow book c.serial meter state.Failed c refl live).0 refl
  end_not_live book c meter stage ended live = false≢true ended

  pub ends_image : (book : Contents) (rows : List Row) (c : Campaign) → image_in (with_ends book rows) c ≡ image_in book c
  ends_image book [] c = refl
  ends_image book (row ∷ rows) c =
      ends_image (with_end book row.name.campaign.serial row.client.meter row.stage) rows c
      ∙ end_image book row.name.campaign.serial row.client.meter row.stage c

  ends_name : (book : Contents) (rows : List Row) (c : Campaign) → name_in (with_ends book rows) c ≡ name_in book c
  ends_name book [] c = refl
  ends_name book (row ∷ rows) c =
      ends_name (with_end book row.name.campaign.serial row.client.meter row.stage) rows c
      ∙ end_name book row.name.campaign.serial row.client.meter row.stage c

  -- the state of a meter none of whose rows ended stays
  pub ends_elsewhere : (book : Contents) (rows : List Row) (c : Campaign) (m : ℕ) → AllByRecursion (λ (r : Row). r.client.meter ≡ m → has_ended r.stage ≡ false) rows → state_in (with_ends book rows) c m ≡ state_in book c m
  ends_elsewhere book [] c m none = refl
  ends_elsewhere book (row ∷ rows) c m none =
      ends_elsewhere (with_end book row.name.campaign.serial row.client.meter row.stage) rows c m none.1
      ∙ ⊎_elim
      (λ here. ap (λ (b : Contents). state_in b c m) (end_none book row.name.campaign.serial row.client.meter row.stage (none.0 (sym ((Decides-eqb m row.client.meter).0 here)))))
      (λ away. end_elsewhere book row.name.campaign.serial row.client.meter row.stage c m (λ same. false≢true (sym away ∙ (Decides-eqb m row.client.meter).1 same)))
      (cases_Bool (m == row.client.meter))

  pub ends_live : (book : Contents) (rows : List Row) (c : Campaign) (m : ℕ) → state_in (with_ends book rows) c m ≡ Some state.Live → state_in book c m ≡ Some state.Live
  ends_live book [] c m live = live
  ends_live book (row ∷ rows) c m live =
      end_live book row.name.campaign.serial row.client.meter row.stage c m
      (ends_live (with_end book row.name.campaign.serial row.client.meter row.stage) rows c m live)

  -- a row that ended is live no more
  pub ended_there : (book : Contents) (rows : List Row) (m : ℕ) (row : Row) → row_of (by_meter rows) m ≡ Some row → has_ended row.stage ≡ true → ¬ (state_in (with_ends book rows) row.name.campaign m ≡ Some state.Live)
  ended_there book [] m row found ended live = none_row row found
  ended_there book (r ∷ rows) m row found ended live =
      let after : Contents = with_end book r.name.campaign.serial r.client.meter r.stage in
      ⊎_elim
      (λ here.
      let same : r ≡ row = some_row r row (sym (cond-true (nat_eq m r.client.meter) (Some r) (row_of (by_meter rows) m) here) ∙ found) in
      let P : Row → Type 0 = λ x. state_in after x.name.campaign m ≡ Some state.Live in
      let Q : ℕ → Type 0 = λ k. state_in after r.name.campaign k ≡ Some state.Live in
      end_not_live book r.name.campaign r.client.meter r.stage (ap (λ (x : Row). has_ended x.stage) same ∙ ended)
      (subst Q ((Decides-eqb m r.client.meter).0 here) (subst P (sym same) (ends_live after rows row.name.campaign m live))))
      (λ away. ended_there after rows m row (sym (cond-false (nat_eq m r.client.meter) (Some r) (row_of (by_meter rows) m) away) ∙ found) ended live)
      (cases_Bool (nat_eq m r.client.meter))

  -- ---- the head end

  joined_row : (book : Contents) (rows : List Row) (m : ℕ) (row : Row) → AreLiveRows book rows → row_of (by_meter rows) m ≡ Some row → not (has_ended row.stage) ≡ true → IsRowOf (with_ends book rows) m row
  joined_row book rows m row are found stays =
      let own = own_from book rows m row are found in
      let mine = own_meter rows m row found in
      let going : has_ended row.stage ≡ false = unended (has_ended row.stage) stays in
      let alone = all_from (λ (r : Row). r.client.meter ≡ m → has_ended r.stage ≡ false) rows (once_from book rows are) (λ k r at of.
      let here : row_of (by_meter rows) m ≡ Some r = ap (λ j. row_of (by_meter rows) j) (sym of ∙ own_meter rows k r at) ∙ at in
      ap (λ (x : Row). has_ended x.stage) (some_row r row (sym here ∙ found)) ∙ going) in
      let P : ℕ → Type 0 = λ k. state_in book row.name.campaign k ≡ Some state.Live in
      row_stays book (with_ends book rows) m row (ends_elsewhere book rows row.name.campaign m alone) (ends_image book rows row.name.campaign) (ends_name book rows row.name.campaign)
      (record { asks = mine; live = subst P mine own.live; named = own.named; sized = own.sized; going = live_stage row.stage stays })
    where
      unended : (b : Bool) → not b ≡ true → b ≡ false
      unended true e = absurd (false≢true e)
      unended false e = refl

  pub joined_head : (book : Contents) (rows : List Row) → AreLiveRows book rows → AreRowsOf (with_ends book rows) (still_live (by_meter rows))
  joined_head book rows are = record {
    of_book = λ m row at.
        let was = kept_found (by_meter rows) m row (once_from book rows are) at in
        joined_row book rows m row are was.0 was.1;
    of_rows = λ c m live.
        let there = has_each_from book rows are c m (ends_live book rows c m live) in
        let P : Campaign → Type 0 = λ x. state_in (with_ends book rows) x m ≡ Some state.Live in
        ⊎_elim
        (λ ended. absurd (ended_there book rows m there.0 there.1 ended (subst P (sym there.2) live)))
        (λ going. (there.0, found_kept (by_meter rows) m there.0 there.1 (ap not going), there.2))
        (cases_Bool (has_ended there.0.stage));
    once = IsDistinct-keys_filter nat_eq goes (by_meter rows) (once_from book rows are);
  }

  -- the same for a book and rows that equal these
  pub joined_by : (book new : Contents) (rows : List Row) (left : Rows) → AreLiveRows book rows → new ≡ with_ends book rows → left ≡ still_live (by_meter rows) → AreRowsOf new left
  joined_by book new rows left are marks out =
      let P : Contents → Type 0 = λ b. AreRowsOf b left in
      let Q : Rows → Type 0 = λ rs. AreRowsOf (with_ends book rows) rs in
      subst P (sym marks) (subst Q (sym out) (joined_head book rows are))

  -- what is left to be marked is live in the book still
  pub still_of_book : (book : Contents) (row : Row) (rows : List Row) → AllByRecursion (λ y. nat_eq row.client.meter y ≡ false) (keys_of (by_meter rows)) → AllByRecursion (IsOfBook book) rows → AllByRecursion (IsOfBook (with_end book row.name.campaign.serial row.client.meter row.stage)) rows
  still_of_book book row [] apart of = tt
  still_of_book book row (r ∷ rows) apart of =
      let after : Contents = with_end book row.name.campaign.serial row.client.meter row.stage in (
        row_stays book after r.client.meter (new_row r.client.meter r.name r.size)
            (end_elsewhere book row.name.campaign.serial row.client.meter row.stage r.name.campaign r.client.meter (λ same. false≢true (sym apart.0 ∙ (Decides-eqb row.client.meter r.client.meter).1 (sym same))))
            (end_image book row.name.campaign.serial row.client.meter row.stage r.name.campaign)
            (end_name book row.name.campaign.serial row.client.meter row.stage r.name.campaign) of.0,
        still_of_book book row rows apart.1 of.1,
      )

  -- one row's end is marked
  pub marked_more : (book new : Contents) (row : Row) (rest others : List Row) (whole : Contents) → rest ≡ row ∷ others → new ≡ with_end book row.name.campaign.serial row.client.meter row.stage → with_ends book rest ≡ whole → AllByRecursion (IsOfBook book) rest → IsDistinct nat_eq (keys_of (by_meter rest)) → (with_ends new others ≡ whole) × AllByRecursion (IsOfBook new) others × IsDistinct nat_eq (keys_of (by_meter others))
  marked_more book new row rest others whole next mark so_far of once =
      let P : Contents → Type 0 = λ b. AllByRecursion (IsOfBook b) others in
      let Q : List Row → Type 0 = λ rs. AllByRecursion (IsOfBook book) rs in
      let D : List Row → Type 0 = λ rs. IsDistinct nat_eq (keys_of (by_meter rs)) in
      let apart = subst D next once in (
        ap (λ (b : Contents). with_ends b others) mark ∙ ap (λ (rs : List Row). with_ends book rs) (sym next) ∙ so_far,
        subst P (sym mark) (still_of_book book row others (IsDistinct-head nat_eq row.client.meter (keys_of (by_meter others)) apart) (subst Q next of).1),
        IsDistinct-tail nat_eq row.client.meter (keys_of (by_meter others)) apart,
      )

  -- ---- what becomes of each state

  -- a mark of a live row is its state
  marked_own : (book : Contents) (row : Row) (mark : RowState) → IsOfBook book row → state_in (marked book row.name.campaign.serial row.client.meter mark) row.name.campaign row.client.meter ≡ Some mark
  marked_own book row mark of =
      let serial = row.name.campaign.serial in
      let m = row.client.meter in
      let own : Campaign = record { head = book.head; serial = serial } in
      let is : row.name.campaign ≡ own = same_campaign row.name.campaign own (of_head book row.name.campaign m of.live) refl in
      let goes = (follow book own refl).at_mark m mark in
      let was : state_in book own m ≡ Some state.Live = ap (λ c. state_in book c m) (sym is) ∙ of.live in
      ap (λ c. state_in (marked book serial m mark) c m) is ∙ goes.own m
      ∙ cond-true (m == m) (option_map (λ s. mark) (state_in book own m)) (state_in book own m) ((Decides-eqb m m).1 refl)
      ∙ ap (λ (o : Option RowState). option_map (λ s. mark) o) was

  end_own : (book : Contents) (row : Row) (stage : Stage) → IsOfBook book row → state_in (with_end book row.name.campaign.serial row.client.meter stage) row.name.campaign row.client.meter ≡ Some (state_of_stage stage)
  end_own book row (Done claim) of = marked_own book row state.Done of
  end_own book row (Failed why) of = marked_own book row state.Failed of
  end_own book row stage of = of.live

  end_other : (book : Contents) (row : Row) (stage : Stage) (c : Campaign) (m : ℕ) → IsOfBook book row → ¬ (state_in book c m ≡ Some state.Live) → state_in (with_end book row.name.campaign.serial row.client.meter stage) c m ≡ state_in book c m
  end_other book row stage c m of none =
      let serial = row.name.campaign.serial in
      let own : Campaign = record { head = book.head; serial = serial } in
      ⊎_elim
      (λ here.
      let same : m ≡ row.client.meter = (Decides-eqb m row.client.meter).0 here in
      ⊎_elim
      (λ is.
      let it : row.name.campaign ≡ c = same_campaign row.name.campaign own (of_head book row.name.campaign row.client.meter of.live) refl ∙ sym is in
      absurd (none (ap (λ k. state_in book c k) same ∙ ap (λ x. state_in book x row.client.meter) (sym it) ∙ of.live)))
      (λ other. elsewhere stage other)
      (either_campaign c book serial))
      (λ away. end_elsewhere book serial row.client.meter stage c m (λ same. false≢true (sym away ∙ (Decides-eqb m row.client.meter).1 same)))
      (cases_Bool (m == row.client.meter))
    where
      elsewhere : (stage : Stage) → c ≢ record { head = book.head; serial = row.name.campaign.serial } → state_in (with_end book row.name.campaign.serial row.client.meter stage) c m ≡ state_in book c m
      elsewhere (Done claim) other = ((follow book (record { head = book.head; serial = row.name.campaign.serial }) refl).at_mark row.client.meter state.Done).others c m other
      elsewhere (Failed why) other = ((follow book (record { head = book.head; serial = row.name.campaign.serial }) refl).at_mark row.client.meter state.Failed).others c m other
      elsewhere stage other = refl

  none_ended : (r : Row) (rows : List Row) (m : ℕ) → m ≡ r.client.meter → AllByRecursion (λ y. nat_eq r.client.meter y ≡ false) (keys_of (by_meter rows)) → AllByRecursion (λ (x : Row). x.client.meter ≡ m → has_ended x.stage ≡ false) rows
  none_ended r [] m same apart = tt
  none_ended r (x ∷ rows) m same apart = (
    λ of. absurd (false≢true (sym apart.0 ∙ (Decides-eqb r.client.meter x.client.meter).1 (sym same ∙ sym of))),
    none_ended r rows m same apart.1,
  )

  ends_own : (book : Contents) (rows : List Row) (m : ℕ) (row : Row) → AllByRecursion (IsOfBook book) rows → IsDistinct nat_eq (keys_of (by_meter rows)) → row_of (by_meter rows) m ≡ Some row → state_in (with_ends book rows) row.name.campaign m ≡ Some (state_of_stage row.stage)
  ends_own book [] m row of once found = absurd (none_row row found)
  ends_own book (r ∷ rows) m row of once found =
      let after : Contents = with_end book r.name.campaign.serial r.client.meter r.stage in
      let apart = IsDistinct-head nat_eq r.client.meter (keys_of (by_meter rows)) once in
      ⊎_elim
      (λ here.
      let at : m ≡ r.client.meter = (Decides-eqb m r.client.meter).0 here in
      let same : r ≡ row = some_row r row (sym (cond-true (nat_eq m r.client.meter) (Some r) (row_of (by_meter rows) m) here) ∙ found) in
      let P : Row → Type 0 = λ x. state_in (with_ends after rows) x.name.campaign m ≡ Some (state_of_stage x.stage) in
      subst P same
      (ends_elsewhere after rows r.name.campaign m (none_ended r rows m at apart) ∙ ap (λ k. state_in after r.name.campaign k) at ∙ end_own book r r.stage of.0))
      (λ away. ends_own after rows m row (still_of_book book r rows apart of.1) (IsDistinct-tail nat_eq r.client.meter (keys_of (by_meter rows)) once)
      (sym (cond-false (nat_eq m r.client.meter) (Some r) (row_of (by_meter rows) m) away) ∙ found))
      (cases_Bool (nat_eq m r.client.meter))

  ends_others : (book : Contents) (rows : List Row) (c : Campaign) (m : ℕ) → AllByRecursion (IsOfBook book) rows → IsDistinct nat_eq (keys_of (by_meter rows)) → ¬ (state_in book c m ≡ Some state.Live) → state_in (with_ends book rows) c m ≡ state_in book c m
  ends_others book [] c m of once none = refl
  ends_others book (r ∷ rows) c m of once none =
      let after : Contents = with_end book r.name.campaign.serial r.client.meter r.stage in
      let apart = IsDistinct-head nat_eq r.client.meter (keys_of (by_meter rows)) once in
      ends_others after rows c m (still_of_book book r rows apart of.1) (IsDistinct-tail nat_eq r.client.meter (keys_of (by_meter rows)) once)
      (λ live. none (end_live book r.name.campaign.serial r.client.meter r.stage c m live))
      ∙ end_other book r r.stage c m of.0 none

  pub ends_are_marked : EndsAreMarked
  ends_are_marked book rows are = record {
    images = λ c. ends_image book rows c;
    names = λ c. ends_name book rows c;
    own = λ m row found. ends_own book rows m row (rows_from book rows are) (once_from book rows are) found;
    others = λ c m none. ends_others book rows c m (rows_from book rows are) (once_from book rows are) none;
  }

-- the rows under their meters, and without these again
pub values_by_meter : (rows : List Row) → values_of (by_meter rows) ≡ rows
values_by_meter [] = refl
values_by_meter (row ∷ rows) = ap (λ (rs : List Row). (let all : List Row = row ∷ rs in all)) (values_by_meter rows)
