-- What a head end makes of a datagram, from what its rows make of it.
use Rattle.std.proofs.Common.{◌≡◌, ℕ, nat_eq, List, [], ◌∷◌, Option, Some, None, inl, inr, refl, sym, ap, ◌∙◌, ⊎_elim}
use Rattle.std.proofs.lemmas.Bool.{cases_Bool, cond-true, cond-false}
use Rattle.fw_names.specs.Name.{Name, Campaign}
use Rattle.fw_client.specs.Claim.{Claim}
use Rattle.fw_book.specs.declared.row.RowState.{RowState}
use Rattle.fw_book.specs.declared.row.RowState.TheVariants as states
use Rattle.fw_book.specs.Changes.{marked}
use Rattle.fw_book.specs.declared.notes.Reason.{Reason}
use Rattle.fw_head.specs.declared.news.News.{News}
use Rattle.fw_head.specs.declared.news.News.TheVariants as news
use Rattle.fw_head.specs.declared.news.RowNews.{RowNews}
use Rattle.fw_head.specs.declared.news.RowNews.TheVariants.{Nothing, Moved}
use Rattle.fw_head.specs.declared.news.RowNews.TheVariants as by
use Rattle.fw_head.specs.declared.stage.Stage.{Stage}
use Rattle.fw_head.specs.declared.stage.Stage.TheVariants.{Done, Failed}
use Rattle.fw_head.specs.Row.{Row, news_in}
use Rattle.fw_head.specs.Head.{Head, Rows, RowsHear, HeadHears, row_of, at_meter, without_meter}
use Rattle.fw_head.proofs.LiveRows.{at_meter-alike, at_meter-same, same_found}
use Rattle.fw_head.specs.Laws.{IsOfSameGoal}
use Rattle.fw_head.proofs.SameRows.{goal_heard}
use Rattle.fw_head.proofs.Swapped.{takes_first, keeps_first}

-- a row that is taken out is taken out as it was before
taken_before : (meter : ℕ) (change : Row → Row) (rows : Rows) → without_meter meter (at_meter meter change rows) ≡ without_meter meter rows
taken_before meter change [] = refl
taken_before meter change (entry ∷ entries) =
    let one : Rows = (entry.0, change entry.1) ∷ entries in
    let rest : Rows = entry ∷ at_meter meter change entries in
    ⊎_elim
    (λ here.
    ap (λ (rs : Rows). without_meter meter rs) (cond-true (nat_eq meter entry.0) one rest here)
    ∙ takes_first (nat_eq meter) (entry.0, change entry.1) entry entries here here)
    (λ other.
    ap (λ (rs : Rows). without_meter meter rs) (cond-false (nat_eq meter entry.0) one rest other)
    ∙ keeps_first (nat_eq meter) entry (at_meter meter change entries) other
    ∙ ap (λ (rs : Rows). (let all : Rows = entry ∷ rs in all)) (taken_before meter change entries)
    ∙ sym (keeps_first (nat_eq meter) entry entries other))
    (cases_Bool (nat_eq meter entry.0))

pub taken_heard : (old new : Rows) (meter : ℕ) (datagram : List ℕ) (told : RowNews) → RowsHear old meter datagram told new → without_meter meter new ≡ without_meter meter old
taken_heard old new meter datagram told (inl x) = ap (λ (rs : Rows). without_meter meter rs) x.4 ∙ taken_before meter (λ was. x.1) old
taken_heard old new meter datagram told (inr x) = ap (λ (rs : Rows). without_meter meter rs) x.2

none_some : (row : Row) → (let o : Option Row = None in o ≡ Some row) → ⊥
none_some row e = cc

-- a row that took an answer reports something
tells : (stage : Stage) (told : RowNews) → told ≡ news_in stage → ¬ (told ≡ Nothing)
tells (Done claim) told is nothing = cc
tells (Failed why) told is nothing = cc
tells _ told is nothing = cc

pub hears_nothing : (head new : Head) (meter : ℕ) (datagram : List ℕ) (rows : Rows) (row : Row) (told : News) → RowsHear head.rows meter datagram Nothing rows → row_of head.rows meter ≡ Some row → new ≡ record head { rows = rows } → told ≡ news.Nothing → HeadHears head meter datagram told new
hears_nothing head new meter datagram rows row told (inl (a, b, found, inl takes, e)) at is tell = absurd (tells b.stage Nothing takes.told_is refl)
hears_nothing head new meter datagram rows row told (inl (a, b, found, inr ignores, e)) at is tell =
    let same = at_meter-alike meter (λ (r : Row). b) (λ (r : Row). r) head.rows a found ignores.2 ∙ at_meter-same meter head.rows in
    inl (record {
      row = a;
      next = b;
      heard = Nothing;
      found = found;
      hears = inr ignores;
      new_is = is ∙ ap (λ (rs : Rows). (let h : Head = record head { rows = rs } in h)) (e ∙ same);
      told_is = tell;
    })
hears_nothing head new meter datagram rows row told (inr x) at is tell = absurd (none_some row (sym x.0 ∙ at))

pub hears_moved : (head new : Head) (meter : ℕ) (datagram : List ℕ) (rows : Rows) (row : Row) (told : News) → RowsHear head.rows meter datagram Moved rows → row_of head.rows meter ≡ Some row → new ≡ record head { rows = rows } → told ≡ news.Moved → HeadHears head meter datagram told new
hears_moved head new meter datagram rows row told (inl x) at is tell =
    inl (record {
      row = x.0;
      next = x.1;
      heard = Moved;
      found = x.2;
      hears = x.3;
      new_is = is ∙ ap (λ (rs : Rows). (let h : Head = record head { rows = rs } in h)) x.4;
      told_is = tell;
    })
hears_moved head new meter datagram rows row told (inr x) at is tell = absurd (none_some row (sym x.0 ∙ at))

-- what is left of a head end where a row ended in this state
abbrev left_of : Head → ℕ → ℕ → RowState → Head
left_of head meter serial state = record head { book = marked head.book serial meter state; rows = without_meter meter head.rows }

ends : (head : Head) (meter serial : ℕ) (state : RowState) (rows : Rows) (a b row : Row) → a ≡ row → IsOfSameGoal a b → serial ≡ row.name.campaign.serial → rows ≡ at_meter meter (λ was. b) head.rows → (let h : Head = record head { book = marked head.book serial meter state; rows = without_meter meter rows } in h) ≡ left_of head meter b.name.campaign.serial state
ends head meter serial state rows a b row it same of e =
    let at_row : serial ≡ b.name.campaign.serial = of ∙ ap (λ (r : Row). r.name.campaign.serial) (sym it) ∙ sym (ap (λ (n : Name). n.campaign.serial) same.name) in
    ap (λ (rs : Rows). (let h : Head = record head { book = marked head.book serial meter state; rows = rs } in h)) (ap (λ (rs : Rows). without_meter meter rs) e ∙ taken_before meter (λ was. b) head.rows)
    ∙ ap (λ n. left_of head meter n state) at_row

pub hears_done : (head new : Head) (meter : ℕ) (datagram : List ℕ) (rows : Rows) (row : Row) (told : News) (claim : Claim) (campaign : Campaign) → RowsHear head.rows meter datagram (by.Done claim) rows → row_of head.rows meter ≡ Some row → campaign ≡ row.name.campaign → new ≡ record head { book = marked head.book campaign.serial meter states.Done; rows = without_meter meter rows } → told ≡ news.Done campaign meter → HeadHears head meter datagram told new
hears_done head new meter datagram rows row told claim campaign (inl x) at of is tell =
    let it : x.0 ≡ row = same_found meter meter head.rows x.0 row refl x.2 at in
    inl (record {
      row = x.0;
      next = x.1;
      heard = by.Done claim;
      found = x.2;
      hears = x.3;
      new_is = is ∙ ends head meter campaign.serial states.Done rows x.0 x.1 row it (goal_heard x.0 x.1 datagram (by.Done claim) x.3) (ap (λ (c : Campaign). c.serial) of) x.4;
      told_is = tell ∙ ap (λ (c : Campaign). (let n : News = news.Done c meter in n)) (of ∙ ap (λ (r : Row). r.name.campaign) (sym it));
    })
hears_done head new meter datagram rows row told claim campaign (inr x) at of is tell = absurd (none_some row (sym x.0 ∙ at))

pub hears_failed : (head new : Head) (meter : ℕ) (datagram : List ℕ) (rows : Rows) (row : Row) (told : News) (why : Reason) (campaign : Campaign) → RowsHear head.rows meter datagram (by.Failed why) rows → row_of head.rows meter ≡ Some row → campaign ≡ row.name.campaign → new ≡ record head { book = marked head.book campaign.serial meter states.Failed; rows = without_meter meter rows } → told ≡ news.Failed campaign meter → HeadHears head meter datagram told new
hears_failed head new meter datagram rows row told why campaign (inl x) at of is tell =
    let it : x.0 ≡ row = same_found meter meter head.rows x.0 row refl x.2 at in
    inl (record {
      row = x.0;
      next = x.1;
      heard = by.Failed why;
      found = x.2;
      hears = x.3;
      new_is = is ∙ ends head meter campaign.serial states.Failed rows x.0 x.1 row it (goal_heard x.0 x.1 datagram (by.Failed why) x.3) (ap (λ (c : Campaign). c.serial) of) x.4;
      told_is = tell ∙ ap (λ (c : Campaign). (let n : News = news.Failed c meter in n)) (of ∙ ap (λ (r : Row). r.name.campaign) (sym it));
    })
hears_failed head new meter datagram rows row told why campaign (inr x) at of is tell = absurd (none_some row (sym x.0 ∙ at))
