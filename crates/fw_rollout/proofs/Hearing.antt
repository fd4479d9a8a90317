-- What a datagram of one meter makes of a head end: of its book, and of which meters have a live row.
use Rattle.std.proofs.Common.{◌≡◌, ◌≢◌, ◌⊎◌, ℕ, nat_eq, true, false, List, [], ◌∷◌, Option, Some, None, is_some, inl, inr, refl, sym, ap, subst, ◌∙◌}
use Rattle.std.specs.List.{IsDistinct}
use Rattle.std.specs.Map.{keys_of}
use Rattle.fw_names.specs.Name.{Name, Campaign}
use Rattle.fw_book.specs.declared.row.RowState.TheVariants as state
use Rattle.fw_book.specs.declared.notes.End.{End}
use Rattle.fw_book.specs.declared.notes.Reason.{Reason}
use Rattle.fw_book.specs.Notes.{Known, with_ending}
use Rattle.fw_book.specs.Contents.{state_in}
use Rattle.fw_book.specs.Changes.{marked}
use Rattle.fw_book.specs.Laws.{StatesFollowCalls}
use Rattle.fw_head.specs.declared.giving_up.GivenUp.{GivenUp}
use Rattle.fw_head.specs.declared.giving_up.WhyGivenUp.TheVariants as why
use Rattle.fw_head.specs.declared.news.News.{News}
use Rattle.fw_head.specs.declared.news.News.TheVariants as news
use Rattle.fw_head.specs.declared.news.Told.{Told}
use Rattle.fw_head.specs.declared.news.RowNews.{RowNews}
use Rattle.fw_head.specs.declared.news.RowNews.TheVariants as by
use Rattle.fw_head.specs.Row.{Row}
use Rattle.fw_head.specs.Head.{GivesUpRow, Head, IsHead, HeadHears, RowsMayWant, TellsReason, row_of, without_meter, went_on, news_of}
use Rattle.fw_head.specs.Laws.{RowKeepsGoal}
use Rattle.fw_head.proofs.Ended.{elsewhere, taken_out}
use Rattle.fw_kept.specs.Head.{IsEnd, LosesMark, head_of, known_heard}
use Rattle.fw_kept.specs.declared.head.KeptHead.{KeptHead}
use Rattle.fw_ledger.specs.declared.record.Ending.{Ending}
use Rattle.fw_ledger.specs.declared.record.Ending.TheVariants as ends
use Rattle.fw_rollout.specs.declared.ended.Ended.{Ended}
use Rattle.fw_rollout.specs.Leading.{IsNotedIn, ended_by, state_after}
use Rattle.fw_rollout.specs.Plans.{given_up_at}
use Rattle.fw_rollout.proofs.Marks.{mark_notes, mark_keeps}
use Rattle.fw_rollout.proofs.Rows.{stays}

-- ---- nothing

nothing_took : (old new : Head) (meter : ℕ) (c : Campaign) (next : Row) (heard : RowNews) → news.Nothing ≡ news_of c meter heard → new ≡ went_on old meter next heard → new ≡ old
nothing_took old new meter c next by.Nothing told is = is
nothing_took old new meter c next by.Moved told is = absurd (cc told)
nothing_took old new meter c next (by.Done claim) told is = absurd (cc told)
nothing_took old new meter c next (by.Failed why) told is = absurd (cc told)

pub hears_nothing : (old new : Head) (meter : ℕ) (datagram : List ℕ) → HeadHears old meter datagram news.Nothing new → new ≡ old
hears_nothing old new meter datagram (inl takes) = nothing_took old new meter takes.row.name.campaign takes.next takes.heard takes.told_is takes.new_is
hears_nothing old new meter datagram (inr ignores) = ignores.2

-- ---- an answer

-- the row of a meter went on
pub record Moves (old new : Head) (meter : ℕ) : Type 0 where
  pub book : new.book ≡ old.book
  pub live : is_some (row_of old.rows meter) ≡ true
  pub rows : (m : ℕ) → is_some (row_of new.rows m) ≡ is_some (row_of old.rows m)

moved_took : (old new : Head) (meter : ℕ) (c : Campaign) (next : Row) (heard : RowNews) → is_some (row_of old.rows meter) ≡ true → news.Moved ≡ news_of c meter heard → new ≡ went_on old meter next heard → Moves old new meter
moved_took old new meter c next by.Nothing live told is = absurd (cc told)
moved_took old new meter c next by.Moved live told is = record {
  book = ap (λ (h : Head). h.book) is;
  live = live;
  rows = λ m. ap (λ (h : Head). is_some (row_of h.rows m)) is ∙ stays meter (λ was. next) old.rows m;
}
moved_took old new meter c next (by.Done claim) live told is = absurd (cc told)
moved_took old new meter c next (by.Failed why) live told is = absurd (cc told)

no_move : (let n : News = news.Moved in n ≡ news.Nothing) → ⊥
no_move e = cc

pub hears_moved : (old new : Head) (meter : ℕ) (datagram : List ℕ) → HeadHears old meter datagram news.Moved new → Moves old new meter
hears_moved old new meter datagram (inl takes) =
    moved_took old new meter takes.row.name.campaign takes.next takes.heard (ap (λ (o : Option Row). is_some o) takes.found) takes.told_is takes.new_is
hears_moved old new meter datagram (inr ignores) = absurd (no_move ignores.1)

-- ---- an end

-- the row of a meter ended, and the book has it so, and those that had ended before
pub record Ends (old new : Head) (meter : ℕ) (ended : Ended) : Type 0 where
  pub own : ended.meter ≡ meter
  pub noted : IsNotedIn new.book ended
  pub keeps : (other : Ended) → IsNotedIn old.book other → IsNotedIn new.book other
  pub over : is_some (row_of new.rows meter) ≡ false
  pub others : (m : ℕ) → ¬ (m ≡ meter) → is_some (row_of new.rows m) ≡ is_some (row_of old.rows m)

ended_state : (ending : Ending) → state_after ending ≢ state.Live
ended_state ends.Done = λ is. cc
ended_state ends.Failed = λ is. cc

-- what is left of a head end where a row ended so
abbrev left_of : Head → ℕ → ℕ → Ending → Head
left_of head meter serial ending = record head { book = marked head.book serial meter (state_after ending); rows = without_meter meter head.rows }

left_ends : StatesFollowCalls → (old new : Head) (meter : ℕ) (c : Campaign) (ending : Ending) (end : End) → IsDistinct nat_eq (keys_of old.rows) → state_in old.book c meter ≡ Some state.Live → new ≡ left_of old meter c.serial ending → Ends old new meter (record { campaign = c; meter = meter; ending = ending; end = end })
left_ends follow old new meter c ending end once live is = record {
  own = refl;
  noted = ap (λ (h : Head). state_in h.book c meter) is ∙ mark_notes follow old.book c meter (state_after ending) live;
  keeps = λ other was.
      ap (λ (h : Head). state_in h.book other.campaign other.meter) is
      ∙ mark_keeps follow old.book c meter (state_after ending) live other.campaign other.meter (state_after other.ending) (ended_state other.ending) was;
  over = ap (λ (h : Head). is_some (row_of h.rows meter)) is ∙ ap (λ (o : Option Row). is_some o) (taken_out meter old.rows once);
  others = λ m apart. ap (λ (h : Head). is_some (row_of h.rows m)) is ∙ ap (λ (o : Option Row). is_some o) (elsewhere meter m old.rows once apart);
}

same_ended : (a b : Ended) → (let xs : List Ended = a ∷ [] in xs ≡ b ∷ []) → a ≡ b
same_ended a b e = cc

none_ended : (b : Ended) → (let xs : List Ended = [] in xs ≡ b ∷ []) → ⊥
none_ended b e = cc

ends_took : StatesFollowCalls → (old new : Head) (meter : ℕ) (row next : Row) (heard : RowNews) (told : News) (end : End) (ended : Ended) → IsDistinct nat_eq (keys_of old.rows) → next.name ≡ row.name → state_in old.book row.name.campaign meter ≡ Some state.Live
    → told ≡ news_of row.name.campaign meter heard → new ≡ went_on old meter next heard → ended_by told end ≡ ended ∷ [] → Ends old new meter ended
ends_took follow old new meter row next by.Nothing told end ended once same live tells is by = absurd (none_ended ended (sym (ap (λ (n : News). ended_by n end) tells) ∙ by))
ends_took follow old new meter row next by.Moved told end ended once same live tells is by = absurd (none_ended ended (sym (ap (λ (n : News). ended_by n end) tells) ∙ by))
ends_took follow old new meter row next (by.Done claim) told end ended once same live tells is by =
    let e = same_ended (record { campaign = row.name.campaign; meter = meter; ending = ends.Done; end = end }) ended (sym (ap (λ (n : News). ended_by n end) tells) ∙ by) in
    subst (λ (x : Ended). Ends old new meter x) e
    (left_ends follow old new meter row.name.campaign ends.Done end once live (is ∙ ap (λ (n : Name). left_of old meter n.campaign.serial ends.Done) same))
ends_took follow old new meter row next (by.Failed why) told end ended once same live tells is by =
    let e = same_ended (record { campaign = row.name.campaign; meter = meter; ending = ends.Failed; end = end }) ended (sym (ap (λ (n : News). ended_by n end) tells) ∙ by) in
    subst (λ (x : Ended). Ends old new meter x) e
    (left_ends follow old new meter row.name.campaign ends.Failed end once live (is ∙ ap (λ (n : Name). left_of old meter n.campaign.serial ends.Failed) same))

pub hears_end : StatesFollowCalls → RowKeepsGoal → (old new : Head) (meter : ℕ) (datagram : List ℕ) (told : News) (end : End) (ended : Ended) → IsHead old → HeadHears old meter datagram told new → ended_by told end ≡ ended ∷ [] → Ends old new meter ended
hears_end follow keeps old new meter datagram told end ended head (inl takes) by =
    ends_took follow old new meter takes.row takes.next takes.heard told end ended head.once (keeps takes.row takes.next datagram takes.heard takes.hears).name
    (head.of_book meter takes.row takes.found).live takes.told_is takes.new_is by
hears_end follow keeps old new meter datagram told end ended head (inr ignores) by = absurd (none_ended ended (sym (ap (λ (n : News). ended_by n end) ignores.1) ∙ by))

-- a row is given up
pub given_up_ends : StatesFollowCalls → (old new : Head) (meter time : ℕ) (given : GivenUp) → IsHead old → GivesUpRow old meter why.Silent given new → Ends old new meter (given_up_at time meter given)
given_up_ends follow old new meter time given head gives =
    let own : gives.row.name.campaign ≡ given.campaign = sym (ap (λ (g : GivenUp). g.campaign) gives.given_is) in
    let end : End = record { at = time; reason = Some given.reason } in
    subst (λ (c : Campaign). Ends old new meter (record { campaign = c; meter = meter; ending = ends.Failed; end = end })) own
    (left_ends follow old new meter gives.row.name.campaign ends.Failed end head.once (head.of_book meter gives.row gives.found).live gives.new_is)

-- ---- what a live row is there for

-- a datagram that does something to a row is that of a meter which has one
pub row_heard : (old new : Head) (meter : ℕ) (datagram : List ℕ) (told : News) → HeadHears old meter datagram told new → (told ≡ news.Nothing → ⊥) → is_some (row_of old.rows meter) ≡ true
row_heard old new meter datagram told (inl takes) some = ap (λ (o : Option Row). is_some o) takes.found
row_heard old new meter datagram told (inr ignores) some = absurd (some ignores.1)

no_done : (c : Campaign) (m : ℕ) → news.Done c m ≡ news.Nothing → ⊥
no_done c m e = cc

no_failed : (c : Campaign) (m : ℕ) → news.Failed c m ≡ news.Nothing → ⊥
no_failed c m e = cc

pub row_moved : (old new : Head) (meter : ℕ) (datagram : List ℕ) (told : News) → HeadHears old meter datagram told new → told ≡ news.Moved → is_some (row_of old.rows meter) ≡ true
row_moved old new meter datagram told hears is = row_heard old new meter datagram told hears (λ e. no_move (sym is ∙ e))

pub row_done : (old new : Head) (meter : ℕ) (datagram : List ℕ) (told : News) (c : Campaign) (m : ℕ) → HeadHears old meter datagram told new → told ≡ news.Done c m → is_some (row_of old.rows meter) ≡ true
row_done old new meter datagram told c m hears is = row_heard old new meter datagram told hears (λ e. no_done c m (sym is ∙ e))

pub row_failed : (old new : Head) (meter : ℕ) (datagram : List ℕ) (told : News) (c : Campaign) (m : ℕ) → HeadHears old meter datagram told new → told ≡ news.Failed c m → is_some (row_of old.rows meter) ≡ true
row_failed old new meter datagram told c m hears is = row_heard old new meter datagram told hears (λ e. no_failed c m (sym is ∙ e))

-- and so is one for which memory is refused
pub row_wanted : {D : Type 0} (old new : KeptHead D) (meter : ℕ) (datagram : List ℕ) → RowsMayWant (head_of old).rows meter datagram ⊎ LosesMark old meter datagram new
    → is_some (row_of (head_of old).rows meter) ≡ true
row_wanted old new meter datagram (inl wants) = ap (λ (o : Option Row). is_some o) wants.1
row_wanted old new meter datagram (inr lost) = row_heard (head_of old) (head_of new) meter datagram lost.told lost.hears (λ e. subst (λ (n : News). IsEnd n) e lost.ends)

-- ---- what is noted

pub noted_as : (old new : Known) (at : ℕ) (told : Told) → new ≡ known_heard old told.news told.reason at → (next : News) → told.news ≡ next → new ≡ known_heard old next told.reason at
noted_as old new at told noted next is = noted ∙ ap (λ (n : News). known_heard old n told.reason at) is

-- a row that is done has no reason
no_reason : (head : Head) (meter : ℕ) (datagram : List ℕ) (told : News) (why : Option Reason) (c : Campaign) (m : ℕ) → told ≡ news.Done c m → TellsReason head meter datagram told why → why ≡ None
no_reason head meter datagram told why c m is tells = subst (λ (n : News). TellsReason head meter datagram n why) is tells

pub done_noted : (old : Known) (head : Head) (meter : ℕ) (datagram : List ℕ) (told : News) (why : Option Reason) (at : ℕ) (c : Campaign) (m : ℕ) (new : Known)
    → told ≡ news.Done c m → TellsReason head meter datagram told why → new ≡ known_heard old (news.Done c m) why at → new ≡ with_ending old c.serial m (record { at = at; reason = why })
done_noted old head meter datagram told why at c m new is tells noted =
    noted ∙ ap (λ (r : Option Reason). with_ending old c.serial m (record { at = at; reason = r })) (sym (no_reason head meter datagram told why c m is tells))
