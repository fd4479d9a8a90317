-- How many rows are ticked again since no answer came.
use Rattle.std.proofs.Common.{◌≡◌, ℕ, suc, ◌+◌, ◌≤◌, Bool, true, false, cond, List, [], ◌∷◌, Option, Some, None, inl, inr, ⊎_elim, refl, sym, ap, subst, ◌∙◌, arith}
use Rattle.std.specs.Prelude.{MatchOption, if◌then◌else◌, nat_le, slice_get}
use Rattle.std.proofs.lemmas.Bool.{false≢true, le-leb, leb-true}
use Rattle.std.proofs.lemmas.List.Sums.{sum_by-cons}
use Rattle.fw_rollout.specs.Counting.{IsMore, one_more}
use Rattle.fw_rollout.specs.Link.{IsGivenUp, after, is_expired, is_paused, is_resent, lacks_answer, until_of}
use Rattle.fw_rollout.specs.Schedule.{CountsResend, GivesUp, IsWaitingAt, links_of, resends_after, resent_in, with_resend}
use Rattle.fw_rollout.specs.declared.link.Link.{Link}
use Rattle.fw_rollout.specs.declared.schedule.Schedule.{Schedule}
use Rattle.fw_rollout.proofs.Counted.{more_on}
use Rattle.fw_rollout.proofs.Settling.{expired_at, given_up_settled, goes}
use Rattle.fw_rollout.proofs.Turning.{sum_moved}

-- ---- one link

ready_then : (now : ℕ) (link : Link) (gone : ℕ) (next : Link) → IsGivenUp now link gone next → link.is_heard ≡ true → until_of next.turn ≡ None
ready_then now link gone next up h = ⊎_elim
    (λ a. ap (λ (l : Link). until_of l.turn) a.1)
    (λ b. ⊎_elim
    (λ a. absurd (false≢true (sym a.0 ∙ h)))
    (λ a. absurd (false≢true (sym a.0 ∙ h))) b)
    up.1

over_then : (now : ℕ) (link : Link) (gone : ℕ) (next : Link) → IsGivenUp now link gone next → link.is_heard ≡ false → nat_le (after link.sent_at link.patience) now ≡ true
    → until_of next.turn ≡ None
over_then now link gone next up h o = ⊎_elim
    (λ a. absurd (false≢true (sym h ∙ a.0)))
    (λ b. ⊎_elim
    (λ a. let early = a.1 in let late = leb-true (after link.sent_at link.patience) now o in absurd (omega (arith, early, late)))
    (λ a. ap (λ (l : Link). until_of l.turn) a.2) b)
    up.1

record Later (until : Option ℕ) : Type 0 where
  pub time : ℕ
  pub is : until ≡ Some time

silent_then : (now : ℕ) (link : Link) (gone : ℕ) (next : Link) → IsGivenUp now link gone next → link.is_heard ≡ false → nat_le (after link.sent_at link.patience) now ≡ false
    → Later (until_of next.turn)
silent_then now link gone next up h o = ⊎_elim
    (λ a. absurd (false≢true (sym h ∙ a.0)))
    (λ b. ⊎_elim
    (λ a. record { time = after link.sent_at link.patience; is = ap (λ (l : Link). until_of l.turn) a.2 })
    (λ a. absurd (false≢true (sym o ∙ le-leb (after link.sent_at link.patience) now a.1))) b)
    up.1

by_parts : (n : ℕ) (paused heard over : Bool) (until : Option ℕ) → (heard ≡ true → until ≡ None) → (heard ≡ false → over ≡ true → until ≡ None) → (heard ≡ false → over ≡ false → Later until)
    → resends_after paused until n ≡ (if (if paused then false else (if heard then true else over)) then one_more n else n)
by_parts n true heard over until a b c = refl
by_parts n false true over until a b c = ap (λ (u : Option ℕ). resends_after false u n) (a refl)
by_parts n false false true until a b c = ap (λ (u : Option ℕ). resends_after false u n) (b refl refl)
by_parts n false false false until a b c = ap (λ (u : Option ℕ). resends_after false u n) (c refl refl).is

later_of : (one other : Option ℕ) → one ≡ other → Later other → Later one
later_of one other e l = record { time = l.time; is = e ∙ l.is }

pub resend_counted : (now n : ℕ) (link : Link) (gone : ℕ) (next : Link) (paused : Bool) (until : Option ℕ) → paused ≡ is_paused link.turn → until ≡ until_of next.turn → IsGivenUp now link gone next
    → resends_after paused until n ≡ with_resend now link n
resend_counted now n link gone next paused until e f up =
    ap (λ (p : Bool). resends_after p until n) e
    ∙ by_parts n (is_paused link.turn) link.is_heard (nat_le (after link.sent_at link.patience) now) until
    (λ h. f ∙ ready_then now link gone next up h)
    (λ h o. f ∙ over_then now link gone next up h o)
    (λ h o. later_of until (until_of next.turn) f (silent_then now link gone next up h o))

pub counts_resend : (place now : ℕ) (link : Link) (old new : Schedule) → slice_get (links_of old) place ≡ Some link → new.resends ≡ with_resend now link old.resends → CountsResend place now old new
counts_resend place now link old new was e =
    subst (λ (o : Option Link). MatchOption o (new.resends ≡ old.resends) (λ (l : Link). new.resends ≡ with_resend now l old.resends)) (sym was) e

-- ---- all links

-- what was given up so far is counted
pub record Resends (now : ℕ) (old cur : Schedule) : Type 0 where
  pub many : ℕ
  pub left : many + resent_in now (links_of cur) ≡ resent_in now (links_of old)
  pub counted : IsMore old.resends many cur.resends

none_yet : (n : ℕ) → 0 + n ≡ n
none_yet n = omega arith

pub resends_none : (now : ℕ) (s : Schedule) → Resends now s s
resends_none now s = record { many = 0; left = none_yet (resent_in now (links_of s)); counted = inr (refl, refl) }

one_by : (b : Bool) (n m : ℕ) → m ≡ (if b then one_more n else n) → IsMore n (cond b 1 0) m
one_by true n m e = inl e
one_by false n m e = inr (refl, e)

left_on : (m x a b o l n : ℕ) → m + b ≡ o → a + l ≡ b + n → l ≡ x → n ≡ 0 → m + x + a ≡ o
left_on m x a b o l n e f g h = omega arith

pub resends_more : (now place until : ℕ) (old cur new : Schedule) → Resends now old cur → IsWaitingAt (links_of cur) place until → until ≤ now → GivesUp place now cur new
    → CountsResend place now cur new → Resends now old new
resends_more now place until old cur new so_far (link, was, waits) over up counts =
    let to = goes now place link cur new was up in
    let f : Link → ℕ = λ l. cond (is_resent now l) 1 0 in
    let here : new.resends ≡ with_resend now link cur.resends = rw was at counts in
    let one : ℕ = cond (lacks_answer now link) 1 0 in
    let moved : resent_in now (links_of new) + f link ≡ resent_in now (links_of cur) + f to.next =
    subst (λ (l : List Link). resent_in now l + f link ≡ resent_in now (links_of cur) + f to.next) (sym to.links) (sum_moved f (links_of cur) place link to.next was) in
    let due : f link ≡ one = ap (λ (b : Bool). cond (if b then lacks_answer now link else false) 1 0) (expired_at now until link waits over) in
    let gone : f to.next ≡ 0 = ap (λ (b : Bool). cond (if b then lacks_answer now to.next else false) 1 0) (given_up_settled now link to.gone to.next to.up) in
    record {
      many = so_far.many + one;
      left = left_on so_far.many one (resent_in now (links_of new)) (resent_in now (links_of cur)) (resent_in now (links_of old)) (f link) (f to.next) so_far.left moved due gone;
      counted = more_on old.resends cur.resends new.resends (so_far.many + one) so_far.many one so_far.counted (one_by (lacks_answer now link) cur.resends new.resends here) refl;
    }

both_zero : (a b c : ℕ) → a ≡ b + c → b ≡ 0 → c ≡ 0 → a ≡ 0
both_zero a b c e y z = omega arith

pub none_resent : (now : ℕ) (links : List Link) → ((place : ℕ) (link : Link) → slice_get links place ≡ Some link → is_expired now link ≡ false) → resent_in now links ≡ 0
none_resent now [] none = refl
none_resent now (link ∷ links) none =
    both_zero _ _ _ (sum_by-cons (λ (l : Link). cond (is_resent now l) 1 0) link links)
    (ap (λ (b : Bool). cond (if b then lacks_answer now link else false) 1 0) (none 0 link refl))
    (none_resent now links (λ place other is. none (suc place) other is))

as_many : (m z o : ℕ) → m + z ≡ o → z ≡ 0 → m ≡ o
as_many m z o e f = omega arith

pub resends_all : (now : ℕ) (old cur : Schedule) → Resends now old cur → resent_in now (links_of cur) ≡ 0 → IsMore old.resends (resent_in now (links_of old)) cur.resends
resends_all now old cur so_far none =
    subst (λ (k : ℕ). IsMore old.resends k cur.resends) (as_many so_far.many (resent_in now (links_of cur)) (resent_in now (links_of old)) so_far.left none) so_far.counted
