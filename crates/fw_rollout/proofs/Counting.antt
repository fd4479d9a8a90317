-- How many links are live.
use Rattle.std.proofs.Common.{◌≡◌, ◌↔◌, ℕ, ◌+◌, ◌≤◌, Bool, true, false, cond, List, [], ◌∷◌, map, length, refl, sym, ap, subst, ◌∙◌, arith}
use Rattle.std.specs.Prelude.{All, count_by}
use Rattle.std.proofs.lemmas.List.Elements.{All-cons, All-head, All-nil, All-tail}
use Rattle.std.proofs.lemmas.List.Sums.{count_by-le-length, sum_by-cons}
use Rattle.fw_rollout.specs.Schedule.{IsSchedule, is_live, links_of, lives_of}
use Rattle.fw_rollout.specs.declared.link.Link.{Link}
use Rattle.fw_rollout.specs.declared.schedule.Schedule.{Schedule}

abbrev IsOff : Bool → Type 0
IsOff live = live ≡ false

first_zero : (a b c : ℕ) → a ≡ b + c → a ≡ 0 → b ≡ 0
first_zero a b c e z = omega arith

others_zero : (a b c : ℕ) → a ≡ b + c → a ≡ 0 → c ≡ 0
others_zero a b c e z = omega arith

both_zero : (a b c : ℕ) → a ≡ b + c → b ≡ 0 → c ≡ 0 → a ≡ 0
both_zero a b c e y z = omega arith

is_off : (b : Bool) → ◌≡◌ {A = ℕ} (cond b 1 0) 0 → b ≡ false
is_off true e = cc
is_off false e = refl

all_off : (links : List Link) → count_by is_live links ≡ 0 → All IsOff (map is_live links)
all_off [] e = All-nil IsOff
all_off (link ∷ links) e =
    let sum = sum_by-cons (λ (l : Link). cond (is_live l) 1 0) link links in
    All-cons IsOff (is_live link) (map is_live links) (is_off (is_live link) (first_zero _ _ _ sum e)) (all_off links (others_zero _ _ _ sum e))

none_counted : (links : List Link) → All IsOff (map is_live links) → count_by is_live links ≡ 0
none_counted [] h = refl
none_counted (link ∷ links) h =
    both_zero _ _ _ (sum_by-cons (λ (l : Link). cond (is_live l) 1 0) link links)
    (ap (λ b. cond b 1 0) (All-head IsOff (is_live link) (map is_live links) h)) (none_counted links (All-tail IsOff (is_live link) (map is_live links) h))

pub none_live : (s : Schedule) → IsSchedule s → (s.live ≡ 0) ↔ All (λ live. live ≡ false) (lives_of s)
none_live s i = (
  λ (e : s.live ≡ 0). all_off (links_of s) (sym i.counts_live ∙ e),
  λ (h : All IsOff (lives_of s)). i.counts_live ∙ none_counted (links_of s) h,
)

pub live_at_most : (s : Schedule) → IsSchedule s → s.live ≤ length (links_of s)
live_at_most s i = subst (λ n. n ≤ length (links_of s)) (sym i.counts_live) (count_by-le-length is_live (links_of s))
