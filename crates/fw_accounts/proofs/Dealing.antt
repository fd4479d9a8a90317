-- The ticks of each link, link by link, and of each worker.
use Rattle.std.proofs.Common.{◌≡◌, ℕ, ◌+◌, ◌<◌, ◌≤◌, List, length, map, get_or, ap, sym, subst, ◌∙◌, arith}
use Rattle.std.proofs.lemmas.List.{get_or-map}
use Rattle.std.proofs.lemmas.Option.{get_or_from_slice_get, slice_get_within}
use Rattle.std.specs.Prelude.{slice_get, Some}
use mathlib.Core.Logic.{dite}
use native.Mathlib.Decide.{ℕ_discrete}
use Rattle.fw_air.specs.declared.links.LinkQueue.{LinkQueue}
use Rattle.fw_air.specs.Links.{link_of}
use Rattle.fw_air.specs.Rounds.{Link}
use Rattle.fw_air.specs.Events.{Receipt}
use Rattle.fw_accounts.specs.Accounts.{ticks_of, its_ticks, HasItsTicks}

-- each link before the one of this place has its ticks
abbrev pub HasTicksBelow : List Link → ℕ → ℕ → ℕ → List Receipt → ℕ → Type 0
HasTicksBelow links rounds workers worker receipts end =
    (j : ℕ) (link : Link) → j < end → slice_get links j ≡ Some link → ticks_of link.head link.meter receipts ≡ its_ticks rounds workers worker j

link_at : (links : List LinkQueue) (k : ℕ) (d : LinkQueue) (link : Link) → k < length links → slice_get (map link_of links) k ≡ Some link
    → link ≡ link_of (get_or links k d)
link_at links k d link lt at = sym (get_or_from_slice_get (map link_of links) k link (link_of d) at) ∙ get_or-map link_of links k d (link_of d) lt

pub below_more : (links : List LinkQueue) (rounds workers worker : ℕ) (receipts : List Receipt) (j : ℕ) (waiting : LinkQueue) → j < length links → waiting ≡ get_or links j waiting
    → ticks_of waiting.head waiting.meter receipts ≡ its_ticks rounds workers worker j
    → HasTicksBelow (map link_of links) rounds workers worker receipts j
    → HasTicksBelow (map link_of links) rounds workers worker receipts (j + 1)
below_more links rounds workers worker receipts j waiting lt is its was k link below at =
    dite (ℕ_discrete k j)
    (λ same.
    let there : k < length links = omega arith in
    let here : link ≡ link_of waiting = link_at links k waiting link there at ∙ ap (λ (i : ℕ). link_of (get_or links i waiting)) same ∙ ap link_of (sym is) in
    subst (λ (i : ℕ). ticks_of link.head link.meter receipts ≡ its_ticks rounds workers worker i) (sym same)
    (subst (λ (l : Link). ticks_of l.head l.meter receipts ≡ its_ticks rounds workers worker j) (sym here) its))
    (λ other. was k link (omega arith) at)

pub all_below : (links : List Link) (rounds workers worker : ℕ) (receipts : List Receipt) (end : ℕ) → length links ≤ end
    → HasTicksBelow links rounds workers worker receipts end → HasItsTicks links rounds workers worker receipts
all_below links rounds workers worker receipts end whole was j link at =
    let there = slice_get_within links j link at in
    was j link (omega arith) at
