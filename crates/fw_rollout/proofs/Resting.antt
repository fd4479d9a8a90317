-- How long a row rests after an answer.
use Rattle.std.proofs.Common.{◌≡◌, ℕ, ◌+◌, ◌-◌, ◌^◌, ◌<◌, ◌≤◌, nat_lt, min, max, Bool, true, false, if◌then◌else◌, refl, sym, ap, subst, ◌∙◌, arith, lt-ltb}
use Rattle.std.proofs.lemmas.Bool.{cond-true}
use Rattle.fw_book.specs.declared.phase.Phase.{Phase}
use Rattle.fw_rollout.specs.Timing.{longest_wait}
use Rattle.fw_rollout.specs.declared.laps.Lap.{Lap}
use Rattle.fw_rollout.specs.Laps.{ends_lap, lap_after, lap_ended, longer_rest, no_lap, starts, takes_block, with_block}
use Rattle.fw_rollout.specs.Laws.{RestsAreShort, ShorterLapsGoOn}

either_most : (b : Bool) (x y : Lap) (n : ℕ) → x.until ≤ n → y.until ≤ n → (if b then x else y).until ≤ n
either_most true x y n p q = p
either_most false x y n p q = q

either_none : (b : Bool) (x y : Lap) → x.until ≡ 0 → y.until ≡ 0 → (if b then x else y).until ≡ 0
either_none true x y p q = p
either_none false x y p q = q

same_until : (b : Bool) (lap : Lap) → (with_block b lap).until ≡ lap.until
same_until true lap = refl
same_until false lap = refl

same_before : (b : Bool) (lap : Lap) → (with_block b lap).before ≡ lap.before
same_before true lap = refl
same_before false lap = refl

-- the next lap, of a row whose lap got nowhere
abbrev nowhere : ℕ → Lap → Lap
nowhere now lap = record { taken = 0; before = lap.taken; rest = longer_rest lap.rest; until = min (now + longer_rest lap.rest) (2 ^ 64 - 1) }

ended_most : (now : ℕ) (lap : Lap) → (lap_ended now lap).until ≤ now + longest_wait
ended_most now lap =
    either_most (nat_lt lap.taken lap.before) (record no_lap { before = lap.taken }) (nowhere now lap) (now + longest_wait)
    (let none : 0 ≤ now + longest_wait = omega arith in none)
    (let most : min (now + longer_rest lap.rest) (2 ^ 64 - 1) ≤ now + longest_wait = omega arith in most)

pub rests_are_short : RestsAreShort
rests_are_short now from to lap =
    let next = with_block (takes_block from to) lap in
    let n = max lap.until (now + longest_wait) in
    let same : next.until ≡ lap.until = same_until (takes_block from to) lap in
    let ended : (lap_ended now next).until ≤ n = omega (arith, ended_most now next) in
    let goes_on : next.until ≤ n = omega (arith, same) in
    either_most (starts from to) no_lap (if ends_lap from to then lap_ended now next else next) n
    (let none : 0 ≤ n = omega arith in none)
    (either_most (ends_lap from to) (lap_ended now next) next n ended goes_on)

pub shorter_laps_go_on : ShorterLapsGoOn
shorter_laps_go_on now from to lap ends fewer =
    let next = with_block (takes_block from to) lap in
    let below : next.taken < next.before = subst (λ (n : ℕ). next.taken < n) (sym (same_before (takes_block from to) lap)) fewer in
    let short : Lap = record no_lap { before = next.taken } in
    let ended : (lap_ended now next).until ≡ 0 =
    ap (λ (l : Lap). l.until) (cond-true (nat_lt next.taken next.before) short (nowhere now next) (lt-ltb next.taken next.before below)) in
    either_none (starts from to) no_lap (if ends_lap from to then lap_ended now next else next) refl
    (ap (λ (l : Lap). l.until) (cond-true (ends_lap from to) (lap_ended now next) next ends) ∙ ended)
