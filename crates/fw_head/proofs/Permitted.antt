-- A tick of a row sends what a head end may send.
use Rattle.std.proofs.Common.{◌≡◌, ℕ, ◌+◌, ◌<◌, ◌≤◌, suc, zero, not, Bool, true, false, List, [], ◌∷◌, All, length, map, slice_index_or, refl, sym, subst, ◌∙◌, arith}
use Rattle.std.specs.List.{range_with_len}
use Rattle.std.proofs.lemmas.List.Elements.{All-nil, All-cons, All-head, All-tail, All-take, All-filter, All-map}
use Rattle.fw_names.specs.Name.{Name}
use Rattle.fw_blocks.specs.Cuts.{Partition, IsWithinLimits, block_count}
use Rattle.fw_blocks.specs.Members.{has, absent_numbers, window}
use Rattle.fw_client.specs.Ask as ask
use Rattle.fw_client.specs.Ask.{Ask, request_of, kind_of}
use Rattle.fw_client.specs.State.{State, asking, forgetting}
use Rattle.fw_head.specs.declared.stage.Stage.{Stage}
use Rattle.fw_head.specs.declared.stage.Stage.TheVariants.{Size, Enable, Start, Blocks, Check, Gaps, Verify, Poll, Info, Activate, Confirm, Done, Failed}
use Rattle.fw_head.specs.Phase.{block_ask, asks_in, asks_first_in, count}
use Rattle.fw_head.specs.Row.{Row, MaySend, IsPermitted, tick_asks}
use Rattle.fw_head.specs.Private.{IsCutOf, IsOwn, Carry}

-- ---- the numbers of a window are below the count

in_range : (a n m : ℕ) → a + n ≤ m → All (λ i. i < m) (range_with_len a n)
in_range a zero m within = All-nil (λ i. i < m)
in_range a (suc n) m within = All-cons (λ i. i < m) a (range_with_len (a + 1) n) (omega (arith, within)) (in_range (a + 1) n m (omega (arith, within)))

below_count : (known : List Bool) (width : ℕ) → All (λ i. i < length known) (window known width)
below_count known width =
    let P : ℕ → Type 0 = λ i. i < length known in
    All-take P width (absent_numbers known) (All-filter (λ i. not (has known i)) P (range_with_len 0 (length known)) (in_range 0 (length known) (length known) (omega arith)))

-- ---- each ask of a phase

one : (name : Name) (image : List ℕ) (asked : Ask) → MaySend name image asked → All (MaySend name image) (asked ∷ [])
one name image asked may = All-cons (MaySend name image) asked [] may (All-nil (MaySend name image))

block_may : (name : Name) (image : List ℕ) (size : ℕ) (g : Partition) (number : ℕ) → IsCutOf size g → length image ≡ size → number < count g → MaySend name image (block_ask image g number)
block_may name image size g number cut long below =
    let same : g.size ≡ length image = cut.sized ∙ sym long in
    record {
      block_size = g.block_size;
      within = subst (λ (s : ℕ). IsWithinLimits g.block_size s) same cut.within;
      below = subst (λ (s : ℕ). number < block_count g.block_size s) same below;
      cut_is = refl;
    }

blocks_may : (name : Name) (image : List ℕ) (size : ℕ) (g : Partition) (known : List Bool) (width : ℕ) → IsCutOf size g → length known ≡ count g → length image ≡ size → All (MaySend name image) (map (block_ask image g) (window known width))
blocks_may name image size g known width cut all long =
    All-map (MaySend name image) (block_ask image g) (window known width)
    (λ k d within. block_may name image size g (slice_index_or (window known width) k d) cut long
    (subst (λ (n : ℕ). slice_index_or (window known width) k d < n) all (below_count known width k d within)))

may_in : (meter : ℕ) (name : Name) (size : ℕ) (image : List ℕ) (width : ℕ) (stage : Stage) → IsOwn meter name size stage → length image ≡ size → All (MaySend name image) (asks_in name size image width stage)
may_in meter name size image width Size own long = one name image ask.block_size tt
may_in meter name size image width (Enable g) own long = one name image ask.enable tt
may_in meter name size image width (Start g) own long = one name image (ask.initiate name size) (refl, sym long)
may_in meter name size image width (Blocks g known) own long = blocks_may name image size g known width own.0 own.1 long
may_in meter name size image width (Check g) own long = one name image ask.first_missing tt
may_in meter name size image width (Gaps g) own long = one name image ask.blocks tt
may_in meter name size image width (Verify g) own long = one name image ask.verify tt
may_in meter name size image width (Poll g) own long = one name image ask.status tt
may_in meter name size image width (Info g) own long = one name image ask.info tt
may_in meter name size image width (Activate g) own long = one name image ask.activate tt
may_in meter name size image width (Confirm g) own long = one name image ask.active_name tt
may_in meter name size image width (Done claim) own long = All-nil (MaySend name image)
may_in meter name size image width (Failed why) own long = All-nil (MaySend name image)

may_first : (meter : ℕ) (name : Name) (size : ℕ) (image : List ℕ) (width : ℕ) (stage : Stage) (asks_first : Bool) → IsOwn meter name size stage → length image ≡ size → All (MaySend name image) (asks_first_in name size image width stage asks_first)
may_first meter name size image width (Confirm g) true own long = All-cons (MaySend name image) ask.active_name (ask.blocks ∷ []) tt (one name image ask.blocks tt)
may_first meter name size image width (Confirm g) false own long = may_in meter name size image width (Confirm g) own long
may_first meter name size image width Size asks_first own long = may_in meter name size image width Size own long
may_first meter name size image width (Enable g) asks_first own long = may_in meter name size image width (Enable g) own long
may_first meter name size image width (Start g) asks_first own long = may_in meter name size image width (Start g) own long
may_first meter name size image width (Blocks g known) asks_first own long = may_in meter name size image width (Blocks g known) own long
may_first meter name size image width (Check g) asks_first own long = may_in meter name size image width (Check g) own long
may_first meter name size image width (Gaps g) asks_first own long = may_in meter name size image width (Gaps g) own long
may_first meter name size image width (Verify g) asks_first own long = may_in meter name size image width (Verify g) own long
may_first meter name size image width (Poll g) asks_first own long = may_in meter name size image width (Poll g) own long
may_first meter name size image width (Info g) asks_first own long = may_in meter name size image width (Info g) own long
may_first meter name size image width (Activate g) asks_first own long = may_in meter name size image width (Activate g) own long
may_first meter name size image width (Done claim) asks_first own long = may_in meter name size image width (Done claim) own long
may_first meter name size image width (Failed why) asks_first own long = may_in meter name size image width (Failed why) own long

-- ---- each datagram

all_permitted : (name : Name) (image : List ℕ) (c : State) (asks : List Ask) (sent : List (List ℕ)) → All (MaySend name image) asks → Carry c asks sent → All (IsPermitted name image) sent
all_permitted name image c [] [] may carry = All-nil (IsPermitted name image)
all_permitted name image c [] (datagram ∷ datagrams) may carry = absurd carry
all_permitted name image c (asked ∷ asks) [] may carry = absurd carry
all_permitted name image c (asked ∷ asks) (datagram ∷ datagrams) may carry =
    All-cons (IsPermitted name image) datagram datagrams
    (record { asked = asked; id = c.next; is_id = carry.0; may = All-head (MaySend name image) asked asks may; carries = carry.1 })
    (all_permitted name image (asking c (kind_of asked)) asks datagrams (All-tail (MaySend name image) asked asks may) carry.2)

-- what a row sends of its image
pub tick_permitted : (meter : ℕ) (inside row : Row) (image : List ℕ) (width : ℕ) (sent : List (List ℕ)) → inside ≡ row → IsOwn meter inside.name inside.size inside.stage → Carry (forgetting row.client) (tick_asks row image width) sent → length image ≡ row.size → All (IsPermitted row.name image) sent
tick_permitted meter inside row image width sent same own carry long =
    all_permitted row.name image (forgetting row.client) (tick_asks row image width) sent
    (may_first meter row.name row.size image width row.stage row.asks_first (subst (λ (r : Row). IsOwn meter r.name r.size r.stage) same own) long) carry
