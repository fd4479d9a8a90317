-- No counter and no initialization vector is used twice.
use Rattle.std.proofs.Common.{◌≡◌, ◌≢◌, ◌⊎◌, inl, inr, ℕ, ◌<◌, ◌≤◌, ◌^◌, nat_eq, Bool, true, false, cond, List, [], ◌∷◌, Contains, refl, sym, ap, subst, ◌∙◌, arith, eqb-true}
use Rattle.std.proofs.lemmas.Bool.Decides.{Decides-eqb}
use Rattle.std.proofs.lemmas.Nat.{from_be_bytes-to_be_bytes_4}
use Rattle.std.specs.Int.{w32, to_be_bytes, from_be_bytes}
use Rattle.std.specs.declared.net.socket_addr.SocketAddr.{SocketAddr}
use Rattle.fw_counter.specs.Moves as counting
use Rattle.fw_counter.specs.Moves.{uses, reserves, killed}
use Rattle.fw_world.specs.declared.datagram.Direction.{Direction}
use Rattle.fw_world.specs.declared.datagram.Direction.TheVariants.{ToMeter, ToHead}
use Rattle.fw_sealed.specs.Links.{Links, Seal, end_of, sealer}
use Rattle.fw_sealed.specs.Moves.{SealedField, SealedMove, moves_on, seals_one, arrives, counts, IsSealedBeginning, SealedGoes, SealedMovesLead, put_counter}
use Rattle.fw_sealed.specs.Counting.{AreTitles, CountersRise, HaveFourBytes, IvsDiffer, iv_on}
use Rattle.fw_sealed.specs.Laws.{AfterSealedMoves, IvsNeverRepeat}
use Rattle.fw_sealed.proofs.Lists.{none_there, later, first_is, first_or, same_first, same_parts}

abbrev Counters : Type 0
Counters = Direction → ℕ → counting.Counter

-- ---- a counter in the place of another one

abbrev IsPut : Counters → Direction → ℕ → counting.Counter → Direction → ℕ → Type 0
IsPut counters direction number counter way other =
    ((way ≡ direction) × (other ≡ number) × (put_counter counters direction number counter way other ≡ counter))
    ⊎ (put_counter counters direction number counter way other ≡ counters way other)

put_cases : (counters : Counters) (direction : Direction) (number : ℕ) (counter : counting.Counter) (way : Direction) (other : ℕ) → IsPut counters direction number counter way other
put_cases counters ToMeter number counter ToMeter other = go (nat_eq other number) refl
  where
    go : (b : Bool) → nat_eq other number ≡ b
        → ((ToMeter ≡ ToMeter) × (other ≡ number) × (cond b counter (counters ToMeter other) ≡ counter)) ⊎ (cond b counter (counters ToMeter other) ≡ counters ToMeter other)
    go true is = inl (refl, eqb-true other number is, refl)
    go false is = inr refl
put_cases counters ToMeter number counter ToHead other = inr refl
put_cases counters ToHead number counter ToMeter other = inr refl
put_cases counters ToHead number counter ToHead other = go (nat_eq other number) refl
  where
    go : (b : Bool) → nat_eq other number ≡ b
        → ((ToHead ≡ ToHead) × (other ≡ number) × (cond b counter (counters ToHead other) ≡ counter)) ⊎ (cond b counter (counters ToHead other) ≡ counters ToHead other)
    go true is = inl (refl, eqb-true other number is, refl)
    go false is = inr refl

itself : (n : ℕ) → nat_eq n n ≡ true
itself n = (Decides-eqb n n).1 refl

put_there : (counters : Counters) (direction : Direction) (number : ℕ) (counter : counting.Counter) → put_counter counters direction number counter direction number ≡ counter
put_there counters ToMeter number counter = ap (λ (b : Bool). cond b counter (counters ToMeter number)) (itself number)
put_there counters ToHead number counter = ap (λ (b : Bool). cond b counter (counters ToHead number)) (itself number)

-- the same end has the same counter
same_end : (counters : Counters) (way direction : Direction) (other number : ℕ) → way ≡ direction → other ≡ number → counters way other ≡ counters direction number
same_end counters way direction other number ways numbers = λ i. counters (ways i) (numbers i)

module _ (counters : Counters) (direction : Direction) (number : ℕ) (counter : counting.Counter) where
  -- what is put there is no lower, so none is
  none_falls : (counters direction number).next ≤ counter.next → (way : Direction) (other : ℕ)
      → (counters way other).next ≤ (put_counter counters direction number counter way other).next
  none_falls le way other = elim (put_cases counters direction number counter way other) [
    | inl (ways, numbers, is) ↦ omega (arith, le, ap (λ (c : counting.Counter). c.next) is, ap (λ (c : counting.Counter). c.next) (same_end counters way direction other number ways numbers))
    | inr is ↦ omega (arith, ap (λ (c : counting.Counter). c.next) is)
  ]

  all_within : counter.next ≤ counter.reserved → ((way : Direction) (other : ℕ) → (counters way other).next ≤ (counters way other).reserved) → (way : Direction) (other : ℕ)
      → (put_counter counters direction number counter way other).next ≤ (put_counter counters direction number counter way other).reserved
  all_within le within way other = elim (put_cases counters direction number counter way other) [
    | inl (ways, numbers, is) ↦ omega (arith, le, ap (λ (c : counting.Counter). c.next) is, ap (λ (c : counting.Counter). c.reserved) is)
    | inr is ↦ omega (arith, within way other, ap (λ (c : counting.Counter). c.next) is, ap (λ (c : counting.Counter). c.reserved) is)
  ]

-- ---- each move

goes_up : (used after : List ℕ) (c counter : counting.Counter) (move : counting.Move) → counting.Goes used c move after counter → c.next ≤ c.reserved
    → (c.next ≤ counter.next) × (counter.next ≤ counter.reserved)
goes_up used after c counter uses (left, given, is) within =
    (omega (arith, ap (λ (x : counting.Counter). x.next) is), omega (arith, left, ap (λ (x : counting.Counter). x.next) is, ap (λ (x : counting.Counter). x.reserved) is))
goes_up used after c counter (reserves n) (more, given, is) within =
    (omega (arith, ap (λ (x : counting.Counter). x.next) is), omega (arith, more, within, ap (λ (x : counting.Counter). x.next) is, ap (λ (x : counting.Counter). x.reserved) is))
goes_up used after c counter (killed n) (more, given, is) within =
    (omega (arith, more, within, ap (λ (x : counting.Counter). x.next) is), omega (arith, ap (λ (x : counting.Counter). x.next) is, ap (λ (x : counting.Counter). x.reserved) is))

abbrev next_of : SealedField → Seal → ℕ
next_of s t = (s.counters t.direction (sealer t)).next

record IsCounted (s : SealedField) : Type 0 where
  rise : CountersRise s.seals
  below : (t : Seal) → Contains s.seals t → t.counter < next_of s t
  within : (direction : Direction) (number : ℕ) → (s.counters direction number).next ≤ (s.counters direction number).reserved

module _ (addresses : ℕ → List SocketAddr) (links : Links) where
  seals_counted : (old : SealedField) (s : Seal) (counter : counting.Counter) → IsCounted old
      → counting.Goes [] (old.counters s.direction (sealer s)) uses (s.counter ∷ []) counter
      → IsCounted (record old { seals = s ∷ old.seals; counters = put_counter old.counters s.direction (sealer s) counter })
  seals_counted old s counter is goes = record {
    rise = (rises, is.rise);
    below = below;
    within = all_within old.counters s.direction (sealer s) counter up.1 is.within;
  }
    where
      after : Counters
      after = put_counter old.counters s.direction (sealer s) counter

      number : s.counter ≡ next_of old s
      number = same_first s.counter (next_of old s) [] [] goes.1

      up : (next_of old s ≤ counter.next) × (counter.next ≤ counter.reserved)
      up = goes_up [] (s.counter ∷ []) (old.counters s.direction (sealer s)) counter uses goes (is.within s.direction (sealer s))

      rises : (t : Seal) → Contains old.seals t → t.direction ≡ s.direction → sealer t ≡ sealer s → t.counter < s.counter
      rises t has ways ends =
          omega (
            arith,
            is.below t has,
            number,
            ap (λ (c : counting.Counter). c.next) (same_end old.counters t.direction s.direction (sealer t) (sealer s) ways ends),
          )

      its_own : s.counter < (after s.direction (sealer s)).next
      its_own =
          omega (
            arith,
            number,
            ap (λ (c : counting.Counter). c.next) goes.2,
            ap (λ (c : counting.Counter). c.next) (put_there old.counters s.direction (sealer s) counter),
          )

      below : (t : Seal) → Contains (s ∷ old.seals) t → t.counter < (after t.direction (sealer t)).next
      below t has = elim (first_or s t old.seals has) [
        | inl same ↦ subst (λ (u : Seal). u.counter < (after u.direction (sealer u)).next) same its_own
        | inr there ↦ omega (arith, is.below t there, none_falls old.counters s.direction (sealer s) counter up.0 t.direction (sealer t))
      ]

  goes_counted : (old new : SealedField) (move : SealedMove) → IsCounted old → SealedGoes addresses links old move new → IsCounted new
  goes_counted old new (moves_on move) is (next, made, e) =
      subst (λ (t : SealedField). IsCounted t) (sym e) (record { rise = is.rise; below = is.below; within = is.within })
  goes_counted old new (seals_one s) is made = subst (λ (t : SealedField). IsCounted t) (sym made.new_is) (seals_counted old s made.counter is made.takes)
  goes_counted old new (arrives wire) is (ok, e) =
      subst (λ (t : SealedField). IsCounted t) (sym e) (record { rise = is.rise; below = is.below; within = is.within })
  goes_counted old new (counts direction number move) is made =
      let up = goes_up [] made.used (old.counters direction number) made.counter move made.goes (is.within direction number) in
      subst (λ (t : SealedField). IsCounted t) (sym made.new_is) (record {
        rise = is.rise;
        below = λ t has. omega (arith, is.below t has, none_falls old.counters direction number made.counter up.0 t.direction (sealer t));
        within = all_within old.counters direction number made.counter up.1 is.within;
      })

  all_counted : (old new : SealedField) (moves : List SealedMove) → IsCounted old → SealedMovesLead addresses links old moves new → IsCounted new
  all_counted old new [] is same = subst (λ (t : SealedField). IsCounted t) (sym same) is
  all_counted old new (move ∷ moves) is (next, made, more) = all_counted next new moves (goes_counted old next move is made) more

begins : (beginning : SealedField) → IsSealedBeginning beginning → IsCounted beginning
begins beginning is = record {
  rise = subst (λ (xs : List Seal). CountersRise xs) (sym is.seals) tt;
  below = λ t has. absurd (none_there t (subst (λ (xs : List Seal). Contains xs t) is.seals has));
  within = λ direction number. omega (arith, is.counters direction number);
}

pub counters_rise : AfterSealedMoves (λ beginning now. CountersRise now.seals)
counters_rise addresses links beginning now moves is made = (all_counted addresses links beginning now moves (begins beginning is) made).rise

-- ---- initialization vectors

same_counter : (a b : ℕ) → a < 2 ^ 32 → b < 2 ^ 32 → to_be_bytes w32 a ≡ to_be_bytes w32 b → a ≡ b
same_counter a b fits also e = sym (from_be_bytes-to_be_bytes_4 a fits) ∙ ap (λ (l : List ℕ). from_be_bytes w32 l) e ∙ from_be_bytes-to_be_bytes_4 b also

module _ (links : Links) (titles : AreTitles links) where
  same_way : (head meter : ℕ) (way direction : Direction) → links.title head meter way ≡ links.title head meter direction → way ≡ direction
  same_way head meter ToMeter ToMeter e = refl
  same_way head meter ToMeter ToHead e = absurd (titles.differ head meter e)
  same_way head meter ToHead ToMeter e = absurd (titles.differ head meter (sym e))
  same_way head meter ToHead ToHead e = refl

  module _ (s t : Seal) (heads : t.head ≡ s.head) (meters : t.meter ≡ s.meter) (same : iv_on links t ≡ iv_on links s) where
    parts : (links.title t.head t.meter t.direction ≡ links.title s.head s.meter s.direction) × (to_be_bytes w32 t.counter ≡ to_be_bytes w32 s.counter)
    parts =
        same_parts (links.title t.head t.meter t.direction) (links.title s.head s.meter s.direction) (to_be_bytes w32 t.counter) (to_be_bytes w32 s.counter)
        (titles.size t ∙ sym (titles.size s)) same

    ways : t.direction ≡ s.direction
    ways = same_way s.head s.meter t.direction s.direction (sym (λ i. links.title (heads i) (meters i) t.direction) ∙ parts.0)

    ends : sealer t ≡ sealer s
    ends = λ i. end_of (ways i) (heads i) (meters i)

  differs : (s : Seal) (earlier : List Seal) → ((t : Seal) → Contains earlier t → t.direction ≡ s.direction → sealer t ≡ sealer s → t.counter < s.counter)
      → HaveFourBytes (s ∷ earlier) → (t : Seal) → Contains earlier t → t.head ≡ s.head → t.meter ≡ s.meter → iv_on links t ≢ iv_on links s
  differs s earlier rises fit t has heads meters same =
      absurd (omega (
        arith,
        rises t has (ways s t heads meters same) (ends s t heads meters same),
        same_counter t.counter s.counter (fit t (later s t earlier has)) (fit s (first_is s earlier)) (parts s t heads meters same).1,
      ))

  ivs_differ : (seals : List Seal) → CountersRise seals → HaveFourBytes seals → IvsDiffer links seals
  ivs_differ [] rise fit = tt
  ivs_differ (s ∷ earlier) rise fit = (differs s earlier rise.0 fit, ivs_differ earlier rise.1 (λ t has. fit t (later s t earlier has)))

pub ivs_never_repeat : AfterSealedMoves (λ beginning now. CountersRise now.seals) → IvsNeverRepeat
ivs_never_repeat law addresses links beginning now moves is made titles fit = ivs_differ links titles now.seals (law addresses links beginning now moves is made) fit
