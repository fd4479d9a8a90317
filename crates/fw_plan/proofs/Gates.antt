-- The first wave with a live row, and what it says of which rows may be asked.
use Rattle.std.proofs.Common.{◌≡◌, ℕ, ◌<◌, ◌↔◌, true, false, nat_le, List, [], ◌∷◌, ◌++◌, Option, Some, None, Contains, get_or, length, take, ◌+◌, refl, sym, subst, arith}
use Rattle.std.proofs.lemmas.Bool.{both_ways, cond_both, leb-true, leb-false}
use Rattle.std.proofs.lemmas.List.{take_more}
use Rattle.std.proofs.lemmas.List.Elements.{All-contains, All-push, All-weaker, Contains-append_left, Contains-push}
use Rattle.fw_book.specs.Rows.{is_live}
use Rattle.fw_plan.specs.declared.gate.Gate.{Gate}
use Rattle.fw_plan.specs.declared.gate.Gate.TheVariants as gate
use Rattle.fw_plan.specs.declared.gate.WaveRow.{WaveRow}
use Rattle.fw_plan.specs.declared.threshold.MaxFailed.{MaxFailed}
use Rattle.fw_plan.specs.Waves.{AreOverBefore, Asks, IsFirst, IsGate, IsNext, IsWithin, MayAsk, failed_before, rows_before}
use Rattle.fw_plan.specs.Private.{next_after, wave_of}

-- a live row may be asked only in the first wave with a live row
own_wave : (max_failed : MaxFailed) (rows : List WaveRow) (wave : ℕ) (row : WaveRow) → IsNext rows wave → Contains rows row → MayAsk max_failed rows row
    → row.wave ≡ wave
own_wave max_failed rows wave row next there may =
    let early : row.wave < wave → is_live row.state ≡ false = All-contains (λ (r : WaveRow). r.wave < wave → is_live r.state ≡ false) rows row next.over there in
    let late : next.row.wave < row.wave → is_live next.row.state ≡ false =
    All-contains (λ (r : WaveRow). r.wave < row.wave → is_live r.state ≡ false) rows next.row may.over next.there in
    let not_early : ¬ (row.wave < wave) = λ below. both_ways (is_live row.state) (early below) may.live in
    let not_late : ¬ (wave < row.wave) = λ above. both_ways (is_live next.row.state) (late (omega (arith, next.own, above))) next.live in
    omega (arith, not_early, not_late)

-- the gate lets a row be asked exactly if it may be
pub gate_asks : (max_failed : MaxFailed) (rows : List WaveRow) (gate : Gate) → IsGate max_failed rows gate
    → (row : WaveRow) → Contains rows row → Asks gate row ↔ MayAsk max_failed rows row
gate_asks max_failed rows (gate.Open wave) is row there = (
  λ asks. record {
    live = asks.1;
    over = subst (λ (w : ℕ). AreOverBefore w rows) (sym asks.0) is.0.over;
    few = subst (λ (w : ℕ). IsWithin max_failed (failed_before w rows) (rows_before w rows)) (sym asks.0) is.1;
  },
  λ may. (own_wave max_failed rows wave row is.0 there may, may.live),
)
gate_asks max_failed rows (gate.TooManyFailed stop) is row there = (
  λ asks. absurd asks,
  λ may.
      let own = own_wave max_failed rows stop.wave row is.0 there may in
      let few = subst (λ (w : ℕ). IsWithin max_failed (failed_before w rows) (rows_before w rows)) own may.few in
      is.3 (subst (λ (n : ℕ). IsWithin max_failed n stop.rows) (sym is.1)
      (subst (λ (n : ℕ). IsWithin max_failed (failed_before stop.wave rows) n) (sym is.2) few)),
)
gate_asks max_failed rows gate.Over is row there = (
  λ asks. absurd asks,
  λ may.
      both_ways (is_live row.state) (All-contains (λ (r : WaveRow). is_live r.state ≡ false) rows row is there) may.live,
)

-- the wave of a live row is the first, where those before it have none
begins : (rows : List WaveRow) (row : WaveRow) → is_live row.state ≡ true → AreOverBefore row.wave rows → IsNext (rows ++ row ∷ []) row.wave
begins rows row live over = record {
  row = row;
  there = Contains-push rows row;
  live = live;
  own = refl;
  over = All-push (λ (r : WaveRow). r.wave < row.wave → is_live r.state ≡ false) rows row over (λ below. absurd (omega (arith, below)));
}

-- the first wave stays, where the new row is of no earlier one or has ended
stays : (rows : List WaveRow) (row : WaveRow) (wave : ℕ) → IsNext rows wave → (row.wave < wave → is_live row.state ≡ false) → IsNext (rows ++ row ∷ []) wave
stays rows row wave next ended = record {
  row = next.row;
  there = Contains-append_left rows (row ∷ []) next.row next.there;
  live = next.live;
  own = next.own;
  over = All-push (λ (r : WaveRow). r.wave < wave → is_live r.state ≡ false) rows row next.over ended;
}

-- the first wave with a live row, with one row more
pub first_more : (rows : List WaveRow) (row : WaveRow) (next : Option ℕ) → IsFirst rows next → IsFirst (rows ++ row ∷ []) (next_after next row)
first_more rows row None over =
    cond_both (is_live row.state) (Some row.wave) None (λ (n : Option ℕ). IsFirst (rows ++ row ∷ []) n)
    (λ live. begins rows row live (All-weaker (λ (r : WaveRow). is_live r.state ≡ false) (λ (r : WaveRow). r.wave < row.wave → is_live r.state ≡ false)
    (λ r ended below. ended) rows over))
    (λ ended. All-push (λ (r : WaveRow). is_live r.state ≡ false) rows row over ended)
first_more rows row (Some wave) next =
    cond_both (nat_le wave row.wave) (Some wave) (wave_of row (Some wave)) (λ (n : Option ℕ). IsFirst (rows ++ row ∷ []) n)
    (λ le. stays rows row wave next (λ below. absurd (omega (arith, below, leb-true wave row.wave le))))
    (λ gt. cond_both (is_live row.state) (Some row.wave) (Some wave) (λ (n : Option ℕ). IsFirst (rows ++ row ∷ []) n)
    (λ live. begins rows row live (All-weaker (λ (r : WaveRow). r.wave < wave → is_live r.state ≡ false) (λ (r : WaveRow). r.wave < row.wave → is_live r.state ≡ false)
    (λ r ended below. ended (omega (arith, below, leb-false wave row.wave gt))) rows next.over))
    (λ ended. stays rows row wave next (λ below. ended)))

-- the same of the first rows of a list, with the next
pub next_row_more : (rows : List WaveRow) (i : ℕ) (d : WaveRow) (next new : Option ℕ) → i < length rows → IsFirst (take i rows) next
    → new ≡ next_after next (get_or rows i d) → IsFirst (take (i + 1) rows) new
next_row_more rows i d next new inside so_far e =
    subst (λ (l : List WaveRow). IsFirst l new) (sym (take_more rows i d inside))
    (subst (λ (n : Option ℕ). IsFirst (take i rows ++ get_or rows i d ∷ []) n) (sym e) (first_more (take i rows) (get_or rows i d) next so_far))
