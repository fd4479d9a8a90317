use Rattle.std.proofs.Common.{◌≡◌, ◌-◌, ◌∷◌, ◌++◌, [], List, ℕ, length, sym, ap, subst, ◌∙◌, arith, length-append}
use Rattle.fw_book.specs.declared.row.Row.{Row}
use Rattle.fw_book.specs.Format.{rows_bytes}
use Rattle.fw_book.specs.Private.{MetersFit, rows_in}
use Rattle.fw_book.proofs.Parts.{rows_push, meters_push, rows_refused}
use Rattle.fw_book.proofs.Walks.{rows_whole, cut_before}
use Rattle.fw_book.proofs.reading.split_rows.Goals as goal

pub returns-in_default-clause-none : goal.returns-in_default-clause-none
returns-in_default-clause-none c =
    rows_refused c.args.count c.loop.counter c.args.bytes.now c.loop.rest.now c.loop.invariant.rows c.loop.invariant.found
    c.loop.invariant.count c.loop-test.true c.loop.invariant.fit c.in_default.ensures.none

pub loop-preserved : goal.loop-preserved
loop-preserved c = record {
  rows = c.loop.invariant.rows ++ c.in-Some._row ∷ [];
  found = rows_push c.args.bytes.now c.loop.rest.now c.in-Some.after.now c.loop.invariant.rows c.in-Some._row c.loop.invariant.found c.in-Some.ensures.found;
  count = omega (arith, length-append c.loop.invariant.rows (c.in-Some._row ∷ []));
  fit = meters_push c.loop.invariant.rows c.in-Some._row c.loop.invariant.fit c.in-Some.ensures.fits;
}

pub returns-clause-found : goal.returns-clause-found
returns-clause-found c =
    let R = c.loop.invariant.rows in
    let cut = cut_before c.args.bytes.now (rows_bytes R) c.loop.rest.now (length c.args.bytes.now - length c.loop.rest.now) c.loop.invariant.found (omega arith) in
    let front : c.split_at.result.0.now ≡ rows_bytes R = c.split_at.ensures.front ∙ cut.0 in
    let back : c.split_at.result.1.now ≡ c.loop.rest.now = c.split_at.ensures.back ∙ cut.1 in
    let same : rows_in c.split_at.result.0.now ≡ R = ap (λ (l : List ℕ). rows_in l) front ∙ rows_whole R c.loop.invariant.fit in
    c.loop.invariant.found ∙ ap (λ (rs : List Row). rows_bytes rs ++ c.loop.rest.now) (sym same)
    ∙ ap (λ (l : List ℕ). rows_bytes (rows_in c.split_at.result.0.now) ++ l) (sym back)

pub returns-clause-count : goal.returns-clause-count
returns-clause-count c =
    let R = c.loop.invariant.rows in
    let cut = cut_before c.args.bytes.now (rows_bytes R) c.loop.rest.now (length c.args.bytes.now - length c.loop.rest.now) c.loop.invariant.found (omega arith) in
    let same : rows_in c.split_at.result.0.now ≡ R = ap (λ (l : List ℕ). rows_in l) (c.split_at.ensures.front ∙ cut.0) ∙ rows_whole R c.loop.invariant.fit in
    let n : length R ≡ c.args.count = omega arith in
    ap (λ (rs : List Row). length rs) same ∙ n

pub returns-clause-fit : goal.returns-clause-fit
returns-clause-fit c =
    let R = c.loop.invariant.rows in
    let cut = cut_before c.args.bytes.now (rows_bytes R) c.loop.rest.now (length c.args.bytes.now - length c.loop.rest.now) c.loop.invariant.found (omega arith) in
    let same : rows_in c.split_at.result.0.now ≡ R = ap (λ (l : List ℕ). rows_in l) (c.split_at.ensures.front ∙ cut.0) ∙ rows_whole R c.loop.invariant.fit in
    subst (λ (rs : List Row). MetersFit rs) (sym same) c.loop.invariant.fit
