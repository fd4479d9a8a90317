use Rattle.std.proofs.Common.{◌≡◌, ℕ, map, refl, subst, ap, ◌∙◌, arith, [], get_or}
use Rattle.std.specs.Int.{from_le_bytes, w128}
use Rattle.fw_aes.specs.Entries.{entry_by_halves}
use Rattle.fw_aes.specs.Multiples.{AreMultiples}
use Rattle.fw_aes.proofs.DotFacts.{row_of, rows_all, rows_next, rows_none}
use Rattle.fw_aes.proofs.RowNumber.{row_number}
use Rattle.fw_aes.proofs.ghash.HashKey.dot.Goals as goal

pub loop-t-init : goal.loop-t-init
loop-t-init c = rows_none (row_of c.args.self.now c.args.x)

pub loop-t-preserved : goal.loop-t-preserved
loop-t-preserved c =
    let h : ℕ = c.args.self.now in
    let x : ℕ = c.args.x in
    let t : ℕ = c.loop-t.t in
    let are : AreMultiples h c.self.inside.low c.self.inside.high = subst (λ (k : ℕ). AreMultiples k c.self.inside.low c.self.inside.high) c.self.view_is c.self.invariant in
    let row : c.from_le_bytes.result ≡ row_of h x t =
    c.from_le_bytes.ensures
    ∙ ap (from_le_bytes w128)
    (c.entries_by_halves-row.ensures ∙ ap (map (entry_by_halves (get_or c.self.inside.low t []) (get_or c.self.inside.high t []))) c.to_le_bytes-bytes.ensures)
    ∙ row_number h x t (get_or c.self.inside.low t []) (get_or c.self.inside.high t []) (λ n lt. are.low t n c.loop-t-test.true lt) (λ n lt. are.high t n c.loop-t-test.true lt) in
    rows_next (row_of h x) c.loop-t.z c.eighth_v.result c.from_le_bytes.result _ t c.loop-t.invariant c.eighth_v.ensures row refl

pub returns : goal.returns
returns c =
    let h : ℕ = c.args.self.now in
    let e : c.loop-t.t ≡ 16 = omega arith in
    let are : AreMultiples h c.self.inside.low c.self.inside.high = subst (λ (k : ℕ). AreMultiples k c.self.inside.low c.self.inside.high) c.self.view_is c.self.invariant in
    rows_all c.args.x h c.loop-t.z c.loop-t.t are.block e c.loop-t.invariant
