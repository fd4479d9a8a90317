use Rattle.std.proofs.Common.{◌≡◌, ℕ, subst, ap, sym, ◌∙◌, get_or}
use Rattle.fw_aes.specs.Gcm.{next_v, v_after}
use Rattle.fw_aes.specs.Multiples.{AreRows, first_four}
use Rattle.fw_aes.proofs.VFacts.{v_one}
use Rattle.fw_aes.proofs.ghash.HashKey.new.Goals as goal

pub invariant_of-result : goal.invariant_of-result
invariant_of-result c =
    let h : ℕ = c.args.subkey in
    let third : get_or c.first_four-high.result 3 0 ≡ v_after h 3 = ap (λ vs. get_or vs 3 0) c.first_four-high.ensures in
    let fourth : c.next_v.result ≡ v_after h 4 = c.next_v.ensures ∙ ap next_v third ∙ sym (v_one h 3) in
    let low : c.first_four-low.result ≡ first_four (v_after h 4) = c.first_four-low.ensures ∙ ap first_four fourth in record {
      block = c.ranges.subkey.fits;
      low = subst (λ vs. AreRows vs c.rows.result) low c.rows.ensures;
      high = subst (λ vs. AreRows vs c.rows-2.result) c.first_four-high.ensures c.rows-2.ensures;
    }
