use Rattle.std.proofs.Common.{◌≡◌, ℕ, ◌+◌, get_or, ap, ◌∙◌, arith}
use Rattle.std.proofs.lemmas.List.{length-set}
use Rattle.std.specs.Int.{byte_at}
use Rattle.fw_aes.specs.Multiples.{sum_of}
use Rattle.fw_aes.proofs.ByteFacts.{byte_listed}
use Rattle.fw_aes.proofs.ListFacts.{set_more}
use Rattle.fw_aes.proofs.ghash.row.Goals as goal

pub loop-n-preserved : goal.loop-n-preserved
loop-n-preserved c =
    let t : ℕ = c.args.t in
    let n : ℕ = c.loop-n.n in
    let here : 0 + t ≡ t = omega arith in
    let byte : get_or c.to_le_bytes.result t 0 ≡ byte_at t (sum_of c.args.vs.now n) =
    ap (λ xs. get_or xs t 0) c.to_le_bytes.ensures ∙ byte_listed 16 0 c.sum_of.result t c.requires ∙ ap (λ k. byte_at k c.sum_of.result) here ∙ ap (byte_at t) c.sum_of.ensures in record {
      length = length-set c.loop-n.row n (get_or c.to_le_bytes.result t 0) ∙ c.loop-n.invariant.length;
      there = set_more c.loop-n.row (λ k. byte_at t (sum_of c.args.vs.now k)) n (get_or c.to_le_bytes.result t 0) (omega arith) c.loop-n.invariant.there byte;
    }
