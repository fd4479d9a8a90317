use Rattle.std.proofs.Common.{rules, ◌≡◌, ◌++◌, ℕ, List, ap, ◌∙◌}
use Rattle.sha2.specs.Sha256.{sha256}
use Rattle.fw_cuts.proofs.undo.write.HeaderWrite.to_bytes.Goals as goal

pub returns-clause-some : goal.returns-clause-some
returns-clause-some c =
    let digest : c.digest-digest.result ≡ sha256 c.as_slice.result.now = search rules in
    c.put.ensures
    ∙ ap (λ (l : List ℕ). c.payload-bytes.result ++ l) (digest ∙ ap sha256 c.as_slice.ensures)
    ∙ ap (λ (l : List ℕ). l ++ sha256 l) c.payload-bytes.ensures.value
