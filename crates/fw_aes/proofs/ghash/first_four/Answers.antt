use Rattle.std.proofs.Common.{◌≡◌, ℕ, ◌∷◌, [], sym, ap, ◌∙◌}
use Rattle.fw_aes.specs.Gcm.{next_v, v_after}
use Rattle.fw_aes.proofs.VFacts.{v_here, v_one}
use Rattle.fw_aes.proofs.ghash.first_four.Goals as goal

pub returns : goal.returns
returns c =
    let v : ℕ = c.args.v in
    let one : c.next_v-v1.result ≡ v_after v 1 = c.next_v-v1.ensures ∙ ap next_v (sym (v_here v)) ∙ sym (v_one v 0) in
    let two : c.next_v-v2.result ≡ v_after v 2 = c.next_v-v2.ensures ∙ ap next_v one ∙ sym (v_one v 1) in
    let three : c.next_v.result ≡ v_after v 3 = c.next_v.ensures ∙ ap next_v two ∙ sym (v_one v 2) in
    λ k. sym (v_here v) k ∷ one k ∷ two k ∷ three k ∷ []
