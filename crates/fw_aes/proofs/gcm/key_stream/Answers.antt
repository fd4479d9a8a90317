use Rattle.std.proofs.Common.{◌≡◌, refl, ◌∷◌, ℕ, zero, suc, ◌+◌, ◌%◌, ◌^◌, List, ap, ◌∙◌, arith, []}
use Rattle.fw_aes.specs.Aes.{cipher}
use Rattle.fw_aes.specs.Gcm.{counter_block}
use Rattle.fw_aes.specs.Schedule.{AreCiphers, IsStream}
use Rattle.fw_aes.proofs.StreamFacts.{counter_next}
use Rattle.fw_aes.proofs.gcm.key_stream.Goals as goal

four_counters : (key iv a b c d : List ℕ) (ciphers : List (List ℕ)) (n : ℕ) → AreCiphers key (a ∷ b ∷ c ∷ d ∷ []) ciphers → a ≡ counter_block iv (n + 0)
    → b ≡ counter_block iv (n + 1) → c ≡ counter_block iv (n + 2) → d ≡ counter_block iv (n + 3) → IsStream key iv n ciphers
four_counters key iv a b c d ciphers n are ea eb ec ed zero lt = are 0 lt ∙ ap (cipher key) ea
four_counters key iv a b c d ciphers n are ea eb ec ed (suc zero) lt = are 1 lt ∙ ap (cipher key) eb
four_counters key iv a b c d ciphers n are ea eb ec ed (suc (suc zero)) lt = are 2 lt ∙ ap (cipher key) ec
four_counters key iv a b c d ciphers n are ea eb ec ed (suc (suc (suc zero))) lt = are 3 lt ∙ ap (cipher key) ed
four_counters key iv a b c d ciphers n are ea eb ec ed (suc (suc (suc (suc i)))) lt = absurd (omega arith)

pub returns : goal.returns
returns c =
    let iv : List ℕ = c.args.iv.now in
    let n : ℕ = c.args.n in
    let here : n ≡ (n + 0) % 2 ^ 32 = omega arith in
    four_counters c.args.cipher.now iv c.counter_block.result c.counter_block-2.result c.counter_block-3.result c.counter_block-4.result c.cipher_four.result n c.cipher_four.ensures
    (c.counter_block.ensures ∙ counter_next iv n n 0 here) (c.counter_block-2.ensures ∙ counter_next iv n ((n + 1) % 2 ^ 32) 1 refl)
    (c.counter_block-3.ensures ∙ counter_next iv n ((n + 2) % 2 ^ 32) 2 refl) (c.counter_block-4.ensures ∙ counter_next iv n ((n + 3) % 2 ^ 32) 3 refl)
