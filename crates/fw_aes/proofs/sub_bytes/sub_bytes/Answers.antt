use Rattle.std.proofs.Common.{List, ℕ, ◌≡◌, map, ◌∙◌, bit_xor}
use Rattle.std.proofs.lemmas.Simd.{splat_is_map, zip2_of_maps}
use lib.Lanes.{zip2}
use Rattle.fw_aes.specs.Entries.{entry}
use Rattle.fw_aes.specs.declared.sub_bytes.TheConstants.{INVERSE, A_OVER, FROM_R, FROM_S}
use Rattle.fw_aes.proofs.EntryFacts.{places_of, through}
use Rattle.fw_aes.proofs.SubFacts.{i_all, i_of, j_all, j_of, k_all, k_of, p_all, p_of, q_all, q_of, r_all, r_of, s_all, s_of, sbox_bytes}
use Rattle.fw_aes.proofs.sub_bytes.sub_bytes.Goals as goal

j_lanes : (v i k : List ℕ) → i ≡ map i_of v → k ≡ map k_of v → zip2 bit_xor i k ≡ map j_of v
j_lanes v i k ei ek = zip2_of_maps bit_xor i_of k_of v ei ek

p_lanes : (v i k a o : List ℕ) → i ≡ map i_of v → k ≡ map k_of v → a ≡ map (entry INVERSE) i → o ≡ map (entry A_OVER) k → zip2 bit_xor a o ≡ map p_of v
p_lanes v i k a o ei ek ea eo =
    zip2_of_maps bit_xor (λ x. entry INVERSE (i_of x)) (λ x. entry A_OVER (k_of x)) v (through (entry INVERSE) i_of v i a ea ei) (through (entry A_OVER) k_of v k o eo ek)

q_lanes : (v i k a o : List ℕ) → i ≡ map i_of v → k ≡ map k_of v → a ≡ map (entry INVERSE) (zip2 bit_xor i k) → o ≡ map (entry A_OVER) k
    → zip2 bit_xor a o ≡ map q_of v
q_lanes v i k a o ei ek ea eo =
    zip2_of_maps bit_xor (λ x. entry INVERSE (j_of x)) (λ x. entry A_OVER (k_of x)) v
    (through (entry INVERSE) j_of v (zip2 bit_xor i k) a ea (j_lanes v i k ei ek)) (through (entry A_OVER) k_of v k o eo ek)

r_lanes : (v i k p b : List ℕ) → i ≡ map i_of v → k ≡ map k_of v → p ≡ map p_of v → b ≡ map (entry INVERSE) p → zip2 bit_xor b (zip2 bit_xor i k) ≡ map r_of v
r_lanes v i k p b ei ek ep eb =
    zip2_of_maps bit_xor (λ x. entry INVERSE (p_of x)) j_of v (through (entry INVERSE) p_of v p b eb ep) (j_lanes v i k ei ek)

s_lanes : (v i q b : List ℕ) → i ≡ map i_of v → q ≡ map q_of v → b ≡ map (entry INVERSE) q → zip2 bit_xor b i ≡ map s_of v
s_lanes v i q b ei eq eb = zip2_of_maps bit_xor (λ x. entry INVERSE (q_of x)) i_of v (through (entry INVERSE) q_of v q b eb eq) ei

pub entries-over_k-requires : goal.entries-over_k-requires
entries-over_k-requires c = places_of k_of c.args.block c.entries_by_halves-k.result c.entries_by_halves-k.ensures c.fits-block.1 k_all

pub entries-requires : goal.entries-requires
entries-requires c = places_of i_of c.args.block c.entries_by_halves-i.result c.entries_by_halves-i.ensures c.fits-block.1 i_all

pub entries-requires-2 : goal.entries-requires-2
entries-requires-2 c =
    places_of p_of c.args.block _
    (p_lanes c.args.block _ _ c.entries.result c.entries-over_k.result c.entries_by_halves-i.ensures c.entries_by_halves-k.ensures c.entries.ensures c.entries-over_k.ensures) c.fits-block.1 p_all

pub entries-requires-3 : goal.entries-requires-3
entries-requires-3 c =
    places_of j_of c.args.block _ (j_lanes c.args.block _ _ c.entries_by_halves-i.ensures c.entries_by_halves-k.ensures) c.fits-block.1 j_all

pub entries-requires-4 : goal.entries-requires-4
entries-requires-4 c =
    places_of q_of c.args.block _
    (q_lanes c.args.block _ _ c.entries-3.result c.entries-over_k.result c.entries_by_halves-i.ensures c.entries_by_halves-k.ensures c.entries-3.ensures c.entries-over_k.ensures) c.fits-block.1 q_all

pub entries-requires-5 : goal.entries-requires-5
entries-requires-5 c =
    let v : List ℕ = c.args.block in
    let ei = c.entries_by_halves-i.ensures in
    let ek = c.entries_by_halves-k.ensures in
    places_of r_of v _
    (r_lanes v _ _ _ c.entries-2.result ei ek (p_lanes v _ _ c.entries.result c.entries-over_k.result ei ek c.entries.ensures c.entries-over_k.ensures) c.entries-2.ensures) c.fits-block.1 r_all

pub entries-requires-6 : goal.entries-requires-6
entries-requires-6 c =
    let v : List ℕ = c.args.block in
    let ei = c.entries_by_halves-i.ensures in
    let ek = c.entries_by_halves-k.ensures in
    places_of s_of v _
    (s_lanes v _ _ c.entries-4.result ei (q_lanes v _ _ c.entries-3.result c.entries-over_k.result ei ek c.entries-3.ensures c.entries-over_k.ensures) c.entries-4.ensures) c.fits-block.1 s_all

pub returns : goal.returns
returns c =
    let v : List ℕ = c.args.block in
    let ei = c.entries_by_halves-i.ensures in
    let ek = c.entries_by_halves-k.ensures in
    let er = r_lanes v _ _ _ c.entries-2.result ei ek (p_lanes v _ _ c.entries.result c.entries-over_k.result ei ek c.entries.ensures c.entries-over_k.ensures) c.entries-2.ensures in
    let es = s_lanes v _ _ c.entries-4.result ei (q_lanes v _ _ c.entries-3.result c.entries-over_k.result ei ek c.entries-3.ensures c.entries-over_k.ensures) c.entries-4.ensures in
    zip2_of_maps bit_xor (λ x. bit_xor (entry FROM_R (r_of x)) (entry FROM_S (s_of x))) (λ _. 0x63) v
    (zip2_of_maps bit_xor (λ x. entry FROM_R (r_of x)) (λ x. entry FROM_S (s_of x)) v (through (entry FROM_R) r_of v _ c.entries-5.result c.entries-5.ensures er)
    (through (entry FROM_S) s_of v _ c.entries-6.result c.entries-6.ensures es))
    (splat_is_map v 16 0x63 c.fits-block.0)
    ∙ sbox_bytes v c.fits-block.1
