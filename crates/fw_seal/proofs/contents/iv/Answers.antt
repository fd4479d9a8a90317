use Rattle.std.proofs.Common.{◌≡◌, ℕ, List, [], ◌∷◌, ◌++◌, length, drop, refl, arith, append-nil, length-append, length-drop}
use Rattle.std.proofs.lemmas.List.{take_at, drop_all}
use Rattle.std.specs.Int.{w32, to_be_bytes}
use Rattle.fw_seal.proofs.contents.iv.Goals as goal
use borrow.Rule.Slice.PartMut.{put_mid, post_of}

-- a vector of 8 bytes and 4 bytes
placed : (iv zs ys : List ℕ) → length iv ≡ 8 → length zs ≡ 4 → put_mid 8 4 (iv ++ zs) ys ≡ iv ++ ys
placed iv zs ys li lz =
    let rest : post_of 8 4 (iv ++ zs) ≡ [] = drop_all 4 (drop 8 (iv ++ zs)) (omega (arith, length-drop 8 (iv ++ zs), length-append iv zs)) in
    rw (rest, take_at iv zs 8 li, append-nil) refl

pub returns : goal.returns
returns c =
    rw (c.copy_from_slice.ensures.after, c.copy_from_slice-2.ensures.after, c.to_be_bytes.ensures)
    (placed c.args.title.now (0 ∷ 0 ∷ 0 ∷ 0 ∷ []) (to_be_bytes w32 c.args.counter) c.told-title refl)
