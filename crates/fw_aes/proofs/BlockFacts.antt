-- The blocks of a string, one after another.
use Rattle.std.proofs.Common.{◌≡◌, ℕ, zero, suc, ◌+◌, List, [], ◌∷◌, ◌++◌, map, fold, refl, sym, ap, ◌∙◌, add-one, arith}
use Rattle.std.specs.List.{range_with_len}
use Rattle.fw_aes.specs.Gcm.{block_at, first_blocks, hash_step}

range_push : (a n : ℕ) → range_with_len a (suc n) ≡ range_with_len a n ++ (a + n) ∷ []
range_push a zero = ap (λ (k : ℕ). k ∷ []) (omega arith)
range_push a (suc n) = ap (λ (ks : List ℕ). a ∷ ks) (range_push (a + 1) n ∙ ap (λ (k : ℕ). range_with_len (a + 1) n ++ k ∷ []) (omega arith))

map_push : (f : ℕ → ℕ) (xs : List ℕ) (x : ℕ) → map f (xs ++ x ∷ []) ≡ map f xs ++ f x ∷ []
map_push f [] x = refl
map_push f (y ∷ ys) x = ap (λ (zs : List ℕ). f y ∷ zs) (map_push f ys x)

fold_push : (f : ℕ → ℕ → ℕ) (a : ℕ) (xs : List ℕ) (x : ℕ) → fold f a (xs ++ x ∷ []) ≡ f (fold f a xs) x
fold_push f a [] x = refl
fold_push f a (y ∷ ys) x = fold_push f (f a y) ys x

pub fold_both : (f : ℕ → ℕ → ℕ) (a : ℕ) (xs ys : List ℕ) → fold f a (xs ++ ys) ≡ fold f (fold f a xs) ys
fold_both f a [] ys = refl
fold_both f a (x ∷ xs) ys = fold_both f (f a x) xs ys

pub first_blocks_next : (bytes : List ℕ) (n : ℕ) → first_blocks bytes (n + 1) ≡ first_blocks bytes n ++ block_at bytes n ∷ []
first_blocks_next bytes n =
    ap (λ (k : ℕ). map (block_at bytes) (range_with_len 0 k)) (add-one n)
    ∙ ap (map (block_at bytes)) (range_push 0 n ∙ ap (λ (k : ℕ). range_with_len 0 n ++ k ∷ []) (omega arith)) ∙ map_push (block_at bytes) (range_with_len 0 n) n

-- one block more is hashed
pub hash_next : (h start : ℕ) (bytes : List ℕ) (y z x n : ℕ) → y ≡ fold (hash_step h) start (first_blocks bytes n) → x ≡ block_at bytes n → z ≡ hash_step h y x
    → z ≡ fold (hash_step h) start (first_blocks bytes (n + 1))
hash_next h start bytes y z x n ey ex ez =
    ez ∙ ap (λ (a : ℕ). hash_step h a x) ey ∙ ap (hash_step h (fold (hash_step h) start (first_blocks bytes n))) ex
    ∙ sym (ap (fold (hash_step h) start) (first_blocks_next bytes n) ∙ fold_push (hash_step h) start (first_blocks bytes n) (block_at bytes n))
