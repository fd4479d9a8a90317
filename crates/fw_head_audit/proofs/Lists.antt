-- Elements of lists, and logs item after item.
use Rattle.std.proofs.Common.{◌≡◌, ◌++◌, ◌+◌, ◌<◌, ◌≤◌, ℕ, zero, suc, List, [], ◌∷◌, map, Some, length, take, slice_get, slice_index_or, refl, sym, ap, subst, ◌∙◌, arith}
use Rattle.std.specs.Prelude.{All, Contains}
use Rattle.std.proofs.lemmas.List.{get_or_default, length-map, map-append, take-map, take_all, take_more}
use Rattle.std.proofs.lemmas.List.Elements.{All-head, All-push, All-tail}
use Rattle.fw_audit.specs.Log.{Item, item_of, log_of}
use Rattle.fw_audit.specs.declared.item.LogItem.{LogItem}

pub none_in : {X : Type 0} (x : X) → Contains [] x → ⊥
none_in x (k, inside, is) = omega arith

pub all_got : {X : Type 0} (P : X → Type 0) (xs : List X) (at : ℕ) (x : X) → slice_get xs at ≡ Some x → All P xs → P x
all_got P [] at x e all = absurd cc
all_got P (y ∷ xs) zero x e all = let same : y ≡ x = cc in subst P same (All-head P y xs all)
all_got P (y ∷ xs) (suc at) x e all = all_got P xs at x e (All-tail P y xs all)

pub read_at : {X : Type 0} (xs : List X) (at : ℕ) (d : X) → at < length xs → slice_get xs at ≡ Some (slice_index_or xs at d)
read_at [] at d inside = absurd (omega arith)
read_at (x ∷ xs) zero d inside = refl
read_at (x ∷ xs) (suc at) d inside = read_at xs at d (omega arith)

got_item : (items : List LogItem) (at : ℕ) (item : LogItem) → slice_get items at ≡ Some item → slice_get (log_of items) at ≡ Some (item_of item)
got_item [] at item e = absurd cc
got_item (i ∷ items) zero item e = let same : i ≡ item = cc in ap (λ (x : LogItem). Some (item_of x)) same
got_item (i ∷ items) (suc at) item e = got_item items at item e

-- the item that is read at a place
pub item_at : (items : List LogItem) (at : ℕ) (item : LogItem) → at < length items → item ≡ slice_index_or items at item → slice_get (log_of items) at ≡ Some (item_of item)
item_at items at item inside is = got_item items at item (read_at items at item inside ∙ ap (λ (i : LogItem). Some i) (sym is))

pub one_more : {X : Type 0} (xs : List X) (at : ℕ) (x : X) → at < length xs → x ≡ slice_index_or xs at x → take (at + 1) xs ≡ take at xs ++ x ∷ []
one_more xs at x inside is = take_more xs at x inside ∙ ap (λ y. take at xs ++ y ∷ []) (sym is)

pub log_more : (items : List LogItem) (at : ℕ) (item : LogItem) → at < length items → item ≡ slice_index_or items at item
    → take (at + 1) (log_of items) ≡ take at (log_of items) ++ item_of item ∷ []
log_more items at item inside is =
    take-map item_of (at + 1) items ∙ ap log_of (one_more items at item inside is) ∙ map-append item_of (take at items) (item ∷ [])
    ∙ ap (λ (l : List Item). l ++ item_of item ∷ []) (sym (take-map item_of at items))

pub log_all : (items : List LogItem) (at : ℕ) → length items ≤ at → take at (log_of items) ≡ log_of items
log_all items at all = take_all at (log_of items) (omega (arith, all, length-map items item_of))

-- the item that is read at a place, whatever would stand for one that isn't there
pub log_more_at : (items : List LogItem) (at : ℕ) (d : LogItem) → at < length items → take (at + 1) (log_of items) ≡ take at (log_of items) ++ item_of (slice_index_or items at d) ∷ []
log_more_at items at d inside = log_more items at (slice_index_or items at d) inside (get_or_default items at d (slice_index_or items at d) inside)

pub all_more : (P : Item → Type 0) (items : List LogItem) (at : ℕ) (d : LogItem) → at < length items → All P (take at (log_of items)) → P (item_of (slice_index_or items at d))
    → All P (take (at + 1) (log_of items))
all_more P items at d inside all here =
    subst (All P) (sym (log_more_at items at d inside)) (All-push P (take at (log_of items)) (item_of (slice_index_or items at d)) all here)
