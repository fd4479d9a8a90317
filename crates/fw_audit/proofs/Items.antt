-- Items as they lie in memory, and the log that they are.
use Rattle.std.proofs.Common.{◌≡◌, ◌++◌, ◌+◌, ◌-◌, ◌<◌, ◌≤◌, ℕ, zero, suc, List, [], ◌∷◌, length, take, drop, slice_get, slice_index_or, slice_range, Some, refl, sym, ap, subst, ◌∙◌, arith}
use Rattle.std.specs.Prelude.{All}
use Rattle.std.specs.List.{AllWithin, HoldsAt}
use Rattle.std.proofs.lemmas.List.{get_or-take, get_or-drop, length-take, take-map, drop-map, take_all}
use Rattle.std.proofs.lemmas.List.Elements.{All-head, All-tail, at_read}
use Rattle.std.specs.declared.net.socket_addr.SocketAddr.{SocketAddr}
use Rattle.fw_audit.specs.Log.{Item, started, came, sent, turned, item_of, log_of}
use Rattle.fw_audit.specs.declared.item.LogItem.{LogItem}

pub at_index : (items : List LogItem) (at : ℕ) (other item : LogItem) → at < length items → item ≡ slice_index_or items at other → slice_get items at ≡ Some item
at_index [] at other item inside is = absurd (omega arith)
at_index (first ∷ items) zero other item inside is = ap Some (sym is)
at_index (first ∷ items) (suc at) other item inside is = at_index items at other item (omega arith) is

-- the log of items has its own at the same places
pub logged_at : (items : List LogItem) (at : ℕ) (item : LogItem) → slice_get items at ≡ Some item → slice_get (log_of items) at ≡ Some (item_of item)
logged_at [] at item e = absurd cc
logged_at (first ∷ items) zero item e = let same : first ≡ item = cc in ap (λ (x : LogItem). Some (item_of x)) same
logged_at (first ∷ items) (suc at) item e = logged_at items at item e

pub one_more : (items : List LogItem) (at : ℕ) (item : LogItem) → slice_get items at ≡ Some item → take (at + 1) (log_of items) ≡ take at (log_of items) ++ item_of item ∷ []
one_more [] at item e = absurd cc
one_more (first ∷ items) zero item e = let same : first ≡ item = cc in ap (λ (x : LogItem). item_of x ∷ []) same
one_more (first ∷ items) (suc at) item e =
    let next : suc at + 1 ≡ suc (at + 1) = omega arith in
    ap (λ (n : ℕ). take n (log_of (first ∷ items))) next ∙ ap (λ (l : List Item). item_of first ∷ l) (one_more items at item e)

pub log_size : (items : List LogItem) → length (log_of items) ≡ length items
log_size [] = refl
log_size (first ∷ items) = ap suc (log_size items)

pub log_front : (items : List LogItem) (at : ℕ) → log_of (take at items) ≡ take at (log_of items)
log_front items at = sym (take-map item_of at items)

pub log_slice : (items : List LogItem) (from to : ℕ) → log_of (slice_range items from to) ≡ slice_range (log_of items) from to
log_slice items from to = sym (take-map item_of (to - from) (drop from items)) ∙ ap (take (to - from)) (sym (drop-map item_of from items))

-- the item that is read at a place, whatever would stand for one that isn't there
pub read_at : (items : List LogItem) (at : ℕ) (d : LogItem) → at < length items → slice_get items at ≡ Some (slice_index_or items at d)
read_at items at d inside = at_index items at d (slice_index_or items at d) inside refl

pub start_at : (items : List LogItem) (at : ℕ) (d : LogItem) → at < length items → item_of (slice_index_or items at d) ≡ started → slice_get (log_of items) at ≡ Some started
start_at items at d inside is = logged_at items at (slice_index_or items at d) (read_at items at d inside) ∙ ap (λ (i : Item). Some i) is

pub other_at : (items : List LogItem) (at : ℕ) (d : LogItem) → at < length items → (item_of (slice_index_or items at d) ≡ started → ⊥)
    → (item : Item) × (slice_get (log_of items) at ≡ Some item) × (item ≡ started → ⊥)
other_at items at d inside other = (item_of (slice_index_or items at d), logged_at items at (slice_index_or items at d) (read_at items at d inside), other)

any_default : (items : List LogItem) (at : ℕ) (d e : LogItem) → at < length items → slice_index_or items at d ≡ slice_index_or items at e
any_default [] at d e inside = absurd (omega arith)
any_default (first ∷ items) zero d e inside = refl
any_default (first ∷ items) (suc at) d e inside = any_default items at d e (omega arith)

-- ---- items of which none is a start

abbrev pub AreGoing : List Item → Type 0
AreGoing [] = Unit {0}
AreGoing (item ∷ log) = (item ≡ started → ⊥) × AreGoing log

abbrev pub Goes : LogItem → Type 0
Goes item = item_of item ≡ started → ⊥

pub are_going : (items : List LogItem) → All Goes items → AreGoing (log_of items)
are_going [] all = tt
are_going (item ∷ items) all = (All-head Goes item items all, are_going items (All-tail Goes item items all))

pub goes_at : (items : List LogItem) (at : ℕ) (d : LogItem) → at < length items → (item_of (slice_index_or items at d) ≡ started → ⊥) → HoldsAt Goes items at
goes_at items at d inside goes = at_read items Goes at (slice_index_or items at d) inside (any_default items at d (slice_index_or items at d) inside) goes

-- none of a part is
pub part_goes : (items : List LogItem) (from to : ℕ) → AllWithin Goes items from to → to ≤ length items → All Goes (slice_range items from to)
part_goes items from to within fits k d inside =
    let few : k < to - from = omega (arith, length-take (to - from) (drop from items)) in
    let same : slice_index_or (slice_range items from to) k d ≡ slice_index_or items (from + k) d =
    get_or-take (to - from) (drop from items) k d few ∙ get_or-drop from items k d in
    subst Goes (sym same) (within (from + k) d (omega arith) (omega arith))

-- none before the last is
pub front_goes : (items : List LogItem) (count : ℕ) → All Goes items → count ≤ length items → All Goes (take count items)
front_goes items count all fits k d inside =
    let few : k < count = omega (arith, length-take count items) in
    subst Goes (sym (get_or-take count items k d few)) (all k d (omega arith))

-- ---- the last item

last_is : (xs ys : List Item) (a b : Item) → xs ++ a ∷ [] ≡ ys ++ b ∷ [] → a ≡ b
last_is [] [] a b e = cc
last_is [] (y ∷ []) a b e = absurd cc
last_is [] (y ∷ z ∷ ys) a b e = absurd cc
last_is (x ∷ []) [] a b e = absurd cc
last_is (x ∷ z ∷ xs) [] a b e = absurd cc
last_is (x ∷ xs) (y ∷ ys) a b e = let rest : xs ++ a ∷ [] ≡ ys ++ b ∷ [] = cc in last_is xs ys a b rest

pub same_last : (xs ys log : List Item) (a b : Item) → log ≡ xs ++ a ∷ [] → log ≡ ys ++ b ∷ [] → a ≡ b
same_last xs ys log a b first second = last_is xs ys a b (sym first ∙ second)

pub length_last : (front : List Item) (item : Item) → length (front ++ item ∷ []) ≡ length front + 1
length_last [] item = refl
length_last (x ∷ front) item = let rest = length_last front item in omega arith

-- all items are those before the last one, and that
pub all_last : (items : List LogItem) (last : ℕ) (item : LogItem) → last + 1 ≡ length items → slice_get items last ≡ Some item → log_of items ≡ take last (log_of items) ++ item_of item ∷ []
all_last items last item size there =
    let whole : length (log_of items) ≤ last + 1 = omega (arith, log_size items) in
    sym (take_all (last + 1) (log_of items) whole) ∙ one_more items last item there

-- ---- what is no start

pub came_starts : (from : SocketAddr) (datagram : List ℕ) → came from datagram ≡ started → ⊥
came_starts from datagram e = cc

pub sent_starts : (to : SocketAddr) (bytes : List ℕ) → sent to bytes ≡ started → ⊥
sent_starts to bytes e = cc

pub turned_starts : turned ≡ started → ⊥
turned_starts e = cc
