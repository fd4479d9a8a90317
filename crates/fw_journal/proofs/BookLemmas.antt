-- That the bytes of records stand for them alone.
use Rattle.std.proofs.Common.{◌≡◌, ◌≢◌, inl, inr, ℕ, ◌+◌, ◌<◌, ◌≤◌, ◌^◌, List, [], ◌∷◌, ◌++◌, length, take, drop, refl, sym, ◌∙◌, ap, subst, arith, append_assoc, length-append, take-append-drop, Vec}
use Rattle.std.specs.Int.{w32, to_be_bytes, from_be_bytes}
use Rattle.std.proofs.lemmas.Nat.{from_be_bytes-to_be_bytes_4}
use Rattle.std.proofs.lemmas.List.{take_at, drop_at, append-nil}
use Rattle.sha2.specs.Sha256.{sha256}
use Rattle.sha2.proofs.Facts256.{length-sha256}
use Rattle.std.specs.declared.alloc.Global.{Global}
use Rattle.fw_journal.specs.Book.{mark, contents_of, body, blocks, book_front, AreRecords, IsShut, IsNoBody, Stands, IsBadRecord, IsBadBook, HasRecord}

split_unique : (n : ℕ) (p q s t : List ℕ) → length p ≡ n → length q ≡ n → p ++ s ≡ q ++ t → (p ≡ q) × (s ≡ t)
split_unique n p q s t hp hq e = (
  sym (take_at p s n hp) ∙ ap (λ (l : List ℕ). take n l) e ∙ take_at q t n hq,
  sym (drop_at p s n hp) ∙ ap (λ (l : List ℕ). drop n l) e ∙ drop_at q t n hq,
)

four_unique : (a b : ℕ) (s t : List ℕ) → a < 2 ^ 32 → b < 2 ^ 32 → to_be_bytes w32 a ++ s ≡ to_be_bytes w32 b ++ t → (a ≡ b) × (s ≡ t)
four_unique a b s t ha hb e =
    let parts = split_unique 4 (to_be_bytes w32 a) (to_be_bytes w32 b) s t refl refl e in
    (sym (from_be_bytes-to_be_bytes_4 a ha) ∙ ap (λ (l : List ℕ). from_be_bytes w32 l) parts.0 ∙ from_be_bytes-to_be_bytes_4 b hb, parts.1)

body_spelled : (r e : List ℕ) → body r ++ e ≡ to_be_bytes w32 (length r) ++ (r ++ (sha256 r ++ e))
body_spelled r e =
    append_assoc (to_be_bytes w32 (length r)) (r ++ sha256 r) e ∙ ap (λ (l : List ℕ). to_be_bytes w32 (length r) ++ l) (append_assoc r (sha256 r) e)

pub body_unique : (r q e f : List ℕ) → length r < 2 ^ 32 → length q < 2 ^ 32 → body r ++ e ≡ body q ++ f → (r ≡ q) × (e ≡ f)
body_unique r q e f hr hq is =
    let sizes = four_unique (length r) (length q) (r ++ (sha256 r ++ e)) (q ++ (sha256 q ++ f)) hr hq (sym (body_spelled r e) ∙ is ∙ body_spelled q f) in
    let same = split_unique (length q) r q (sha256 r ++ e) (sha256 q ++ f) sizes.0 refl sizes.1 in
    let tails : sha256 q ++ e ≡ sha256 q ++ f = ap (λ (l : List ℕ). sha256 l ++ e) (sym same.0) ∙ same.1 in
    (same.0, (split_unique (length (sha256 q)) (sha256 q) (sha256 q) e f refl refl tails).1)

pub body_found : (bytes rest r tail after : List ℕ) (size : ℕ) → bytes ≡ to_be_bytes w32 size ++ rest → r ≡ take size rest → tail ≡ drop size rest → length r ≡ size → tail ≡ sha256 r ++ after → bytes ≡ body r ++ after
body_found bytes rest r tail after size is front back sized digest =
    let halves : rest ≡ r ++ (sha256 r ++ after) = sym (take-append-drop size rest) ∙ ap (λ (l : List ℕ). l ++ drop size rest) (sym front) ∙ ap (λ (l : List ℕ). r ++ l) (sym back ∙ digest) in
    is ∙ ap (λ (l : List ℕ). to_be_bytes w32 size ++ l) halves ∙ ap (λ (n : ℕ). to_be_bytes w32 n ++ (r ++ (sha256 r ++ after))) (sym sized) ∙ sym (body_spelled r after)

pub body_none : (bytes rest r tail : List ℕ) (size : ℕ) → bytes ≡ to_be_bytes w32 size ++ rest → size < 2 ^ 32 → r ≡ take size rest → tail ≡ drop size rest → length r ≡ size → ((after : List ℕ) → tail ≡ sha256 r ++ after → ⊥) → IsNoBody bytes
body_none bytes rest r tail size is fits front back sized none = λ q e fit spelled.
    let sizes = four_unique size (length q) rest (q ++ (sha256 q ++ e)) fits fit (sym is ∙ spelled ∙ body_spelled q e) in
    let halves : r ++ tail ≡ q ++ (sha256 q ++ e) = ap (λ (l : List ℕ). l ++ tail) front ∙ ap (λ (l : List ℕ). take size rest ++ l) back ∙ take-append-drop size rest ∙ sizes.1 in
    let same = split_unique size r q tail (sha256 q ++ e) sized (sym sizes.0) halves in
    none e (same.1 ∙ ap (λ (l : List ℕ). sha256 l ++ e) (sym same.0))

pub blocks-append : (xs ys : List (List ℕ)) → blocks (xs ++ ys) ≡ blocks xs ++ blocks ys
blocks-append [] ys = refl
blocks-append (x ∷ xs) ys = ap (λ (l : List ℕ). 1 ∷ (body x ++ l)) (blocks-append xs ys) ∙ ap (λ (l : List ℕ). 1 ∷ l) (sym (append_assoc (body x) (blocks xs) (blocks ys)))

pub length-block : (entry : List ℕ) → length (blocks (entry ∷ [])) ≡ length entry + 37
length-block entry =
    let four : length (to_be_bytes w32 (length entry)) ≡ 4 = refl in
    omega (arith, four, length-append (body entry) [], length-append (to_be_bytes w32 (length entry)) (entry ++ sha256 entry), length-append entry (sha256 entry), length-sha256 entry)

pub are-append : (xs ys : List (List ℕ)) → AreRecords xs → AreRecords ys → AreRecords (xs ++ ys)
are-append [] ys hx hy = hy
are-append (x ∷ xs) ys hx hy = (hx.0, are-append xs ys hx.1 hy)

pub are-front : (xs ys : List (List ℕ)) → AreRecords (xs ++ ys) → AreRecords xs
are-front [] ys are = tt
are-front (x ∷ xs) ys are = (are.0, are-front xs ys are.1)

not_open : (end bytes : List ℕ) → 1 ≤ length bytes → IsShut end → end ≡ 1 ∷ bytes → ⊥
not_open [] bytes some shut is = cc is
not_open (g ∷ []) bytes some shut is = omega (arith, some, ap length is)
not_open (g ∷ b ∷ end) bytes some shut is = let same : g ≡ 1 = cc is in shut same

pub shut_at : (gate : ℕ) (rest : List ℕ) → gate ≢ 1 → IsShut (gate ∷ rest)
shut_at gate [] shut = tt
shut_at gate (b ∷ rest) shut = shut

some_body : (r rest more : List ℕ) → 1 ≤ length ((body r ++ rest) ++ more)
some_body r rest more =
    let four : length (to_be_bytes w32 (length r)) ≡ 4 = refl in
    omega (arith, four, length-append (body r ++ rest) more, length-append (body r) rest, length-append (to_be_bytes w32 (length r)) (r ++ sha256 r))

pub tail_of : (a b : ℕ) (s t : List ℕ) → a ∷ s ≡ b ∷ t → s ≡ t
tail_of a b s t is = cc is

pub blocks_unique : (xs ys : List (List ℕ)) (s t : List ℕ) → AreRecords xs → AreRecords ys → IsShut s → IsShut t → blocks xs ++ s ≡ blocks ys ++ t → xs ≡ ys
blocks_unique [] [] s t hx hy hs ht is = refl
blocks_unique [] (y ∷ ys) s t hx hy hs ht is = absurd (not_open s ((body y ++ blocks ys) ++ t) (some_body y (blocks ys) t) hs is)
blocks_unique (x ∷ xs) [] s t hx hy hs ht is = absurd (not_open t ((body x ++ blocks xs) ++ s) (some_body x (blocks xs) s) ht (sym is))
blocks_unique (x ∷ xs) (y ∷ ys) s t hx hy hs ht is =
    let tails = tail_of 1 1 ((body x ++ blocks xs) ++ s) ((body y ++ blocks ys) ++ t) is in
    let same = body_unique x y (blocks xs ++ s) (blocks ys ++ t) hx.0 hy.0 (sym (append_assoc (body x) (blocks xs) s) ∙ tails ∙ append_assoc (body y) (blocks ys) t) in
    (λ i. same.0 i ∷ blocks_unique xs ys s t hx.1 hy.1 hs ht same.1 i)

-- what stands after the mark
from_mark : (xs : List (List ℕ)) (s : List ℕ) → book_front xs ++ s ≡ mark ++ (blocks xs ++ s)
from_mark xs s = append_assoc mark (blocks xs) s

no_mark : (s t : List ℕ) → mark ++ s ≡ mark ++ t → s ≡ t
no_mark s t e = (split_unique 4 mark mark s t refl refl e).1

pub front-append : (xs ys : List (List ℕ)) → book_front (xs ++ ys) ≡ book_front xs ++ blocks ys
front-append xs ys = ap (λ (l : List ℕ). mark ++ l) (blocks-append xs ys) ∙ sym (append_assoc mark (blocks xs) (blocks ys))

-- bytes stand for one list of records
pub stands_unique : (bytes : List ℕ) (xs ys : List (List ℕ)) → Stands bytes xs → Stands bytes ys → xs ≡ ys
stands_unique bytes xs ys a b =
    let whole : mark ++ (blocks xs ++ a.end) ≡ mark ++ (blocks ys ++ b.end) = sym (from_mark xs a.end) ∙ sym a.split ∙ b.split ∙ from_mark ys b.end in
    blocks_unique xs ys a.end b.end a.fit b.fit a.shut b.shut (no_mark (blocks xs ++ a.end) (blocks ys ++ b.end) whole)

bad_blocks : (xs ys : List (List ℕ)) (behind t : List ℕ) → AreRecords xs → AreRecords ys → 1 ≤ length behind → IsNoBody behind → IsShut t → blocks xs ++ 1 ∷ behind ≡ blocks ys ++ t → ⊥
bad_blocks xs [] behind t hx hy some none ht is = no_start xs is
  where
    no_start : (l : List (List ℕ)) → blocks l ++ 1 ∷ behind ≡ t → ⊥
    no_start [] e = not_open t behind some ht (sym e)
    no_start (x ∷ l) e = not_open t ((body x ++ blocks l) ++ 1 ∷ behind) (some_body x (blocks l) (1 ∷ behind)) ht (sym e)
bad_blocks [] (y ∷ ys) behind t hx hy some none ht is =
    none y (blocks ys ++ t) hy.0 (tail_of 1 1 behind ((body y ++ blocks ys) ++ t) is ∙ append_assoc (body y) (blocks ys) t)
bad_blocks (x ∷ xs) (y ∷ ys) behind t hx hy some none ht is =
    let tails = tail_of 1 1 ((body x ++ blocks xs) ++ 1 ∷ behind) ((body y ++ blocks ys) ++ t) is in
    let same = body_unique x y (blocks xs ++ 1 ∷ behind) (blocks ys ++ t) hx.0 hy.0 (sym (append_assoc (body x) (blocks xs) (1 ∷ behind)) ∙ tails ∙ append_assoc (body y) (blocks ys) t) in
    bad_blocks xs ys behind t hx.1 hy.1 some none ht same.1

bad_record : (bytes : List ℕ) (offset : ℕ) (xs : List (List ℕ)) → IsBadRecord bytes offset → Stands bytes xs → ⊥
bad_record bytes offset xs bad stands =
    let whole : mark ++ (blocks bad.front ++ 1 ∷ bad.behind) ≡ mark ++ (blocks xs ++ stands.end) = sym (from_mark bad.front (1 ∷ bad.behind)) ∙ sym bad.split ∙ stands.split ∙ from_mark xs stands.end in
    bad_blocks bad.front xs bad.behind stands.end bad.fit stands.fit bad.some bad.nothing stands.shut (no_mark (blocks bad.front ++ 1 ∷ bad.behind) (blocks xs ++ stands.end) whole)

-- and bad ones for none
pub bad_stands : (bytes : List ℕ) (offset : ℕ) (xs : List (List ℕ)) → IsBadBook bytes offset → Stands bytes xs → ⊥
bad_stands bytes offset xs (inl no_book) stands = no_book.1 (blocks xs ++ stands.end) (stands.split ∙ from_mark xs stands.end)
bad_stands bytes offset xs (inr bad) stands = bad_record bytes offset xs bad stands

abbrev Vecs : Type 0
Vecs = List (Vec ℕ Global)

contents_of_push : (vs : Vecs) (v : Vec ℕ Global) → contents_of (vs ++ v ∷ []) ≡ contents_of vs ++ v.items ∷ []
contents_of_push [] v = refl
contents_of_push (w ∷ vs) v = ap (λ (l : List (List ℕ)). w.items ∷ l) (contents_of_push vs v)

-- one record more is read
pub read_push : (bytes rest r after : List ℕ) (vs later : Vecs) (v : Vec ℕ Global) → bytes ≡ book_front (contents_of vs) ++ rest → rest ≡ 1 ∷ (body r ++ after) → later ≡ vs ++ v ∷ [] → v.items ≡ r → bytes ≡ book_front (contents_of later) ++ after
read_push bytes rest r after vs later v read next pushed is =
    let one : blocks (r ∷ []) ++ after ≡ 1 ∷ (body r ++ after) = ap (λ (l : List ℕ). 1 ∷ (l ++ after)) (append-nil (body r)) in
    let more : contents_of later ≡ contents_of vs ++ r ∷ [] = ap (λ (l : Vecs). contents_of l) pushed ∙ contents_of_push vs v ∙ ap (λ (x : List ℕ). contents_of vs ++ x ∷ []) is in
    read ∙ ap (λ (l : List ℕ). book_front (contents_of vs) ++ l) (next ∙ sym one) ∙ sym (append_assoc (book_front (contents_of vs)) (blocks (r ∷ [])) after)
    ∙ ap (λ (l : List ℕ). l ++ after) (sym (front-append (contents_of vs) (r ∷ []))) ∙ ap (λ (l : List (List ℕ)). book_front l ++ after) (sym more)

pub fit_push : (r : List ℕ) (vs later : Vecs) (v : Vec ℕ Global) → AreRecords (contents_of vs) → length r < 2 ^ 32 → later ≡ vs ++ v ∷ [] → v.items ≡ r → AreRecords (contents_of later)
fit_push r vs later v fit size pushed is =
    let more : contents_of later ≡ contents_of vs ++ r ∷ [] = ap (λ (l : Vecs). contents_of l) pushed ∙ contents_of_push vs v ∙ ap (λ (x : List ℕ). contents_of vs ++ x ∷ []) is in
    subst (λ (l : List (List ℕ)). AreRecords l) (sym more) (are-append (contents_of vs) (r ∷ []) fit (size, tt))

-- if a record is read, a whole one stands first
pub first_record : (bytes rest r after : List ℕ) (read : List (List ℕ)) → AreRecords read → length r < 2 ^ 32 → bytes ≡ book_front read ++ rest → rest ≡ 1 ∷ (body r ++ after) → HasRecord bytes
first_record bytes rest r after [] fit short is next = record { first = r; rest = after; short = short; split = is ∙ ap (λ (l : List ℕ). mark ++ l) next }
first_record bytes rest r after (x ∷ xs) fit short is next = record {
  first = x;
  rest = blocks xs ++ rest;
  short = fit.0;
  split = is ∙ ap (λ (l : List ℕ). mark ++ 1 ∷ l) (append_assoc (body x) (blocks xs) rest);
}
