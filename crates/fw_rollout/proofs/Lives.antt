-- Lists of meters, and which of them have a live row.
use Rattle.std.proofs.Common.{◌≡◌, ◌≢◌, ℕ, zero, suc, ◌<◌, Bool, false, List, [], ◌∷◌, map, All, Contains, get_or, take, Option, Some, None, is_some, option_map, slice_get, slice_set, refl, sym, ap, subst, ◌∙◌}
use Rattle.std.proofs.lemmas.List.{length-map, get_or-map}
use Rattle.std.proofs.lemmas.List.Elements.{All-map, Contains-append_left, Contains-append_right, Contains-push}
use Rattle.std.proofs.lemmas.Option.{none-some, same_Some, slice_get-map, slice_get_within, slice_get-get_or, get_or_from_slice_get}
use Rattle.std.specs.declared.net.socket_addr.SocketAddr.{SocketAddr}
use Rattle.fw_rollout.specs.declared.link.Link.{Link}
use Rattle.fw_rollout.specs.declared.link.Listed.{Listed}
use Rattle.fw_rollout.specs.Daemon.{IsList}
use Rattle.fw_rollout.specs.Schedule.{HasAddress, IsPlaceOf}

-- ---- elements

here : {X : Type 0} (x : X) (xs : List X) → Contains (x ∷ xs) x
here x xs = Contains-append_left (x ∷ []) xs x (Contains-push [] x)

later : {X : Type 0} (x : X) (xs : List X) (y : X) → Contains xs y → Contains (x ∷ xs) y
later x xs y within = Contains-append_right (x ∷ []) xs y within

pub at_place : {X : Type 0} (xs : List X) (k : ℕ) (x : X) → slice_get xs k ≡ Some x → Contains xs x
at_place xs k x found = (k, slice_get_within xs k x found, get_or_from_slice_get xs k x x found)

pub map_agree : {X Y : Type 0} (f g : X → Y) (xs : List X) → ((x : X) → Contains xs x → f x ≡ g x) → map f xs ≡ map g xs
map_agree f g [] same = refl
map_agree {Y = Y} f g (x ∷ xs) same =
    ap (λ (y : Y). y ∷ map f xs) (same x (here x xs))
    ∙ ap (λ (ys : List Y). g x ∷ ys) (map_agree f g xs (λ y within. same y (later x xs y within)))

pub all_of_map : {X Y : Type 0} (P : Y → Type 0) (f : X → Y) (xs : List X) → All P (map f xs) → All (λ x. P (f x)) xs
all_of_map P f xs all = λ k d within.
    subst P (get_or-map f xs k d (f d) within) (all k (f d) (subst (λ (n : ℕ). k < n) (sym (length-map xs f)) within))

-- ---- where the row of one meter ended

pub one_over : (was is : Listed → Bool) (meters : List Listed) (place : ℕ) (at : Listed) → IsList meters → slice_get meters place ≡ Some at → is at ≡ false → ((other : Listed) → other.meter ≢ at.meter → is other ≡ was other)
    → slice_set (map was meters) place false ≡ map is meters
one_over was is [] place at list found over others = absurd (none-some at found)
one_over was is (x ∷ xs) zero at list found over others =
    let same : x ≡ at = same_Some x at found in
    ap (λ (b : Bool). b ∷ map was xs) (sym (ap is same ∙ over))
    ∙ ap (λ (bs : List Bool). is x ∷ bs)
    (map_agree was is xs (λ other within. sym (others other (λ e. (list.0 other within).0 (e ∙ ap (λ (l : Listed). l.meter) (sym same))))))
one_over was is (x ∷ xs) (suc place) at list found over others =
    let apart : x.meter ≢ at.meter = λ e. (list.0 at (at_place xs place at found)).0 (sym e) in
    ap (λ (b : Bool). b ∷ slice_set (map was xs) place false) (sym (others x apart))
    ∙ ap (λ (bs : List Bool). is x ∷ bs) (one_over was is xs place at list.1 found over others)

-- ---- no row is live

some_false : {X : Type 0} (o : Option X) → is_some o ≡ false → o ≡ None
some_false None e = refl
some_false (Some x) e = absurd (cc e)

pub none_of_false : {X Y : Type 0} (f : X → Option Y) (xs : List X) → All (λ b. b ≡ false) (map (λ (x : X). is_some (f x)) xs) → All (λ x. f x ≡ None) xs
none_of_false {X = X} f xs all = λ k d within. some_false (f (get_or xs k d)) (all_of_map (λ b. b ≡ false) (λ (x : X). is_some (f x)) xs all k d within)

pub false_of_none : {X Y : Type 0} (f : X → Option Y) (xs : List X) → All (λ x. f x ≡ None) xs → All (λ b. b ≡ false) (map (λ (x : X). is_some (f x)) xs)
false_of_none {X = X} {Y = Y} f xs all =
    All-map (λ b. b ≡ false) (λ (x : X). is_some (f x)) xs (λ k d within. ap (λ (o : Option Y). is_some o) (all k d within))

-- ---- the addresses of links

record IsFrom (o : Option Link) (at : Listed) : Type 0 where
  pub link : Link
  pub found : o ≡ Some link
  pub same : link.at ≡ at

from_link : (o : Option Link) (at : Listed) → option_map (λ (link : Link). link.at) o ≡ Some at → IsFrom o at
from_link None at e = absurd (none-some at e)
from_link (Some link) at e = record { link = link; found = refl; same = same_Some link.at at e }

link_at : (links : List Link) (place : ℕ) (at : Listed) → slice_get (map (λ (link : Link). link.at) links) place ≡ Some at → IsFrom (slice_get links place) at
link_at links place at found = from_link (slice_get links place) at (sym (slice_get-map (λ (link : Link). link.at) links place) ∙ found)

-- a listed address is one of some link
pub has_address : (links : List Link) (at : Listed) → Contains (map (λ (link : Link). link.at) links) at → HasAddress links at.address
has_address links at (k, within, is) =
    let xs = map (λ (link : Link). link.at) links in
    let l = link_at links k at (slice_get-get_or xs k at within ∙ ap (λ (x : Listed). Some x) is) in
    (k, (l.link, l.found, ap (λ (x : Listed). x.address) l.same))

-- what stands at a place
pub listed_at : (links : List Link) (place : ℕ) (at : Listed) → option_map (λ (link : Link). link.at) (slice_get links place) ≡ Some at → slice_get (map (λ (link : Link). link.at) links) place ≡ Some at
listed_at links place at found = slice_get-map (λ (link : Link). link.at) links place ∙ found

pub address_at : (links : List Link) (address : SocketAddr) (place : ℕ) (at : Listed) → IsPlaceOf links address place → option_map (λ (link : Link). link.at) (slice_get links place) ≡ Some at → at.address ≡ address
address_at links address place at (link, there, is) found =
    let same : link.at ≡ at = same_Some link.at at (ap (λ (o : Option Link). option_map (λ (x : Link). x.at) o) (sym there) ∙ found) in
    ap (λ (x : Listed). x.address) (sym same) ∙ is

-- a meter that comes later in a list has another address than those before it
record IsAmong (listed : List Listed) (address : SocketAddr) : Type 0 where
  pub place : ℕ
  pub at : Listed
  pub there : slice_get listed place ≡ Some at
  pub is : at.address ≡ address

among : (meters : List Listed) (k : ℕ) (at : Listed) → IsList meters → slice_get meters k ≡ Some at → ¬ IsAmong (take k meters) at.address
among [] k at list found has = absurd (none-some at found)
among (x ∷ xs) zero at list found has = none-some has.at has.there
among (x ∷ xs) (suc k) at list found has =
    go has.place has.there (λ place e. among xs k at list.1 found (record { place = place; at = has.at; there = e; is = has.is }))
  where
    go : (place : ℕ) → slice_get (x ∷ take k xs) place ≡ Some has.at → ((next : ℕ) → slice_get (take k xs) next ≡ Some has.at → ⊥) → ⊥
    go zero e rest =
        let same : x ≡ has.at = same_Some x has.at e in
        (list.0 at (at_place xs k at found)).1 (sym has.is ∙ ap (λ (l : Listed). l.address) (sym same))
    go (suc place) e rest = rest place e

pub new_address : (links : List Link) (meters : List Listed) (k : ℕ) (at : Listed) → map (λ (link : Link). link.at) links ≡ take k meters → IsList meters → slice_get meters k ≡ Some at → ¬ HasAddress links at.address
new_address links meters k at so_far list found (place, (link, there, is)) =
    let has : slice_get (take k meters) place ≡ Some link.at =
    ap (λ (xs : List Listed). slice_get xs place) (sym so_far) ∙ slice_get-map (λ (x : Link). x.at) links place ∙ ap (λ (o : Option Link). option_map (λ (x : Link). x.at) o) there in
    among meters k at list found (record { place = place; at = link.at; there = has; is = is })
