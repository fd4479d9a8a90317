-- A log as far as it was opened, one item after another.
use Rattle.std.proofs.Common.{◌≡◌, ◌∙◌, ◌≢◌, ◌+◌, ◌<◌, ◌≤◌, ℕ, zero, suc, List, [], ◌∷◌, ◌++◌, length, map, take, get_or, slice_get, Option, Some, option_map, inl, inr, refl, sym, ap, subst, append_assoc, append-nil, arith}
use Rattle.std.proofs.lemmas.List.{map-append, take_all, take_more}
use Rattle.std.proofs.lemmas.Option.{slice_get-get_or, slice_get-map}
use Rattle.std.specs.declared.net.socket_addr.SocketAddr.{SocketAddr}
use Rattle.fw_audit.specs.Departures.{IsRefused}
use Rattle.fw_audit.specs.Log.{Item, item_of, log_of, sent}
use Rattle.fw_audit.specs.declared.error.AuditError.{AuditError}
use Rattle.fw_audit.specs.declared.error.AuditError.TheVariants as audit
use Rattle.fw_audit.specs.declared.item.LogItem.{LogItem}
use Rattle.fw_image.specs.Meter.{Meter}
use Rattle.fw_sealport.specs.Peers.{RefusesFrom}
use Rattle.fw_sealport.specs.declared.dropped.Unopened.{Unopened}
use Rattle.fw_sealport.specs.declared.dropped.Unopened.TheVariants as unopened
use Rattle.fw_sealport.specs.declared.links.Links.{Links}
use Rattle.fw_evidence.specs.Private.{IsMarked, IsUnopened, IsUnsaid, refusal_at}
use Rattle.fw_evidence.specs.Captures.{IsLogOf}
use Rattle.fw_evidence.specs.Entries.{entries_of}
use Rattle.fw_evidence.specs.Sealed.{Begins, HasUnsealed, IsUnfitLog, Opens, Says, opened_item}
use Rattle.fw_evidence.specs.declared.error.EvidenceError.{EvidenceError}
use Rattle.fw_evidence.specs.declared.error.Mark.{Mark}
use Rattle.fw_evidence.specs.declared.opened.OpenedEntry.{OpenedEntry}
use Rattle.fw_evidence.specs.declared.unsealing.Opening.{Opening}
use Rattle.fw_evidence.specs.declared.site.Site.{Site}
use Rattle.fw_evidence.proofs.Marks.{as_many}
use Rattle.fw_evidence.proofs.Reading.{same_size}

abbrev pub entry_item : OpenedEntry → Item
entry_item e = opened_item e.item

abbrev pub entry_mark : OpenedEntry → Mark
entry_mark e = e.mark

abbrev pub marked : Mark → List Item → List Mark
marked mark items = map (λ (_ : Item). mark) items

map_take : {A B : Type 0} (f : A → B) (n : ℕ) (xs : List A) → take n (map f xs) ≡ map f (take n xs)
map_take f zero xs = refl
map_take f (suc n) [] = refl
map_take {A} {B} f (suc n) (x ∷ xs) = ap (λ (l : List B). f x ∷ l) (map_take f n xs)

map_get : {A B : Type 0} (f : A → B) (n : ℕ) (xs : List A) (x : A) → slice_get xs n ≡ Some x → slice_get (map f xs) n ≡ Some (f x)
map_get {A} {B} f n xs x is = slice_get-map f xs n ∙ ap (λ (o : Option A). option_map f o) is

module _ (hears : Links → Type 0) where
  -- one item more
  opens_one : (old mid new : Opening) (wire : List Item) (at : List Mark) (item : Item) (mark : Mark) (log first : List Item) (marks : List Mark)
      → Opens hears old wire at log marks mid → Says hears mid item first new
      → Opens hears old (wire ++ item ∷ []) (at ++ mark ∷ []) (log ++ first) (marks ++ marked mark first) new
  opens_one old mid new [] [] item mark log first marks h says = (
    new,
    first,
    [],
    [],
    subst (λ (o : Opening). Says hears o item first new) h.2 says,
    (refl, refl, refl),
    ap (λ (l : List Item). l ++ first) h.0 ∙ sym (append-nil first),
    ap (λ (l : List Mark). l ++ marked mark first) h.1 ∙ sym (append-nil (marked mark first)),
  )
  opens_one old mid new [] (m ∷ at) item mark log first marks h says = absurd h
  opens_one old mid new (i ∷ wire) [] item mark log first marks h says = absurd h
  opens_one old mid new (i ∷ wire) (m ∷ at) item mark log first marks h says = (
    h.0,
    h.1,
    h.2 ++ first,
    h.3 ++ marked mark first,
    h.4,
    opens_one h.0 mid new wire at item mark h.2 first h.3 h.5 says,
    ap (λ (l : List Item). l ++ first) h.6 ∙ append_assoc h.1 h.2 first,
    ap (λ (l : List Mark). l ++ marked mark first) h.7 ∙ append_assoc (marked m h.1) h.3 (marked mark first),
  )

  -- the next one of those there are
  pub opens_more : (old mid new : Opening) (wire : List LogItem) (at : List Mark) (n : ℕ) (item : LogItem) (mark : Mark) (log more first : List Item) (marks longer : List Mark)
      → n < length wire → n < length at
      → Opens hears old (log_of (take n wire)) (take n at) log marks mid → Says hears mid (item_of (get_or wire n item)) first new
      → more ≡ log ++ first → longer ≡ marks ++ marked (get_or at n mark) first
      → Opens hears old (log_of (take (n + 1) wire)) (take (n + 1) at) more longer new
  opens_more old mid new wire at n item mark log more first marks longer inside marked_too opens says more_is longer_is =
      let i : LogItem = get_or wire n item in
      let m : Mark = get_or at n mark in
      let wire_is : log_of (take (n + 1) wire) ≡ log_of (take n wire) ++ item_of i ∷ [] =
      ap (λ (l : List LogItem). log_of l) (take_more wire n item inside) ∙ map-append item_of (take n wire) (i ∷ []) in
      let at_is : take (n + 1) at ≡ take n at ++ m ∷ [] = take_more at n mark marked_too in
      let one = opens_one old mid new (log_of (take n wire)) (take n at) (item_of i) m log first marks opens says in
      subst (λ (l : List Mark). Opens hears old (log_of (take (n + 1) wire)) (take (n + 1) at) more l new) (sym longer_is)
      (subst (λ (l : List Item). Opens hears old (log_of (take (n + 1) wire)) (take (n + 1) at) l (marks ++ marked m first) new) (sym more_is)
      (subst (λ (l : List Mark). Opens hears old (log_of (take (n + 1) wire)) l (log ++ first) (marks ++ marked m first) new) (sym at_is)
      (subst (λ (l : List Item). Opens hears old l (take n at ++ m ∷ []) (log ++ first) (marks ++ marked m first) new) (sym wire_is) one)))

  -- all of them
  pub opens_all : (old new : Opening) (wire : List LogItem) (at : List Mark) (n : ℕ) (log : List Item) (marks : List Mark) → length at ≡ length wire → length wire ≤ n
      → Opens hears old (log_of (take n wire)) (take n at) log marks new → Opens hears old (log_of wire) at log marks new
  opens_all old new wire at n log marks same all opens =
      subst (λ (l : List Mark). Opens hears old (log_of wire) l log marks new) (take_all n at (omega (arith, same)))
      (subst (λ (l : List LogItem). Opens hears old (log_of l) (take n at) log marks new) (take_all n wire all) opens)

module _ (hears seals : Links → Type 0) where
  sent_unsealed : (first mid : Opening) (wire : List LogItem) (at : List Mark) (n : ℕ) (item : LogItem) (mark : Mark) (log : List Item) (marks : List Mark) (why : Unopened)
      → Begins hears seals first → n < length wire → n < length at
      → Opens hears first (log_of (take n wire)) (take n at) log marks mid → why ≢ unopened.OutOfMemory
      → (to : SocketAddr) (bytes : List ℕ) → item_of (get_or wire n item) ≡ sent to bytes → RefusesFrom mid.own to bytes why
      → HasUnsealed hears seals (log_of wire) at (get_or at n mark) why
  sent_unsealed first mid wire at n item mark log marks why begins inside marked_too opens known to bytes is_sent refused = record {
    first = first;
    begins = begins;
    count = n;
    log = log;
    marks = marks;
    last = mid;
    opens = subst (λ (l : List Item). Opens hears first l (take n at) log marks mid) (sym (map_take item_of n wire)) opens;
    to = to;
    bytes = bytes;
    there = map_get item_of n wire (get_or wire n item) (slice_get-get_or wire n item inside) ∙ ap (λ (i : Item). Some i) is_sent;
    place = slice_get-get_or at n mark marked_too;
    refused = refused;
    known = known;
  }

  -- why an item isn't opened
  pub unopened_at : (first mid : Opening) (wire : List LogItem) (at : List Mark) (n : ℕ) (item : LogItem) (mark : Mark) (log : List Item) (marks : List Mark) (why : Unopened)
      → Begins hears seals first → n < length wire → n < length at
      → Opens hears first (log_of (take n wire)) (take n at) log marks mid → IsUnsaid mid (item_of (get_or wire n item)) why
      → IsUnopened hears seals (log_of wire) at (refusal_at (get_or at n mark) why)
  unopened_at first mid wire at n item mark log marks unopened.Stranger begins inside marked_too opens (inl memory) = absurd cc
  unopened_at first mid wire at n item mark log marks unopened.Stranger begins inside marked_too opens (inr (to, bytes, is_sent, refused)) =
      sent_unsealed first mid wire at n item mark log marks unopened.Stranger begins inside marked_too opens (λ memory. absurd cc) to bytes is_sent refused
  unopened_at first mid wire at n item mark log marks unopened.NotSealed begins inside marked_too opens (inl memory) = absurd cc
  unopened_at first mid wire at n item mark log marks unopened.NotSealed begins inside marked_too opens (inr (to, bytes, is_sent, refused)) =
      sent_unsealed first mid wire at n item mark log marks unopened.NotSealed begins inside marked_too opens (λ memory. absurd cc) to bytes is_sent refused
  unopened_at first mid wire at n item mark log marks unopened.Repeated begins inside marked_too opens (inl memory) = absurd cc
  unopened_at first mid wire at n item mark log marks unopened.Repeated begins inside marked_too opens (inr (to, bytes, is_sent, refused)) =
      sent_unsealed first mid wire at n item mark log marks unopened.Repeated begins inside marked_too opens (λ memory. absurd cc) to bytes is_sent refused
  unopened_at first mid wire at n item mark log marks unopened.OutOfMemory begins inside marked_too opens why = tt

-- ---- as many marks as items

pub mapped : (items : List LogItem) → length (log_of items) ≡ length items
mapped [] = refl
mapped (item ∷ items) = ap suc (mapped items)

pub as_many_marks : (site : Site) (capture : List ℕ) (items : List LogItem) (marks : List Mark) → IsLogOf site capture (log_of items) marks → length marks ≡ length items
as_many_marks site capture items marks is =
    same_size site 0 is.read.records (entries_of (log_of items)) marks is.read.say ∙ as_many (log_of items) ∙ mapped items

-- ---- a log that is laid out for an audit

pub item_more : (entries : List OpenedEntry) (n : ℕ) (d : OpenedEntry) (items more : List LogItem) (item : LogItem) → n < length entries
    → log_of items ≡ map entry_item (take n entries) → more ≡ items ++ item ∷ [] → item_of item ≡ entry_item (get_or entries n d)
    → log_of more ≡ map entry_item (take (n + 1) entries)
item_more entries n d items more item inside are more_is is =
    ap (λ (l : List LogItem). log_of l) more_is ∙ map-append item_of items (item ∷ []) ∙ ap (λ (l : List Item). l ++ item_of item ∷ []) are
    ∙ ap (λ (i : Item). map entry_item (take n entries) ++ i ∷ []) is
    ∙ sym (ap (λ (es : List OpenedEntry). map entry_item es) (take_more entries n d inside) ∙ map-append entry_item (take n entries) (get_or entries n d ∷ []))

pub mark_more : (entries : List OpenedEntry) (n : ℕ) (d : OpenedEntry) (marks more : List Mark) → n < length entries
    → marks ≡ map entry_mark (take n entries) → more ≡ marks ++ (get_or entries n d).mark ∷ [] → more ≡ map entry_mark (take (n + 1) entries)
mark_more entries n d marks more inside are more_is =
    more_is ∙ ap (λ (l : List Mark). l ++ (get_or entries n d).mark ∷ []) are
    ∙ sym (ap (λ (es : List OpenedEntry). map entry_mark es) (take_more entries n d inside) ∙ map-append entry_mark (take n entries) (get_or entries n d ∷ []))

pub all_entries : {A : Type 0} (f : OpenedEntry → A) (entries : List OpenedEntry) (n : ℕ) (xs : List A) → length entries ≤ n → xs ≡ map f (take n entries) → xs ≡ map f entries
all_entries f entries n xs all are = are ∙ ap (λ (es : List OpenedEntry). map f es) (take_all n entries all)

pub some_there : (entries : List OpenedEntry) (n : ℕ) → n < length entries → 0 < length (map entry_item entries)
some_there [] n inside = absurd (omega (arith, inside))
some_there (e ∷ es) n inside = omega arith

-- ---- what an audit says of it

pub unfit_log : (heads : List SocketAddr) (begin end : Meter) (log : List Item) (marks : List Mark) (error : AuditError) (found : EvidenceError)
    → IsRefused heads begin log end error → IsMarked marks error found → IsUnfitLog heads begin log marks end found
unfit_log heads begin end log marks (audit.Departs d) found refused (mark, same, there) =
    subst (λ (e : EvidenceError). IsUnfitLog heads begin log marks end e) (sym same) (record { departure = d; departs = refused; broken = refl; there = there })
unfit_log heads begin end log marks audit.OtherStore found refused same =
    subst (λ (e : EvidenceError). IsUnfitLog heads begin log marks end e) (sym same) refused
unfit_log heads begin end log marks audit.OutOfMemory found refused same =
    subst (λ (e : EvidenceError). IsUnfitLog heads begin log marks end e) (sym same)
    (subst (λ (l : List Item). 0 < length l) (sym refused.1) (omega arith))
