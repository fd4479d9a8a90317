-- A whole log: life after life.
use Rattle.std.proofs.Common.{◌≡◌, ◌++◌, ◌+◌, ◌-◌, ◌≤◌, ℕ, zero, suc, List, [], ◌∷◌, length, take, drop, slice_get, slice_index_or, slice_range, Some, inl, inr, refl, sym, ap, subst, ◌∙◌, arith, append_assoc, append-nil}
use Rattle.std.specs.Prelude.{◌⊎◌, Contains, IfErr, IfOk, Result, Ok, Err}
use Rattle.std.specs.Global.{Vec}
use Rattle.std.proofs.Math.Seq.{take-add}
use Rattle.std.proofs.lemmas.List.{length-drop, length-take, length-take-le, take-append-drop}
use Rattle.std.proofs.lemmas.List.Elements.{All-contains}
use Rattle.std.specs.declared.net.socket_addr.SocketAddr.{SocketAddr}
use Rattle.fw_image.specs.Meter.{Image, Meter, reopened}
use Rattle.fw_audit.specs.Log.{Item, started, log_of}
use Rattle.fw_audit.specs.Stands.{ended, left_by, IsLog, IsMeterLog, Leads}
use Rattle.fw_audit.specs.Departures.{IsDeparture, IsRefused, MayWantMemory}
use Rattle.fw_audit.specs.Private.{Adds, AllDepart, AreAllLeft, AreOutlived, HasMeter, IsChosen, IsFrom, IsLeft, StartsAt}
use Rattle.fw_audit.specs.declared.error.AuditError.{AuditError}
use Rattle.fw_audit.specs.declared.error.Departure.{Departure}
use Rattle.fw_audit.specs.declared.error.Rule.TheVariants as broken
use Rattle.fw_audit.specs.declared.item.LogItem.{LogItem}
use Rattle.fw_audit.specs.declared.life.Left.{Left}
use Rattle.fw_audit.proofs.Leading.{append, images_on, one_made, restart_from, restart_to, split, start_off, start_on}
use Rattle.fw_audit.proofs.Steps.{alive_before}
use Rattle.fw_audit.proofs.Lives.{departs_longer}
use Rattle.fw_audit.proofs.Gathering.{adds_one, all_from, in_cons, none_in, popped, some_one}
use Rattle.fw_audit.proofs.Items.{log_size, log_slice}

-- ---- the beginning

pub begins : (heads : List SocketAddr) (begin : Meter) (left : Left) (lefts : List Left) → left.meter.meter ≡ begin → left.switched.items ≡ [] → reopened left.meter.meter ≡ left.meter.meter → Adds [] left lefts
    → AreAllLeft heads begin [] lefts
begins heads begin left lefts is so_far rests adds = record {
  some = adds.some;
  each = all_from (IsLeft heads [] begin []) lefts (λ any there. by_place any (adds.only any there));
  all = λ images stand h. subst (HasMeter lefts) (is ∙ sym (ap left_by h.1)) adds.has;
}
  where
    first : IsLeft heads [] begin [] left
    first = record {
      images = [];
      stand = ended begin;
      leads = (refl, refl);
      left = is;
      so_far = so_far;
      rests = rests;
      size = ap (λ (m : Meter). m.capacity) is;
    }

    by_place : (any : Left) → Contains [] any ⊎ (any ≡ left) → IsLeft heads [] begin [] any
    by_place any (inl there) = absurd (none_in any there)
    by_place any (inr same) = subst (IsLeft heads [] begin []) (sym same) first

-- a process that was never started
pub alone : (heads : List SocketAddr) (begin : Meter) (left : Left) → left.meter.meter ≡ begin → left.switched.items ≡ [] → reopened left.meter.meter ≡ left.meter.meter
    → AreAllLeft heads begin [] (left ∷ [])
alone heads begin left is so_far rests = begins heads begin left (left ∷ []) is so_far rests (adds_one [] left)

pub no_items : (items : List LogItem) → length items ≡ 0 → [] ≡ log_of items
no_items [] none = refl
no_items (item ∷ items) none = absurd (omega arith)

-- a log that begins with a start
pub begins_started : (log : List Item) → 1 ≤ length log → StartsAt log 0 → MayWantMemory log
begins_started [] some starts = absurd (omega arith)
begins_started (first ∷ log) some starts =
    let there = starts (omega arith) in
    let same : first ≡ started = cc in
    (log, ap (λ (item : Item). item ∷ log) same)

-- a log that begins with no start
pub not_started : (heads : List SocketAddr) (begin : Meter) (log : List Item) (item : Item) → slice_get log 0 ≡ Some item → (item ≡ started → ⊥)
    → IsDeparture heads (ended begin) log (record { at = 0; rule = broken.NotStarted })
not_started heads begin [] item there other = absurd cc
not_started heads begin (first ∷ log) item there other = record {
  images = [];
  stand = ended begin;
  leads = (refl, refl);
  item = item;
  there = there;
  rule = refl;
  departs = λ images new h.
      let same : first ≡ item = cc in
      let made = one_made heads (ended begin) new first images h in
      alive_before heads (ended begin) new first made.0 made.1 (λ e. other (sym same ∙ e));
}

-- ---- a life more

take_slice : (log : List Item) (from to : ℕ) → from ≤ to → take from log ++ slice_range log from to ≡ take to log
take_slice log from to order =
    let whole : from + (to - from) ≡ to = omega arith in
    sym (take-add from (to - from) log) ∙ ap (λ (n : ℕ). take n log) whole

pub life_is : (log : List Item) (at end : ℕ) → at + 1 ≤ end → take (at + 1) log ≡ take at log ++ started ∷ [] → take end log ≡ take at log ++ started ∷ slice_range log (at + 1) end
life_is log at end order first =
    sym (take_slice log (at + 1) end order)
    ∙ ap (λ (l : List Item). l ++ slice_range log (at + 1) end) first
    ∙ append_assoc (take at log) (started ∷ []) (slice_range log (at + 1) end)

pub started_more : (log : List Item) (at : ℕ) → slice_get log at ≡ Some started → take (at + 1) log ≡ take at log ++ started ∷ []
started_more [] at e = absurd cc
started_more (first ∷ log) zero e = let same : first ≡ started = cc in ap (λ (x : Item). x ∷ []) same
started_more (first ∷ log) (suc at) e =
    let next : suc at + 1 ≡ suc (at + 1) = omega arith in
    ap (λ (n : ℕ). take n (first ∷ log)) next ∙ ap (λ (l : List Item). first ∷ l) (started_more log at e)

-- what is left by the log so far, and then by a life, is left by both
left_on : (heads : List SocketAddr) (begin : Meter) (front body : List Item) (left new : Left) → IsLeft heads [] begin front left
    → IsLeft heads left.switched.items left.meter.meter (started ∷ body) new → IsLeft heads [] begin (front ++ started ∷ body) new
left_on heads begin front body left new first second = record {
  images = first.images ++ second.images;
  stand = second.stand;
  leads = append heads (ended begin) first.stand second.stand front (started ∷ body) first.images second.images first.leads
      (restart_to heads first.stand second.stand left.meter.meter body second.images first.left second.leads);
  left = second.left;
  so_far = images_on [] left.switched.items new.switched.items first.images second.images first.so_far second.so_far;
  rests = second.rests;
  size = second.size ∙ first.size;
}

pub lived_on : (heads : List SocketAddr) (begin : Meter) (front body : List Item) (lefts found : List Left) → AreAllLeft heads begin front lefts → AreOutlived heads lefts body found
    → AreAllLeft heads begin (front ++ started ∷ body) found
lived_on heads begin front body lefts found were are = record {
  some = are.some;
  each = λ k d inside. from_one (slice_index_or found k d) (are.each k d inside);
  all = λ images stand h.
      let s = split heads (ended begin) stand front (started ∷ body) images h in
      let left = were.all s.first s.mid s.before in
      are.all left.0 left.1 s.rest stand (restart_from heads s.mid stand left.0.meter.meter body s.rest left.2 s.behind);
}
  where
    from_one : (new : Left) → IsFrom heads lefts body new → IsLeft heads [] begin (front ++ started ∷ body) new
    from_one new (left, there, is) = left_on heads begin front body left new (All-contains (IsLeft heads [] begin front) lefts left were.each there) is

-- ---- a departure in a life

take_past : (front : List Item) (first : Item) (body : List Item) (k : ℕ) → take (length front + 1 + k) (front ++ first ∷ body) ≡ front ++ first ∷ take k body
take_past [] first body k =
    let next : 0 + 1 + k ≡ suc k = omega arith in ap (λ (n : ℕ). take n (first ∷ body)) next
take_past (x ∷ front) first body k =
    let next : suc (length front) + 1 + k ≡ suc (length front + 1 + k) = omega arith in
    ap (λ (n : ℕ). take n (x ∷ (front ++ first ∷ body))) next ∙ ap (λ (l : List Item). x ∷ l) (take_past front first body k)

get_past : (front : List Item) (first : Item) (body : List Item) (k : ℕ) → slice_get (front ++ first ∷ body) (length front + 1 + k) ≡ slice_get body k
get_past [] first body k =
    let next : 0 + 1 + k ≡ suc k = omega arith in ap (slice_get (first ∷ body)) next
get_past (x ∷ front) first body k =
    let next : suc (length front) + 1 + k ≡ suc (length front + 1 + k) = omega arith in
    ap (slice_get (x ∷ (front ++ first ∷ body))) next ∙ get_past front first body k

departs_behind : (heads : List SocketAddr) (begin : Meter) (front body : List Item) (lefts : List Left) (d e : Departure) → AreAllLeft heads begin front lefts → AllDepart heads lefts body d
    → e.at ≡ length front + 1 + d.at → e.rule ≡ d.rule → IsDeparture heads (ended begin) (front ++ started ∷ body) e
departs_behind heads begin front body lefts d e were depart at rule =
    let left = depart.one in
    let is : IsLeft heads [] begin front left.0 = All-contains (IsLeft heads [] begin front) lefts left.0 were.each left.1 in
    let dep = left.2 in
    let before : take e.at (front ++ started ∷ body) ≡ front ++ started ∷ take d.at body =
    ap (λ (n : ℕ). take n (front ++ started ∷ body)) at ∙ take_past front started body d.at in
    let one_on : e.at + 1 ≡ length front + 1 + (d.at + 1) = omega arith in
    let with_it : take (e.at + 1) (front ++ started ∷ body) ≡ front ++ started ∷ take (d.at + 1) body =
    ap (λ (n : ℕ). take n (front ++ started ∷ body)) one_on ∙ take_past front started body (d.at + 1) in
    record {
      images = is.images ++ dep.images;
      stand = dep.stand;
      leads = subst (λ (l : List Item). Leads heads (ended begin) l (is.images ++ dep.images) dep.stand) (sym before)
          (append heads (ended begin) is.stand dep.stand front (started ∷ take d.at body) is.images dep.images is.leads
          (restart_to heads is.stand dep.stand left.0.meter.meter (take d.at body) dep.images is.left
          (start_on heads left.0.meter.meter dep.stand (take d.at body) dep.images dep.leads)));
      item = dep.item;
      there = ap (slice_get (front ++ started ∷ body)) at ∙ get_past front started body d.at ∙ dep.there;
      rule = rule ∙ dep.rule;
      departs = λ others new h.
          let s = split heads (ended begin) new front (started ∷ take (d.at + 1) body) others
          (subst (λ (l : List Item). Leads heads (ended begin) l others new) with_it h) in
          let from = were.all s.first s.mid s.before in
          let on = restart_from heads s.mid new from.0.meter.meter (take (d.at + 1) body) s.rest from.2 s.behind in
          depart.all from.0 from.1 s.rest new (start_off heads (ended from.0.meter.meter) new (take (d.at + 1) body) s.rest on);
    }

pub departs_in : (heads : List SocketAddr) (begin : Meter) (log body : List Item) (at end : ℕ) (lefts : List Left) (d e : Departure) → at ≤ length log → AreAllLeft heads begin (take at log) lefts
    → AllDepart heads lefts body d → take end log ≡ take at log ++ started ∷ body → e.at ≡ at + 1 + d.at → e.rule ≡ d.rule → IsDeparture heads (ended begin) log e
departs_in heads begin log body at end lefts d e within were depart life place rule =
    let count : length (take at log) ≡ at = length-take-le at log within in
    let there : e.at ≡ length (take at log) + 1 + d.at = place ∙ ap (λ (n : ℕ). n + 1 + d.at) (sym count) in
    let front = departs_behind heads begin (take at log) body lefts d e were depart there rule in
    subst (λ (l : List Item). IsDeparture heads (ended begin) l e) (take-append-drop end log)
    (departs_longer heads (ended begin) (take end log) (drop end log) e (subst (λ (l : List Item). IsDeparture heads (ended begin) l e) (sym life) front))

-- ---- the store that was found

pub record Looks (lefts rest : List Left) (end : Meter) : Type 0 where
  pub done : List Left
  pub is : lefts ≡ rest ++ done
  pub none : (left : Left) → Contains done left → left.meter.meter ≡ end → ⊥

pub found_left : (heads : List SocketAddr) (begin end : Meter) (log : List Item) (lefts : List Left) (left : Left) (images : List Image) → AreAllLeft heads begin log lefts → Contains lefts left
    → left.meter.meter ≡ end → images ≡ left.switched.items → IsMeterLog heads begin log images end
found_left heads begin end log lefts left images are there same told =
    let is : IsLeft heads [] begin log left = All-contains (IsLeft heads [] begin log) lefts left are.each there in
    record {
      stand = is.stand;
      leads = subst (λ (l : List Image). Leads heads (ended begin) log l is.stand) (sym (told ∙ is.so_far)) is.leads;
      left = sym same ∙ is.left;
    }

pub is_log : (heads : List SocketAddr) (begin : Meter) (log : List Item) (lefts : List Left) → AreAllLeft heads begin log lefts → IsLog heads begin log
is_log heads begin log lefts are =
    let left = some_one lefts are.some in
    let is : IsLeft heads [] begin log left.0 = All-contains (IsLeft heads [] begin log) lefts left.0 are.each left.1 in
    (is.images, left_by is.stand, record { stand = is.stand; leads = is.leads; left = refl })

pub none_left : (heads : List SocketAddr) (begin end : Meter) (log : List Item) (lefts : List Left) → AreAllLeft heads begin log lefts → Looks lefts [] end
    → (images : List Image) → IsMeterLog heads begin log images end → ⊥
none_left heads begin end log lefts are looks images log_is =
    let left = are.all images log_is.stand log_is.leads in
    looks.none left.0 (subst (λ (l : List Left). Contains l left.0) looks.is left.1) (left.2 ∙ sym log_is.left)

pub looks_none : (lefts : List Left) (end : Meter) → Looks lefts lefts end
looks_none lefts end = record { done = []; is = sym (append-nil lefts); none = λ left there same. none_in left there }

pub looks_more : (lefts rest less : List Left) (left : Left) (end : Meter) → Looks lefts rest end → rest ≡ less ++ left ∷ [] → (left.meter.meter ≡ end → ⊥) → Looks lefts less end
looks_more lefts rest less left end looks pops other = record {
  done = left ∷ looks.done;
  is = popped lefts rest less looks.done left looks.is pops;
  none = λ any there same. by_place any same (in_cons left looks.done any there);
}
  where
    by_place : (any : Left) → any.meter.meter ≡ end → (left ≡ any) ⊎ Contains looks.done any → ⊥
    by_place any same (inl is) = other (ap (λ (l : Left). l.meter.meter) is ∙ same)
    by_place any same (inr there) = looks.none any there same

-- ---- what a choice says

pub chosen_ok : (heads : List SocketAddr) (begin end : Meter) (log : List Item) (result : Result (Vec Image) AuditError) → IsChosen heads begin log end result
    → IfOk result (λ images. IsMeterLog heads begin log images.items end)
chosen_ok heads begin end log (Ok images) h = h
chosen_ok heads begin end log (Err error) h = tt

pub chosen_err : (heads : List SocketAddr) (begin end : Meter) (log : List Item) (result : Result (Vec Image) AuditError) → IsChosen heads begin log end result
    → IfErr result (λ error. IsRefused heads begin log end error)
chosen_err heads begin end log (Ok images) h = tt
chosen_err heads begin end log (Err error) h = h

-- ---- a life among the items

pub life_of : (items : List LogItem) (at end : ℕ) → at + 1 ≤ end → slice_get (log_of items) at ≡ Some started
    → take end (log_of items) ≡ take at (log_of items) ++ started ∷ log_of (slice_range items (at + 1) end)
life_of items at end order there =
    life_is (log_of items) at end order (started_more (log_of items) at there)
    ∙ ap (λ (l : List Item). take at (log_of items) ++ started ∷ l) (sym (log_slice items (at + 1) end))

pub life_size : (items : List LogItem) (from to : ℕ) → to ≤ length items → length (log_of (slice_range items from to)) ≡ to - from
life_size items from to within = omega (arith, log_size (slice_range items from to), length-take (to - from) (drop from items), length-drop from items)
