-- Items after items, and what is between them.
use Rattle.std.proofs.Common.{◌≡◌, ◌++◌, List, [], ◌∷◌, refl, sym, ap, subst, ◌∙◌, append_assoc, append-nil}
use Rattle.std.specs.declared.net.socket_addr.SocketAddr.{SocketAddr}
use Rattle.fw_image.specs.Meter.{Image, Meter, migrated}
use Rattle.fw_audit.specs.Log.{Item, started}
use Rattle.fw_audit.specs.Stands.{Stand, ended, waits, left_by, Leads, Makes}
use Rattle.fw_audit.specs.Private.{HasImages}

-- one item
pub after_one : (heads : List SocketAddr) (old new : Stand) (item : Item) (images : List Image) → Makes heads old item images new → Leads heads old (item ∷ []) images new
after_one heads old new item images makes = (new, images, [], makes, (refl, refl), sym (append-nil images))

pub one_made : (heads : List SocketAddr) (old new : Stand) (item : Item) (images : List Image) → Leads heads old (item ∷ []) images new → (first : List Image) × Makes heads old item first new
one_made heads old new item images (next, first, rest, makes, (none, is), all) = (first, subst (λ (s : Stand). Makes heads old item first s) (sym is) makes)

-- items, and then others
pub append : (heads : List SocketAddr) (old mid new : Stand) (front back : List Item) (images more : List Image) → Leads heads old front images mid → Leads heads mid back more new
    → Leads heads old (front ++ back) (images ++ more) new
append heads old mid new [] back images more (none, is) second =
    subst (λ (l : List Image). Leads heads old back (l ++ more) new) (sym none) (subst (λ (s : Stand). Leads heads s back more new) is second)
append heads old mid new (item ∷ front) back images more (next, first, rest, makes, leads, all) second = (
  next,
  first,
  rest ++ more,
  makes,
  append heads next mid new front back rest more leads second,
  ap (λ (l : List Image). l ++ more) all ∙ append_assoc first rest more,
)

pub record Halves (heads : List SocketAddr) (old : Stand) (front back : List Item) (images : List Image) (new : Stand) : Type 0 where
  pub mid : Stand
  pub first : List Image
  pub rest : List Image
  pub before : Leads heads old front first mid
  pub behind : Leads heads mid back rest new
  pub all : images ≡ first ++ rest

pub split : (heads : List SocketAddr) (old new : Stand) (front back : List Item) (images : List Image) → Leads heads old (front ++ back) images new → Halves heads old front back images new
split heads old new [] back images h = record { mid = old; first = []; rest = images; before = (refl, refl); behind = h; all = refl }
split heads old new (item ∷ front) back images (next, first, rest, makes, leads, all) =
    let s = split heads next new front back rest leads in
    record {
      mid = s.mid;
      first = first ++ s.first;
      rest = s.rest;
      before = (next, first, s.first, makes, s.before, refl);
      behind = s.behind;
      all = all ∙ ap (λ (l : List Image). first ++ l) s.all ∙ sym (append_assoc first s.first s.rest);
    }

pub images_on : (had so_far more images others : List Image) → HasImages had images so_far → HasImages so_far others more → HasImages had (images ++ others) more
images_on had so_far more images others first second = second ∙ ap (λ (l : List Image). l ++ others) first ∙ append_assoc had images others

-- ---- a start

pub start_on : (heads : List SocketAddr) (begin : Meter) (new : Stand) (body : List Item) (images : List Image) → Leads heads (waits (migrated begin)) body images new
    → Leads heads (ended begin) (started ∷ body) images new
start_on heads begin new body images leads = (waits (migrated begin), [], images, (refl, refl), leads, refl)

-- it asks for nothing but what the store holds
pub start_off : (heads : List SocketAddr) (old new : Stand) (body : List Item) (images : List Image) → Leads heads old (started ∷ body) images new
    → Leads heads (waits (migrated (left_by old))) body images new
start_off heads old new body images (next, first, rest, (none, is), leads, all) =
    subst (λ (l : List Image). Leads heads (waits (migrated (left_by old))) body l new) (sym (all ∙ ap (λ (l : List Image). l ++ rest) none))
    (subst (λ (s : Stand). Leads heads s body rest new) is leads)

pub restart_from : (heads : List SocketAddr) (old new : Stand) (begin : Meter) (body : List Item) (images : List Image) → begin ≡ left_by old → Leads heads old (started ∷ body) images new
    → Leads heads (ended begin) (started ∷ body) images new
restart_from heads old new begin body images same h =
    start_on heads begin new body images (subst (λ (m : Meter). Leads heads (waits (migrated m)) body images new) (sym same) (start_off heads old new body images h))

pub restart_to : (heads : List SocketAddr) (old new : Stand) (begin : Meter) (body : List Item) (images : List Image) → begin ≡ left_by old → Leads heads (ended begin) (started ∷ body) images new
    → Leads heads old (started ∷ body) images new
restart_to heads old new begin body images same h = (
  waits (migrated (left_by old)),
  [],
  images,
  (refl, refl),
  subst (λ (m : Meter). Leads heads (waits (migrated m)) body images new) same (start_off heads (ended begin) new body images h),
  refl,
)
