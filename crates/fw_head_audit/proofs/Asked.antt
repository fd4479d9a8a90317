-- What a datagram that is sent asks, beside what a book offers.
use Rattle.std.proofs.Common.{◌≡◌, ◌↔◌, ◌⊎◌, ℕ, ◌+◌, ◌-◌, ◌/◌, ◌<◌, Bool, true, false, cond, List, [], ◌∷◌, length, Option, Some, None, inl, inr, refl, sym, ap, subst, ◌∙◌, arith, ⊎_elim}
use Rattle.std.specs.Prelude.{Contains, MatchBool}
use Rattle.std.specs.declared.net.socket_addr.SocketAddr.{SocketAddr}
use Rattle.std.proofs.lemmas.Bool.{false≢true}
use Rattle.std.proofs.lemmas.Bool.Decides.{Decides-eqb}
use Rattle.fw_names.specs.Name.{Campaign, IsOpened, IsRelease, Name, factory, name_bytes, name_of}
use Rattle.fw_wrapper.specs.Laws.{OneFrame}
use Rattle.fw_apdu.specs.Laws.{OneRequest}
use Rattle.fw_axdr.specs.Value.{double_long_unsigned, octet_string}
use Rattle.fw_apdu.specs.Cosem as cosem
use Rattle.fw_apdu.specs.Request.{RequestContent, SpellsRequest, action_request}
use Rattle.fw_client.specs.Ask as ask
use Rattle.fw_client.specs.Ask.{Ask, CarriesRequest, image_transfer, pair, request_of}
use Rattle.fw_client.specs.State.{invoke_byte}
use Rattle.fw_book.specs.Contents.{Contents, Offered, offered_in, state_in}
use Rattle.fw_head.specs.Row.{IsPermitted, MaySend}
use Rattle.fw_head_audit.specs.Heads.{IsAsked, IsOfferedAt, IsOfferedTo}
use Rattle.fw_head_audit.specs.Private.{IsAskedAt, IsAskedTo, Kind, Lets, May, free, initiating, blocking, asked_by, asked_in, is_invoke}
use Rattle.fw_head_audit.specs.declared.meter.AskedMeter.{AskedMeter}
use Rattle.fw_head_audit.proofs.Shapes.{IsFree, IsKind, asks_for, if_some, kind_for, kind_is, some_is}
use Rattle.fw_head_audit.proofs.Books.{row_of_campaign, state_of_campaign}

-- ---- one request

pub one_carried : OneFrame → OneRequest → (datagram : List ℕ) (i j : ℕ) (a b : RequestContent) → CarriesRequest datagram i a → CarriesRequest datagram j b → (i ≡ j) × (a ≡ b)
one_carried frame request datagram i j a b x y =
    let apdu : x.apdu ≡ y.apdu = (frame datagram x.apdu y.apdu 1 1 1 1 x.wraps y.wraps).2 in
    request y.apdu i j a b (subst (λ (s : List ℕ). SpellsRequest s i a) apdu x.spells) y.spells

-- ---- invoke bytes

invoke_is : (invoke : ℕ) → is_invoke invoke ≡ true → (id : ℕ) × (id < 16) × (invoke ≡ invoke_byte id)
invoke_is invoke e =
    let front : invoke / 16 ≡ 12 = (Decides-eqb (invoke / 16) 12).0 e in
    (invoke - 192, omega (arith, front), omega (arith, front))

is_id : (id : ℕ) → id < 16 → is_invoke (invoke_byte id) ≡ true
is_id id low = (Decides-eqb ((192 + id) / 16) 12).1 (omega (arith, low))

if_true : {A : Type 0} (b : Bool) (o : Option A) → b ≡ true → cond b o None ≡ o
if_true true o e = refl
if_true false o e = absurd (false≢true e)

never_both : {A : Type 0} (o : Option A) (a : A) → o ≡ None → o ≡ Some a → ⊥
never_both o a none some = cc

-- ---- what may be sent

may_send : (name : Name) (image : List ℕ) (asked : Ask) → IsFree asked → MaySend name image asked
may_send name image (ask.initiate n size) is = absurd is
may_send name image (ask.block number value) is = absurd is
may_send name image asked is = tt

may_for : (name : Name) (image : List ℕ) (asked : Ask) → MaySend name image asked → May name image (kind_for asked)
may_for name image (ask.initiate n size) may = (ap name_bytes may.0, may.1)
may_for name image (ask.block number value) may = may
may_for name image asked may = tt

permitted_kind : (name : Name) (image datagram : List ℕ) (id : ℕ) (content : RequestContent) (kind : Kind) → id < 16 → CarriesRequest datagram (invoke_byte id) content
    → IsKind content kind → May name image kind → IsPermitted name image datagram
permitted_kind name image datagram id content free small carries (asked, is_free, is) may = record {
  asked = asked;
  id = id;
  is_id = small;
  may = may_send name image asked is_free;
  carries = subst (CarriesRequest datagram (invoke_byte id)) is carries;
}
permitted_kind name image datagram id content (initiating identifier size) small carries is may = record {
  asked = ask.initiate name size;
  id = id;
  is_id = small;
  may = (refl, may.1);
  carries = subst (CarriesRequest datagram (invoke_byte id)) (is ∙ ap (λ (i : List ℕ). action_request (image_transfer cosem.image_transfer_initiate) (Some (pair (octet_string i) (double_long_unsigned size)))) may.0) carries;
}
permitted_kind name image datagram id content (blocking number value) small carries is may = record {
  asked = ask.block number value;
  id = id;
  is_id = small;
  may = may;
  carries = subst (CarriesRequest datagram (invoke_byte id)) is carries;
}

pub permitted : (name : Name) (image datagram : List ℕ) (invoke : ℕ) (content : RequestContent) (kind : Kind) → CarriesRequest datagram invoke content
    → asked_in invoke content ≡ Some kind → May name image kind → IsPermitted name image datagram
permitted name image datagram invoke content kind carries e may =
    let found = if_some (is_invoke invoke) (asked_by content) kind e in
    let id = invoke_is invoke found.0 in
    permitted_kind name image datagram id.0 content kind id.1 (subst (λ (i : ℕ). CarriesRequest datagram i content) id.2 carries) (kind_is content kind found.1) may

-- what is permitted of a datagram with this request is its kind
pub record IsMeant (name : Name) (image : List ℕ) (invoke : ℕ) (content : RequestContent) : Type 0 where
  pub kind : Kind
  pub asks : asked_in invoke content ≡ Some kind
  pub may : May name image kind

pub meant : OneFrame → OneRequest → (name : Name) (image datagram : List ℕ) (invoke : ℕ) (content : RequestContent) → CarriesRequest datagram invoke content
    → IsPermitted name image datagram → IsMeant name image invoke content
meant frame request name image datagram invoke content carries p =
    let same = one_carried frame request datagram (invoke_byte p.id) invoke (request_of p.asked) content p.carries carries in
    let asks : asked_in (invoke_byte p.id) (request_of p.asked) ≡ Some (kind_for p.asked) =
    if_true (is_invoke (invoke_byte p.id)) (asked_by (request_of p.asked)) (is_id p.id p.is_id) ∙ asks_for p.asked in
    record {
      kind = kind_for p.asked;
      asks = ap (λ (i : ℕ). asked_in i content) (sym same.0) ∙ ap (asked_in (invoke_byte p.id)) (sym same.1) ∙ asks;
      may = may_for name image p.asked p.may;
    }

-- ---- what is offered

module _ (frame : OneFrame) (request : OneRequest) (book : Contents) (meters : List AskedMeter) (to : SocketAddr) (datagram : List ℕ) (invoke : ℕ) (content : RequestContent)
    (carries : CarriesRequest datagram invoke content) where
  pub offered : (kind : Kind) → asked_in invoke content ≡ Some kind → IsAskedAt book meters to kind → IsOfferedAt book meters to datagram
  offered kind e (meter, asked, a) = (
    meter,
    asked,
    record {
      campaign = a.campaign;
      offer = a.offer;
      state = a.lets.state;
      offered = a.offered;
      row = state_of_campaign book a.campaign a.offer meter a.lets.state a.offered a.lets.row;
      is_release = a.is_release;
      permitted = permitted (name_of a.campaign a.offer.release a.offer.image) a.offer.image datagram invoke content kind carries e a.lets.may;
    },
  )

  pub not_offered : (kind : Kind) → asked_in invoke content ≡ Some kind → (IsAskedAt book meters to kind → ⊥) → IsOfferedAt book meters to datagram → ⊥
  not_offered kind e none (meter, asked, o) =
      let m = meant frame request (name_of o.campaign o.offer.release o.offer.image) o.offer.image datagram invoke content carries o.permitted in
      let same : m.kind ≡ kind = some_is m.kind kind (sym m.asks ∙ e) in
      let row = row_of_campaign book o.campaign o.offer meter o.state o.offered o.row in
      none (
        meter,
        asked,
        record {
          campaign = o.campaign;
          offer = o.offer;
          offered = o.offered;
          is_release = o.is_release;
          lets = record { state = o.state; row = row; may = subst (May (name_of o.campaign o.offer.release o.offer.image) o.offer.image) same m.may };
        },
      )

  pub asks_nothing : asked_in invoke content ≡ None → IsOfferedAt book meters to datagram → ⊥
  asks_nothing e (meter, asked, o) =
      let m = meant frame request (name_of o.campaign o.offer.release o.offer.image) o.offer.image datagram invoke content carries o.permitted in
      never_both (asked_in invoke content) m.kind e m.asks

pub no_request : (book : Contents) (meters : List AskedMeter) (to : SocketAddr) (datagram : List ℕ) → ((invoke : ℕ) (content : RequestContent) → CarriesRequest datagram invoke content → ⊥)
    → IsOfferedAt book meters to datagram → ⊥
no_request book meters to datagram none (meter, asked, o) = none (invoke_byte o.permitted.id) (request_of o.permitted.asked) o.permitted.carries
