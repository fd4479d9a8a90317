-- The meters of a head end, one after the other.
use Rattle.std.proofs.Common.{◌≡◌, ◌+◌, ◌<◌, ◌≤◌, ℕ, List, length, slice_index_or, refl, sym, ap, subst, ◌∙◌, arith, ⊎_elim}
use Rattle.std.specs.declared.net.socket_addr.SocketAddr.{SocketAddr}
use Rattle.std.proofs.lemmas.Bool.{cases_lt}
use Rattle.std.proofs.lemmas.List.{get_or_default}
use Rattle.fw_book.specs.Contents.{Contents}
use Rattle.fw_head_audit.specs.Private.{IsAskedAt, IsAskedTo, Kind}
use Rattle.fw_head_audit.specs.declared.meter.AskedMeter.{AskedMeter}

-- none of the first meters is offered it at this address
abbrev pub NoneAsked : Contents → List AskedMeter → SocketAddr → Kind → ℕ → Type 0
NoneAsked book meters to kind at =
    (k : ℕ) (d : AskedMeter) → k < at → (slice_index_or meters k d).at ≡ to → IsAskedTo book (slice_index_or meters k d).meter kind → ⊥

pub asked_more : (book : Contents) (meters : List AskedMeter) (to : SocketAddr) (kind : Kind) (at : ℕ) (d : AskedMeter) → at < length meters → NoneAsked book meters to kind at
    → ((slice_index_or meters at d).at ≡ to → IsAskedTo book (slice_index_or meters at d).meter kind → ⊥) → NoneAsked book meters to kind (at + 1)
asked_more book meters to kind at d inside before other k e within there asked =
    ⊎_elim (λ (less : k < at). before k e less there asked)
    (λ (more : at ≤ k).
    let same : k ≡ at = omega (arith, within, more) in
    let own : slice_index_or meters k e ≡ slice_index_or meters at d = ap (λ (n : ℕ). slice_index_or meters n e) same ∙ get_or_default meters at e d inside in
    other (sym (ap (λ (a : AskedMeter). a.at) own) ∙ there) (subst (λ (a : AskedMeter). IsAskedTo book a.meter kind) own asked))
    (cases_lt k at)

pub asked_all : (book : Contents) (meters : List AskedMeter) (to : SocketAddr) (kind : Kind) (at : ℕ) → length meters ≤ at → NoneAsked book meters to kind at
    → IsAskedAt book meters to kind → ⊥
asked_all book meters to kind at all before (meter, (one, (k, inside, is), (own, there)), asked) =
    before k one (omega (arith, all, inside)) (ap (λ (a : AskedMeter). a.at) is ∙ there)
    (subst (λ (m : ℕ). IsAskedTo book m kind) (sym (ap (λ (a : AskedMeter). a.meter) is ∙ own)) asked)

pub asked_here : (book : Contents) (meters : List AskedMeter) (to : SocketAddr) (kind : Kind) (at : ℕ) (d : AskedMeter) → at < length meters → (slice_index_or meters at d).at ≡ to
    → IsAskedTo book (slice_index_or meters at d).meter kind → IsAskedAt book meters to kind
asked_here book meters to kind at d inside there asked = (
  (slice_index_or meters at d).meter,
  (slice_index_or meters at d, (at, inside, get_or_default meters at (slice_index_or meters at d) d inside), (refl, there)),
  asked,
)
