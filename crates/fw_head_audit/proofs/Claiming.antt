-- What came to a head end of names, item after item.
use Rattle.std.proofs.Common.{◌≡◌, ◌↔◌, ◌⊎◌, ◌++◌, ◌+◌, ◌<◌, ℕ, List, [], ◌∷◌, length, slice_index_or, take, Option, Some, None, inl, inr, refl, sym, ap, subst, ◌∙◌, ⊎_elim}
use Rattle.std.specs.Prelude.{Contains}
use Rattle.std.specs.declared.net.socket_addr.SocketAddr.{SocketAddr}
use Rattle.std.proofs.lemmas.List.Elements.{Contains-append_left, Contains-push, Contains-push_cases}
use Rattle.fw_names.specs.Name.{Name, SpellsName}
use Rattle.fw_wrapper.specs.Laws.{OneFrame}
use Rattle.fw_apdu.specs.Laws.{OneResponse}
use Rattle.fw_apdu.specs.Response.{ResponseContent, SpellsResponse}
use Rattle.fw_axdr.specs.Value.{octet_string}
use Rattle.fw_apdu.specs.Response as response
use Rattle.fw_client.specs.Hearing.{CarriesResponse}
use Rattle.fw_audit.specs.Log.{Item, came, item_of, log_of}
use Rattle.fw_audit.specs.declared.item.LogItem.{LogItem}
use Rattle.fw_fleet_audit.specs.Rows.{Audited, HasSwitched, audited_of}
use Rattle.fw_head_audit.specs.Heads.{Claims, HasClaimed, IsAsked}
use Rattle.fw_head_audit.specs.Private.{AreClaimants, AreClaims, AreNamesAt, Finds, HasClaim, HaveNames, IsClaim, IsClaimIn, IsName, IsNamedIn, NotesClaim}
use Rattle.fw_head_audit.specs.declared.claims.Claim.{Claim}
use Rattle.fw_head_audit.specs.declared.meter.AskedMeter.{AskedMeter}
use Rattle.fw_head_audit.proofs.Lists.{log_more_at, none_in}

-- ---- one datagram

one_carried : OneFrame → OneResponse → (datagram : List ℕ) (i j : ℕ) (a b : ResponseContent) → CarriesResponse datagram i a → CarriesResponse datagram j b → a ≡ b
one_carried frame law datagram i j a b x y =
    let apdu : x.apdu ≡ y.apdu = (frame datagram x.apdu y.apdu 1 1 1 1 x.wraps y.wraps).2 in
    (law y.apdu i j a b (subst (λ (s : List ℕ). SpellsResponse s i a) apdu x.spells) y.spells).1

name_claims : (datagram : List ℕ) (invoke : ℕ) (content : ResponseContent) (name : Name) → CarriesResponse datagram invoke content → IsNamedIn content name → Claims datagram name
name_claims datagram invoke (response.get_response (response.value (octet_string bytes))) name carries is = record { invoke = invoke; bytes = bytes; carries = carries; spells = is }
name_claims datagram invoke content name carries is = absurd is

claims_name : OneFrame → OneResponse → (datagram : List ℕ) (invoke : ℕ) (content : ResponseContent) (name : Name) → CarriesResponse datagram invoke content → Claims datagram name
    → IsNamedIn content name
claims_name frame law datagram invoke content name carries c =
    subst (λ (r : ResponseContent). IsNamedIn r name)
    (one_carried frame law datagram c.invoke invoke (response.get_response (response.value (octet_string c.bytes))) content c.carries carries) c.spells

pub finds_claim : OneFrame → OneResponse → (datagram : List ℕ) (invoke : ℕ) (content : ResponseContent) (found : Option Name) → CarriesResponse datagram invoke content
    → Finds (IsNamedIn content) found → Finds (Claims datagram) found
finds_claim frame law datagram invoke content (Some name) carries is = name_claims datagram invoke content name carries is
finds_claim frame law datagram invoke content None carries none = λ name c. none name (claims_name frame law datagram invoke content name carries c)

pub no_claim : (datagram : List ℕ) → ((invoke : ℕ) (content : ResponseContent) → CarriesResponse datagram invoke content → ⊥) → (name : Name) → Claims datagram name → ⊥
no_claim datagram none name c = none c.invoke (response.get_response (response.value (octet_string c.bytes))) c.carries

-- ---- the claims of a log

no_more : (item : Item) (old new : List Claim) → new ≡ old → ((from : SocketAddr) (name : Name) → IsClaim item from name → ⊥) → NotesClaim old item new
no_more item old new same none from name = (
  λ (h : HasClaim new from name). inl (subst (λ (l : List Claim). HasClaim l from name) same h),
  λ (h : HasClaim old from name ⊎ IsClaim item from name). ⊎_elim (λ (early : HasClaim old from name). subst (λ (l : List Claim). HasClaim l from name) (sym same) early)
      (λ (late : IsClaim item from name). absurd (none from name late)) h,
)

pub notes_nothing : (item : Item) (old new : List Claim) → new ≡ old → ((from : SocketAddr) (datagram : List ℕ) → item ≡ came from datagram → ⊥) → NotesClaim old item new
notes_nothing item old new same other = no_more item old new same (λ from name c. other from c.0 c.1)

same_from : (f from : SocketAddr) (d datagram : List ℕ) → came f d ≡ came from datagram → f ≡ from
same_from f from d datagram e = cc

same_datagram : (f from : SocketAddr) (d datagram : List ℕ) → came f d ≡ came from datagram → d ≡ datagram
same_datagram f from d datagram e = cc

pub notes_none : (from : SocketAddr) (datagram : List ℕ) (old new : List Claim) → new ≡ old → ((name : Name) → Claims datagram name → ⊥) → NotesClaim old (came from datagram) new
notes_none from datagram old new same none =
    no_more (came from datagram) old new same (λ f name c. none name (subst (λ (d : List ℕ). Claims d name) (sym (same_datagram from f datagram c.0 c.1)) c.2))

one_name : OneFrame → OneResponse → ((bytes : List ℕ) (a b : Name) → SpellsName bytes a → SpellsName bytes b → a ≡ b) → (datagram : List ℕ) (a b : Name) → Claims datagram a → Claims datagram b
    → a ≡ b
one_name frame law names datagram a b x y = names y.bytes a b (claims_name frame law datagram y.invoke (response.get_response (response.value (octet_string y.bytes))) a y.carries x) y.spells

pub notes_one : OneFrame → OneResponse → ((bytes : List ℕ) (a b : Name) → SpellsName bytes a → SpellsName bytes b → a ≡ b) → (from : SocketAddr) (datagram : List ℕ) (claim : Claim) (old new : List Claim)
    → claim.from ≡ from → new ≡ old ++ claim ∷ [] → Claims datagram claim.name → NotesClaim old (came from datagram) new
notes_one frame law names from datagram claim old new own more claims f name = (
  λ (h : HasClaim new f name). ⊎_elim (λ (early : Contains old h.0). inl (h.0, early, h.2))
      (λ (last : claim ≡ h.0). inr (
        datagram,
        ap (λ (a : SocketAddr). came a datagram) (sym own ∙ ap (λ (c : Claim). c.from) last ∙ h.2.0),
        subst (Claims datagram) (ap (λ (c : Claim). c.name) last ∙ h.2.1) claims,
      ))
      (Contains-push_cases old claim h.0 (subst (λ (l : List Claim). Contains l h.0) more h.1)),
  λ (h : HasClaim old f name ⊎ IsClaim (came from datagram) f name). subst (λ (l : List Claim). HasClaim l f name) (sym more) (⊎_elim
      (λ (early : HasClaim old f name). (early.0, Contains-append_left old (claim ∷ []) early.0 early.1, early.2))
      (λ (late : IsClaim (came from datagram) f name).
      let same : datagram ≡ late.0 = same_datagram from f datagram late.0 late.1 in
      let named : claim.name ≡ name = one_name frame law names datagram claim.name name claims (subst (λ (d : List ℕ). Claims d name) (sym same) late.2) in
      (claim, Contains-push old claim, (own ∙ same_from from f datagram late.0 late.1, named))) h),
)

pub claims_none : AreClaims [] []
claims_none from name = (λ (h : HasClaim [] from name). absurd (none_in h.0 h.1), λ (h : IsClaimIn [] from name). absurd (none_in (came from h.0) h.1))

pub claims_more : (front : List Item) (item : Item) (old new : List Claim) → AreClaims front old → NotesClaim old item new → AreClaims (front ++ item ∷ []) new
claims_more front item old new are notes from name = (
  λ (h : HasClaim new from name). ⊎_elim
      (λ (early : HasClaim old from name). (let c = (are from name).0 early in (c.0, Contains-append_left front (item ∷ []) (came from c.0) c.1, c.2)))
      (λ (late : IsClaim item from name). (late.0, subst (λ (i : Item). Contains (front ++ item ∷ []) i) late.1 (Contains-push front item), late.2)) ((notes from name).0 h),
  λ (h : IsClaimIn (front ++ item ∷ []) from name). (notes from name).1 (⊎_elim (λ (early : Contains front (came from h.0)). inl ((are from name).1 (h.0, early, h.2)))
      (λ (last : item ≡ came from h.0). inr (h.0, last, h.2)) (Contains-push_cases front item (came from h.0) h.1)),
)

pub claims_at : (items : List LogItem) (at : ℕ) (d : LogItem) (old new : List Claim) → at < length items → AreClaims (take at (log_of items)) old
    → NotesClaim old (item_of (slice_index_or items at d)) new → AreClaims (take (at + 1) (log_of items)) new
claims_at items at d old new inside are notes =
    subst (λ (l : List Item). AreClaims l new) (sym (log_more_at items at d inside)) (claims_more (take at (log_of items)) (item_of (slice_index_or items at d)) old new are notes)

-- ---- the names from an address

pub names_none : (from : SocketAddr) → AreNamesAt [] from []
names_none from name = (λ (h : Contains [] name). absurd (none_in name h), λ (h : HasClaim [] from name). absurd (none_in h.0 h.1))

pub names_more : (front : List Claim) (claim : Claim) (from : SocketAddr) (names : List Name) → AreNamesAt front from names → claim.from ≡ from
    → AreNamesAt (front ++ claim ∷ []) from (names ++ claim.name ∷ [])
names_more front claim from names are own name = (
  λ (h : Contains (names ++ claim.name ∷ []) name). ⊎_elim
      (λ (early : Contains names name). (let c = (are name).0 early in (c.0, Contains-append_left front (claim ∷ []) c.0 c.1, c.2)))
      (λ (last : claim.name ≡ name). (claim, Contains-push front claim, (own, last))) (Contains-push_cases names claim.name name h),
  λ (h : HasClaim (front ++ claim ∷ []) from name). ⊎_elim
      (λ (early : Contains front h.0). Contains-append_left names (claim.name ∷ []) name ((are name).1 (h.0, early, h.2)))
      (λ (last : claim ≡ h.0). subst (λ (n : Name). Contains (names ++ claim.name ∷ []) n) (ap (λ (c : Claim). c.name) last ∙ h.2.1) (Contains-push names claim.name))
      (Contains-push_cases front claim h.0 h.1),
)

pub names_kept : (front : List Claim) (claim : Claim) (from : SocketAddr) (names : List Name) → AreNamesAt front from names → (claim.from ≡ from → ⊥)
    → AreNamesAt (front ++ claim ∷ []) from names
names_kept front claim from names are other name = (
  λ (h : Contains names name). (let c = (are name).0 h in (c.0, Contains-append_left front (claim ∷ []) c.0 c.1, c.2)),
  λ (h : HasClaim (front ++ claim ∷ []) from name). ⊎_elim (λ (early : Contains front h.0). (are name).1 (h.0, early, h.2))
      (λ (last : claim ≡ h.0). absurd (other (ap (λ (c : Claim). c.from) last ∙ h.2.0))) (Contains-push_cases front claim h.0 h.1),
)

-- ---- the meters

pub have_none : (claims : List Claim) → HaveNames [] claims []
have_none claims meter name = (
  λ (h : HasSwitched [] meter name). absurd (none_in h.0 h.1),
  λ (h : (at : SocketAddr) × IsAsked [] meter at × HasClaim claims at name). absurd (none_in h.1.0 h.1.1),
)

pub have_more : (front : List AskedMeter) (asked : AskedMeter) (claims : List Claim) (names : List Name) (all : List Audited) → HaveNames front claims all → AreNamesAt claims asked.at names
    → HaveNames (front ++ asked ∷ []) claims (all ++ audited_of asked.meter names ∷ [])
have_more front asked claims names all have are meter name = (
  λ (h : HasSwitched (all ++ audited_of asked.meter names ∷ []) meter name). ⊎_elim
      (λ (early : Contains all h.0). (let c = (have meter name).0 (h.0, early, h.2) in (c.0, (c.1.0, Contains-append_left front (asked ∷ []) c.1.0 c.1.1, c.1.2), c.2)))
      (λ (last : audited_of asked.meter names ≡ h.0). (
        asked.at,
        (asked, Contains-push front asked, (ap (λ (a : Audited). a.meter) last ∙ h.2.0, refl)),
        (are name).0 (subst (λ (l : List Name). Contains l name) (sym (ap (λ (a : Audited). a.names) last)) h.2.1),
      ))
      (Contains-push_cases all (audited_of asked.meter names) h.0 h.1),
  λ (h : (at : SocketAddr) × IsAsked (front ++ asked ∷ []) meter at × HasClaim claims at name). ⊎_elim
      (λ (early : Contains front h.1.0).
      (let s = (have meter name).1 (h.0, (h.1.0, early, h.1.2), h.2) in (s.0, Contains-append_left all (audited_of asked.meter names ∷ []) s.0 s.1, s.2)))
      (λ (last : asked ≡ h.1.0). (
        audited_of asked.meter names,
        Contains-push all (audited_of asked.meter names),
        (
          ap (λ (a : AskedMeter). a.meter) last ∙ h.1.2.0,
          (are name).1 (subst (λ (at : SocketAddr). HasClaim claims at name) (sym (ap (λ (a : AskedMeter). a.at) last ∙ h.1.2.1)) h.2),
        ),
      ))
      (Contains-push_cases front asked h.1.0 h.1.1),
)

pub are_claimants : (meters : List AskedMeter) (log : List Item) (claims : List Claim) (all : List Audited) → AreClaims log claims → HaveNames meters claims all → AreClaimants meters log all
are_claimants meters log claims all are have meter name = (
  λ (h : HasSwitched all meter name). (let c = (have meter name).0 h in (c.0, c.1, (are c.0 name).0 c.2)),
  λ (h : HasClaimed meters log meter name). (have meter name).1 (h.0, h.1, (are h.0 name).1 h.2),
)
