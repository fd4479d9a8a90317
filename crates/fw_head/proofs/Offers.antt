-- What a book offers under the campaign of a row.
use Rattle.std.proofs.Common.{◌≡◌, ℕ, [], Option, Some, None, option_map, unwrap_or, Result, Ok, Err, IfErr, IsOk, sym, ap, subst, ◌∙◌, rules}
use Rattle.fw_names.specs.Name.{Campaign, Name, name_of}
use Rattle.fw_client.specs.Claim.{Claim}
use Rattle.fw_book.specs.declared.error.BookError.{BookError}
use Rattle.fw_book.specs.declared.error.BookError.TheVariants.{NoSuchCampaign, WrongCampaign, NotLive}
use Rattle.fw_book.specs.declared.row.RowState.{RowState}
use Rattle.fw_book.specs.declared.row.RowState.TheVariants.{Live}
use Rattle.fw_book.specs.Contents.{Contents, Offered, offered_in, image_in, name_in, state_in}
use Rattle.fw_book.specs.Changes.{DoneRefused}
use Rattle.fw_head.specs.declared.news.RowNews.{RowNews}
use Rattle.fw_head.specs.declared.news.RowNews.TheVariants as news
use Rattle.fw_head.specs.Row.{Row}
use Rattle.fw_head.specs.Private.{IsOwnNews}
use Rattle.fw_head.specs.Head.{IsRowOf}

some_or_none : (name : Name) → (let o : Option Name = None in o ≡ Some name) → ⊥
some_or_none name e = cc

pub unoffered : (book : Contents) (c campaign : Campaign) (name : Name) → c ≡ campaign → offered_in book c ≡ None → name_in book campaign ≡ Some name → ⊥
unoffered book c campaign name same absent named =
    let none : name_in book c ≡ None = ap (λ (o : Option Offered). option_map (λ (offer : Offered). name_of c offer.release offer.image) o) absent in
    some_or_none name (sym none ∙ ap (λ (x : Campaign). name_in book x) same ∙ named)

pub image_found : (book : Contents) (c campaign : Campaign) (offer : Offered) → c ≡ campaign → offered_in book c ≡ Some offer → offer.image ≡ unwrap_or (image_in book campaign) []
image_found book c campaign offer same found =
    let of_c : unwrap_or (image_in book c) [] ≡ offer.image = ap (λ (o : Option Offered). unwrap_or (option_map (λ (x : Offered). x.image) o) []) found in
    sym of_c ∙ ap (λ (x : Campaign). unwrap_or (image_in book x) []) same

live_or_none : (s : RowState) → (let o : Option RowState = Some s in o ≡ None) → ⊥
live_or_none s e = cc

not_refused : (book : Contents) (campaign : Campaign) (claim : Claim) (e : BookError) → state_in book campaign claim.meter ≡ Some Live → name_in book campaign ≡ Some claim.name → DoneRefused book campaign claim e → ⊥
not_refused book campaign claim NoSuchCampaign live named h = live_or_none Live (sym live ∙ h)
not_refused book campaign claim WrongCampaign live named h = h.1 named
not_refused book campaign claim NotLive live named h = h.1 live
not_refused book campaign claim _ live named h = absurd h

ok_unless : (r : Result (Unit {0}) BookError) (P : BookError → Type 0) → ((e : BookError) → P e → ⊥) → IfErr r P → IsOk r
ok_unless (Ok x) P never h = search rules
ok_unless (Err e) P never h = absurd (never e h)

-- a claim of the row's own meter under the row's own name is marked
pub is_marked : (book : Contents) (meter : ℕ) (row : Row) (campaign : Campaign) (told : RowNews) (claim : Claim) (r : Result (Unit {0}) BookError) → IsRowOf book meter row → campaign ≡ row.name.campaign → told ≡ news.Done claim → IsOwnNews row.client.meter row.name told → IfErr r (DoneRefused book campaign claim) → IsOk r
is_marked book meter row campaign told claim r is same done own refused =
    let P : RowNews → Type 0 = λ x. IsOwnNews row.client.meter row.name x in
    let facts : (claim.meter ≡ row.client.meter) × (claim.name ≡ row.name) = subst P done own in
    let live = ap (λ (x : Campaign). state_in book x claim.meter) same ∙ ap (λ m. state_in book row.name.campaign m) (facts.0 ∙ is.asks) ∙ is.live in
    let named = ap (λ (x : Campaign). name_in book x) same ∙ is.named ∙ ap (λ (n : Name). (let o : Option Name = Some n in o)) (sym facts.1) in
    ok_unless r (DoneRefused book campaign claim) (λ e h. not_refused book campaign claim e live named h) refused

-- and it is of that meter
pub claim_meter : (meter : ℕ) (row : Row) (told : RowNews) (claim : Claim) {book : Contents} → IsRowOf book meter row → told ≡ news.Done claim → IsOwnNews row.client.meter row.name told → claim.meter ≡ meter
claim_meter meter row told claim is done own =
    let P : RowNews → Type 0 = λ x. IsOwnNews row.client.meter row.name x in
    let facts : (claim.meter ≡ row.client.meter) × (claim.name ≡ row.name) = subst P done own in
    facts.0 ∙ is.asks
