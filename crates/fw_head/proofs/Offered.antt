-- What a live row sends is of an image that its book offers.
use Rattle.std.proofs.Common.{◌≡◌, ℕ, nat_eq, All, List, length, Option, Some, option_map, sym, ap, subst, ◌∙◌}
use Rattle.std.specs.Map.{lookup}
use Rattle.std.proofs.lemmas.List.Elements.{All-weaker}
use Rattle.fw_names.specs.Name.{Name, IsRelease, name_of}
use Rattle.fw_book.specs.Contents.{Contents, Offered, offered_in}
use Rattle.fw_head.specs.Row.{Row, IsPermitted}
use Rattle.fw_head.specs.Head.{Rows, IsRowOf, IsOfferedIn}
use Rattle.fw_head.proofs.LiveRows.{same_found}

-- of the row that is found
pub permitted_of : (key meter : ℕ) (image : List ℕ) (sent : List (List ℕ)) (rows : Rows) (a b : Row) → key ≡ meter → lookup (nat_eq key) rows ≡ Some a → lookup (nat_eq meter) rows ≡ Some b → (length image ≡ a.size → All (IsPermitted a.name image) sent) → length image ≡ b.size → All (IsPermitted b.name image) sent
permitted_of key meter image sent rows a b same first second may =
    let P : Row → Type 0 = λ r. length image ≡ r.size → All (IsPermitted r.name image) sent in
    subst P (same_found key meter rows a b same first second) may

some_size : (a b : ℕ) → (let o : Option ℕ = Some a in o ≡ Some b) → a ≡ b
some_size a b e = cc

some_name : (a b : Name) → (let o : Option Name = Some a in o ≡ Some b) → a ≡ b
some_name a b e = cc

-- the image that the book offers under a row's campaign has the row's size
sized : (book : Contents) (meter : ℕ) (row : Row) (offer : Offered) → IsRowOf book meter row → offered_in book row.name.campaign ≡ Some offer → length offer.image ≡ row.size
sized book meter row offer is offered =
    some_size (length offer.image) row.size (sym (ap (λ (o : Option Offered). option_map length (option_map (λ (x : Offered). x.image) o)) offered) ∙ is.sized)

-- and its name
named : (book : Contents) (meter : ℕ) (row : Row) (offer : Offered) → IsRowOf book meter row → offered_in book row.name.campaign ≡ Some offer → name_of row.name.campaign offer.release offer.image ≡ row.name
named book meter row offer is offered =
    some_name (name_of row.name.campaign offer.release offer.image) row.name
    (sym (ap (λ (o : Option Offered). option_map (λ (x : Offered). name_of row.name.campaign x.release x.image) o) offered) ∙ is.named)

offered_of : (book : Contents) (meter : ℕ) (row : Row) (offer : Offered) (sent : List (List ℕ)) → IsRowOf book meter row → offered_in book row.name.campaign ≡ Some offer → IsRelease row.name.campaign row.name.release
    → (length offer.image ≡ row.size → All (IsPermitted row.name offer.image) sent) → All (IsOfferedIn book) sent
offered_of book meter row offer sent is offered release may =
    let name = named book meter row offer is offered in
    All-weaker (IsPermitted row.name offer.image) (IsOfferedIn book)
    (λ datagram permitted. record {
      campaign = row.name.campaign;
      offer = offer;
      offered = offered;
      is_release = subst (λ (n : Name). IsRelease row.name.campaign n.release) (sym name) release;
      permitted = subst (λ (n : Name). IsPermitted n offer.image datagram) (sym name) permitted;
    })
    sent (may (sized book meter row offer is offered))

-- the same for a book, a name and an image that equal these
pub offered_by : (book other : Contents) (meter : ℕ) (row : Row) (name : Name) (offer : Offered) (image : List ℕ) (sent : List (List ℕ)) → book ≡ other → IsRowOf book meter row → name ≡ row.name
    → offered_in book name.campaign ≡ Some offer → IsRelease name.campaign name.release → image ≡ offer.image → (length image ≡ row.size → All (IsPermitted row.name image) sent) → All (IsOfferedIn other) sent
offered_by book other meter row name offer image sent same is of offered release bytes may =
    let P : Contents → Type 0 = λ b. All (IsOfferedIn b) sent in
    let Q : List ℕ → Type 0 = λ x. length x ≡ row.size → All (IsPermitted row.name x) sent in
    let R : Name → Type 0 = λ n. IsRelease n.campaign n.release in
    subst P same (offered_of book meter row offer sent is (ap (λ (n : Name). offered_in book n.campaign) (sym of) ∙ offered) (subst R of release) (subst Q bytes may))
