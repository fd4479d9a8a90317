-- The headline, of what the files tell.
use Rattle.std.proofs.Common.{◌≡◌, ◌≤◌, ℕ, zero, suc, List, [], ◌∷◌, Option, Some, map, slice_index_or, sym, ap, subst, ◌∙◌, arith}
use Rattle.std.specs.Prelude.{All, AllPairs, Contains}
use Rattle.std.specs.Option.{option_map}
use Rattle.std.proofs.lemmas.List.Elements.{All-contains, All-weaker, Contains-get_or}
use Rattle.fw_names.specs.Name.{Campaign, Name}
use Rattle.fw_image.specs.Meter.{Image}
use Rattle.fw_book.specs.Contents.{Contents, Offered, name_in, state_in}
use Rattle.fw_book.specs.declared.row.RowState.TheVariants.{Done}
use Rattle.fw_audit.specs.Laws.{RunsTheLast, last_of}
use Rattle.fw_audit.specs.Stands.{IsMeterLog}
use Rattle.fw_fleet_audit.specs.Laws.{HasActivated, HeadlineByLooking, IsInOrder, Told, audited_in, image_by}
use Rattle.fw_fleet_audit.specs.Rows.{AreBorneOut, Audited, HasSwitched}
use Rattle.fw_fleet_audit.specs.Switches.{AreOffered, IsOffered, NeverFalls}
use Rattle.fw_fleet_audit.proofs.Biting.{done_has_switched}
use Rattle.fw_fleet_audit.proofs.Lists.{in_map}

equal_bytes : (books : List Contents) (told : List Told) (meter : ℕ) (image : Image) → All (λ (t : Told). AreOffered books t.images) told → HasActivated told meter image
    → image_by books image.name.campaign ≡ Some image.bytes
equal_bytes books told meter image all (t, there, own, log, inside) =
    let offered = All-contains (IsOffered books) t.images image (All-contains (λ (t : Told). AreOffered books t.images) told t all there).offered inside in
    ap (λ (o : Option Offered). option_map (λ (offer : Offered). offer.image) o) offered.offers ∙ ap (λ (l : List ℕ). Some l) (sym offered.equal)

-- a switch to the image that a campaign offers, by the log of a meter
abbrev Activated : List Told → Contents → Campaign → ℕ → Type 0
Activated told book campaign meter = (image : Image) × HasActivated told meter image × (name_in book campaign ≡ Some image.name)

module _ (books : List Contents) (told : List Told) (order : IsInOrder books told) (book : Contents) (campaign : Campaign) (meter : ℕ) where
  by_image : (name : Name) → name_in book campaign ≡ Some name → (t : Told) → Contains told t → t.meter ≡ meter
      → (image : Image) × Contains t.images image × (image.name ≡ name) → Activated told book campaign meter
  by_image name named t there own (image, inside, same) =
      let log = All-contains (λ (t : Told). IsMeterLog t.heads t.begin t.log t.images t.end) told t order.logs there in
      (image, (t, there, own, log, inside), named ∙ ap (λ (n : Name). Some n) (sym same))

  by_told : (name : Name) → name_in book campaign ≡ Some name → (a : Audited) → a.meter ≡ meter → Contains a.names name
      → (t : Told) × Contains told t × (audited_in t ≡ a) → Activated told book campaign meter
  by_told name named a own has (t, there, is) =
      by_image name named t there (ap (λ (x : Audited). x.meter) is ∙ own)
      (in_map (λ (i : Image). i.name) t.images name (subst (λ (x : Audited). Contains x.names name) (sym is) has))

  by_name : (name : Name) × (name_in book campaign ≡ Some name) × HasSwitched (map audited_in told) meter name → Activated told book campaign meter
  by_name (name, named, (a, inside, (own, has))) = by_told name named a own has (in_map audited_in told a inside)

  done_activated : Contains books book → state_in book campaign meter ≡ Some Done → Activated told book campaign meter
  done_activated there done =
      let are = All-contains (λ (b : Contents). AreBorneOut b (map audited_in told)) books book order.rows there in
      by_name (done_has_switched book (map audited_in told) campaign meter are done)

-- ---- releases

pairs_tail : (x : Image) (xs : List Image) → AllPairs NeverFalls (x ∷ xs) → AllPairs NeverFalls xs
pairs_tail x xs h i j d order inside = h (suc i) (suc j) d (omega arith) (omega arith)

below_last : (x : Image) (xs : List Image) → AllPairs NeverFalls (x ∷ xs) → x.name.release ≤ (last_of x xs).name.release
below_last x [] h = omega arith
below_last x (y ∷ ys) h =
    let first : x.name.release ≤ y.name.release = h zero (suc zero) x (omega arith) (omega arith) in
    let rest : y.name.release ≤ (last_of y ys).name.release = below_last y ys (pairs_tail x (y ∷ ys) h) in
    omega arith

each_below : (first : Image) (images : List Image) (image : Image) → AllPairs NeverFalls images → Contains images image → image.name.release ≤ (last_of first images).name.release
each_below first [] image h (k, inside, is) = absurd (omega arith)
each_below first (x ∷ xs) image h (zero, inside, is) = subst (λ (i : Image). i.name.release ≤ (last_of x xs).name.release) is (below_last x xs h)
each_below first (x ∷ xs) image h (suc k, inside, is) = each_below x xs image (pairs_tail x xs h) (k, omega arith, is)

runs_above : RunsTheLast → (books : List Contents) (t : Told) → IsMeterLog t.heads t.begin t.log t.images t.end → AreOffered books t.images
    → All (λ (image : Image). NeverFalls image t.end.running) t.images
runs_above law books t log are k d inside =
    let image : Image = slice_index_or t.images k d in
    subst (λ (i : Image). image.name.release ≤ i.name.release) (sym (law t.heads t.begin t.log t.images t.end log))
    (each_below t.begin.running t.images image are.risen (Contains-get_or t.images k d inside))

pub headline_by_looking : RunsTheLast → HeadlineByLooking
headline_by_looking law books told order = record {
  equal = λ meter image h. equal_bytes books told meter image order.switches h;
  done = λ book campaign meter there done. done_activated books told order book campaign meter there done;
  risen = All-weaker (λ (t : Told). AreOffered books t.images) (λ (t : Told). AllPairs NeverFalls t.images) (λ t are. are.risen) told order.switches;
  running = λ k d inside. runs_above law books (slice_index_or told k d) (order.logs k d inside) (order.switches k d inside);
}
