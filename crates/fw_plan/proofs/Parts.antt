-- Parts of an opening, with one more.
use Rattle.std.proofs.Common.{◌≡◌, ℕ, ◌+◌, ◌≤◌, ◌<◌, List, [], ◌∷◌, ◌++◌, map, length, All, sym, ap, ◌∙◌, subst, arith, append_assoc}
use Rattle.std.proofs.lemmas.List.{flat_map_more, map-append}
use Rattle.std.proofs.lemmas.List.Elements.{All-push}
use Rattle.std.specs.List.{flat_map}
use Rattle.fw_book.specs.Contents.{Contents}
use Rattle.fw_plan.specs.declared.part.Part.{Part}
use Rattle.fw_plan.specs.Openings.{AreNextFree, HasMeters, IsNextFree, behind}
use Rattle.fw_plan.proofs.Numbers.{are_free_more, behind_more}

abbrev pub serials_of : List Part → List ℕ
serials_of parts = map (λ (p : Part). p.serial) parts

-- the serial numbers with that of one part more
serials_push : (parts new : List Part) (part : Part) → new ≡ parts ++ part ∷ [] → serials_of new ≡ serials_of parts ++ part.serial ∷ []
serials_push parts new part e = ap serials_of e ∙ map-append (λ (p : Part). p.serial) parts (part ∷ [])

-- they stay the next free ones, if the new one is the next behind them
pub serials_more : (book : Contents) (serial : ℕ) (parts new : List Part) (part : Part) → new ≡ parts ++ part ∷ [] → AreNextFree book serial (serials_of parts)
    → IsNextFree book (behind serial (serials_of parts)) part.serial → AreNextFree book serial (serials_of new)
serials_more book serial parts new part e are is =
    subst (λ (l : List ℕ). AreNextFree book serial l) (sym (serials_push parts new part e)) (are_free_more book serial part.serial (serials_of parts) are is)

-- the number behind them is that behind the new one
pub behind_parts : (serial : ℕ) (parts new : List Part) (part : Part) → new ≡ parts ++ part ∷ [] → behind serial (serials_of new) ≡ part.serial + 1
behind_parts serial parts new part e = ap (behind serial) (serials_push parts new part e) ∙ behind_more serial part.serial (serials_of parts)

-- the meters of the parts and those that are left stay the same when the next go into a part
pub joined_more : (parts new : List Part) (part : Part) (left chunk rest meters : List ℕ) → new ≡ parts ++ part ∷ []
    → part.meters.items ≡ chunk → left ≡ chunk ++ rest
    → flat_map (λ (p : Part). p.meters.items) parts ++ left ≡ meters
    → flat_map (λ (p : Part). p.meters.items) new ++ rest ≡ meters
joined_more parts new part left chunk rest meters e m l j =
    ap (λ ps. flat_map (λ (p : Part). p.meters.items) ps ++ rest) e
    ∙ ap (λ xs. xs ++ rest) (sym (flat_map_more (λ (p : Part). p.meters.items) [] parts part))
    ∙ append_assoc (flat_map (λ (p : Part). p.meters.items) parts) part.meters.items rest
    ∙ ap (λ xs. flat_map (λ (p : Part). p.meters.items) parts ++ xs) (ap (λ xs. xs ++ rest) m ∙ sym l)
    ∙ j

-- the part has the meters of a chunk
pub sizes_more : (parts new : List Part) (part : Part) (chunk : List ℕ) → new ≡ parts ++ part ∷ []
    → part.meters.items ≡ chunk → 1 ≤ length chunk → length chunk ≤ 256 → All HasMeters parts → All HasMeters new
sizes_more parts new part chunk e m low high sizes =
    let size : length part.meters.items ≡ length chunk = ap length m in
    let has : HasMeters part = (omega arith, omega arith) in
    rw e (All-push HasMeters parts part sizes has)
