use Rattle.std.proofs.Common.{◌≡◌, ℕ, ◌-◌, ◌||◌, ◌++◌, ◌∷◌, true, eqb, List, [], length, refl, sym, ap, ◌∙◌}
use Rattle.std.proofs.lemmas.Bool.{false≢true, or_left, or_right}
use Rattle.fw_book.specs.Contents.{Offered, Contents, has_serial}
use Rattle.fw_book.specs.Format.{entries_bytes}
use Rattle.fw_book.specs.Private.{clashes, AreEntries, entry_in}
use Rattle.fw_book.proofs.Books.{IsBook-added}
use Rattle.fw_book.proofs.Parts.{no_entry, no_room, campaigns_refused, entries_push, tells_push}
use Rattle.fw_book.proofs.Spellings.{entries_told}
use Rattle.fw_book.proofs.Walks.{cut_before}
use Rattle.fw_book.proofs.search.are_campaigns.Goals.{then-has_serial-via-then-has_serial, then-has_serial-via-else-has_serial+then-clashes}
use Rattle.fw_book.proofs.search.are_campaigns.Goals as goal

pub loop-rest-init : goal.loop-rest-init
loop-rest-init c = record {
  campaigns = [];
  is_book = record { head_begins = c.requires.begins; head_fits = c.requires.fits; entries = tt; apart = tt };
  tells = tt;
  before = refl;
}

pub returns-in_default : goal.returns-in_default
returns-in_default c =
    let i = c.loop-rest.invariant in
    let book : Contents = record { head = c.args.head; campaigns = i.campaigns } in
    let some : c.loop-rest.rest.now ≡ [] → ⊥ = λ none. false≢true (sym c.loop-rest-test.true ∙ c.is_empty.ensures ∙ ap (λ (l : List ℕ). eqb (length l) 0) none) in
    campaigns_refused c.args.version c.args.entries.now c.loop-rest.rest.now book i.is_book i.tells i.before some (no_entry c.args.version book c.loop-rest.rest.now c.in_default.ensures.none)

pub returns-then-has_serial : goal.returns-then-has_serial
returns-then-has_serial c =
    let i = c.loop-rest.invariant in
    let book : Contents = record { head = c.args.head; campaigns = i.campaigns } in
    let entry : ℕ × Offered = entry_in c.in-Some.entry.serial c.in-Some.entry.release c.in-Some.entry.image.now c.in-Some.entry.rows.now in
    let cut = cut_before c.args.entries.now (entries_bytes c.args.version i.campaigns) c.loop-rest.rest.now (length c.args.entries.now - length c.loop-rest.rest.now) i.before refl in
    let are : AreEntries c.args.version c.split_at.result.0.now i.campaigns = record { spelled = c.split_at.ensures.front ∙ cut.0; fit = entries_told c.args.version i.campaigns i.is_book.entries i.tells } in
    let some : c.loop-rest.rest.now ≡ [] → ⊥ = λ none. false≢true (sym c.loop-rest-test.true ∙ c.is_empty.ensures ∙ ap (λ (l : List ℕ). eqb (length l) 0) none) in
    let taken : (has_serial book entry.0 || clashes i.campaigns entry.1.rows) ≡ true =
    elim c.then-has_serial.branch [
      | then-has_serial-via-then-has_serial w ↦ or_left _ _ (sym (c.has_serial.ensures i.campaigns are) ∙ w.if-has_serial.true)
      | then-has_serial-via-else-has_serial+then-clashes w ↦ or_right _ _ (sym (w.clashes.ensures i.campaigns are) ∙ w.if-clashes.true)
    ] in
    campaigns_refused c.args.version c.args.entries.now c.loop-rest.rest.now book i.is_book i.tells i.before some
    (no_room c.args.version book c.loop-rest.rest.now c.in-Some.after.now entry.0 entry.1 c.in-Some.ensures.found c.in-Some.ensures.fits taken)

pub loop-rest-preserved : goal.loop-rest-preserved
loop-rest-preserved c =
    let i = c.loop-rest.invariant in
    let book : Contents = record { head = c.args.head; campaigns = i.campaigns } in
    let entry : ℕ × Offered = entry_in c.in-Some.entry.serial c.in-Some.entry.release c.in-Some.entry.image.now c.in-Some.entry.rows.now in
    let cut = cut_before c.args.entries.now (entries_bytes c.args.version i.campaigns) c.loop-rest.rest.now (length c.args.entries.now - length c.loop-rest.rest.now) i.before refl in
    let are : AreEntries c.args.version c.split_at.result.0.now i.campaigns = record { spelled = c.split_at.ensures.front ∙ cut.0; fit = entries_told c.args.version i.campaigns i.is_book.entries i.tells } in
    record {
      campaigns = i.campaigns ++ entry ∷ [];
      is_book = IsBook-added book entry.0 entry.1 i.is_book (record {
        is_entry = c.in-Some.ensures.fits.is_entry;
        serial_new = sym (c.has_serial.ensures i.campaigns are) ∙ c.if-has_serial.false;
        meters_free = sym (c.clashes.ensures i.campaigns are) ∙ c.if-clashes.false;
      });
      tells = tells_push c.args.version i.campaigns entry i.tells c.in-Some.ensures.fits;
      before = entries_push c.args.version c.args.entries.now c.loop-rest.rest.now c.in-Some.after.now i.campaigns entry i.before c.in-Some.ensures.found;
    }
