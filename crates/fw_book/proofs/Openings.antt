-- What an opening that nothing refuses has.
use Rattle.std.proofs.Common.{◌≡◌, ℕ, ◌≤◌, ◌<◌, ◌^◌, Bool, true, false, eqb, ltb, not, ◌||◌, List, [], ◌∷◌, map, length, Some, None, refl, sym, ap, ◌∙◌, ⊎_elim, arith}
use Rattle.std.specs.List.{list_any, AllByRecursion}
use Rattle.std.proofs.lemmas.Bool.{cases_Bool, cond-true, cond-false}
use Rattle.std.proofs.lemmas.Bool.Decides.{Decides-eqb, nat_tests}
use Rattle.std.proofs.lemmas.List.{length-map}
use Rattle.fw_blocks.specs.Cuts.{max_image}
use Rattle.fw_wrapper.specs.Refusals.{first_applying}
use Rattle.fw_names.specs.Name.{Campaign, IsOpened}
use Rattle.fw_book.specs.declared.error.BookError.{BookError}
use Rattle.fw_book.specs.Rows.{live_row, meters_of, repeats}
use Rattle.fw_book.specs.Contents.{Offered, Contents, max_meters, is_busy}
use Rattle.fw_book.specs.Changes.{opening_rows, opening_refusal, Opens}
use Rattle.fw_book.specs.Private.{clashes, Admits}
use Rattle.fw_book.specs.Laws.{AdmittedOpens}

-- ---- refusals

some_none : (refusal : BookError) → Some refusal ≡ None → ⊥
some_none refusal h = cc

-- if nothing refuses, no test is true
tests_none : (rows : List (Bool × BookError)) → first_applying rows ≡ None → AllByRecursion (λ (row : Bool × BookError). row.0 ≡ false) rows
tests_none [] h = tt
tests_none (row ∷ rows) h =
    ⊎_elim
    (λ here. absurd (some_none row.1 (sym (cond-true row.0 (Some row.1) (first_applying rows) here) ∙ h)))
    (λ other. (other, tests_none rows (sym (cond-false row.0 (Some row.1) (first_applying rows) other) ∙ h)))
    (cases_Bool row.0)

-- and where no test is true, nothing refuses
none_applies : (rows : List (Bool × BookError)) → AllByRecursion (λ (row : Bool × BookError). row.0 ≡ false) rows → first_applying rows ≡ None
none_applies [] h = refl
none_applies (row ∷ rows) h = cond-false row.0 (Some row.1) (first_applying rows) h.0 ∙ none_applies rows h.1

is_true : (b : Bool) → not b ≡ false → b ≡ true
is_true true h = refl
is_true false h = cc

opens : (book : Contents) (campaign : Campaign) (image meters : List ℕ) → opening_refusal book campaign image meters ≡ None → Opens book campaign image meters
opens book campaign image meters none =
    let tests = tests_none (opening_rows book campaign image meters) none in
    let some_image : eqb (length image) 0 ≡ false = tests.1.1.0 in
    let short_image : ltb max_image (length image) ≡ false = tests.1.1.1.0 in
    let some_meters : eqb (length meters) 0 ≡ false = tests.1.1.1.1.0 in
    let few_meters : ltb max_meters (length meters) ≡ false = tests.1.1.1.1.1.0 in
    record {
      own = (Decides-eqb campaign.head book.head).0 (is_true (eqb campaign.head book.head) tests.0);
      serial_new = tests.1.0;
      image_begins = grind (arith, nat_tests);
      image_ends = grind (arith, nat_tests);
      meters_begin = grind (arith, nat_tests);
      meters_end = grind (arith, nat_tests);
      meters_once = tests.1.1.1.1.1.1.0;
      meters_free = tests.1.1.1.1.1.1.1.0;
    }

some_length : (n : ℕ) → 1 ≤ n → eqb n 0 ≡ false
some_length n h = grind (arith, nat_tests)

within : (most n : ℕ) → n ≤ most → ltb most n ≡ false
within most n h = grind (arith, nat_tests)

unrefused : (book : Contents) (campaign : Campaign) (image meters : List ℕ) → Opens book campaign image meters → opening_refusal book campaign image meters ≡ None
unrefused book campaign image meters h =
    none_applies (opening_rows book campaign image meters) (
      ap not ((Decides-eqb campaign.head book.head).1 h.own),
      (
        h.serial_new,
        (
          some_length (length image) h.image_begins,
          (
            within max_image (length image) h.image_ends,
            (
              some_length (length meters) h.meters_begin,
              (
                within max_meters (length meters) h.meters_end,
                (h.meters_once, (h.meters_free, tt)),
              ),
            ),
          ),
        ),
      ),
    )

pub admitted_opens : AdmittedOpens
admitted_opens book campaign image meters = (opens book campaign image meters, unrefused book campaign image meters)

-- ---- the rows of a new campaign

meters_of-live : (meters : List ℕ) → meters_of (map live_row meters) ≡ meters
meters_of-live [] = refl
meters_of-live (meter ∷ meters) = ap (λ ms. meter ∷ ms) (meters_of-live meters)

clashes-live : (campaigns : List (ℕ × Offered)) (meters : List ℕ) → clashes campaigns (map live_row meters) ≡ list_any (λ meter. is_busy campaigns meter) meters
clashes-live campaigns [] = refl
clashes-live campaigns (meter ∷ meters) = ap (λ b. is_busy campaigns meter || b) (clashes-live campaigns meters)

-- a book takes a campaign whose opening nothing refuses
pub opening_admits : (book : Contents) (campaign : Campaign) (release : ℕ) (image meters : List ℕ) → IsOpened campaign → release < 2 ^ 32 → AllByRecursion (λ meter. meter < 2 ^ 32) (meters_of (map live_row meters)) → opening_refusal book campaign image meters ≡ None → Admits book campaign.serial (record { release = release; image = image; rows = map live_row meters })
opening_admits book campaign release image meters opened small fit none =
    let h = opens book campaign image meters none in
    let many : length (map live_row meters) ≡ length meters = length-map meters live_row in
    record {
      is_entry = record {
        serial_begins = opened.serial_begins;
        serial_fits = opened.serial_fits;
        release_fits = small;
        image_begins = h.image_begins;
        image_ends = h.image_ends;
        meters_begin = omega (arith, h.meters_begin);
        meters_end = omega (arith, h.meters_end);
        meters_fit = fit;
        meters_once = ap repeats (meters_of-live meters) ∙ h.meters_once;
      };
      serial_new = h.serial_new;
      meters_free = clashes-live book.campaigns meters ∙ h.meters_free;
    }
