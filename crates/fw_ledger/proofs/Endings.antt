-- That a row after the other is marked by its number.
use Rattle.std.proofs.Common.{◌≡◌, inl, inr, ⊎_elim, ℕ, ◌+◌, ◌-◌, Bool, true, false, eqb, nat_eq, nat_lt, IsTrue, MatchBool, List, [], ◌∷◌, ◌++◌, length, slice_get, Option, Some, None, option_map, Result, Ok, Err, OnErr, arith, refl, sym, ap, subst, ◌∙◌, append_assoc, length-append}
use Rattle.std.specs.Option.{option_and_then}
use Rattle.std.specs.List.{list_all, list_any}
use Rattle.std.specs.Map.{lookup}
use Rattle.std.proofs.lemmas.Bool.{false≢true, cases_Bool, cond-true, cond-false}
use Rattle.std.proofs.lemmas.List.{length-map}
use Rattle.fw_names.specs.Name.{Campaign}
use Rattle.fw_book.specs.declared.row.Row.{Row}
use Rattle.fw_book.specs.Rows.{is_live, meters_of, with_state}
use Rattle.fw_book.specs.Contents.{Offered, Contents, offered_in}
use Rattle.fw_book.specs.Changes.{at_serial}
use Rattle.fw_book.proofs.Books.{Keeps-with_state}
use Rattle.fw_ledger.specs.declared.record.Ending.{Ending}
use Rattle.fw_ledger.specs.declared.record.Ending.TheVariants as ending
use Rattle.fw_ledger.specs.Entry.{AreEndings}
use Rattle.fw_ledger.specs.Replay.{state_of, MakesNumbered, MakesEach, MakesEnded}
use Rattle.fw_ledger.proofs.Books.{numbered_unique, same_offer}

-- whether numbers are those of endings, by two tests
pub both_judged : (numbers : List ℕ) (fit some : Bool) → fit ≡ list_all (λ number. nat_lt number 3) numbers → some ≡ list_any (λ number. nat_lt 0 number) numbers → IsTrue fit → MatchBool some (AreEndings numbers) (¬ AreEndings numbers)
both_judged numbers fit true is_fit is_some fits = (sym is_fit ∙ fits, sym is_some)
both_judged numbers fit false is_fit is_some fits = λ are. false≢true (is_some ∙ are.1)

-- ---- a mark keeps the meters of its campaign

abbrev with_rows : Offered → List Row → Offered
with_rows offer rows = record { release = offer.release; image = offer.image; rows = rows }

pub some_none : {X : Type 0} (x : X) → None ≡ Some x → ⊥
some_none x is = cc is

pub same_some : (a b : ℕ) → Some a ≡ Some b → a ≡ b
same_some a b is = cc is

lookup_changed : (serial : ℕ) (change : List Row → List Row) (entries : List (ℕ × Offered)) (offer : Offered) → lookup (nat_eq serial) entries ≡ Some offer → lookup (nat_eq serial) (at_serial serial change entries) ≡ Some (with_rows offer (change offer.rows))
lookup_changed serial change [] offer has = absurd (some_none offer has)
lookup_changed serial change (entry ∷ entries) offer has =
    let new : ℕ × Offered = (entry.0, with_rows entry.1 (change entry.1.rows)) in
    ⊎_elim
    (λ here.
    let same = same_offer entry.1 offer (sym (cond-true (nat_eq serial entry.0) (Some entry.1) (lookup (nat_eq serial) entries) here) ∙ has) in
    ap (λ (l : List (ℕ × Offered)). lookup (nat_eq serial) l) (cond-true (nat_eq serial entry.0) (new ∷ entries) (entry ∷ at_serial serial change entries) here)
    ∙ cond-true (nat_eq serial entry.0) (Some new.1) (lookup (nat_eq serial) entries) here ∙ ap (λ (o : Offered). Some (with_rows o (change o.rows))) same)
    (λ away.
    ap (λ (l : List (ℕ × Offered)). lookup (nat_eq serial) l) (cond-false (nat_eq serial entry.0) (new ∷ entries) (entry ∷ at_serial serial change entries) away)
    ∙ cond-false (nat_eq serial entry.0) (Some entry.1) (lookup (nat_eq serial) (at_serial serial change entries)) away
    ∙ lookup_changed serial change entries offer (sym (cond-false (nat_eq serial entry.0) (Some entry.1) (lookup (nat_eq serial) entries) away) ∙ has))
    (cases_Bool (nat_eq serial entry.0))

offered_changed : (book : Contents) (campaign : Campaign) (change : List Row → List Row) (offer : Offered) → offered_in book campaign ≡ Some offer
    → offered_in (record { head = book.head; campaigns = at_serial campaign.serial change book.campaigns }) campaign ≡ Some (with_rows offer (change offer.rows))
offered_changed book campaign change offer has =
    ⊎_elim
    (λ own.
    cond-true (eqb campaign.head book.head) (lookup (nat_eq campaign.serial) (at_serial campaign.serial change book.campaigns)) None own
    ∙ lookup_changed campaign.serial change book.campaigns offer (sym (cond-true (eqb campaign.head book.head) (lookup (nat_eq campaign.serial) book.campaigns) None own) ∙ has))
    (λ foreign. absurd (some_none offer (sym (cond-false (eqb campaign.head book.head) (lookup (nat_eq campaign.serial) book.campaigns) None foreign) ∙ has)))
    (cases_Bool (eqb campaign.head book.head))

ended : (e : Ending) → is_live (state_of e) ≡ false
ended ending.Done = refl
ended ending.Failed = refl

-- a book that has the campaign, with these meters
pub record HasMeters (book : Contents) (campaign : Campaign) (meters : List ℕ) : Type 0 where
  pub offer : Offered
  pub offered : offered_in book campaign ≡ Some offer
  pub same : meters_of offer.rows ≡ meters

numbered_keeps : (book : Contents) (campaign : Campaign) (meter number : ℕ) (next : Contents) (meters : List ℕ) → HasMeters book campaign meters → MakesNumbered book campaign meter number next → HasMeters next campaign meters
numbered_keeps book campaign meter number next meters has (inl none) = subst (λ (c : Contents). HasMeters c campaign meters) (sym none.1) has
numbered_keeps book campaign meter number next meters has (inr some) =
    let change : List Row → List Row = with_state meter (state_of some.0) in
    subst (λ (c : Contents). HasMeters c campaign meters) (sym some.2.1) (record {
      offer = with_rows has.offer (change has.offer.rows);
      offered = offered_changed book campaign change has.offer has.offered;
      same = (Keeps-with_state meter (state_of some.0) (ended some.0)).meters has.offer.rows ∙ has.same;
    })

-- ---- the rows that are still to be marked

each_long : (meters numbers : List ℕ) (book : Contents) (campaign : Campaign) (next : Contents) → MakesEach book campaign meters numbers next → length meters ≡ length numbers
each_long [] [] book campaign next each = refl
each_long [] (number ∷ numbers) book campaign next each = absurd each
each_long (meter ∷ meters) [] book campaign next each = absurd each
each_long (meter ∷ meters) (number ∷ numbers) book campaign next each = omega (arith, each_long meters numbers each.0 campaign next each.2)

pub ended_long : (book : Contents) (campaign : Campaign) (numbers : List ℕ) (next : Contents) → MakesEnded book campaign numbers next → (offer : Offered) × (offered_in book campaign ≡ Some offer) × (length offer.rows ≡ length numbers)
ended_long book campaign numbers next makes = (
  makes.offer,
  makes.offered,
  sym (length-map makes.offer.rows (λ (row : Row). row.meter)) ∙ each_long (meters_of makes.offer.rows) numbers book campaign next makes.each,
)

-- A book in which the first rows of a campaign are marked, and what the numbers of the others make of it.
pub record Ends (first : Contents) (campaign : Campaign) (numbers : List ℕ) (book : Contents) (rest : List ℕ) : Type 0 where
  pub front : List ℕ
  pub meters : List ℕ
  pub has : HasMeters book campaign (front ++ meters)
  pub count : length front + length rest ≡ length numbers
  pub many : length meters ≡ length rest
  pub back : (next : Contents) → MakesEach book campaign meters rest next → MakesEnded first campaign numbers next
  pub on : (next : Contents) → MakesEnded first campaign numbers next → MakesEach book campaign meters rest next

pub ends_begin : (book : Contents) (campaign : Campaign) (numbers : List ℕ) (offer : Offered) → offered_in book campaign ≡ Some offer → length offer.rows ≡ length numbers → Ends book campaign numbers book numbers
ends_begin book campaign numbers offer offered long = record {
  front = [];
  meters = meters_of offer.rows;
  has = record { offer = offer; offered = offered; same = refl };
  count = omega arith;
  many = length-map offer.rows (λ (row : Row). row.meter) ∙ long;
  back = λ next each. record { offer = offer; offered = offered; each = each };
  on = λ next makes. subst (λ (o : Offered). MakesEach book campaign (meters_of o.rows) numbers next) (same_offer makes.offer offer (sym makes.offered ∙ offered)) makes.each;
}

row_at : (rows : List Row) (front meters : List ℕ) (meter : ℕ) → meters_of rows ≡ front ++ meter ∷ meters → option_map (λ (row : Row). row.meter) (slice_get rows (length front)) ≡ Some meter
row_at [] [] meters meter is = absurd (cc is)
row_at [] (m ∷ front) meters meter is = absurd (cc is)
row_at (row ∷ rows) [] meters meter is = let same : row.meter ≡ meter = cc is in ap (λ (m : ℕ). Some m) same
row_at (row ∷ rows) (m ∷ front) meters meter is = let later : meters_of rows ≡ front ++ meter ∷ meters = cc is in row_at rows front meters meter later

-- the meter of the row with this index
abbrev pub meter_in : Contents → Campaign → ℕ → Option ℕ
meter_in book campaign index = option_and_then (λ (offer : Offered). option_map (λ (row : Row). row.meter) (slice_get offer.rows index)) (offered_in book campaign)

-- the next of these rows
pub record Next (first : Contents) (campaign : Campaign) (numbers : List ℕ) (book : Contents) (rest : List ℕ) (number : ℕ) (others : List ℕ) : Type 0 where
  pub meter : ℕ
  pub is_meter : meter_in book campaign (length numbers - length rest) ≡ Some meter
  pub goes : (next : Contents) → MakesNumbered book campaign meter number next → Ends first campaign numbers next others
  pub stops : ((next : Contents) → ¬ MakesNumbered book campaign meter number next) → (next : Contents) → ¬ MakesEnded first campaign numbers next

pub ends_next : (first : Contents) (campaign : Campaign) (numbers : List ℕ) (book : Contents) (rest : List ℕ) (number : ℕ) (others : List ℕ) → Ends first campaign numbers book rest → rest ≡ number ∷ others → Next first campaign numbers book rest number others
ends_next first campaign numbers book rest number others ends is =
    let here = subst (λ (l : List ℕ). Ends first campaign numbers book l) is ends in
    subst (λ (l : List ℕ). Next first campaign numbers book l number others) (sym is) (of here.meters here refl)
  where
    of : (meters : List ℕ) (e : Ends first campaign numbers book (number ∷ others)) → e.meters ≡ meters → Next first campaign numbers book (number ∷ others) number others
    of [] e none = absurd (omega (arith, e.many, ap (λ (l : List ℕ). length l) none))
    of (meter ∷ meters) e some =
        let has : HasMeters book campaign (e.front ++ meter ∷ meters) = subst (λ (l : List ℕ). HasMeters book campaign (e.front ++ l)) some e.has in
        let at : length numbers - length (number ∷ others) ≡ length e.front = omega (arith, e.count) in
        record {
          meter = meter;
          is_meter = ap (λ (o : Option Offered). option_and_then (λ (offer : Offered). option_map (λ (row : Row). row.meter) (slice_get offer.rows (length numbers - length (number ∷ others)))) o) has.offered
              ∙ ap (λ (n : ℕ). option_map (λ (row : Row). row.meter) (slice_get has.offer.rows n)) at ∙ row_at has.offer.rows e.front meters meter has.same;
          goes = λ next made. record {
            front = e.front ++ meter ∷ [];
            meters = meters;
            has = numbered_keeps book campaign meter number next ((e.front ++ meter ∷ []) ++ meters) (subst (λ (l : List ℕ). HasMeters book campaign l) (sym (append_assoc e.front (meter ∷ []) meters)) has) made;
            count = omega (arith, e.count, length-append e.front (meter ∷ []));
            many = omega (arith, e.many, ap (λ (l : List ℕ). length l) some);
            back = λ later each.
                let both : MakesEach book campaign (meter ∷ meters) (number ∷ others) later = (next, made, each) in
                e.back later (subst (λ (l : List ℕ). MakesEach book campaign l (number ∷ others) later) (sym some) both);
            on = λ later makes.
                let each : MakesEach book campaign (meter ∷ meters) (number ∷ others) later = subst (λ (l : List ℕ). MakesEach book campaign l (number ∷ others) later) some (e.on later makes) in
                subst (λ (c : Contents). MakesEach c campaign meters others later) (numbered_unique book campaign meter number each.0 next each.1 made) each.2;
          };
          stops = λ none later makes.
              let each : MakesEach book campaign (meter ∷ meters) (number ∷ others) later = subst (λ (l : List ℕ). MakesEach book campaign l (number ∷ others) later) some (e.on later makes) in
              none each.0 each.1;
        }

-- what an error says
pub any_err : {T E : Type 0} (result : Result T E) (P : Type 0) → P → OnErr result P
any_err (Ok v) P holds = tt
any_err (Err e) P holds = holds
