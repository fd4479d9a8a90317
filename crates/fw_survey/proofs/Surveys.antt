-- What a survey keeps, and what is known of its meters after each step.
use Rattle.std.proofs.Common.{◌≡◌, ◌≢◌, ◌↔◌, ℕ, zero, suc, ◌+◌, ◌-◌, ◌≤◌, ◌<◌, Bool, true, false, List, [], ◌∷◌, ◌++◌, Contains, Option, Some, None, inl, inr, ⊎_elim, refl, sym, ap, subst, ◌∙◌, arith}
use Rattle.std.specs.Prelude.{IfNone, IfSome, MatchOption, if◌then◌else◌, is_some, nat_lt, slice_get, slice_set, sum_by}
use Rattle.std.specs.Option.{option_map}
use Rattle.std.specs.declared.net.socket_addr.SocketAddr.{SocketAddr}
use Rattle.std.proofs.lemmas.Bool.{false≢true}
use Rattle.std.proofs.lemmas.List.{map-append}
use Rattle.std.proofs.lemmas.List.Sums.{get_or-le-sum_by, sum_by_push}
use Rattle.std.proofs.lemmas.Option.{get_or_from_slice_get, none-some, same_Some, slice_get-map, slice_get_within}
use Rattle.fw_port.specs.Acts.{came, sent}
use Rattle.fw_survey.specs.Questions.{question_bytes}
use Rattle.fw_survey.specs.Answers.{Answers}
use Rattle.fw_survey.specs.Rows.{Row, asked_at, asks_of, inquiry_of, new_row, outs_of, settled_row, with_inquiry}
use Rattle.fw_survey.specs.History.{Act, IsRead, Knows, KnowsAll}
use Rattle.fw_survey.specs.Private.{HearsAt}
use Rattle.fw_survey.specs.Survey.{ChangesAt, HasAddress, HearsAs, IsPlaceOf, IsSurvey, KeepsMeters, addresses_of, due_at, due_of, most_out, rows_of}
use Rattle.fw_survey.specs.declared.answer.Answer.{Answer}
use Rattle.fw_survey.specs.declared.question.Question.{Question}
use Rattle.fw_survey.specs.declared.survey.Due.{Due}
use Rattle.fw_survey.specs.declared.survey.Survey.{Survey}
use Rattle.fw_survey.specs.declared.survey.Timing.{Timing}
use Rattle.fw_survey.proofs.History.{knows_asked, knows_asked_elsewhere, knows_changed, knows_elsewhere, knows_nothing, knows_settled, knows_taken}
use Rattle.fw_survey.proofs.Placing.{AreApart, apart_more}
use Rattle.fw_survey.proofs.Rows.{map_kept, sum_moved}

-- ---- places

pub address_at : (rows : List Row) (place : ℕ) (row : Row) → slice_get rows place ≡ Some row → IsPlaceOf rows row.address place
address_at rows place row is =
    slice_get-map (λ (r : Row). r.address) rows place ∙ ap (λ (o : Option Row). option_map (λ (r : Row). r.address) o) is

other_address : (rows : List Row) (place other : ℕ) (row : Row) (address : SocketAddr) → AreApart (addresses_of rows) → IsPlaceOf rows address place → other ≢ place
    → slice_get rows other ≡ Some row → row.address ≢ address
other_address rows place other row address apart there n is e =
    n (apart address other place (subst (λ (a : SocketAddr). IsPlaceOf rows a other) e (address_at rows other row is)) there)

pub keeps_meters : (rows : List Row) (place : ℕ) (row next : Row) → slice_get rows place ≡ Some row → (next.meter ≡ row.meter) × (next.address ≡ row.address)
    → KeepsMeters rows (slice_set rows place next)
keeps_meters rows place row next is same = record {
  meters = map_kept (λ (r : Row). r.meter) rows place row next is same.0;
  addresses = map_kept (λ (r : Row). r.address) rows place row next is same.1;
}

pub keeps_all : (rows : List Row) → KeepsMeters rows rows
keeps_all rows = record { meters = refl; addresses = refl }

pub keeps_then : (first second third : List Row) → KeepsMeters first second → KeepsMeters second third → KeepsMeters first third
keeps_then first second third one two = record { meters = two.meters ∙ one.meters; addresses = two.addresses ∙ one.addresses }

-- ---- what a survey keeps

same_count : (a b c d x y : ℕ) → a ≡ c → b + x ≡ a + y → d + x ≡ c + y → b ≡ d
same_count a b c d x y e f g = omega arith

-- one row went on
pub moved : (old new : Survey) (place : ℕ) (row next : Row) → IsSurvey old → slice_get (rows_of old) place ≡ Some row → rows_of new ≡ slice_set (rows_of old) place next
    → (next.meter ≡ row.meter) × (next.address ≡ row.address) → new.places ≡ old.places → new.timing ≡ old.timing → new.out + outs_of row ≡ old.out + outs_of next
    → new.out ≤ most_out new.timing.flight → IsSurvey new
moved old new place row next s was rows same places timing counts within =
    let addresses : addresses_of (rows_of new) ≡ addresses_of (rows_of old) =
    ap addresses_of rows ∙ map_kept (λ (r : Row). r.address) (rows_of old) place row next was same.1 in
    record {
      addressed = λ address at. (
        λ h. subst (λ (l : List SocketAddr). slice_get l at ≡ Some address) (sym addresses)
            ((s.addressed address at).0 (subst (λ p. Contains p.entries (address, at)) places h)),
        λ h. subst (λ p. Contains p.entries (address, at)) (sym places)
            ((s.addressed address at).1 (subst (λ (l : List SocketAddr). slice_get l at ≡ Some address) addresses h)),
      );
      apart = λ address at other h g. s.apart address at other (subst (λ (l : List SocketAddr). slice_get l at ≡ Some address) addresses h)
          (subst (λ (l : List SocketAddr). slice_get l other ≡ Some address) addresses g);
      counted = same_count old.out new.out (sum_by outs_of (rows_of old)) (sum_by outs_of (rows_of new)) (outs_of row) (outs_of next) s.counted counts
          (subst (λ (l : List Row). sum_by outs_of l + outs_of row ≡ sum_by outs_of (rows_of old) + outs_of next) (sym rows) (sum_moved outs_of (rows_of old) place row next was));
      within = within;
    }

fewer : (a b x y n : ℕ) → b ≡ a - n → x ≡ y + n → x ≤ a → b + x ≡ a + y
fewer a b x y n e f h = omega arith

at_least : (f : Row → ℕ) (rows : List Row) (place : ℕ) (row : Row) → slice_get rows place ≡ Some row → f row ≤ sum_by f rows
at_least f rows place row is = subst (λ r. f r ≤ sum_by f rows) (get_or_from_slice_get rows place row row is) (get_or-le-sum_by f rows place row (slice_get_within rows place row is))

fewer_out : (a b n m : ℕ) → b ≡ a - n → a ≤ m → b ≤ m
fewer_out a b n m e h = omega arith

-- so many questions are in flight no more
pub back : (old new : Survey) (place n : ℕ) (row next : Row) → IsSurvey old → slice_get (rows_of old) place ≡ Some row → rows_of new ≡ slice_set (rows_of old) place next
    → (next.meter ≡ row.meter) × (next.address ≡ row.address) → new.places ≡ old.places → new.timing ≡ old.timing → outs_of row ≡ outs_of next + n → new.out ≡ old.out - n
    → IsSurvey new
back old new place n row next s was rows same places timing counts out =
    moved old new place row next s was rows same places timing
    (fewer old.out new.out (outs_of row) (outs_of next) n out counts (subst (λ k. outs_of row ≤ k) (sym s.counted) (at_least outs_of (rows_of old) place row was)))
    (subst (λ t. new.out ≤ most_out t.flight) (sym timing) (fewer_out old.out new.out n (most_out old.timing.flight) out s.within))

-- the row is as it was
put_back : {X : Type 0} (xs : List X) (i : ℕ) (x : X) → slice_get xs i ≡ Some x → slice_set xs i x ≡ xs
put_back [] i x h = refl
put_back (z ∷ xs) zero x h = ap (λ y. y ∷ xs) (sym (same_Some z x h))
put_back (z ∷ xs) (suc i) x h = ap (λ l. z ∷ l) (put_back xs i x h)

pub kept_row : (rows : List Row) (place : ℕ) (row next : Row) → slice_get rows place ≡ Some row → next ≡ row → slice_set rows place next ≡ rows
kept_row rows place row next was e = ap (λ (r : Row). slice_set rows place r) e ∙ put_back rows place row was

-- none more is in flight
pub none_out : (old new : Survey) (place : ℕ) (row next : Row) → IsSurvey old → slice_get (rows_of old) place ≡ Some row → rows_of new ≡ slice_set (rows_of old) place next
    → (next.meter ≡ row.meter) × (next.address ≡ row.address) → new.places ≡ old.places → new.timing ≡ old.timing → outs_of next ≡ outs_of row → new.out ≡ old.out
    → IsSurvey new
none_out old new place row next s was rows same places timing counts out =
    moved old new place row next s was rows same places timing (ap (λ n. n + outs_of row) out ∙ ap (λ n. old.out + n) (sym counts))
    (subst (λ n. n ≤ most_out new.timing.flight) (sym out) (subst (λ t. old.out ≤ most_out t.flight) (sym timing) s.within))

-- one more is
one_more : (a b x y : ℕ) → b ≡ a + 1 → y ≡ x + 1 → b + x ≡ a + y
one_more a b x y e f = omega arith

room_for : (a b m : ℕ) → b ≡ a + 1 → a < m → b ≤ m
room_for a b m e h = omega arith

pub one_out : (old new : Survey) (place : ℕ) (row next : Row) → IsSurvey old → slice_get (rows_of old) place ≡ Some row → rows_of new ≡ slice_set (rows_of old) place next
    → (next.meter ≡ row.meter) × (next.address ≡ row.address) → new.places ≡ old.places → new.timing ≡ old.timing → outs_of next ≡ outs_of row + 1 → new.out ≡ old.out + 1
    → old.out < most_out old.timing.flight → IsSurvey new
one_out old new place row next s was rows same places timing counts out room =
    moved old new place row next s was rows same places timing (one_more old.out new.out (outs_of row) (outs_of next) out counts)
    (subst (λ t. new.out ≤ most_out t.flight) (sym timing) (room_for old.out new.out (most_out old.timing.flight) out room))

-- a meter is added
added_sum : (a b c x : ℕ) → a ≡ c → b ≡ a → x ≡ 0 → b ≡ c + x
added_sum a b c x e f g = omega arith

pub added : (old new : Survey) (meter : ℕ) (address : SocketAddr) → IsSurvey old → ¬ HasAddress (rows_of old) address → rows_of new ≡ rows_of old ++ new_row meter address ∷ []
    → ((a : SocketAddr) (place : ℕ) → Contains new.places.entries (a, place) ↔ (slice_get (addresses_of (rows_of old) ++ address ∷ []) place ≡ Some a))
    → new.timing ≡ old.timing → new.out ≡ old.out → IsSurvey new
added old new meter address s none rows at timing out =
    let addresses : addresses_of (rows_of new) ≡ addresses_of (rows_of old) ++ address ∷ [] =
    ap addresses_of rows ∙ map-append (λ (r : Row). r.address) (rows_of old) (new_row meter address ∷ []) in
    record {
      addressed = λ a place. (
        λ h. subst (λ (l : List SocketAddr). slice_get l place ≡ Some a) (sym addresses) ((at a place).0 h),
        λ h. (at a place).1 (subst (λ (l : List SocketAddr). slice_get l place ≡ Some a) addresses h),
      );
      apart = subst (λ (l : List SocketAddr). AreApart l) (sym addresses) (apart_more (addresses_of (rows_of old)) address s.apart none);
      counted = added_sum old.out new.out (sum_by outs_of (rows_of old)) (outs_of (new_row meter address)) s.counted out refl
          ∙ sym (ap (λ (l : List Row). sum_by outs_of l) rows ∙ sum_by_push outs_of (rows_of old) (new_row meter address));
      within = subst (λ n. n ≤ most_out new.timing.flight) (sym out) (subst (λ t. old.out ≤ most_out t.flight) (sym timing) s.within);
    }

-- ---- what is known of the meters

pub heard_all : (done : List Act) (now : ℕ) (from : SocketAddr) (bytes : List ℕ) (old new : List Row) → AreApart (addresses_of old) → HearsAs now from bytes old new → KnowsAll done old
    → KnowsAll (came from bytes ∷ done) new
heard_all done now from bytes old new apart (inl h) k =
    knows_changed h.place _ done (came from bytes ∷ done) old new h.takes
    (λ other row n is known. knows_elsewhere done from bytes row (other_address old h.place other row from apart h.there n is) known)
    (λ row is known. knows_taken done from bytes h.question h.answer now row (same_Some from row.address (sym h.there ∙ address_at old h.place row is)) h.answers known)
    k
heard_all done now from bytes old new apart (inr h) k = λ place row is.
    let was : slice_get old place ≡ Some row = subst (λ (l : List Row). slice_get l place ≡ Some row) h.same is in
    ⊎_elim
    (λ (strange : ¬ HasAddress old from). knows_elsewhere done from bytes row
    (λ (e : row.address ≡ from). strange (place, subst (λ (a : SocketAddr). IsPlaceOf old a place) e (address_at old place row was))) (k place row was))
    (λ (none : (q : Question) (a : Answer) → Answers bytes q a → ⊥). knows_nothing done from bytes row none (k place row was))
    h.strange

-- what is due is the next question to the meter at a place
due_row_by : (free : Bool) (o : Option Question) (row : Row) (due : Due) → (if free then due_at row o else None) ≡ Some due → due.to ≡ row.address
due_row_by false o row due e = absurd (none-some due e)
due_row_by true None row due e = absurd (none-some due e)
due_row_by true (Some q) row due e = ap (λ (d : Due). d.to) (sym (same_Some (record { question = q; to = row.address }) due e))

pub due_row : (timing : Timing) (out : ℕ) (o : Option Row) (due : Due) → due_of timing out o ≡ Some due → (row : Row) × (o ≡ Some row) × (due.to ≡ row.address)
due_row timing out None due e = absurd (none-some due e)
due_row timing out (Some row) due e = (row, refl, due_row_by (nat_lt out (most_out timing.flight)) (asks_of timing.tries row) row due e)

pub asked_all : (done : List Act) (now place : ℕ) (due : Due) (row : Row) (old new : List Row) → AreApart (addresses_of old) → slice_get old place ≡ Some row → due.to ≡ row.address
    → ChangesAt place (λ (r : Row). with_inquiry r due.question (asked_at now (inquiry_of r due.question))) old new → KnowsAll done old
    → KnowsAll (sent due.to (question_bytes due.question) ∷ done) new
asked_all done now place due row old new apart was to changes k =
    let there : IsPlaceOf old due.to place = subst (λ (a : SocketAddr). IsPlaceOf old a place) (sym to) (address_at old place row was) in
    knows_changed place _ done (sent due.to (question_bytes due.question) ∷ done) old new changes
    (λ other r n is known. knows_asked_elsewhere done due.to (question_bytes due.question) r (other_address old place other r due.to apart there n is) known)
    (λ r is known.
    let own : r.address ≡ due.to = ap (λ (x : Row). x.address) (same_Some r row (sym is ∙ was)) ∙ sym to in
    subst (λ (a : SocketAddr). Knows (sent a (question_bytes due.question) ∷ done) (with_inquiry r due.question (asked_at now (inquiry_of r due.question)))) own
    (knows_asked done due.question now r known))
    k

pub settled_all : (done : List Act) (timeout now place : ℕ) (old new : List Row) → ChangesAt place (settled_row timeout now) old new → KnowsAll done old → KnowsAll done new
settled_all done timeout now place old new changes k =
    knows_changed place _ done done old new changes (λ other row n is known. known) (λ row is known. knows_settled timeout now done row known) k

-- what is due may be sent
pub is_read : (rows : List Row) (place : ℕ) (row : Row) (due : Due) → slice_get rows place ≡ Some row → due.to ≡ row.address
    → IsRead (addresses_of rows) due.to (question_bytes due.question)
is_read rows place row due was to =
    let there : IsPlaceOf rows due.to place = subst (λ (a : SocketAddr). IsPlaceOf rows a place) (sym to) (address_at rows place row was) in
    record {
      question = due.question;
      asks = refl;
      listed = (place, slice_get_within (addresses_of rows) place due.to there, get_or_from_slice_get (addresses_of rows) place due.to due.to there);
    }

-- ---- what a call gives

-- a datagram from the address of a meter is heard as that meter's
pub hears_at : (place now : ℕ) (from : SocketAddr) (bytes : List ℕ) (old new : List Row) → IsPlaceOf old from place → HearsAt place now bytes old new → HearsAs now from bytes old new
hears_at place now from bytes old new there (inl h) = inl (record { place = place; question = h.0; answer = h.1; there = there; answers = h.2; takes = h.3 })
hears_at place now from bytes old new there (inr h) = inr (record { same = h.0; strange = inr h.1 })

pub is_there : (rows : List Row) (address : SocketAddr) (o : Option ℕ) → is_some o ≡ true → IfSome o (IsPlaceOf rows address) → HasAddress rows address
is_there rows address None e there = absurd (false≢true e)
is_there rows address (Some place) e there = (place, there)

pub is_new : (rows : List Row) (address : SocketAddr) (o : Option ℕ) → is_some o ≡ false → IfNone o (¬ HasAddress rows address) → ¬ HasAddress rows address
is_new rows address None e none = none
is_new rows address (Some place) e none = absurd (false≢true (sym e))

-- nothing is due
pub due_full : (timing : Timing) (out : ℕ) (o : Option Row) → nat_lt out (most_out timing.flight) ≡ false → None ≡ due_of timing out o
due_full timing out None e = refl
due_full timing out (Some row) e = subst (λ (b : Bool). None ≡ (if b then due_at row (asks_of timing.tries row) else None)) (sym e) refl

pub due_nobody : (timing : Timing) (out : ℕ) (o : Option Row) → o ≡ None → None ≡ due_of timing out o
due_nobody timing out None e = refl
due_nobody timing out (Some row) e = absurd (none-some row (sym e))

-- this is
pub due_asked : (timing : Timing) (out : ℕ) (o : Option Row) (row : Row) (asks : Option Question) → o ≡ Some row → nat_lt out (most_out timing.flight) ≡ true
    → asks ≡ asks_of timing.tries row → due_at row asks ≡ due_of timing out o
due_asked timing out None row asks e room f = absurd (none-some row e)
due_asked timing out (Some r) row asks e room f =
    subst (λ (x : Row). due_at row asks ≡ (if nat_lt out (most_out timing.flight) then due_at x (asks_of timing.tries x) else None)) (sym (same_Some r row e))
    (subst (λ (b : Bool). due_at row asks ≡ (if b then due_at row (asks_of timing.tries row) else None)) (sym room) (ap (λ (x : Option Question). due_at row x) f))

-- this question is, at this address
abbrev at_address : Question → SocketAddr → Option Due
at_address q to = Some (record { question = q; to = to })

pub due_to : (timing : Timing) (out : ℕ) (o : Option Row) (row : Row) (q : Question) (to : SocketAddr) → to ≡ row.address → o ≡ Some row
    → nat_lt out (most_out timing.flight) ≡ true → Some q ≡ asks_of timing.tries row → at_address q to ≡ due_of timing out o
due_to timing out o row q to at e room f = ap (λ (a : SocketAddr). at_address q a) at ∙ due_asked timing out o row (Some q) e room f

-- the row at a place is changed
pub changes_at : (place : ℕ) (change : Row → Row) (old new : List Row) (row next : Row) → slice_get old place ≡ Some row → next ≡ change row → new ≡ slice_set old place next
    → ChangesAt place change old new
changes_at place change old new row next was e set =
    subst (λ (o : Option Row). MatchOption o (new ≡ old) (λ r. new ≡ slice_set old place (change r))) (sym was) (set ∙ ap (λ (x : Row). slice_set old place x) e)
