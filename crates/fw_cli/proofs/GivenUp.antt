-- Rows that are given up one after the other, and told then.
use Rattle.std.proofs.Common.{◌≡◌, ℕ, ◌+◌, ◌<◌, Bool, List, [], ◌∷◌, ◌++◌, ◌∙◌, Option, Some, None, take, length, refl, sym, subst, ap, append_assoc, append-nil}
use Rattle.std.specs.Prelude.{MatchOption, slice_index_or}
use Rattle.std.proofs.lemmas.List.{take_more, map-append}
use Rattle.fw_book.specs.Contents.{Contents}
use Rattle.fw_head.specs.Head.{GivesUpRow, Head, row_of}
use Rattle.fw_head.specs.declared.giving_up.GivenUp.{GivenUp}
use Rattle.fw_head.specs.declared.giving_up.WhyGivenUp.TheVariants.{ByHand}
use Rattle.fw_journal.specs.declared.file.FileDevice.{FileDevice}
use Rattle.fw_kept.specs.Head.{book_of, head_of}
use Rattle.fw_kept.specs.declared.head.KeptHead.{KeptHead}
use Rattle.fw_plan.specs.Meters.{meters_of}
use Rattle.fw_plan.specs.declared.meters.MeterRange.{MeterRange}
use Rattle.fw_rollout.specs.declared.ended.Ended.{Ended}
use Rattle.fw_host.specs.Heads.{ended_line}
use Rattle.fw_host.specs.Telling.{Told, lines_of_rows}
use Rattle.fw_host.proofs.Tellings.{told_on}
use Rattle.fw_cli.specs.GivingUp.{AddsOne, AddsTold, GivesUpAll, GivesUpIn, GivesUpOne, HasGivenUp, Says, given_row}
use Rattle.fw_cli.specs.declared.give_up.GaveUp.{GaveUp}
use Rattle.fw_cli.specs.declared.give_up.GiveUpOptions.{GiveUpOptions}

-- one meter more, after the others
gives_more : (old middle new : Head) (meters : List ℕ) (meter at : ℕ) (rows row : List Ended) (lacking none : List ℕ) → GivesUpAll old meters at rows lacking middle
    → GivesUpOne middle meter at row none new → GivesUpAll old (meters ++ meter ∷ []) at (rows ++ row) (lacking ++ none) new
gives_more old middle new [] meter at rows row lacking none (no_rows, no_lacking, same) one = (
  new,
  row,
  [],
  none,
  [],
  subst (λ (h : Head). GivesUpOne h meter at row none new) same one,
  (refl, refl, refl),
  ap (λ (l : List Ended). l ++ row) no_rows ∙ sym (append-nil row),
  ap (λ (l : List ℕ). l ++ none) no_lacking ∙ sym (append-nil none),
)
gives_more old middle new (first ∷ meters) meter at rows row lacking none (next, its, rows_then, without, without_then, gives, others, rows_are, lacking_are) one = (
  next,
  its,
  rows_then ++ row,
  without,
  without_then ++ none,
  gives,
  gives_more next middle new meters meter at rows_then row without_then none others one,
  ap (λ (l : List Ended). l ++ row) rows_are ∙ append_assoc its rows_then row,
  ap (λ (l : List ℕ). l ++ none) lacking_are ∙ append_assoc without without_then none,
)

-- the next of a list
pub gives_next : (old middle new : Head) (meters : List ℕ) (i meter at : ℕ) (rows rows_then : List Ended) (lacking lacking_then : List ℕ) → i < length meters
    → GivesUpAll old (take i meters) at rows lacking middle → AddsOne middle meter at rows rows_then lacking lacking_then new → slice_index_or meters i meter ≡ meter
    → GivesUpAll old (take (i + 1) meters) at rows_then lacking_then new
gives_next old middle new meters i meter at rows rows_then lacking lacking_then within so_far one is =
    let all : GivesUpAll old (take i meters ++ meter ∷ []) at (rows ++ one.row) (lacking ++ one.none) new =
    gives_more old middle new (take i meters) meter at rows one.row lacking one.none so_far one.gives_up in
    let list : take (i + 1) meters ≡ take i meters ++ meter ∷ [] = take_more meters i meter within ∙ ap (λ (n : ℕ). take i meters ++ n ∷ []) is in
    subst (λ (l : List ℕ). GivesUpAll old l at rows_then lacking_then new) (sym list)
    (subst (λ (r : List Ended). GivesUpAll old (take i meters ++ meter ∷ []) at r lacking_then new) (sym one.rows_are)
    (subst (λ (l : List ℕ). GivesUpAll old (take i meters ++ meter ∷ []) at (rows ++ one.row) l new) (sym one.lacking_are) all))

-- the line of one row more
pub rows_next : (rows : List Ended) (i : ℕ) (row : Ended) (p q r : Bool) (a b c : Option (List ℕ)) → i < length rows → Told (lines_of_rows (take i rows)) p q a b
    → Told (ended_line row ∷ []) q r b c → slice_index_or rows i row ≡ row → Told (lines_of_rows (take (i + 1) rows)) p r a c
rows_next rows i row p q r a b c within so_far one is =
    let list : take (i + 1) rows ≡ take i rows ++ row ∷ [] = take_more rows i row within ∙ ap (λ (it : Ended). take i rows ++ it ∷ []) is in
    let lines : lines_of_rows (take (i + 1) rows) ≡ lines_of_rows (take i rows) ++ ended_line row ∷ [] =
    ap (λ (l : List Ended). lines_of_rows l) list ∙ map-append (λ (it : Ended). ended_line it) (take i rows) (row ∷ []) in
    subst (λ (l : List (List ℕ)). Told l p r a c) (sym lines) (told_on (lines_of_rows (take i rows)) (ended_line row ∷ []) p q r a b c so_far one)

-- a meter's row is given up, or it has none
pub adds_one : {D : Type 0} (old new : KeptHead D) (meter at : ℕ) (told : Option GivenUp) (rows rows_then : List Ended) (lacking lacking_then : List ℕ)
    → MatchOption told ((row_of (head_of old).rows meter ≡ None) × (new ≡ old)) (λ given. GivesUpRow (head_of old) meter ByHand given (head_of new))
    → AddsTold meter told at rows rows_then lacking lacking_then → AddsOne (head_of old) meter at rows rows_then lacking lacking_then (head_of new)
adds_one old new meter at None rows rows_then lacking lacking_then (without, same) (rows_are, lacking_are) = record {
  row = [];
  none = meter ∷ [];
  gives_up = (without, refl, ap (λ k. head_of k) same);
  rows_are = rows_are ∙ sym (append-nil rows);
  lacking_are = lacking_are;
}
adds_one old new meter at (Some given) rows rows_then lacking lacking_then gives (rows_are, lacking_are) = record {
  row = given_row meter given at ∷ [];
  none = [];
  gives_up = (given, gives, refl, refl, refl);
  rows_are = rows_are;
  lacking_are = lacking_are ∙ sym (append-nil lacking);
}

-- what is told of it
pub told_some : (meter at : ℕ) (told : Option GivenUp) (given : GivenUp) (rows rows_then : List Ended) (lacking lacking_then : List ℕ) → told ≡ Some given
    → rows_then ≡ rows ++ given_row meter given at ∷ [] → lacking_then ≡ lacking → AddsTold meter told at rows rows_then lacking lacking_then
told_some meter at told given rows rows_then lacking lacking_then is added same =
    subst (λ (o : Option GivenUp). AddsTold meter o at rows rows_then lacking lacking_then) (sym is) (added, same)

pub told_none_of : (meter at : ℕ) (told : Option GivenUp) (rows rows_then : List Ended) (lacking lacking_then : List ℕ) → told ≡ None → rows_then ≡ rows
    → lacking_then ≡ lacking ++ meter ∷ [] → AddsTold meter told at rows rows_then lacking lacking_then
told_none_of meter at told rows rows_then lacking lacking_then is same added =
    subst (λ (o : Option GivenUp). AddsTold meter o at rows rows_then lacking lacking_then) (sym is) (same, added)

-- the meters that these name
pub gives_up_these : (old middle new : Head) (book : Contents) (named : List MeterRange) (at : ℕ) (meters shown : List ℕ) (rows : List Ended) (lacking : List ℕ) → shown ≡ meters
    → meters ≡ meters_of book named → book ≡ old.book → new ≡ middle → GivesUpAll old shown at rows lacking middle → GivesUpAll old (meters_of old.book named) at rows lacking new
gives_up_these old middle new book named at meters shown rows lacking same are is last gives =
    subst (λ (h : Head). GivesUpAll old (meters_of old.book named) at rows lacking h) (sym last)
    (subst (λ (l : List ℕ). GivesUpAll old l at rows lacking middle) (same ∙ (are ∙ ap (λ (b : Contents). meters_of b named) is)) gives)

-- the meters that the options name
pub gives_up_in : (options : GiveUpOptions) (named : List MeterRange) (found last : KeptHead FileDevice) (at : ℕ) (rows : List Ended) (lacking : List ℕ) → named ≡ options.meters.items
    → (book_of found).head ≡ options.head → GivesUpAll (head_of found) (meters_of (book_of found) named) at rows lacking (head_of last) → GivesUpIn options rows lacking
gives_up_in options named found last at rows lacking same number gives = record {
  found = found;
  number = number;
  at = at;
  last = last;
  gives_up = subst (λ (l : List MeterRange). GivesUpAll (head_of found) (meters_of (book_of found) l) at rows lacking (head_of last)) same gives;
}

-- what is said of it
pub has_given_up : (options : GiveUpOptions) (gave : GaveUp) (rows : List Ended) (lacking left : List ℕ) → GivesUpIn options rows lacking → left ≡ lacking → Says left gave
    → HasGivenUp options gave
has_given_up options gave rows lacking left given same says = record {
  rows = rows;
  lacking = lacking;
  given = given;
  says = subst (λ (l : List ℕ). Says l gave) same says;
}
