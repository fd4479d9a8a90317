-- A head end that is put together of its own parts.
use Rattle.std.proofs.Common.{◌≡◌, ℕ, not, false, List, [], ◌∷◌, refl, sym, ap, ◌∙◌}
use Rattle.std.specs.List.{AllByRecursion}
use Rattle.std.specs.Map.{values_of}
use Rattle.std.proofs.lemmas.Bool.{cond-true}
use Rattle.fw_book.specs.Contents.{Contents}
use Rattle.fw_head.specs.declared.stage.Stage.{Stage}
use Rattle.fw_head.specs.declared.stage.Stage.TheVariants.{Done, Failed}
use Rattle.fw_head.specs.Phase.{IsLive, has_ended}
use Rattle.fw_head.specs.Row.{Row}
use Rattle.fw_head.specs.Head.{Head, Rows, IsHead, row_of}
use Rattle.fw_head.specs.Parts.{by_meter, AreLiveRows, still_live, with_ends}
use Rattle.fw_head.specs.Laws.{PutBack, PutBackInOrder}
use Rattle.fw_head.proofs.ByMeter.{all_from, once_from, same_rows, taken_live}
use Rattle.fw_head.proofs.Joined.{end_none}

abbrev Going : Row → Type 0
Going row = has_ended row.stage ≡ false

not_ended : (stage : Stage) → IsLive stage → has_ended stage ≡ false
not_ended (Done claim) live = absurd live
not_ended (Failed why) live = absurd live
not_ended stage live = refl

-- if no row ended, none is marked
ends_none : (book : Contents) (rows : List Row) → AllByRecursion Going rows → with_ends book rows ≡ book
ends_none book [] going = refl
ends_none book (row ∷ rows) going =
    ap (λ (b : Contents). with_ends b rows) (end_none book row.name.campaign.serial row.client.meter row.stage going.0)
    ∙ ends_none book rows going.1

-- and all are live
all_stay : (rows : List Row) → AllByRecursion Going rows → still_live (by_meter rows) ≡ by_meter rows
all_stay [] going = refl
all_stay (row ∷ rows) going =
    let kept : Rows = (row.client.meter, row) ∷ still_live (by_meter rows) in
    cond-true (not (has_ended row.stage)) kept (still_live (by_meter rows)) (ap not going.0)
    ∙ ap (λ (es : Rows). (let all : Rows = (row.client.meter, row) ∷ es in all)) (all_stay rows going.1)

all_going : (head : Head) (rows : List Row) → IsHead head → AreLiveRows head.book rows → ((meter : ℕ) → row_of (by_meter rows) meter ≡ row_of head.rows meter) → AllByRecursion Going rows
all_going head rows is are same =
    all_from Going rows (once_from head.book rows are) (λ m row found. not_ended row.stage (is.of_book m row (sym (same m) ∙ found)).going)

pub put_back : PutBack
put_back head rows is are same =
    let going = all_going head rows is are same in
    record {
      book = ends_none head.book rows going;
      width = refl;
      rows = λ m. ap (λ (es : Rows). row_of es m) (all_stay rows going) ∙ same m;
    }

pub put_back_in_order : PutBackInOrder
put_back_in_order head is =
    let rows = values_of head.rows in
    let own = same_rows head.book head.rows is in
    let going = all_going head rows is (taken_live head.book head.width head.rows is) (λ m. ap (λ (es : Rows). row_of es m) own) in
    ap (λ (b : Contents). (let h : Head = record { book = b; width = head.width; rows = still_live (by_meter rows) } in h)) (ends_none head.book rows going)
    ∙ ap (λ (es : Rows). (let h : Head = record { book = head.book; width = head.width; rows = es } in h)) (all_stay rows going ∙ own)
