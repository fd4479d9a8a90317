-- The rows of a book, beside what meters claimed.
use Rattle.std.proofs.Common.{◌≡◌, ◌<◌, ℕ, zero, suc, true, false, List, [], ◌∷◌, take, refl, sym, ap, subst, ◌∙◌, arith, length}
use Rattle.std.specs.Prelude.{◌==◌, ◌≢◌, All, Contains}
use Rattle.std.specs.List.{list_any}
use Rattle.std.proofs.lemmas.Bool.{false≢true, or_left, or_right}
use Rattle.std.proofs.lemmas.Bool.Decides.{Decides-eqb}
use Rattle.std.proofs.lemmas.List.Elements.{All-weaker}
use Rattle.fw_names.specs.Name.{Name}
use Rattle.fw_book.specs.Contents.{Contents, Offered}
use Rattle.fw_book.specs.declared.row.Row.{Row}
use Rattle.fw_audit.specs.Log.{Item}
use Rattle.fw_fleet_audit.specs.Rows.{AreBorneOut, AreRowsBorneOut, Audited, HasSwitched, IsBorneOut, IsRowDeparture, Lacks, offered_name}
use Rattle.fw_fleet_audit.specs.declared.error.RowDeparture.{RowDeparture}
use Rattle.fw_fleet_audit.specs.declared.error.RowRule.{RowRule}
use Rattle.fw_fleet_audit.specs.declared.error.RowRule.TheVariants as lacking
use Rattle.fw_head_audit.specs.Heads.{AreClaimed, AreRowsClaimed, HasClaimed, IsClaimedRow, IsFirstNotClaimed, IsHeadLog, IsOrderly, IsRefused}
use Rattle.fw_head_audit.specs.Laws.{HeadDeparts, OfferedInBook}
use Rattle.fw_head_audit.specs.Private.{AreClaimants}
use Rattle.fw_head_audit.specs.declared.error.HeadAuditError.{HeadAuditError}
use Rattle.fw_head_audit.specs.declared.error.HeadAuditError.TheVariants as errors
use Rattle.fw_head_audit.specs.declared.meter.AskedMeter.{AskedMeter}
use Rattle.fw_head_audit.proofs.Lists.{all_got}

any_in : (meters : List Audited) (meter : ℕ) (a : Audited) → Contains meters a → a.meter ≡ meter → list_any (λ (x : Audited). x.meter == meter) meters ≡ true
any_in [] meter a (k, inside, is) own = absurd (omega arith)
any_in (x ∷ meters) meter a (zero, inside, is) own = or_left _ _ ((Decides-eqb x.meter meter).1 (ap (λ (y : Audited). y.meter) is ∙ own))
any_in (x ∷ meters) meter a (suc k, inside, is) own = or_right _ _ (any_in meters meter a (k, omega arith, is) own)

lacks_none : (meters : List Audited) (meter : ℕ) (name : Name) (rule : RowRule) → Lacks meters meter name rule → HasSwitched meters meter name → ⊥
lacks_none meters meter name lacking.NotAudited none (a, there, (own, has)) = false≢true (sym none ∙ any_in meters meter a there own)
lacks_none meters meter name lacking.DoneNotActivated (some, never) has = never has

module _ (meters : List AskedMeter) (log : List Item) (all : List Audited) (same : AreClaimants meters log all) where
  row_claimed : (name : Name) (row : Row) → IsBorneOut all name row → IsClaimedRow meters log name row
  row_claimed name row borne done = (same row.meter name).0 (borne done)

  rows_claimed : (book : Contents) (entry : ℕ × Offered) → AreRowsBorneOut all book.head entry → AreRowsClaimed book meters log entry
  rows_claimed book entry borne =
      All-weaker (IsBorneOut all (offered_name book.head entry)) (IsClaimedRow meters log (offered_name book.head entry)) (row_claimed (offered_name book.head entry)) entry.1.rows borne

  pub are_claimed : (book : Contents) → AreBorneOut book all → AreClaimed book meters log
  are_claimed book borne = All-weaker (AreRowsBorneOut all book.head) (AreRowsClaimed book meters log) (rows_claimed book) book.campaigns borne

  pub first_not_claimed : (book : Contents) (d : RowDeparture) → IsRowDeparture book all d → IsFirstNotClaimed book meters log (record { campaign = d.campaign; meter = d.meter })
  first_not_claimed book d departs =
      let name : Name = offered_name book.head departs.entry in
      let first = departs.first in
      record {
        at = departs.at;
        before = All-weaker (AreRowsBorneOut all book.head) (AreRowsClaimed book meters log) (rows_claimed book) (take departs.at book.campaigns) departs.before;
        entry = departs.entry;
        there = departs.there;
        own = departs.own;
        first = record {
          at = first.at;
          before = All-weaker (IsBorneOut all name) (IsClaimedRow meters log name) (row_claimed name) (take first.at departs.entry.1.rows) first.before;
          row = first.row;
          there = first.there;
          done = first.done;
          own = first.own;
          lacks = λ (h : HasClaimed meters log d.meter name). lacks_none all d.meter name d.rule first.lacks ((same d.meter name).1 h);
        };
      }

pub head_departs : HeadDeparts
head_departs book meters log (errors.NotOffered at) refused other is = refused.departs (all_got (IsOrderly book meters) log at refused.item refused.there is.sends)
head_departs book meters log (errors.NotClaimed row) (sends, d) other is =
    let name : Name = offered_name book.head d.entry in
    let rows = all_got (AreRowsClaimed book meters log) book.campaigns d.at d.entry d.there is.done in
    let claimed : HasClaimed meters log d.first.row.meter name = all_got (IsClaimedRow meters log name) d.entry.1.rows d.first.at d.first.row d.first.there rows d.first.done in
    d.first.lacks (subst (λ (m : ℕ). HasClaimed meters log m name) d.first.own claimed)
head_departs book meters log errors.OutOfMemory refused other is = other refl

pub offered_in_book : OfferedInBook
offered_in_book book meters to datagram (meter, asked, o) = record {
  campaign = o.campaign;
  offer = o.offer;
  offered = o.offered;
  is_release = o.is_release;
  permitted = o.permitted;
}
