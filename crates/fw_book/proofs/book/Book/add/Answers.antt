use Rattle.std.proofs.Common.{◌≡◌, nat_eq, ◌||◌, List, ℕ, [], ◌∷◌, ◌++◌, ap, sym, subst, ◌∙◌}
use Rattle.indexmap.specs.IndexMap.{insert_entry}
use Rattle.indexmap.proofs.CallerLemmas.{insert_entry-new}
use Rattle.fw_book.specs.declared.row.Row.{Row}
use Rattle.fw_book.specs.Rows.{is_live_in}
use Rattle.fw_book.specs.Contents.{Offered, Contents, is_busy, IsBook}
use Rattle.fw_book.specs.Changes.{added}
use Rattle.fw_book.specs.Private.{Admits}
use Rattle.fw_book.proofs.Books.{IsBook-added, none_from}
use Rattle.fw_book.proofs.Busy.{busy_added}
use Rattle.fw_book.proofs.book.Book.add.Goals as goal

admits : (c : goal.Joined-branch-4) → Admits (record { head = c.self.inside.head; campaigns = c.self.inside.campaigns.entries }) c.args.serial c.args.offer
admits c = subst (λ (b : Contents). Admits b c.args.serial c.args.offer) (sym c.self.view_is) c.requires

entries : (c : goal.Joined-branch-4) → c.insert.new.self.entries ≡ c.self.inside.campaigns.entries ++ (c.args.serial, c.args.offer) ∷ []
entries c =
    c.in_ok-insert.ensures.entries
    ∙ ap (λ (es : List (ℕ × Offered)). insert_entry nat_eq es c.args.serial c.args.offer) c.reserve.ensures.entries
    ∙ insert_entry-new nat_eq c.self.inside.campaigns c.args.serial c.args.offer (none_from _ (admits c).serial_new)

is_book : (c : goal.Joined-branch-4) → IsBook (record { head = c.self.inside.head; campaigns = c.insert.new.self.entries })
is_book c =
    let book : Contents = record { head = c.self.inside.head; campaigns = c.self.inside.campaigns.entries } in
    let with_campaigns : List (ℕ × Offered) → Contents = λ es. record { head = c.self.inside.head; campaigns = es } in
    subst (λ (es : List (ℕ × Offered)). IsBook (with_campaigns es)) (sym (entries c)) (IsBook-added book c.args.serial c.args.offer c.self.invariant.is_book (admits c))

pub invariant_of-self-2 : goal.invariant_of-self-2
invariant_of-self-2 c = record {
  is_book = is_book c;
  are_live = λ m.
      c.in_ok-add.ensures.added m
      ∙ ap (λ b. b || is_live_in c.rows.result.now m) (c.self.invariant.are_live m)
      ∙ ap (λ (rows : List Row). is_busy c.self.inside.campaigns.entries m || is_live_in rows m) c.rows.ensures
      ∙ sym (busy_added c.self.inside.campaigns.entries c.args.serial c.args.offer m)
      ∙ ap (λ (es : List (ℕ × Offered)). is_busy es m) (sym (entries c));
}

pub returns-clause-ok : goal.returns-clause-ok
returns-clause-ok c =
    let with_campaigns : List (ℕ × Offered) → Contents = λ es. record { head = c.self.inside.head; campaigns = es } in
    ap with_campaigns (entries c) ∙ ap (λ (b : Contents). added b c.args.serial c.args.offer) c.self.view_is

pub returns-clause-book : goal.returns-clause-book
returns-clause-book c = is_book c
