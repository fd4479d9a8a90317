use Rattle.std.proofs.Common.{◌≡◌, ℕ, nat_eq, not, ◌&&◌, List, Some, sym, ap, subst, ◌∙◌}
use Rattle.std.specs.Map.{lookup}
use Rattle.std.specs.Option.{option_copied_mut}
use Rattle.fw_book.specs.declared.row.Row.{Row}
use Rattle.fw_book.specs.Rows.{is_live_in, cancelled_rows}
use Rattle.fw_book.specs.Contents.{Offered, Contents, is_busy, IsBook}
use Rattle.fw_book.specs.Changes.{at_serial, cancelled}
use Rattle.fw_book.proofs.Books.{IsBook-changed, Keeps-cancelled, changed_entries}
use Rattle.fw_book.proofs.Busy.{busy_cancelled}
use Rattle.fw_book.proofs.book.Book.cancel.Goals as goal

found : (c : goal.After-self-in-Some-1) → lookup (nat_eq c.args.campaign.serial) c.self.inside.campaigns.entries ≡ Some c.in-Some.offer.now
found c =
    subst (λ (s : ℕ). lookup (nat_eq s) c.self.inside.campaigns.entries ≡ Some c.in-Some.offer.now) c.serial.ensures
    (sym c.get_mut.ensures.value ∙ ap option_copied_mut c.in-Some.is)

-- the campaign's rows are changed, and nothing else is
changes : (c : goal.After-self-in-Some-1) → (c.get_mut.follows.lender c.cancel.new.self).entries ≡ at_serial c.args.campaign.serial cancelled_rows c.self.inside.campaigns.entries
changes c =
    changed_entries c.serial.result cancelled_rows c.self.inside.campaigns.entries (c.get_mut.follows.lender c.cancel.new.self).entries
    c.in-Some.offer.now c.cancel.new.self (sym c.get_mut.ensures.value ∙ ap option_copied_mut c.in-Some.is) c.cancel.ensures (c.get_mut.follows.holds c.cancel.new.self).0
    ∙ ap (λ (s : ℕ). at_serial s cancelled_rows c.self.inside.campaigns.entries) c.serial.ensures

pub invariant_of-self : goal.invariant_of-self
invariant_of-self c =
    let book : Contents = record { head = c.self.inside.head; campaigns = c.self.inside.campaigns.entries } in
    let with_campaigns : List (ℕ × Offered) → Contents = λ es. record { head = c.self.inside.head; campaigns = es } in
    record {
      is_book = subst (λ (es : List (ℕ × Offered)). IsBook (with_campaigns es)) (sym (changes c)) (IsBook-changed book c.args.campaign.serial cancelled_rows Keeps-cancelled c.self.invariant.is_book);
      are_live = λ m.
          c.remove_rows.ensures m
          ∙ ap (λ b. b && not (is_live_in c.rows.result.now m)) (c.self.invariant.are_live m)
          ∙ ap (λ (rows : List Row). is_busy book.campaigns m && not (is_live_in rows m)) c.rows.ensures
          ∙ sym (busy_cancelled c.args.campaign.serial c.in-Some.offer.now book.campaigns c.self.invariant.is_book.apart (found c) m)
          ∙ ap (λ (es : List (ℕ × Offered)). is_busy es m) (sym (changes c));
    }

pub returns-in-Some-clause-cancelled : goal.returns-in-Some-clause-cancelled
returns-in-Some-clause-cancelled c =
    let with_campaigns : List (ℕ × Offered) → Contents = λ es. record { head = c.self.inside.head; campaigns = es } in
    ap with_campaigns (changes c) ∙ ap (λ (b : Contents). cancelled b c.args.campaign.serial) c.self.view_is
