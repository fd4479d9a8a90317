use Rattle.std.proofs.Common.{◌≡◌, ℕ, nat_eq, not, ◌&&◌, List, Some, None, sym, ap, subst, ◌∙◌}
use Rattle.std.specs.Map.{lookup}
use Rattle.std.specs.Option.{option_copied_mut}
use Rattle.fw_book.specs.declared.book.Book.TheInside.{Inside}
use Rattle.fw_book.specs.declared.live.LiveMeters.{LiveMeters}
use Rattle.fw_book.specs.declared.row.RowState.TheVariants.{Live}
use Rattle.fw_book.specs.Rows.{with_state}
use Rattle.fw_book.specs.Contents.{Offered, Contents, state_in, is_busy, IsBook}
use Rattle.fw_book.specs.Changes.{at_serial, marked}
use Rattle.fw_book.specs.Private.{has_live_meter}
use Rattle.fw_book.proofs.Books.{IsBook-changed, Keeps-with_state, at_serial-none, changed_entries, same_contents}
use Rattle.fw_book.proofs.Busy.{busy_marked}
use Rattle.fw_book.proofs.book.Book.mark.Goals.{in-Some, in_default}
use Rattle.fw_book.proofs.book.Book.mark.Goals as goal

-- the campaign's rows are changed, and nothing else is
changes : (c : goal.Joined-get_mut) → (c.match-get_mut.self-inside.head ≡ c.self.inside.head) × (c.match-get_mut.self-inside.campaigns.entries ≡ at_serial c.serial.result (with_state c.args.meter c.args.state) c.self.inside.campaigns.entries)
changes c = elim c.match-get_mut.branch [
  | in-Some w ↦
      let found : lookup (nat_eq c.serial.result) c.self.inside.campaigns.entries ≡ Some w.in-Some.offer.now =
      sym c.get_mut.ensures.value ∙ ap option_copied_mut w.in-Some.is in (
        ap (λ (i : Inside). i.head) w.self-inside-is,
        ap (λ (i : Inside). i.campaigns.entries) w.self-inside-is
            ∙ changed_entries c.serial.result (with_state c.args.meter c.args.state) c.self.inside.campaigns.entries (c.get_mut.follows.lender w.mark.new.self).entries
            w.in-Some.offer.now w.mark.new.self found w.mark.ensures (c.get_mut.follows.holds w.mark.new.self).0,
      )
  | in_default w ↦
      let absent : lookup (nat_eq c.serial.result) c.self.inside.campaigns.entries ≡ None =
      sym c.get_mut.ensures.value ∙ ap option_copied_mut w.in_default.is in (
        ap (λ (i : Inside). i.head) w.self-inside-is,
        ap (λ (i : Inside). i.campaigns.entries) w.self-inside-is
            ∙ ap (λ m. m.entries) c.get_mut.follows.holds-at-none
            ∙ sym (at_serial-none c.serial.result (with_state c.args.meter c.args.state) c.self.inside.campaigns.entries absent),
      )
]

-- the meter is taken out
taken_out : (c : goal.Joined-get_mut) → c.match-get_mut.self-inside.live ≡ c.remove.new.self
taken_out c = elim c.match-get_mut.branch [
  | in-Some w ↦ ap (λ (i : Inside). i.live) w.self-inside-is
  | in_default w ↦ ap (λ (i : Inside). i.live) w.self-inside-is
]

pub invariant_of-self : goal.invariant_of-self
invariant_of-self c =
    let book : Contents = record { head = c.self.inside.head; campaigns = c.self.inside.campaigns.entries } in
    let e = changes c in
    record {
      is_book = subst (λ (b : Contents). IsBook b) (sym (same_contents _ _ _ _ e.0 e.1)) (IsBook-changed book c.serial.result (with_state c.args.meter c.args.state) (Keeps-with_state c.args.meter c.args.state c.requires.ends) c.self.invariant.is_book);
      are_live = λ m.
          let live : state_in book c.args.campaign c.args.meter ≡ Some Live = subst (λ (b : Contents). state_in b c.args.campaign c.args.meter ≡ Some Live) (sym c.self.view_is) c.requires.live in
          let campaigns : c.match-get_mut.self-inside.campaigns.entries ≡ at_serial c.args.campaign.serial (with_state c.args.meter c.args.state) book.campaigns =
          e.1 ∙ ap (λ (s : ℕ). at_serial s (with_state c.args.meter c.args.state) book.campaigns) c.serial.ensures in
          ap (λ (l : LiveMeters). has_live_meter l m) (taken_out c) ∙ c.remove.ensures m
          ∙ ap (λ b. b && not (nat_eq c.args.meter m)) (c.self.invariant.are_live m)
          ∙ sym (busy_marked book c.args.campaign c.args.meter c.args.state c.self.invariant.is_book c.requires.ends live m)
          ∙ ap (λ (es : List (ℕ × Offered)). is_busy es m) (sym campaigns);
    }

pub returns : goal.returns
returns c =
    let e = changes c in
    same_contents _ _ _ _ e.0 (e.1 ∙ ap (λ (s : ℕ). at_serial s (with_state c.args.meter c.args.state) c.self.inside.campaigns.entries) c.serial.ensures)
    ∙ ap (λ (b : Contents). marked b c.args.campaign.serial c.args.meter c.args.state) c.self.view_is
