use Rattle.std.proofs.Common.{rules, ◌≡◌, ◌≤◌, ◌++◌, ℕ, List, [], ◌∷◌, flat_map, sym, ap, subst, ◌∙◌, append_assoc}
use Rattle.std.specs.List.{AllByRecursion}
use Rattle.fw_names.specs.Name.{Campaign}
use Rattle.fw_book.specs.declared.row.Row.{Row}
use Rattle.fw_book.specs.Contents.{Offered, IsEntry}
use Rattle.fw_rows.specs.Noted.{Noted, noted_entry, noted_of_campaign}
use Rattle.fw_rows.proofs.noted.push_noted.Goals as goal

abbrev Numbered : List (ℕ × Offered) → Type 0
Numbered entries = AllByRecursion (λ (entry : ℕ × Offered). 1 ≤ entry.0) entries

-- the campaigns of a book are numbered from 1 on
numbered : (entries : List (ℕ × Offered)) → AllByRecursion (λ (entry : ℕ × Offered). IsEntry entry) entries → Numbered entries
numbered [] all = tt
numbered (entry ∷ entries) all = (all.0.serial_begins, numbered entries all.1)

pub campaign-requires : goal.campaign-requires
campaign-requires c =
    let entry : ℕ × Offered = (c.in-Some.serial.now, c.in-Some.offer.now) in
    let rest : List (ℕ × Offered) = c.next.new.self in
    let next : c.loop-serial.serial-iterator ≡ entry ∷ rest = search (c.in-Some.ensures.steps) in
    (subst (λ (l : List (ℕ × Offered)). Numbered l) next c.loop-serial.invariant.numbered).0

pub loop-serial-init : goal.loop-serial-init
loop-serial-init c =
    let all = numbered c.args.book.now.campaigns c.head-head.ensures.book.entries in
    record { numbered = search (rules, all); rows = search rules }

pub loop-serial-preserved : goal.loop-serial-preserved
loop-serial-preserved c =
    let i = c.loop-serial.invariant in
    let book = c.args.book.now in
    let notes = c.args.notes.now in
    let entry : ℕ × Offered = (c.in-Some.serial.now, c.in-Some.offer.now) in
    let rest : List (ℕ × Offered) = c.next.new.self in
    let next : c.loop-serial.serial-iterator ≡ entry ∷ rest = search (c.in-Some.ensures.steps) in
    let own : Campaign = record { head = book.head; serial = entry.0 } in
    let is : c.campaign.result ≡ own = c.campaign.ensures ∙ ap (λ (h : ℕ). (let k : Campaign = record { head = h; serial = entry.0 } in k)) c.head-head.ensures.value in
    let items = c.loop-serial.rows.items in
    let others = flat_map (λ (e : ℕ × Offered). noted_of_campaign notes book.head e) rest in
    let pushed : c.push_rows.new.rows.items ≡ items ++ noted_of_campaign notes book.head entry =
    c.in_ok-push_rows.ensures ∙ ap (λ (k : Campaign). items ++ flat_map (λ (row : Row). noted_entry notes k row) c.rows.result.now) is
    ∙ ap (λ (rows : List Row). items ++ flat_map (λ (row : Row). noted_entry notes own row) rows) c.rows.ensures in
    record {
      numbered = (subst (λ (l : List (ℕ × Offered)). Numbered l) next i.numbered).1;
      rows = ap (λ (l : List Noted). l ++ others) pushed ∙ append_assoc items (noted_of_campaign notes book.head entry) others
          ∙ ap (λ (l : List (ℕ × Offered)). items ++ flat_map (λ (e : ℕ × Offered). noted_of_campaign notes book.head e) l) (sym next) ∙ i.rows;
    }
