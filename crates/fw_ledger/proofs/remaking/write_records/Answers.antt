use Rattle.std.proofs.Common.{rules, ◌≡◌, ◌<◌, ◌≤◌, ◌^◌, ℕ, List, [], ◌∷◌, ◌++◌, length, arith, refl, sym, ap, subst, ◌∙◌, append_assoc}
use Rattle.fw_blocks.specs.Cuts.{max_image}
use Rattle.fw_names.specs.Name.{Campaign}
use Rattle.fw_book.specs.declared.row.Row.{Row}
use Rattle.fw_book.specs.Contents.{Offered}
use Rattle.fw_ledger.specs.Replay.{IsImage}
use Rattle.fw_ledger.specs.View.{source_of}
use Rattle.fw_ledger.specs.Remade.{campaign_entries, campaign_notes, HaveSerials, Puts}
use Rattle.fw_ledger.proofs.Remade.{entry_in, goes_on}
use Rattle.std.proofs.lemmas.List.{append-nil}
use Rattle.fw_ledger.proofs.Renoted.{Told, nothing_goes, nothing_told, told_on, told_whole, goes_noted}
use Rattle.fw_ledger.proofs.remaking.write_records.Goals as goal

pub campaign-own-requires : goal.campaign-own-requires
campaign-own-requires c =
    let i = c.loop-serial.invariant in
    let entry : ℕ × Offered = (c.in-Some.serial.now, c.in-Some.offer.now) in
    let rest : List (ℕ × Offered) = c.next.new.self in
    let next : c.loop-serial.serial-iterator ≡ entry ∷ rest = search (c.in-Some.ensures.steps) in
    (entry_in c.args.book.now i.front rest c.in-Some.serial.now c.in-Some.offer.now c.head-head.ensures.book (i.split ∙ ap (λ (l : List (ℕ × Offered)). i.front ++ l) next)).is_entry.serial_begins

pub put_campaign-requires-clause-source : goal.put_campaign-requires-clause-source
put_campaign-requires-clause-source c =
    let i = c.loop-serial.invariant in
    let offer = c.in-Some.offer.now in
    let entry : ℕ × Offered = (c.in-Some.serial.now, offer) in
    let rest : List (ℕ × Offered) = c.next.new.self in
    let next : c.loop-serial.serial-iterator ≡ entry ∷ rest = search (c.in-Some.ensures.steps) in
    let is = (entry_in c.args.book.now i.front rest c.in-Some.serial.now offer c.head-head.ensures.book (i.split ∙ ap (λ (l : List (ℕ × Offered)). i.front ++ l) next)).is_entry in
    let ends : length offer.image ≤ max_image = is.image_ends in
    let fits : length offer.image < 2 ^ 32 = omega (arith, ends) in
    c.source-image.ensures.fits (subst (λ (l : List ℕ). length l < 2 ^ 32) (sym c.image.ensures) fits)

pub loop-serial-preserved : goal.loop-serial-preserved
loop-serial-preserved c =
    let i = c.loop-serial.invariant in
    let book = c.args.book.now in
    let notes = c.args.notes.now in
    let serial = c.in-Some.serial.now in
    let offer = c.in-Some.offer.now in
    let entry : ℕ × Offered = (serial, offer) in
    let rest : List (ℕ × Offered) = c.next.new.self in
    let next : c.loop-serial.serial-iterator ≡ entry ∷ rest = search (c.in-Some.ensures.steps) in
    let split = i.split ∙ ap (λ (l : List (ℕ × Offered)). i.front ++ l) next in
    let source = source_of c.source-image.result in
    let shown : c.deref.result.now ≡ c.loop-serial.shown.items = search rules in
    let image : IsImage (record { head = book.head; campaigns = i.front }) source offer.image =
    subst (λ (l : List ℕ). IsImage (record { head = book.head; campaigns = i.front }) source l) c.image.ensures
    (c.source-image.ensures.is_image i.front (entry ∷ rest) split (subst (λ (l : List ℕ). HaveSerials i.front l) (sym shown) i.goes.have)) in
    let campaign : Campaign = record { head = book.head; serial = serial } in
    let own : c.campaign-own.result ≡ campaign = c.campaign-own.ensures.value ∙ ap (λ (h : ℕ). (let k : Campaign = record { head = h; serial = serial } in k)) c.head-head.ensures.value in
    let admits = entry_in book i.front rest serial offer c.head-head.ensures.book split in
    let records = c.loop-serial.records.items in
    let mid = c.put_campaign.new.records.items in
    let later = c.put_notes.new.records.items in
    let first : Puts records mid (campaign_entries campaign offer source) = subst (λ (k : Campaign). Puts records mid (campaign_entries k offer source)) own c.in_ok-put_campaign.ensures in
    let second : Puts mid later (campaign_notes notes campaign offer.rows) =
    subst (λ (rows : List Row). Puts mid later (campaign_notes notes campaign rows)) c.rows.ensures (subst (λ (k : Campaign). Puts mid later (campaign_notes notes k c.rows.result.now)) own c.in_ok-put_notes.ensures) in
    let goes = goes_on c.admitted_opens.ensures book i.front rest serial offer source records mid c.loop-serial.shown.items c.note.new.shown.items c.head-head.ensures.book split i.goes image first c.in_ok-note.ensures in
    record {
      front = i.front ++ entry ∷ [];
      split = split ∙ sym (append_assoc i.front (entry ∷ []) rest);
      goes = goes_noted book i.front serial offer notes mid later c.note.new.shown.items admits goes second;
      told = told_on book.head notes i.front serial offer source records mid later admits.is_entry.meters_fit i.told first second;
    }

pub loop-serial-init : goal.loop-serial-init
loop-serial-init c = record {
  front = [];
  split = search rules;
  goes = nothing_goes c.args.book.now _ _ c.new-records.ensures.items c.new-shown.ensures.items;
  told = nothing_told c.args.book.now.head c.args.notes.now _ c.new-records.ensures.items;
}

pub returns-clause-noted : goal.returns-clause-noted
returns-clause-noted c = λ is.
    let i = c.loop-serial.invariant in
    let book = c.args.book.now in
    let notes = c.args.notes.now in
    let records = c.loop-serial.records.items in
    let none : c.loop-serial.serial-iterator ≡ [] = search rules in
    let all : book.campaigns ≡ i.front = i.split ∙ ap (λ (l : List (ℕ × Offered)). i.front ++ l) none ∙ append-nil i.front in
    told_whole c.notes_say.ensures book notes records is (subst (λ (l : List (ℕ × Offered)). Told book.head notes l records) (sym all) i.told)
