-- A capture as far as it was read, one record after another.
use Rattle.std.proofs.Common.{◌≡◌, ◌+◌, ◌-◌, ◌≤◌, ℕ, suc, List, [], ◌∷◌, ◌++◌, length, Option, Some, None, Ok, Err, inr, refl, sym, ap, subst, ◌∙◌, append_assoc, append-nil, length-append, length-drop, arith}
use Rattle.std.specs.Prelude.{Result, IsSome, option_to_list}
use Rattle.std.proofs.lemmas.List.{map-append}
use Rattle.fw_capture.specs.declared.fault.CaptureError.{CaptureError}
use Rattle.fw_capture.specs.declared.packet.Packet.{Packet}
use Rattle.fw_capture.specs.Place.{Place}
use Rattle.fw_capture.specs.Reading.{record_at}
use Rattle.fw_capture.specs.Steps.{OpensAs, NextGives, after}
use Rattle.fw_capture.specs.View.{Told, told_in}
use Rattle.fw_capture.proofs.Wholeness.{sized}
use Rattle.fw_audit.specs.Log.{Item, item_of, log_of}
use Rattle.fw_audit.specs.declared.item.LogItem.{LogItem}
use Rattle.fw_evidence.specs.Captures.{AllSay, IsLogOf, IsNoLog, IsReadTo, Passes, mark_at, marks_of}
use Rattle.fw_evidence.specs.Entries.{Entry, entries_at, entries_of, entry_of}
use Rattle.fw_evidence.specs.Private.{IsStrayAt, Takes, entries_in, marks_in}
use Rattle.fw_evidence.specs.declared.error.LogError.{LogError}
use Rattle.fw_evidence.specs.declared.error.LogError.TheVariants as errors
use Rattle.fw_evidence.specs.declared.error.Mark.{Mark}
use Rattle.fw_evidence.specs.declared.error.Stray.{Stray}
use Rattle.fw_evidence.specs.declared.site.Site.{Site}

-- ---- records, entries and marks

passes_more : (start place : Place) (records : List (ℕ × Told)) (time size where_it_is : ℕ) (told : Told) → Passes start records place
    → record_at place.format place.rest ≡ Ok (time, told, size) → where_it_is ≡ place.offset → Passes start (records ++ (where_it_is, told) ∷ []) (after size place)
passes_more start place [] time size where_it_is told here is at = (
  time,
  size,
  subst (λ (p : Place). record_at p.format p.rest ≡ Ok (time, told, size)) here is,
  at ∙ ap (λ (p : Place). p.offset) here,
  ap (λ (p : Place). after size p) here,
)
passes_more start place (r ∷ records) time size where_it_is told h is at =
    (h.0, h.1, h.2, h.3, passes_more (after h.1 start) place records time size where_it_is told h.4 is at)

say_more : (site : Site) (n m : ℕ) (records : List (ℕ × Told)) (entries one : List Entry) (marks : List Mark) (where_it_is : ℕ) (told : Told) → m ≡ n + length records
    → entries_at site told ≡ Ok one → AllSay site n records entries marks
    → AllSay site n (records ++ (where_it_is, told) ∷ []) (entries ++ one) (marks ++ marks_of (mark_at m where_it_is) one)
say_more site n m [] entries one marks where_it_is told count is h =
    let same : m ≡ n = omega arith in (
      one,
      [],
      [],
      is,
      (refl, refl),
      ap (λ (l : List Entry). l ++ one) h.0 ∙ sym (append-nil one),
      ap (λ (l : List Mark). l ++ marks_of (mark_at m where_it_is) one) h.1
          ∙ ap (λ (k : ℕ). marks_of (mark_at k where_it_is) one) same
          ∙ sym (append-nil (marks_of (mark_at n where_it_is) one)),
    )
say_more site n m (r ∷ records) entries one marks where_it_is told count is h =
    let more : m ≡ (n + 1) + length records = omega arith in (
      h.0,
      h.1 ++ one,
      h.2 ++ marks_of (mark_at m where_it_is) one,
      h.3,
      say_more site (n + 1) m records h.1 one h.2 where_it_is told more is h.4,
      ap (λ (l : List Entry). l ++ one) h.5 ∙ append_assoc h.0 h.1 one,
      ap (λ (l : List Mark). l ++ marks_of (mark_at m where_it_is) one) h.6
          ∙ append_assoc (marks_of (mark_at n r.0) h.0) h.2 (marks_of (mark_at m where_it_is) one),
    )

entries_more : (items : List LogItem) (item : Option LogItem) → entries_of (log_of (items ++ option_to_list item)) ≡ entries_of (log_of items) ++ entries_in item
entries_more items None = ap (λ (l : List LogItem). entries_of (log_of l)) (append-nil items) ∙ sym (append-nil (entries_of (log_of items)))
entries_more items (Some item) =
    ap (λ (l : List Item). entries_of l) (map-append item_of items (item ∷ []))
    ∙ map-append entry_of (log_of items) (item_of item ∷ [])

marks_are : (mark : Mark) (item : Option LogItem) → marks_in mark item ≡ marks_of mark (entries_in item)
marks_are mark None = refl
marks_are mark (Some item) = refl

-- a record that says something says an item
pub says_item : (said : Result (List Entry) Stray) (item : Option LogItem) → said ≡ Ok (entries_in item) → IsSome item → (entry : Entry) × (said ≡ Ok (entry ∷ []))
says_item said None is some = absurd cc
says_item said (Some item) is some = (entry_of (item_of item), is)

-- each entry has its mark
marked : (mark : Mark) (entries : List Entry) → length (marks_of mark entries) ≡ length entries
marked mark [] = refl
marked mark (entry ∷ entries) = ap suc (marked mark entries)

pub same_size : (site : Site) (n : ℕ) (records : List (ℕ × Told)) (entries : List Entry) (marks : List Mark) → AllSay site n records entries marks → length marks ≡ length entries
same_size site n [] entries marks h = ap (λ (l : List Mark). length l) h.1 ∙ sym (ap (λ (l : List Entry). length l) h.0)
same_size site n (r ∷ records) entries marks h =
    let later = same_size site (n + 1) records h.1 h.2 h.4 in
    let mark : Mark = mark_at n r.0 in
    ap (λ (l : List Mark). length l) h.6 ∙ length-append (marks_of mark h.0) h.2 ∙ ap (λ (k : ℕ). k + length h.2) (marked mark h.0) ∙ ap (λ (k : ℕ). length h.0 + k) later
    ∙ sym (length-append h.0 h.1) ∙ sym (ap (λ (l : List Entry). length l) h.5)

-- ---- one record after another

pub begins : (site : Site) (capture : List ℕ) (first : Place) (items : List LogItem) (marks : List Mark) → OpensAs capture (Ok first) → items ≡ [] → marks ≡ []
    → IsReadTo site capture 0 first (entries_of (log_of items)) marks
begins site capture first items marks opens none unmarked = record {
  first = first;
  opens = opens;
  records = [];
  passes = refl;
  counted = refl;
  say = (ap (λ (l : List LogItem). entries_of (log_of l)) none, unmarked);
}

pub rest_within : (capture : List ℕ) (first : Place) → OpensAs capture (Ok first) → 0 + length first.rest ≤ length capture
rest_within capture first opens =
    let size : length first.rest ≡ length capture - 24 = ap (λ (l : List ℕ). length l) opens.1 ∙ length-drop 24 capture in
    omega (arith, size)

-- what `next` gives, by the pattern that it is taken apart by
pub some_next : (old new : Place) (next : Option Packet) (p : Packet) → next ≡ Some p → NextGives old new (Ok next) → NextGives old new (Ok (Some p))
some_next old new next p is gives = subst (λ (n : Option Packet). NextGives old new (Ok n)) is gives

pub no_next : (old new : Place) (next : Option Packet) → next ≡ None → NextGives old new (Ok next) → old.rest ≡ []
no_next old new next is gives =
    let none : NextGives old new (Ok None) = subst (λ (n : Option Packet). NextGives old new (Ok n)) is gives in
    none.0

pub goes_on : (site : Site) (capture : List ℕ) (n : ℕ) (old new : Place) (p : Packet) (mark : Mark) (items more : List LogItem) (marks longer : List Mark)
    → IsReadTo site capture n old (entries_of (log_of items)) marks → NextGives old new (Ok (Some p)) → mark ≡ mark_at n p.offset
    → Takes site mark (told_in p.content) items marks more longer → IsReadTo site capture (n + 1) new (entries_of (log_of more)) longer
goes_on site capture n old new p mark items more marks longer read gives is takes =
    let told : Told = told_in p.content in
    let records : List (ℕ × Told) = read.records ++ (p.offset, told) ∷ [] in
    let one : List Entry = entries_in takes.item in
    let entries_are : entries_of (log_of more) ≡ entries_of (log_of items) ++ one =
    ap (λ (l : List LogItem). entries_of (log_of l)) takes.items_are ∙ entries_more items takes.item in
    let longer_is : longer ≡ marks ++ marks_of (mark_at n p.offset) one =
    takes.marks_are ∙ ap (λ (l : List Mark). marks ++ l) (marks_are mark takes.item) ∙ ap (λ (k : Mark). marks ++ marks_of k one) is in
    let said = say_more site 0 n read.records (entries_of (log_of items)) one marks p.offset told (omega (arith, read.counted)) takes.says read.say in
    record {
      first = read.first;
      opens = read.opens;
      records = records;
      passes = subst (λ (q : Place). Passes read.first records q) (sym gives.3)
          (passes_more read.first old read.records p.nanoseconds gives.0 p.offset told read.passes gives.1 gives.2);
      counted = omega (arith, read.counted, length-append read.records ((p.offset, told) ∷ []));
      say = subst (λ (e : List Entry). AllSay site 0 records e longer) (sym entries_are)
          (subst (λ (m : List Mark). AllSay site 0 records (entries_of (log_of items) ++ one) m) (sym longer_is) said);
    }

pub goes_within : (n limit : ℕ) (old new : Place) (p : Packet) → NextGives old new (Ok (Some p)) → n + length old.rest ≤ limit → n + 1 + length new.rest ≤ limit
goes_within n limit old new p gives within =
    let some = sized old.format old.rest (p.nanoseconds, told_in p.content, gives.0) gives.1 in
    let rest : length new.rest ≡ length old.rest - gives.0 = ap (λ (q : Place). length q.rest) gives.3 ∙ length-drop gives.0 old.rest in
    omega (arith, some.0, some.1, some.2, rest, within)

nil_of : (bytes : List ℕ) → length bytes ≡ 0 → bytes ≡ []
nil_of [] none = refl
nil_of (b ∷ bytes) none = absurd (omega arith)

pub none_left : (n : ℕ) (rest capture : List ℕ) → n + length rest ≤ length capture → length capture ≤ n → rest ≡ []
none_left n rest capture within all = nil_of rest (omega arith)

-- ---- where the reading ends

pub is_log : (site : Site) (capture : List ℕ) (n : ℕ) (last : Place) (items : List LogItem) (marks : List Mark) → IsReadTo site capture n last (entries_of (log_of items)) marks
    → last.rest ≡ [] → IsLogOf site capture (log_of items) marks
is_log site capture n last items marks read ends = record { count = n; last = last; read = read; ends = ends }

pub faulty : (site : Site) (capture : List ℕ) (n : ℕ) (old new : Place) (entries : List Entry) (marks : List Mark) (error : CaptureError) → IsReadTo site capture n old entries marks
    → NextGives old new (Err error) → IsNoLog site capture (errors.Fault error)
faulty site capture n old new entries marks error read gives = inr (record {
  count = n;
  last = old;
  entries = entries;
  marks = marks;
  read = read;
  refused = gives.0;
  place = gives.1;
  more = gives.3;
})

pub strays : (site : Site) (capture : List ℕ) (n : ℕ) (old new : Place) (p : Packet) (mark : Mark) (entries : List Entry) (marks : List Mark) (error : LogError)
    → IsReadTo site capture n old entries marks → NextGives old new (Ok (Some p)) → mark ≡ mark_at n p.offset → IsStrayAt site mark (told_in p.content) error → IsNoLog site capture error
strays site capture n old new p mark entries marks (errors.Fault error) read gives is stray = absurd stray
strays site capture n old new p mark entries marks (errors.Stray there why) read gives is stray =
    let same : there ≡ mark_at n p.offset = stray.0 ∙ is in
    record {
      last = old;
      entries = entries;
      marks = marks;
      read = subst (λ (k : ℕ). IsReadTo site capture k old entries marks) (sym (ap (λ (m : Mark). m.number) same)) read;
      place = ap (λ (m : Mark). m.offset) same ∙ gives.2;
      time = p.nanoseconds;
      told = told_in p.content;
      size = gives.0;
      tells = gives.1;
      none = stray.1;
    }
strays site capture n old new p mark entries marks errors.OutOfMemory read gives is stray = record {
  count = n;
  last = old;
  entries = entries;
  marks = marks;
  read = read;
  time = p.nanoseconds;
  told = told_in p.content;
  size = gives.0;
  tells = gives.1;
  entry = stray.0;
  says = stray.1;
}
