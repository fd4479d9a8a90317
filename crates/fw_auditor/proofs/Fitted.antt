-- What is said of meters, one after another, is what the headline needs.
use Rattle.std.proofs.Common.{◌≡◌, ◌∙◌, ℕ, ◌+◌, ◌<◌, List, [], ◌∷◌, ◌++◌, length, map, take, get_or, Option, None, Some, Result, refl, sym, ap, subst, inl, inr, arith}
use Rattle.std.specs.Prelude.{All, IfOk, option_to_list}
use Rattle.std.specs.List.{AllZip, cons_option, filter_map}
use Rattle.std.specs.Vec.{vec_len}
use Rattle.std.specs.declared.net.socket_addr.SocketAddr.{SocketAddr}
use Rattle.std.proofs.lemmas.List.{take_more}
use Rattle.std.proofs.lemmas.List.Elements.{All-cons, All-map, All-nil, All-weaker, filter_map-append}
use Rattle.std.proofs.lemmas.Result.{IfOk-weaker}
use Rattle.fw_audit.specs.Log.{log_of}
use Rattle.fw_audit.specs.Stands.{IsMeterLog}
use Rattle.fw_book.specs.Contents.{Contents}
use Rattle.fw_evidence.specs.Stores.{IsAtRest}
use Rattle.fw_evidence.specs.declared.error.Mark.{Mark}
use Rattle.fw_evidence.specs.declared.error.StoreRefusal.{StoreRefusal}
use Rattle.fw_evidence.specs.declared.log.Log.{Log}
use Rattle.fw_evidence.specs.declared.site.Site.{Site}
use Rattle.fw_fleet_audit.specs.Laws.{audited_in, HeadlineByLooking, Told}
use Rattle.fw_fleet_audit.specs.Rows.{AreBorneOut, Audited}
use Rattle.fw_fleet_audit.specs.Switches.{AreOffered}
use Rattle.fw_head_audit.specs.declared.meter.AskedMeter.{AskedMeter}
use Rattle.fw_image.specs.Meter.{Image, Meter, reopened}
use Rattle.fw_image.specs.State.{State}
use Rattle.fw_order.specs.Order.{End, HasOrder}
use Rattle.fw_auditor.specs.Keyed.{IsKeyFileOf, IsLogBy}
use Rattle.fw_auditor.specs.Fitting.{AllFit, AreHeadsTold, Began, IsHeadTold, IsTold, IsWholePart, Sited, asked_in, asked_with, end_at, told_in}
use Rattle.fw_auditor.specs.Private.{AreCompared, AreFound, BeginsAs, Counts, CountsEnd, CountsFound, CountsKept, FieldFits, Fit, FitsAs, FitsWith, FleetFits, HasFit, Holds, IsCompared, IsFound, IsFoundSomehow, IsSiteOf, asked_at, beside, end_with, ends_in, undo_in}
use Rattle.fw_auditor.specs.declared.audit.Tally.{Tally}
use Rattle.fw_auditor.specs.declared.field.Meters.{Meters}
use Rattle.fw_auditor.specs.declared.files.FoundStores.{FoundStores}
use Rattle.fw_auditor.specs.declared.files.StoreFiles.{StoreFiles}
use Rattle.fw_auditor.specs.declared.list.Subject.{Subject}
use Rattle.fw_auditor.specs.declared.options.FreshMeter.{FreshMeter}
use Rattle.fw_auditor.specs.declared.verdict.Given.{Given}
use Rattle.fw_auditor.specs.declared.verdict.Verdict.{Verdict}
use Rattle.fw_auditor.specs.declared.verdict.Verdict.TheVariants.{Fits, NotOffered, Unfit}

-- ---- a meter

-- a store is read with the bytes beside it
pub holds_by : (files : StoreFiles) (undo : List ℕ) (r : Result State StoreRefusal) → undo_in files.journal ≡ undo
    → IfOk r (λ (m : State). IsAtRest files.store.items undo m.meter) → IfOk r (λ (m : State). Holds files m.meter)
holds_by files undo r same all =
    IfOk-weaker r (λ (m : State). IsAtRest files.store.items undo m.meter) (λ (m : State). Holds files m.meter)
    (λ m is. subst (λ (u : List ℕ). IsAtRest files.store.items u m.meter) (sym same) is) all

pub fits_by : (given : Given) (subject : Subject) (begin : Meter) (capture : List ℕ) (end : Meter) (log : Log) (marks : List Mark) (images : List Image) (site : Site) (whole : List ℕ) (v : Verdict)
    → IsSiteOf given subject site → IsWholePart capture whole
    → IsLogBy given.options.now.order given.keys.items subject.meter site whole (log_of log.items.items) marks
    → IsMeterLog given.options.now.heads.items (reopened begin) (log_of log.items.items) images end
    → IsCompared given subject log images v → HasFit given subject begin capture end v
fits_by given subject begin capture end log marks images site whole (Fits audited held) own part reads is compared =
    subst (λ (l : Log). Fit given subject begin capture end audited (log_of l.items.items)) (sym compared.2) (record {
      marks = marks;
      images = images;
      site = site;
      whole = whole;
      own = own;
      part = part;
      reads = reads;
      is = is;
      compared = compared.0;
      named = compared.1;
    })
fits_by given subject begin capture end log marks images site whole (NotOffered audited held) own part reads is compared = tt
fits_by given subject begin capture end log marks images site whole Unfit own part reads is compared = tt

pub found_by : (given : Given) (subject : Subject) (stores : FoundStores) (capture : List ℕ) (begin end : Meter) (v : Verdict)
    → BeginsAs given.options.now.fresh given.factory.items stores.began begin → Holds stores.last end
    → HasFit given subject begin capture end v → IsFound given subject stores capture v
found_by given subject stores capture begin end (Fits audited log) begins ends fit = record {
  begin = begin;
  end = end;
  begins = begins;
  ends = ends;
  fit = fit;
}
found_by given subject stores capture begin end (NotOffered audited log) begins ends fit = tt
found_by given subject stores capture begin end Unfit begins ends fit = tt

fits_with : (given : Given) (subject : Subject) (capture : List ℕ) (audited : Audited) (log : Log) → IsFoundSomehow given subject capture (Fits audited log)
    → FitsWith given subject audited (end_with subject.address (log_of log.items.items))
fits_with given subject capture audited log found = record { own = refl; capture = capture; stores = found.0; found = found.1 }

-- ---- one after another

zip_push : (given : Given) (subjects : List Subject) (meters : List Audited) (subject : Subject) (audited : Audited) → AllZip (FitsAs given) subjects meters
    → FitsAs given subject audited → AllZip (FitsAs given) (subjects ++ subject ∷ []) (meters ++ audited ∷ [])
zip_push given [] [] subject audited all fits = (fits, tt)
zip_push given [] (m ∷ ms) subject audited all fits = absurd all
zip_push given (s ∷ ss) [] subject audited all fits = absurd all
zip_push given (s ∷ ss) (m ∷ ms) subject audited all fits = (all.0, zip_push given ss ms subject audited all.1 fits)

counted_as : (given : Given) (subjects : List Subject) (at : ℕ) (subject : Subject) (capture : List ℕ) (v : Verdict) (old new : Tally)
    → at < length subjects → subject ≡ get_or subjects at subject → IsFoundSomehow given subject capture v → Counts old v new
    → (old.departed ≡ 0 → AllZip (FitsAs given) (take at subjects) old.meters.items)
    → new.departed ≡ 0 → AllZip (FitsAs given) (take (at + 1) subjects) new.meters.items
counted_as given subjects at subject capture (Fits audited log) old new inside is found counts before none =
    subst (λ (ms : List Audited). AllZip (FitsAs given) (take (at + 1) subjects) ms) (sym counts.1)
    (subst (λ (ss : List Subject). AllZip (FitsAs given) ss (old.meters.items ++ audited ∷ [])) (sym (take_more subjects at subject inside))
    (zip_push given (take at subjects) old.meters.items (get_or subjects at subject) audited (before (sym counts.0 ∙ none))
    (subst (λ (s : Subject). FitsAs given s audited) is
    (end_with subject.address (log_of log.items.items), fits_with given subject capture audited log found))))
counted_as given subjects at subject capture (NotOffered audited log) old new inside is found counts before none =
    let some : 0 < new.departed = counts in
    absurd (omega (arith, some, none))
counted_as given subjects at subject capture Unfit old new inside is found counts before none =
    let some : 0 < new.departed = counts in
    absurd (omega (arith, some, none))

pub counted : (given : Given) (subjects : List Subject) (at : ℕ) (subject : Subject) (old new : Tally)
    → at < length subjects → subject ≡ get_or subjects at subject → CountsFound given subject old new
    → (old.departed ≡ 0 → AllZip (FitsAs given) (take at subjects) old.meters.items)
    → new.departed ≡ 0 → AllZip (FitsAs given) (take (at + 1) subjects) new.meters.items
counted given subjects at subject old new inside is counts =
    counted_as given subjects at subject counts.capture counts.verdict old new inside is counts.found counts.counts

-- ---- the same with the logs

found_push : (given : Given) (subjects : List Subject) (meters : List Audited) (ends : List End) (subject : Subject) (audited : Audited) (end : End)
    → AreFound given subjects meters ends → FitsWith given subject audited end
    → AreFound given (subjects ++ subject ∷ []) (meters ++ audited ∷ []) (ends ++ end ∷ [])
found_push given [] [] [] subject audited end all fits = (fits, tt)
found_push given [] [] (e ∷ es) subject audited end all fits = absurd all
found_push given [] (m ∷ ms) es subject audited end all fits = absurd all
found_push given (s ∷ ss) [] es subject audited end all fits = absurd all
found_push given (s ∷ ss) (m ∷ ms) [] subject audited end all fits = absurd all
found_push given (s ∷ ss) (m ∷ ms) (e ∷ es) subject audited end all fits = (all.0, found_push given ss ms es subject audited end all.1 fits)

kept_as : (given : Given) (subjects : List Subject) (at : ℕ) (subject : Subject) (capture : List ℕ) (v : Verdict) (old new : Meters)
    → at < length subjects → subject ≡ get_or subjects at subject → IsFoundSomehow given subject capture v → CountsEnd subject old v new
    → (old.departed ≡ 0 → AreFound given (take at subjects) old.audited.items (ends_in old.ends.items))
    → new.departed ≡ 0 → AreFound given (take (at + 1) subjects) new.audited.items (ends_in new.ends.items)
kept_as given subjects at subject capture (Fits audited log) old new inside is found counts before none =
    let end : End = end_with subject.address (log_of log.items.items) in
    let own : FitsWith given subject audited end = fits_with given subject capture audited log found in
    subst (λ (es : List End). AreFound given (take (at + 1) subjects) new.audited.items es) (sym counts.ends_are)
    (subst (λ (ms : List Audited). AreFound given (take (at + 1) subjects) ms (ends_in old.ends.items ++ end ∷ [])) (sym counts.audited_are)
    (subst (λ (ss : List Subject). AreFound given ss (old.audited.items ++ audited ∷ []) (ends_in old.ends.items ++ end ∷ [])) (sym (take_more subjects at subject inside))
    (found_push given (take at subjects) old.audited.items (ends_in old.ends.items) (get_or subjects at subject) audited end (before (sym counts.departed ∙ none))
    (subst (λ (s : Subject). FitsWith given s audited end) is own))))
kept_as given subjects at subject capture (NotOffered audited log) old new inside is found counts before none =
    let some : 0 < new.departed = counts in
    absurd (omega (arith, some, none))
kept_as given subjects at subject capture Unfit old new inside is found counts before none =
    let some : 0 < new.departed = counts in
    absurd (omega (arith, some, none))

pub kept : (given : Given) (subjects : List Subject) (at : ℕ) (subject : Subject) (old new : Meters)
    → at < length subjects → subject ≡ get_or subjects at subject → CountsKept given subject old new
    → (old.departed ≡ 0 → AreFound given (take at subjects) old.audited.items (ends_in old.ends.items))
    → new.departed ≡ 0 → AreFound given (take (at + 1) subjects) new.audited.items (ends_in new.ends.items)
kept given subjects at subject old new inside is counts =
    kept_as given subjects at subject counts.capture counts.verdict old new inside is counts.found counts.counts

-- ---- the headline

began_as : (fresh : FreshMeter) (factory : List ℕ) (began : Option StoreFiles) (meter : Meter) → BeginsAs fresh factory began meter → Began fresh factory meter
began_as fresh factory None meter is = inl is
began_as fresh factory (Some files) meter is = inr (files.store.items, undo_in files.journal, is)

abbrev sited_of : (given : Given) (subject : Subject) (audited : Audited) (end : End) → FitsWith given subject audited end → Sited
sited_of given subject audited end fits = record {
  at = end.at;
  told = record {
    meter = subject.meter;
    heads = given.options.now.heads.items;
    begin = reopened fits.found.begin;
    log = end.log;
    images = fits.found.fit.images;
    end = fits.found.end;
  };
}

is_told : (given : Given) (subject : Subject) (audited : Audited) (end : End) (fits : FitsWith given subject audited end)
    → IsTold given.options.now given.factory.items given.keys.items (sited_of given subject audited end fits)
is_told given subject audited end fits = record {
  asked = refl;
  site = fits.found.fit.site;
  own = fits.found.fit.own.at ∙ sym fits.own;
  capture = fits.capture;
  whole = fits.found.fit.whole;
  part = fits.found.fit.part;
  marks = fits.found.fit.marks;
  reads = fits.found.fit.reads;
  meter = fits.found.begin;
  began = began_as given.options.now.fresh given.factory.items fits.stores.began fits.found.begin fits.found.begins;
  first = refl;
  store = fits.stores.last.store.items;
  undo = undo_in fits.stores.last.journal;
  last = fits.found.ends;
  is = fits.found.fit.is;
}

-- what the files tell of meters, each of which fits
record Tells (given : Given) (subjects : List Subject) (meters : List Audited) (ends : List End) : Type 0 where
  told : List Sited
  each : All (IsTold given.options.now given.factory.items given.keys.items) told
  same : map audited_in (told_in told) ≡ meters
  ends_are : map end_at told ≡ ends
  asked : asked_in told ≡ map asked_at subjects
  compared : All (λ (s : Sited). AreCompared given s.told.images) told

same_end : (end : End) → end_with end.at end.log ≡ end
same_end end = refl

all_told : (given : Given) (subjects : List Subject) (meters : List Audited) (ends : List End) → AreFound given subjects meters ends → Tells given subjects meters ends
all_told given [] [] [] are = record {
  told = [];
  each = All-nil (IsTold given.options.now given.factory.items given.keys.items);
  same = refl;
  ends_are = refl;
  asked = refl;
  compared = All-nil (λ (s : Sited). AreCompared given s.told.images);
}
all_told given [] [] (e ∷ es) are = absurd are
all_told given [] (m ∷ ms) es are = absurd are
all_told given (s ∷ ss) [] es are = absurd are
all_told given (s ∷ ss) (m ∷ ms) [] are = absurd are
all_told given (s ∷ ss) (m ∷ ms) (e ∷ es) are =
    let rest = all_told given ss ms es are.1 in
    let fits = are.0 in
    let t = sited_of given s m e fits in
    record {
      told = t ∷ rest.told;
      each = All-cons (IsTold given.options.now given.factory.items given.keys.items) t rest.told (is_told given s m e fits) rest.each;
      same = ap (λ (a : Audited). a ∷ map audited_in (told_in rest.told)) (sym fits.found.fit.named) ∙ ap (λ (l : List Audited). m ∷ l) rest.same;
      ends_are = ap (λ (x : End). x ∷ map end_at rest.told) (same_end e) ∙ ap (λ (l : List End). e ∷ l) rest.ends_are;
      asked = ap (λ (a : SocketAddr). asked_with s.meter a ∷ asked_in rest.told) fits.own ∙ ap (λ (l : List AskedMeter). asked_at s ∷ l) rest.asked;
      compared = All-cons (λ (x : Sited). AreCompared given x.told.images) t rest.told fits.found.fit.compared rest.compared;
    }

some_ends : (given : Given) (subjects : List Subject) (meters : List Audited) → AllZip (FitsAs given) subjects meters → (ends : List End) × AreFound given subjects meters ends
some_ends given [] [] are = ([], tt)
some_ends given [] (m ∷ ms) are = absurd are
some_ends given (s ∷ ss) [] are = absurd are
some_ends given (s ∷ ss) (m ∷ ms) are =
    let rest = some_ends given ss ms are.1 in
    (are.0.0 ∷ rest.0, (are.0.1, rest.1))

offered : (given : Given) (images : List Image) → 0 < vec_len given.options.now.books + vec_len given.options.now.head_logs → AreCompared given images
    → AreOffered given.books.books.items images
offered given images some (inl none) = absurd (omega (arith, some, none))
offered given images some (inr are) = are

abbrev HaveHeads : Given → List Sited → Type 0
HaveHeads given told = 0 < vec_len given.options.now.head_logs → AreHeadsTold given.options.now told given.books.books.items

abbrev AreKeys : Given → Type 0
AreKeys given = AllZip IsKeyFileOf given.options.now.keys.items given.keys.items

all_fit : HeadlineByLooking → (given : Given) → AreKeys given → (meters : List Audited) (ends : List End) (it : Tells given given.subjects.items meters ends)
    → All (λ (book : Contents). AreBorneOut book meters) given.books.books.items → HaveHeads given it.told → AllFit given.options.now
all_fit law given keys meters ends it borne heads =
    let books = given.books.books.items in
    let rows = subst (λ (ms : List Audited). All (λ (book : Contents). AreBorneOut book ms) books) (sym it.same) borne in
    record {
      factory = given.factory.items;
      keys = given.keys.items;
      keys_are = keys;
      told = it.told;
      each = it.each;
      books = books;
      rows = rows;
      headline = λ some. law books (told_in it.told) (record {
        logs = All-map (λ (t : Told). IsMeterLog t.heads t.begin t.log t.images t.end) (λ (s : Sited). s.told) it.told
            (All-weaker (IsTold given.options.now given.factory.items given.keys.items) (λ (s : Sited). IsMeterLog s.told.heads s.told.begin s.told.log s.told.images s.told.end) (λ s is. is.is) it.told it.each);
        switches = All-map (λ (t : Told). AreOffered books t.images) (λ (s : Sited). s.told) it.told
            (All-weaker (λ (s : Sited). AreCompared given s.told.images) (λ (s : Sited). AreOffered books s.told.images) (λ s is. offered given s.told.images some is) it.told it.compared);
        rows = rows;
      });
      heads = heads;
    }

pub fleet_fits : HeadlineByLooking → (given : Given) → AreKeys given → vec_len given.options.now.head_logs ≡ 0 → FleetFits given → AllFit given.options.now
fleet_fits law given keys none fleet =
    let with_ends = some_ends given given.subjects.items fleet.meters fleet.each in
    all_fit law given keys fleet.meters with_ends.0 (all_told given given.subjects.items fleet.meters with_ends.0 with_ends.1) fleet.rows
    (λ some. absurd (omega (arith, some, none)))

pub field_fits : HeadlineByLooking → (given : Given) → AreKeys given → FieldFits given → AllFit given.options.now
field_fits law given keys field =
    let it = all_told given given.subjects.items field.meters field.ends field.each in
    let logs = given.options.now.head_logs.items in
    let books = given.books.books.items in
    all_fit law given keys field.meters field.ends it field.rows (λ some. record {
      heads = field.heads;
      each = subst (λ (asked : List AskedMeter). AllZip (IsHeadTold asked books) logs field.heads) (sym it.asked) field.told;
      order = subst (λ (es : List End). HasOrder (es ++ field.heads)) (sym it.ends_are) field.order;
    })

-- ---- the other meters of a process

as_list : (address : Option SocketAddr) → option_to_list address ≡ cons_option address []
as_list None = refl
as_list (Some address) = refl

pub more_others : (subject : Subject) (subjects : List Subject) (at : ℕ) (other : Subject) (old new : List SocketAddr) → at < length subjects
    → other ≡ get_or subjects at other → old ≡ filter_map (beside subject) (take at subjects) → new ≡ old ++ option_to_list (beside subject other)
    → new ≡ filter_map (beside subject) (take (at + 1) subjects)
more_others subject subjects at other old new inside is before added =
    added ∙ ap (λ (l : List SocketAddr). l ++ option_to_list (beside subject other)) before
    ∙ ap (λ (l : List SocketAddr). filter_map (beside subject) (take at subjects) ++ l) (as_list (beside subject other))
    ∙ ap (λ (o : Subject). filter_map (beside subject) (take at subjects) ++ filter_map (beside subject) (o ∷ [])) is
    ∙ sym (filter_map-append (beside subject) (take at subjects) (get_or subjects at other ∷ []))
    ∙ sym (ap (λ (l : List Subject). filter_map (beside subject) l) (take_more subjects at other inside))
