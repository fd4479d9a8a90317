-- For private members alone: no public clause cites it.
use Rattle.std.specs.Prelude.{◌≡◌, ◌<◌, ◌+◌, ◌⊎◌, ◌++◌, ◌==◌, ℕ, List, [], ◌∷◌, map, All, Contains, Option, None, Some, if◌then◌else◌}
use Rattle.std.specs.Global.{Vec}
use Rattle.std.specs.List.{AllZip, filter_map}
use Rattle.std.specs.Str.{bytes_eq}
use Rattle.std.specs.Vec.{vec_len}
use Rattle.std.specs.declared.net.socket_addr.SocketAddr.{SocketAddr}
use Rattle.fw_audit.specs.Log.{Item, log_of}
use Rattle.fw_audit.specs.Stands.{IsMeterLog}
use Rattle.fw_book.specs.Contents.{Contents}
use Rattle.fw_evidence.specs.Sealed.{IsSealedLogOf, items_in, marks_in}
use Rattle.fw_evidence.specs.Stores.{IsAtRest}
use Rattle.fw_evidence.specs.declared.error.Mark.{Mark}
use Rattle.fw_evidence.specs.declared.log.Log.{Log}
use Rattle.fw_evidence.specs.declared.opened.OpenedLog.{OpenedLog}
use Rattle.fw_evidence.specs.declared.site.Side.TheVariants as sides
use Rattle.fw_evidence.specs.declared.site.Site.{Site}
use Rattle.fw_fleet_audit.specs.Rows.{AreBorneOut, Audited, audited_of, names_of}
use Rattle.fw_fleet_audit.specs.Switches.{AreOffered}
use Rattle.fw_head_audit.specs.Heads.{IsHeadLog}
use Rattle.fw_head_audit.specs.declared.meter.AskedMeter.{AskedMeter}
use Rattle.fw_image.specs.Meter.{Image, Meter, reopened}
use Rattle.fw_keys.specs.Links.{Links as KeyLinks, ends_of}
use Rattle.fw_keys.specs.declared.entry.Entry.{Entry}
use Rattle.fw_order.specs.Order.{End, HasOrder}
use Rattle.fw_seal.specs.Sealing.{Ends}
use Rattle.fw_sealport.specs.declared.window.Order.TheVariants.{Strict}
use Rattle.fw_auditor.specs.Fitting.{IsHeadTold, IsWholePart, asked_with, new_of}
use Rattle.fw_auditor.specs.Keyed.{AreLinksBy, HasNoLink, IsLogBy, as_it_is, turned}
use Rattle.fw_auditor.specs.declared.audit.Tally.{Tally}
use Rattle.fw_auditor.specs.declared.ends.Ended.{Ended}
use Rattle.fw_auditor.specs.declared.field.Meters.{Meters}
use Rattle.fw_auditor.specs.declared.files.FoundStores.{FoundStores}
use Rattle.fw_auditor.specs.declared.files.StoreFiles.{StoreFiles}
use Rattle.fw_auditor.specs.declared.heads.HeadVerdict.{HeadVerdict}
use Rattle.fw_auditor.specs.declared.heads.HeadVerdict.TheVariants as head_verdict
use Rattle.fw_auditor.specs.declared.heads.Heads.{Heads}
use Rattle.fw_auditor.specs.declared.list.Subject.{Subject}
use Rattle.fw_auditor.specs.declared.options.FreshMeter.{FreshMeter}
use Rattle.fw_auditor.specs.declared.options.HeadLog.{HeadLog}
use Rattle.fw_auditor.specs.declared.readings.Reading.{Reading}
use Rattle.fw_auditor.specs.declared.readings.Reading.TheVariants as readings
use Rattle.fw_auditor.specs.declared.verdict.Given.{Given}
use Rattle.fw_auditor.specs.declared.verdict.Verdict.{Verdict}
use Rattle.fw_auditor.specs.declared.verdict.Verdict.TheVariants.{Fits, NotOffered, Unfit}

-- ---- files

-- the bytes of the undo file beside a store: none if there is no such file
abbrev pub undo_in : Option (Vec ℕ) → List ℕ
undo_in None = []
undo_in (Some journal) = journal.items

-- the files of a store hold this meter
abbrev pub Holds : StoreFiles → Meter → Type 0
Holds files meter = IsAtRest files.store.items (undo_in files.journal) meter

-- a meter was this one first: the one in the files of a store or, without these, a new one
abbrev pub BeginsAs : FreshMeter → List ℕ → Option StoreFiles → Meter → Type 0
BeginsAs fresh factory None meter = meter ≡ new_of fresh factory
BeginsAs fresh factory (Some files) meter = Holds files meter

-- ---- a meter

-- the address of a meter, if it is another one with the same capture
abbrev pub beside : Subject → Subject → Option SocketAddr
beside subject other =
    if other.meter == subject.meter then None else (if bytes_eq other.capture.now subject.capture.now then Some other.address else None)

abbrev pub others_of : List Subject → Subject → List SocketAddr
others_of subjects subject = filter_map (beside subject) subjects

-- the meter at its address, beside these of its process, and with the addresses that may ask
pub record IsSiteOf (given : Given) (subject : Subject) (site : Site) : Type 0 where
  pub side : site.side ≡ sides.Meter
  pub at : site.at ≡ subject.address
  pub heads : site.heads.now ≡ given.options.now.heads.items
  pub others : site.others.now ≡ others_of given.subjects.items subject

-- the link of a file with a meter, as one of its ends has it
pub record IsLinkBy (view : Ends → Ends) (file : KeyLinks ℕ) (meter : ℕ) (link : Ends) : Type 0 where
  pub entry : Entry ℕ
  pub within : Contains file.entries entry
  pub named : entry.end ≡ meter
  pub is : link ≡ view (ends_of file.own entry.keys)

-- a capture is this log of a meter in plain words, by the key files that are given
pub record IsOpenedAs (given : Given) (subject : Subject) (capture : List ℕ) (log : OpenedLog) : Type 0 where
  pub site : Site
  pub whole : List ℕ
  pub own : IsSiteOf given subject site
  pub part : IsWholePart capture whole
  pub reads : IsSealedLogOf (AreLinksBy turned given.options.now.order given.keys.items subject.meter)
      (AreLinksBy as_it_is Strict given.keys.items subject.meter) site whole (items_in log) (marks_in log)

-- what is read of a capture before it is audited: nothing, if no file has a link with its meter
abbrev pub IsReadingOf : Given → Subject → List ℕ → Option Reading → Type 0
IsReadingOf given subject capture None = HasNoLink given.keys.items subject.meter
IsReadingOf given subject capture (Some (readings.Opened log)) = IsOpenedAs given subject capture log
IsReadingOf given subject capture (Some (readings.Unopened error)) = Unit {0}

-- if books are given, they offer each image that a meter switched to
abbrev pub AreCompared : Given → List Image → Type 0
AreCompared given images =
    (vec_len given.options.now.books + vec_len given.options.now.head_logs ≡ 0) ⊎ AreOffered given.books.books.items images

-- it is said that all fits only of a meter whose images are compared so, and its log stands with it,
abbrev pub IsCompared : Given → Subject → Log → List Image → Verdict → Type 0
IsCompared given subject log images (Fits audited own) = AreCompared given images × (audited ≡ audited_of subject.meter (names_of images)) × (own ≡ log)
IsCompared given subject log images (NotOffered audited own) = Unit {0}
IsCompared given subject log images Unfit = Unit {0}

-- whose capture is its log, from where it began to what it is in the end,
pub record Fit (given : Given) (subject : Subject) (begin : Meter) (capture : List ℕ) (end : Meter) (audited : Audited) (log : List Item) : Type 0 where
  pub marks : List Mark
  pub images : List Image
  pub site : Site
  pub whole : List ℕ
  pub own : IsSiteOf given subject site
  pub part : IsWholePart capture whole
  pub reads : IsLogBy given.options.now.order given.keys.items subject.meter site whole log marks
  pub is : IsMeterLog given.options.now.heads.items (reopened begin) log images end
  pub compared : AreCompared given images
  pub named : audited ≡ audited_of subject.meter (names_of images)

abbrev pub HasFit : Given → Subject → Meter → List ℕ → Meter → Verdict → Type 0
HasFit given subject begin capture end (Fits audited log) = Fit given subject begin capture end audited (log_of log.items.items)
HasFit given subject begin capture end (NotOffered audited log) = Unit {0}
HasFit given subject begin capture end Unfit = Unit {0}

-- and whose stores hold these two.
pub record Found (given : Given) (subject : Subject) (stores : FoundStores) (capture : List ℕ) (audited : Audited) (log : List Item) : Type 0 where
  pub begin : Meter
  pub end : Meter
  pub begins : BeginsAs given.options.now.fresh given.factory.items stores.began begin
  pub ends : Holds stores.last end
  pub fit : Fit given subject begin capture end audited log

abbrev pub IsFound : Given → Subject → FoundStores → List ℕ → Verdict → Type 0
IsFound given subject stores capture (Fits audited log) = Found given subject stores capture audited (log_of log.items.items)
IsFound given subject stores capture (NotOffered audited log) = Unit {0}
IsFound given subject stores capture Unfit = Unit {0}

-- Of files nothing is known here, so what they hold is some.
abbrev pub IsFoundSomehow : Given → Subject → List ℕ → Verdict → Type 0
IsFoundSomehow given subject capture verdict = (stores : FoundStores) × IsFound given subject stores capture verdict

-- ---- ends

abbrev pub end_with : SocketAddr → List Item → End
end_with at log = record { at = at; log = log }

abbrev pub log_in : Ended → List Item
log_in ended = log_of ended.log.items.items

abbrev pub end_in : Ended → End
end_in ended = end_with ended.at (log_in ended)

abbrev pub ends_in : List Ended → List End
ends_in ends = map end_in ends

-- ---- meters

-- A meter fits: rows of books are compared with this, and this is its end.
pub record FitsWith (given : Given) (subject : Subject) (audited : Audited) (end : End) : Type 0 where
  pub own : end.at ≡ subject.address
  pub capture : List ℕ
  pub stores : FoundStores
  pub found : Found given subject stores capture audited end.log

abbrev pub FitsAs : Given → Subject → Audited → Type 0
FitsAs given subject audited = (end : End) × FitsWith given subject audited end

-- so do all meters
abbrev pub AreFound : Given → List Subject → List Audited → List End → Type 0
AreFound given [] [] [] = Unit {0}
AreFound given [] [] (e ∷ ends) = ⊥
AreFound given [] (m ∷ meters) ends = ⊥
AreFound given (s ∷ subjects) [] ends = ⊥
AreFound given (s ∷ subjects) (m ∷ meters) [] = ⊥
AreFound given (s ∷ subjects) (m ∷ meters) (e ∷ ends) = FitsWith given s m e × AreFound given subjects meters ends

-- what is said of a meter was counted
abbrev pub Counts : Tally → Verdict → Tally → Type 0
Counts old (Fits audited log) new = (new.departed ≡ old.departed) × (new.meters.items ≡ old.meters.items ++ audited ∷ [])
Counts old (NotOffered audited log) new = 0 < new.departed
Counts old Unfit new = 0 < new.departed

pub record CountsFound (given : Given) (subject : Subject) (old new : Tally) : Type 0 where
  pub capture : List ℕ
  pub verdict : Verdict
  pub found : IsFoundSomehow given subject capture verdict
  pub counts : Counts old verdict new

-- and its log was kept
pub record Keeps (subject : Subject) (audited : Audited) (log : List Item) (old new : Meters) : Type 0 where
  pub departed : new.departed ≡ old.departed
  pub audited_are : new.audited.items ≡ old.audited.items ++ audited ∷ []
  pub ends_are : ends_in new.ends.items ≡ ends_in old.ends.items ++ end_with subject.address log ∷ []

abbrev pub CountsEnd : Subject → Meters → Verdict → Meters → Type 0
CountsEnd subject old (Fits audited log) new = Keeps subject audited (log_of log.items.items) old new
CountsEnd subject old (NotOffered audited log) new = 0 < new.departed
CountsEnd subject old Unfit new = 0 < new.departed

pub record CountsKept (given : Given) (subject : Subject) (old new : Meters) : Type 0 where
  pub capture : List ℕ
  pub verdict : Verdict
  pub found : IsFoundSomehow given subject capture verdict
  pub counts : CountsEnd subject old verdict new

-- all meters fit, and the rows of books with them
pub record FleetFits (given : Given) : Type 0 where
  pub meters : List Audited
  pub each : AllZip (FitsAs given) given.subjects.items meters
  pub rows : All (λ (book : Contents). AreBorneOut book meters) given.books.books.items

-- ---- head ends

-- a meter is asked at its address
abbrev pub asked_at : Subject → AskedMeter
asked_at subject = asked_with subject.meter subject.address

-- it is said that all fits only of a head end of whose book this is the log,
abbrev pub FitsBook : Contents → List AskedMeter → Log → HeadVerdict → Type 0
FitsBook book asked log (head_verdict.Fits own) = (own ≡ log) × IsHeadLog book asked (log_of log.items.items)
FitsBook book asked log (head_verdict.Departs own) = Unit {0}

-- of one of these books,
pub record FitsOne (asked : List AskedMeter) (books : List Contents) (log own : Log) : Type 0 where
  pub book : Contents
  pub one : Contains books book
  pub same : own ≡ log
  pub is : IsHeadLog book asked (log_of log.items.items)

abbrev pub FitsBooks : List AskedMeter → List Contents → Log → HeadVerdict → Type 0
FitsBooks asked books log (head_verdict.Fits own) = FitsOne asked books log own
FitsBooks asked books log (head_verdict.Departs own) = Unit {0}

-- and as its capture has it.
abbrev pub FitsHead : List AskedMeter → List Contents → HeadLog → HeadVerdict → Type 0
FitsHead asked books head (head_verdict.Fits log) = IsHeadTold asked books head (end_with head.address (log_of log.items.items))
FitsHead asked books head (head_verdict.Departs log) = Unit {0}

-- what is said of a head end was counted
abbrev pub CountsHead : HeadLog → Heads → HeadVerdict → Heads → Type 0
CountsHead head old (head_verdict.Fits log) new =
    (new.departed ≡ old.departed) × (ends_in new.ends.items ≡ ends_in old.ends.items ++ end_with head.address (log_of log.items.items) ∷ [])
CountsHead head old (head_verdict.Departs log) new = 0 < new.departed

-- all meters and head ends fit, the rows of books with them, and their logs agree
pub record FieldFits (given : Given) : Type 0 where
  pub meters : List Audited
  pub ends : List End
  pub heads : List End
  pub each : AreFound given given.subjects.items meters ends
  pub rows : All (λ (book : Contents). AreBorneOut book meters) given.books.books.items
  pub told : AllZip (IsHeadTold (map asked_at given.subjects.items) given.books.books.items) given.options.now.head_logs.items heads
  pub order : HasOrder (ends ++ heads)
