-- What is told of a capture as far as it was taken of a reader, one record after another.
use Rattle.std.proofs.Common.{◌≡◌, ◌≢◌, ◌+◌, ◌≤◌, ℕ, Bool, List, [], ◌∷◌, ◌++◌, length, drop, Option, Some, None, Result, Ok, Err, IfErr, IfOk, inl, inr, refl, sym, ap, subst, ◌∙◌, append_assoc, append-nil, arith}
use Rattle.std.proofs.lemmas.List.{length-append}
use Rattle.std.proofs.KnownBytes.{Appends-kept, Appends-nil, Appends-trans, Consumes-nil, Consumes-trans}
use Rattle.std.proofs.Math.Seq.{drop-append_seam}
use Rattle.std.specs.Io.KnownBytes.{Appends, Consumes, IsAtEnd, Keeps}
use Rattle.fw_capture.specs.declared.fault.CaptureError.{CaptureError}
use Rattle.fw_capture.specs.declared.format.Format.{Format}
use Rattle.fw_capture.specs.Place.{Place}
use Rattle.fw_capture.specs.Reading.{header_at, record_at}
use Rattle.fw_capture.specs.Spelling.{file_header}
use Rattle.fw_capture.specs.Steps.{OpensAs, after}
use Rattle.fw_capture.specs.Streams.{TakesHeader, TakesRecord, left_of}
use Rattle.fw_capture.specs.View.{Told, datagram, note, other}
use Rattle.fw_capture.proofs.Filling.{taken as left_behind}
use Rattle.fw_recording.specs.Records.{EndsAt, HasRecords, HoldsRecords}
use Rattle.fw_recording.specs.Recording.{capture_bytes, records_bytes}
use Rattle.fw_seal.specs.Sealing.{Ends}
use Rattle.fw_dissect.specs.declared.error.DissectError.{DissectError}
use Rattle.fw_dissect.specs.declared.error.DissectError.TheVariants as error
use Rattle.fw_dissect.specs.Lines.{AreLines, IsLine, TellsCapture, number_after}
use Rattle.fw_dissect.specs.Streams.{BeginsWith, Dissects, HasCause, Passes, PutsPlainIf, TellsFront}
use Rattle.fw_dissect.specs.Private.{HasCauseFrom, IsOfNoRecord, IsOfReader, KeepsIf, LongIf, NoneIf, OpensBy, PutsIf, PutsRecordIf, PutsRecordsIf, TellsFirst, TellsRecords, at}
use Rattle.fw_dissect.proofs.Plaining.{bytes_append, plain_more}

-- ---- places

passes_more : (start place : Place) (read : List (ℕ × Told)) (time size : ℕ) (told : Told) → Passes start read place
    → record_at place.format place.rest ≡ Ok (time, told, size) → Passes start (read ++ (time, told) ∷ []) (after size place)
passes_more start place [] time size told here is =
    (size, subst (λ (p : Place). record_at p.format p.rest ≡ Ok (time, told, size)) here is, ap (λ (p : Place). after size p) here)
passes_more start place (r ∷ read) time size told h is = (h.0, h.1, passes_more (after h.0 start) place read time size told h.2 is)

has_records : (start place : Place) (read : List (ℕ × Told)) (ending : Option CaptureError) → Passes start read place → EndsAt place ending
    → HasRecords start read ending
has_records start place [] ending here is = subst (λ (p : Place). EndsAt p ending) here is
has_records start place (r ∷ read) ending h is = (h.0, h.1, has_records (after h.0 start) place read ending h.2 is)

-- the records of a capture are passed up to where it ends
has_passed : (start : Place) (records : List (ℕ × Told)) (ending : Option CaptureError) → HasRecords start records ending
    → (place : Place) × Passes start records place
has_passed start [] ending has = (start, refl)
has_passed start (r ∷ records) ending has =
    let passed : (place : Place) × Passes (after has.0 start) records place = has_passed (after has.0 start) records ending has.2 in
    (passed.0, (has.0, has.1, passed.1))

begun : (capture : List ℕ) (records : List (ℕ × Told)) (ending : Option CaptureError) → HoldsRecords capture records ending → BeginsWith capture records
begun capture records ending (inl (start, opens, has)) =
    let passed : (place : Place) × Passes start records place = has_passed start records ending has in
    inr (start, passed.0, opens, passed.1)
begun capture records ending (inr (fault, opens, none, is)) = inl none

-- the place behind a record
behind : (f : Format) (b rest : List ℕ) (offset end : ℕ) → end ≡ offset + length b → after (length b) (at f (b ++ rest) offset) ≡ at f rest end
behind f b rest offset end is =
    ap (λ (r : List ℕ). at f r (offset + length b)) (drop-append_seam b rest) ∙ ap (λ (n : ℕ). at f rest n) (sym is)

-- the place behind a file header
opened : (f : Format) (before mid : Option (List ℕ)) (header rest : List ℕ) → TakesHeader before mid header → header_at header ≡ Ok f
    → OpensAs (header ++ rest) (Ok (at f rest 24))
opened f before mid header rest takes read =
    let right = takes.right f read in
    let cut : rest ≡ drop 24 (header ++ rest) = sym (ap (λ (n : ℕ). drop n (header ++ rest)) (sym right.0) ∙ drop-append_seam header rest) in
    (right.1 rest, cut, refl)

none_left : (left : Option (List ℕ)) → IsAtEnd left → left_of left ≡ []
none_left None end = refl
none_left (Some bytes) end = end

nothing_before : (xs ys : List ℕ) → xs ++ ys ≡ [] → xs ≡ []
nothing_before [] ys none = refl
nothing_before (x ∷ xs) ys none = absurd (cc)

pub counts : (number : ℕ) (told : Told) → number_after number told ≤ number + 1
counts number (datagram from to bytes) = omega arith
counts number (note n) = omega arith
counts number other = omega arith

-- ---- what writers of captures get

puts_none : (links : List Ends) (first : Option (Option (List ℕ))) → PutsRecordsIf links [] first first
puts_none links None = refl
puts_none links (Some first) = ([], refl, Appends-nil first)

puts_more : (links : List Ends) (records : List (ℕ × Told)) (time : ℕ) (told : Told) (first mid last : Option (Option (List ℕ)))
    → PutsRecordsIf links records first mid → PutsRecordIf links time told mid last → PutsRecordsIf links (records ++ (time, told) ∷ []) first last
puts_more links records time told None None last is next = next
puts_more links records time told None (Some mid) last is next = absurd (cc)
puts_more links records time told (Some first) None last is next = absurd is
puts_more links records time told (Some first) (Some mid) None is next = absurd next
puts_more links records time told (Some first) (Some mid) (Some last) (plain, are, put) (one, gives, more) =
    let P : List ℕ → Type 0 = λ x. Appends first last x in (
      plain ++ one,
      plain_more links records plain one time told are gives,
      subst P (sym (bytes_append plain one)) (Appends-trans first mid last (records_bytes plain) (records_bytes one) put more),
    )

puts_whole : (links : List Ends) (capture : List ℕ) (ending : Option CaptureError) (records : List (ℕ × Told)) → HoldsRecords capture records ending
    → (a b c : Option (Option (List ℕ))) → PutsIf a b file_header → PutsRecordsIf links records b c → PutsPlainIf links capture ending a c
puts_whole links capture ending records holds None None c is next = next
puts_whole links capture ending records holds None (Some b) c is next = absurd (cc)
puts_whole links capture ending records holds (Some a) None c is next = absurd is
puts_whole links capture ending records holds (Some a) (Some b) None is next = absurd next
puts_whole links capture ending records holds (Some a) (Some b) (Some c) is (plain, are, more) = (
  capture_bytes plain,
  record { records = records; holds = holds; plain = plain; plain_are = are; written = refl },
  Appends-trans a b c file_header (records_bytes plain) is more,
)

puts_kept : (links : List Ends) (capture : List ℕ) (ending : Option CaptureError) (a b c : Option (Option (List ℕ))) → PutsPlainIf links capture ending a b
    → KeepsIf b c → PutsPlainIf links capture ending a c
puts_kept links capture ending None None c is kept = kept
puts_kept links capture ending None (Some b) c is kept = absurd (cc)
puts_kept links capture ending (Some a) None c is kept = absurd is
puts_kept links capture ending (Some a) (Some b) None is kept = absurd kept
puts_kept links capture ending (Some a) (Some b) (Some c) is kept = (is.0, is.1, Appends-kept a b c is.0 is.2 kept)

-- ---- one record after another

-- These bytes behind the file header were taken, told, and put in plain words.
pub record SoFar (times : Bool) (links : List Ends) (f : Format) (number offset : ℕ) (before now first last : Option (List ℕ))
    (plain_first plain_last : Option (Option (List ℕ))) : Type 0 where
  pub taken : List ℕ
  pub is_taken : Consumes before now taken
  pub offset_is : offset ≡ 24 + length taken
  pub records : List (ℕ × Told)
  pub passes : (rest : List ℕ) → Passes (at f (taken ++ rest) 24) records (at f rest (24 + length taken))
  pub text : List ℕ
  pub tells : (later : List (ℕ × Told)) (more : List ℕ) → AreLines times links number later more → AreLines times links 0 (records ++ later) (text ++ more)
  pub written : Appends first last text
  pub put : PutsRecordsIf links records plain_first plain_last

module _ (times : Bool) (links : List Ends) (f : Format) where
  pub begins : (before first : Option (List ℕ)) (plain : Option (Option (List ℕ))) → SoFar times links f 0 24 before before first first plain plain
  begins before first plain = record {
    taken = [];
    is_taken = Consumes-nil before;
    offset_is = refl;
    records = [];
    passes = λ rest. refl;
    text = [];
    tells = λ later more are. are;
    written = Appends-nil first;
    put = puts_none links plain;
  }

  passed_more : (taken b : List ℕ) (records : List (ℕ × Told)) (time : ℕ) (told : Told)
      → ((rest : List ℕ) → Passes (at f (taken ++ rest) 24) records (at f rest (24 + length taken)))
      → ((rest : List ℕ) → record_at f (b ++ rest) ≡ Ok (time, told, length b))
      → (rest : List ℕ) → Passes (at f ((taken ++ b) ++ rest) 24) (records ++ (time, told) ∷ []) (at f rest (24 + length (taken ++ b)))
  passed_more taken b records time told passes right rest =
      let end : 24 + length (taken ++ b) ≡ 24 + length taken + length b = omega (arith, length-append taken b) in
      let all : List ℕ = taken ++ (b ++ rest) in
      let read : List (ℕ × Told) = records ++ (time, told) ∷ [] in
      let more = passes_more (at f all 24) (at f (b ++ rest) (24 + length taken)) records time (length b) told (passes (b ++ rest)) (right rest) in
      let P : Place → Type 0 = λ p. Passes (at f all 24) read p in
      let Q : List ℕ → Type 0 = λ r. Passes (at f r 24) read (at f rest (24 + length (taken ++ b))) in
      subst Q (sym (append_assoc taken b rest)) (subst P (behind f b rest (24 + length taken) (24 + length (taken ++ b)) end) more)

  tells_more : (number time : ℕ) (told : Told) (records : List (ℕ × Told)) (text line : List ℕ)
      → ((later : List (ℕ × Told)) (more : List ℕ) → AreLines times links number later more → AreLines times links 0 (records ++ later) (text ++ more))
      → IsLine times links number time told line
      → (later : List (ℕ × Told)) (more : List ℕ) → AreLines times links (number_after number told) later more
      → AreLines times links 0 ((records ++ (time, told) ∷ []) ++ later) ((text ++ line) ++ more)
  tells_more number time told records text line tells is later more are =
      let whole = tells ((time, told) ∷ later) (line ++ more) (line, more, is, are, refl) in
      let P : List ℕ → Type 0 = λ t. AreLines times links 0 (records ++ (time, told) ∷ later) t in
      let Q : List (ℕ × Told) → Type 0 = λ rs. AreLines times links 0 rs ((text ++ line) ++ more) in
      subst Q (sym (append_assoc records ((time, told) ∷ []) later)) (subst P (sym (append_assoc text line more)) whole)

  module _ (number offset : ℕ) (before now first last : Option (List ℕ)) (plain_first plain_last : Option (Option (List ℕ)))
      (so_far : SoFar times links f number offset before now first last plain_first plain_last) where
    lines_told : AreLines times links 0 so_far.records so_far.text
    lines_told =
        let T : List (ℕ × Told) → Type 0 = λ rs. AreLines times links 0 rs so_far.text in
        let U : List ℕ → Type 0 = λ t. AreLines times links 0 (so_far.records ++ []) t in
        subst T (append-nil so_far.records) (subst U (append-nil so_far.text) (so_far.tells [] [] refl))

    -- the records of a reader whose bytes are known
    passed : (rest : List ℕ) → before ≡ Some rest
        → (left : List ℕ) × (now ≡ Some left) × Passes (at f rest 24) so_far.records (at f left (24 + length so_far.taken))
    passed rest is =
        let left = left_behind before now rest so_far.taken is so_far.is_taken in
        let P : List ℕ → Type 0 = λ r. Passes (at f r 24) so_far.records (at f left.0 (24 + length so_far.taken)) in
        (left.0, left.1, subst P (sym left.2) (so_far.passes left.0))

    -- Nothing more is told, since something else ends it.
    pub first_told : (next : Option (List ℕ)) → Keeps last next → TellsFirst times links f before first next
    first_told next kept = record {
      records = so_far.records;
      are_first = λ rest is. let read = passed rest is in (at f read.0 (24 + length so_far.taken), read.2);
      text = so_far.text;
      lines = lines_told;
      written = Appends-kept first last next so_far.text so_far.written kept;
    }

    -- the next record is too long
    pub long_next : (rest : List ℕ) → before ≡ Some rest → (e : DissectError) → IsOfReader e
        → ((left : List ℕ) → now ≡ Some left → LongIf e offset f left) → HasCauseFrom links (at f rest 24) e
    long_next rest is (error.TooLong place) kind long =
        let read = passed rest is in
        let there = long read.0 read.1 in
        (so_far.records, at f read.0 (24 + length so_far.taken), read.2, (sym so_far.offset_is ∙ there.0, there.1))
    long_next rest is error.Input kind long = tt
    long_next rest is error.NoRecord kind long = absurd kind
    long_next rest is error.Plain kind long = tt
    long_next rest is error.Output kind long = tt
    long_next rest is error.OutOfMemory kind long = tt

    module _ (next : Option (List ℕ)) (b : List ℕ) (takes : TakesRecord f now next b) where
      -- the next record makes none in plain words
      pub none_next : (time size : ℕ) (told : Told) → record_at f b ≡ Ok (time, told, size) → (rest : List ℕ) → before ≡ Some rest → (e : DissectError)
          → NoneIf e links time told → HasCauseFrom links (at f rest 24) e
      none_next time size told read rest is (error.TooLong place) none = absurd none
      none_next time size told read rest is error.Input none = tt
      none_next time size told read rest is error.NoRecord none =
          let before_it = passed rest is in
          let left = left_behind now next before_it.0 b before_it.1 takes.taken in
          let whole : record_at f before_it.0 ≡ Ok (time, told, size) =
          ap (λ (x : List ℕ). record_at f x) left.2 ∙ (takes.right (time, told, size) read).1 left.0 in
          (so_far.records, at f before_it.0 (24 + length so_far.taken), before_it.2, (time, told, size, none.0, whole, none.1))
      none_next time size told read rest is error.Plain none = tt
      none_next time size told read rest is error.Output none = tt
      none_next time size told read rest is error.OutOfMemory none = tt

      -- a record was taken, told and put
      pub goes_on : (time size n end : ℕ) (told : Told) (line : List ℕ) (behind_line : Option (List ℕ)) (plain_next : Option (Option (List ℕ)))
          → record_at f b ≡ Ok (time, told, size) → end ≡ offset + length b → n ≡ number_after number told → IsLine times links number time told line
          → Appends last behind_line line → PutsRecordIf links time told plain_last plain_next
          → SoFar times links f n end before next first behind_line plain_first plain_next
      goes_on time size n end told line behind_line plain_next read is counted line_is line_put plain_put =
          let right = takes.right (time, told, size) read in
          let same : size ≡ length b = right.0 in
          let whole : (rest : List ℕ) → record_at f (b ++ rest) ≡ Ok (time, told, length b) =
          λ rest. right.1 rest ∙ ap (λ (k : ℕ). Ok (time, told, k)) same in
          let N : ℕ → Type 0 = λ k. SoFar times links f k end before next first behind_line plain_first plain_next in
          subst N (sym counted) (record {
            taken = so_far.taken ++ b;
            is_taken = Consumes-trans before now next so_far.taken b so_far.is_taken takes.taken;
            offset_is = omega (arith, is, so_far.offset_is, length-append so_far.taken b);
            records = so_far.records ++ (time, told) ∷ [];
            passes = passed_more so_far.taken b so_far.records time told so_far.passes whole;
            text = so_far.text ++ line;
            tells = tells_more number time told so_far.records so_far.text line so_far.tells line_is;
            written = Appends-trans first last behind_line so_far.text line so_far.written line_put;
            put = puts_more links so_far.records time told plain_first plain_last plain_next so_far.put plain_put;
          })

      end_by : (ending : Option CaptureError) → (ending ≡ None → IsAtEnd next) → EndsAt (at f (b ++ left_of next) (24 + length so_far.taken)) ending
          → TellsRecords times links f ending before next first last plain_first plain_last
      end_by ending at_end ends =
          let rest : List ℕ = b ++ left_of next in
          let has = has_records (at f (so_far.taken ++ rest) 24) (at f rest (24 + length so_far.taken)) so_far.records ending (so_far.passes rest) ends in
          let P : List ℕ → Type 0 = λ r. HasRecords (at f r 24) so_far.records ending in
          record {
            taken = so_far.taken ++ b;
            is_taken = Consumes-trans before now next so_far.taken b so_far.is_taken takes.taken;
            at_end = at_end;
            records = so_far.records;
            has = subst P (sym (append_assoc so_far.taken b (left_of next))) has;
            text = so_far.text;
            lines = lines_told;
            written = so_far.written;
            put = so_far.put;
          }

      -- no record is left
      pub ends : b ≡ [] → TellsRecords times links f None before next first last plain_first plain_last
      ends none =
          let end : IsAtEnd next = takes.ends none in
          end_by None (λ is. end) (ap (λ (x : List ℕ). x ++ left_of next) none ∙ none_left next end)

      -- one with a fault is next
      pub breaks_off : (e : CaptureError) → (record_at f b ≡ Err e.fault) × (e.offset ≡ offset) × (b ≢ [])
          → TellsRecords times links f (Some e) before next first last plain_first plain_last
      breaks_off e (bad, place, some) =
          end_by (Some e) (λ is. absurd (cc))
          (takes.faulty e.fault bad, place ∙ so_far.offset_is, λ none. some (nothing_before b (left_of next) none))

-- ---- a capture with its file header

module _ (times : Bool) (links : List Ends) (before mid : Option (List ℕ)) (f : Format) (by : OpensBy before mid (Ok f)) where
  module _ (after first last : Option (List ℕ)) (plain_first plain_mid plain_last : Option (Option (List ℕ))) (put : PutsIf plain_first plain_mid file_header) where
    told : (ending : Option CaptureError) → TellsRecords times links f ending mid after first last plain_mid plain_last
        → Dissects times links ending before after first last plain_first plain_last
    told ending tells =
        let header : List ℕ = by.0 in
        let rest : List ℕ = tells.taken ++ left_of after in
        let holds : HoldsRecords (header ++ rest) tells.records ending = inl (at f rest 24, opened f before mid header rest by.1 by.2, tells.has) in
        let all : (header ++ tells.taken) ++ left_of after ≡ header ++ rest = append_assoc header tells.taken (left_of after) in
        let P : List ℕ → Type 0 = λ x. TellsCapture times links x ending tells.text in
        let Q : List ℕ → Type 0 = λ x. PutsPlainIf links x ending plain_first plain_last in
        record {
          taken = header ++ tells.taken;
          is_taken = Consumes-trans before mid after header tells.taken by.1.taken tells.is_taken;
          at_end = tells.at_end;
          text = tells.text;
          tells = subst P (sym all) (record { records = tells.records; holds = holds; lines = tells.lines });
          written = tells.written;
          plain = subst Q (sym all) (puts_whole links (header ++ rest) ending tells.records holds plain_first plain_mid plain_last put tells.put);
        }

    pub on_told : (r : Result (Option CaptureError) DissectError) → IfOk r (λ ending. TellsRecords times links f ending mid after first last plain_mid plain_last)
        → IfOk r (λ ending. Dissects times links ending before after first last plain_first plain_last)
    on_told (Ok ending) tells = told ending tells
    on_told (Err e) tells = tt

  front_of_first : (first last : Option (List ℕ)) → TellsFirst times links f mid first last → TellsFront times links before first last
  front_of_first first last told = record {
    records = told.records;
    are_first = λ capture is.
        let left = left_behind before mid capture by.0 is by.1.taken in
        let read = told.are_first left.0 left.1 in
        let P : List ℕ → Type 0 = λ x. OpensAs x (Ok (at f left.0 24)) in
        inr (at f left.0 24, read.0, subst P (sym left.2) (opened f before mid by.0 left.0 by.1 by.2), read.1);
    text = told.text;
    lines = told.lines;
    written = told.written;
  }

  pub on_front : {A : Type 0} (r : Result A DissectError) (first last : Option (List ℕ)) → IfErr r (λ e. e ≢ error.Output → TellsFirst times links f mid first last)
      → IfErr r (λ e. e ≢ error.Output → TellsFront times links before first last)
  on_front (Ok x) first last h = tt
  on_front (Err e) first last h = λ other. front_of_first first last (h other)

  caused : (capture : List ℕ) (start : Place) → OpensAs capture (Ok start) → (e : DissectError) → HasCauseFrom links start e → HasCause links capture e
  caused capture start opens (error.TooLong offset) cause = (start, opens, cause)
  caused capture start opens error.Input cause = tt
  caused capture start opens error.NoRecord cause = (start, opens, cause)
  caused capture start opens error.Plain cause = tt
  caused capture start opens error.Output cause = tt
  caused capture start opens error.OutOfMemory cause = tt

  cause_of : (capture : List ℕ) → before ≡ Some capture → (e : DissectError) → ((rest : List ℕ) → mid ≡ Some rest → HasCauseFrom links (at f rest 24) e)
      → HasCause links capture e
  cause_of capture is e cause =
      let left = left_behind before mid capture by.0 is by.1.taken in
      let P : List ℕ → Type 0 = λ x. OpensAs x (Ok (at f left.0 24)) in
      caused capture (at f left.0 24) (subst P (sym left.2) (opened f before mid by.0 left.0 by.1 by.2)) e (cause left.0 left.1)

  pub on_cause : {A : Type 0} (r : Result A DissectError) (capture : List ℕ) → before ≡ Some capture
      → ((rest : List ℕ) → mid ≡ Some rest → IfErr r (λ e. HasCauseFrom links (at f rest 24) e)) → IfErr r (λ e. HasCause links capture e)
  on_cause (Ok x) capture is h = tt
  on_cause (Err e) capture is h = cause_of capture is e h

-- before one with a fault
pub not_opened : (times : Bool) (links : List Ends) (before after first : Option (List ℕ)) (plain_first plain_last : Option (Option (List ℕ)))
    → PutsIf plain_first plain_last file_header → (e : CaptureError) → OpensBy before after (Err e)
    → Dissects times links (Some e) before after first first plain_first plain_last
not_opened times links before after first plain_first plain_last put e (header, takes, opens) =
    let capture : List ℕ = header ++ left_of after in
    let holds : HoldsRecords capture [] (Some e) = inr (e, (takes.faulty e.fault opens.0, opens.1), refl, refl) in
    record {
      taken = header;
      is_taken = takes.taken;
      at_end = λ is. absurd (cc);
      text = [];
      tells = record { records = []; holds = holds; lines = refl };
      written = Appends-nil first;
      plain = puts_whole links capture (Some e) [] holds plain_first plain_last plain_last put (puts_none links plain_last);
    }

-- before a file header was taken
pub nothing_told : (times : Bool) (links : List Ends) (before first : Option (List ℕ)) → TellsFront times links before first first
nothing_told times links before first =
    record { records = []; are_first = λ capture is. inl refl; text = []; lines = refl; written = Appends-nil first }

-- no record is the cause
pub no_record : (links : List Ends) (capture : List ℕ) (e : DissectError) → IsOfNoRecord e → HasCause links capture e
no_record links capture (error.TooLong offset) kind = absurd kind
no_record links capture error.Input kind = tt
no_record links capture error.NoRecord kind = absurd kind
no_record links capture error.Plain kind = tt
no_record links capture error.Output kind = tt
no_record links capture error.OutOfMemory kind = tt

-- ---- what writers are told to flush, they keep

module _ (times : Bool) (links : List Ends) (before first last next : Option (List ℕ)) (kept : Keeps last next) where
  pub front_kept : TellsFront times links before first last → TellsFront times links before first next
  front_kept told = record {
    records = told.records;
    are_first = told.are_first;
    text = told.text;
    lines = told.lines;
    written = Appends-kept first last next told.text told.written kept;
  }

  module _ (ending : Option CaptureError) (after : Option (List ℕ)) (plain_first plain_last : Option (Option (List ℕ)))
      (whole : Dissects times links ending before after first last plain_first plain_last) where
    pub whole_kept : (plain_next : Option (Option (List ℕ))) → KeepsIf plain_last plain_next
        → Dissects times links ending before after first next plain_first plain_next
    whole_kept plain_next plain_kept = record {
      taken = whole.taken;
      is_taken = whole.is_taken;
      at_end = whole.at_end;
      text = whole.text;
      tells = whole.tells;
      written = Appends-kept first last next whole.text whole.written kept;
      plain = puts_kept links (whole.taken ++ left_of after) ending plain_first plain_last plain_next whole.plain plain_kept;
    }

    -- What is told of all of a capture is told of its first records.
    pub front_of_whole : TellsFront times links before first next
    front_of_whole = record {
      records = whole.tells.records;
      are_first = λ capture is.
          let left = left_behind before after capture whole.taken is whole.is_taken in
          let same : whole.taken ++ left_of after ≡ capture = ap (λ (l : Option (List ℕ)). whole.taken ++ left_of l) left.1 ∙ sym left.2 in
          let P : List ℕ → Type 0 = λ x. HoldsRecords x whole.tells.records ending in
          begun capture whole.tells.records ending (subst P same whole.tells.holds);
      text = whole.text;
      lines = whole.tells.lines;
      written = Appends-kept first last next whole.text whole.written kept;
    }
