-- The logs of ends, one after another, and the head ends.
use Rattle.std.proofs.Common.{◌≡◌, ◌∙◌, ℕ, ◌+◌, ◌<◌, ◌≤◌, List, [], ◌∷◌, ◌++◌, length, take, get_or, slice_index_or, refl, sym, ap, subst, append_assoc, arith}
use Rattle.std.specs.Prelude.{Contains}
use Rattle.std.specs.List.{AllZip}
use Rattle.std.proofs.lemmas.List.{map-append, take_all, take_more}
use Rattle.fw_audit.specs.Log.{log_of}
use Rattle.fw_book.specs.Contents.{Contents}
use Rattle.fw_evidence.specs.Heads.{IsHeadLogOf}
use Rattle.fw_evidence.specs.declared.error.Mark.{Mark}
use Rattle.fw_evidence.specs.declared.log.Log.{Log}
use Rattle.fw_head_audit.specs.declared.meter.AskedMeter.{AskedMeter}
use Rattle.fw_order.specs.Order.{End, end_of, ends_of}
use Rattle.fw_order.specs.declared.log.EndLog.{EndLog}
use Rattle.fw_auditor.specs.Fitting.{IsHeadTold, IsWholePart}
use Rattle.fw_auditor.specs.Private.{CountsHead, FitsBook, FitsBooks, FitsHead, end_in, end_with, ends_in}
use Rattle.fw_auditor.specs.declared.ends.Ended.{Ended}
use Rattle.fw_auditor.specs.declared.heads.HeadVerdict.{HeadVerdict}
use Rattle.fw_auditor.specs.declared.heads.HeadVerdict.TheVariants as head_verdict
use Rattle.fw_auditor.specs.declared.heads.Heads.{Heads}
use Rattle.fw_auditor.specs.declared.options.HeadLog.{HeadLog}

-- ---- ends

pub one_more : (ends : List Ended) (end : Ended) → ends_in (ends ++ end ∷ []) ≡ ends_in ends ++ end_in end ∷ []
one_more ends end = map-append end_in ends (end ∷ [])

pub more_logs : (ends : List Ended) (at : ℕ) (end : Ended) (before : List End) (old new : List EndLog) (log : EndLog) → at < length ends → end ≡ get_or ends at end
    → ends_of old ≡ before ++ ends_in (take at ends) → new ≡ old ++ log ∷ [] → end_of log ≡ end_in end → ends_of new ≡ before ++ ends_in (take (at + 1) ends)
more_logs ends at end before old new log inside is prior added own =
    ap ends_of added ∙ map-append end_of old (log ∷ []) ∙ ap (λ (es : List End). es ++ end_of log ∷ []) prior ∙ append_assoc before (ends_in (take at ends)) (end_of log ∷ [])
    ∙ ap (λ (e : End). before ++ (ends_in (take at ends) ++ e ∷ [])) (own ∙ ap end_in is)
    ∙ ap (λ (es : List End). before ++ es) (sym (one_more (take at ends) (get_or ends at end)))
    ∙ ap (λ (es : List Ended). before ++ ends_in es) (sym (take_more ends at end inside))

pub all_logs : (ends : List Ended) (at : ℕ) (before logs : List End) → length ends ≤ at → logs ≡ before ++ ends_in (take at ends) → logs ≡ before ++ ends_in ends
all_logs ends at before logs all are = are ∙ ap (λ (es : List Ended). before ++ ends_in es) (take_all at ends all)

-- ---- head ends

pub fits_one : (asked : List AskedMeter) (books : List Contents) (book : Contents) (log : Log) (v : HeadVerdict) → Contains books book
    → FitsBook book asked log v → FitsBooks asked books log v
fits_one asked books book log (head_verdict.Fits own) one fits = record { book = book; one = one; same = fits.0; is = fits.1 }
fits_one asked books book log (head_verdict.Departs own) one fits = tt

pub fits_head : (asked : List AskedMeter) (books : List Contents) (head : HeadLog) (capture whole : List ℕ) (log : Log) (marks : List Mark) (v : HeadVerdict)
    → IsWholePart capture whole → IsHeadLogOf head.address whole (log_of log.items.items) marks → FitsBooks asked books log v → FitsHead asked books head v
fits_head asked books head capture whole log marks (head_verdict.Fits own) part reads fits =
    subst (λ (l : Log). IsHeadTold asked books head (end_with head.address (log_of l.items.items))) (sym fits.same) (record {
      own = refl;
      capture = capture;
      whole = whole;
      part = part;
      marks = marks;
      reads = reads;
      book = fits.book;
      one = fits.one;
      is = fits.is;
    })
fits_head asked books head capture whole log marks (head_verdict.Departs own) part reads fits = tt

zip_push : {A B : Type 0} (R : A → B → Type 0) (xs : List A) (ys : List B) (x : A) (y : B) → AllZip R xs ys → R x y → AllZip R (xs ++ x ∷ []) (ys ++ y ∷ [])
zip_push R [] [] x y all fits = (fits, tt)
zip_push R [] (b ∷ bs) x y all fits = absurd all
zip_push R (a ∷ rest) [] x y all fits = absurd all
zip_push R (a ∷ rest) (b ∷ bs) x y all fits = (all.0, zip_push R rest bs x y all.1 fits)

pub counted_head : (asked : List AskedMeter) (books : List Contents) (logs : List HeadLog) (at : ℕ) (d : HeadLog) (v : HeadVerdict) (old new : Heads) → at < length logs
    → FitsHead asked books (slice_index_or logs at d) v → CountsHead (slice_index_or logs at d) old v new
    → (old.departed ≡ 0 → AllZip (IsHeadTold asked books) (take at logs) (ends_in old.ends.items))
    → new.departed ≡ 0 → AllZip (IsHeadTold asked books) (take (at + 1) logs) (ends_in new.ends.items)
counted_head asked books logs at d (head_verdict.Fits log) old new inside fits counts before none =
    let head : HeadLog = slice_index_or logs at d in
    let end : End = end_with head.address (log_of log.items.items) in
    subst (λ (es : List End). AllZip (IsHeadTold asked books) (take (at + 1) logs) es) (sym counts.1)
    (subst (λ (hs : List HeadLog). AllZip (IsHeadTold asked books) hs (ends_in old.ends.items ++ end ∷ [])) (sym (take_more logs at d inside))
    (zip_push (IsHeadTold asked books) (take at logs) (ends_in old.ends.items) head end (before (sym counts.0 ∙ none)) fits))
counted_head asked books logs at d (head_verdict.Departs log) old new inside fits counts before none =
    let some : 0 < new.departed = counts in
    absurd (omega (arith, some, none))
