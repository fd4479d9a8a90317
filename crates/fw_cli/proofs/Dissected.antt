-- What ends the command `trace`.
use Rattle.std.proofs.Common.{◌≡◌, ◌≢◌, ℕ, List, Option, Some, ap, subst, sym}
use Rattle.fw_capture.specs.declared.fault.CaptureError.{CaptureError}
use Rattle.fw_capture.specs.declared.fault.CaptureFault.TheVariants.{CutPacket}
use Rattle.fw_seal.specs.Sealing.{Ends}
use Rattle.fw_dissect.specs.declared.error.DissectError.{DissectError}
use Rattle.fw_dissect.specs.declared.error.DissectError.TheVariants as dissect
use Rattle.fw_dissect.specs.Streams.{HasCause, HasLong, IsOfPlain}
use Rattle.fw_cli.specs.Private.{trace_error}
use Rattle.fw_cli.specs.Tracing.{CountsAsCut}
use Rattle.fw_cli.specs.declared.trace.TraceError.TheVariants as trace

module _ {X : Type 0} (e : DissectError) where
  -- an error other than that of the writer is told as another one
  pub other_fault : (e ≢ dissect.Output → X) → trace_error e ≢ trace.Output → X
  other_fault told other = told (λ is. other (ap trace_error is))

pub asked_fault : {X : Type 0} (e : DissectError) → (IsOfPlain e → X) → trace_error e ≡ trace.CaptureFault → X
asked_fault (dissect.TooLong offset) asked is = absurd (cc)
asked_fault dissect.Input asked is = absurd (cc)
asked_fault dissect.NoRecord asked is = asked tt
asked_fault dissect.Plain asked is = asked tt
asked_fault dissect.Output asked is = absurd (cc)
asked_fault dissect.OutOfMemory asked is = absurd (cc)

same_error : (a b : CaptureError) → trace.BadCapture a ≡ trace.BadCapture b → a ≡ b
same_error a b is = cc

-- a record that is too long counts as cut
pub cut_fault : (links : List Ends) (before : Option (List ℕ)) (e : DissectError) (found : CaptureError)
    → ((capture : List ℕ) → before ≡ Some capture → HasCause links capture e) → trace_error e ≡ trace.BadCapture found → CountsAsCut before found
cut_fault links before (dissect.TooLong offset) found cause is =
    let same = same_error (record { fault = CutPacket; offset = offset }) found is in
    let P : List ℕ → CaptureError → Type 0 = λ capture x. HasLong capture x.offset in
    (sym (ap (λ (x : CaptureError). x.fault) same), λ capture known. subst (P capture) same (cause capture known))
cut_fault links before dissect.Input found cause is = absurd (cc)
cut_fault links before dissect.NoRecord found cause is = absurd (cc)
cut_fault links before dissect.Plain found cause is = absurd (cc)
cut_fault links before dissect.Output found cause is = absurd (cc)
cut_fault links before dissect.OutOfMemory found cause is = absurd (cc)
