-- What was taken of a reader, and what errors are.
use Rattle.std.proofs.Common.{◌≡◌, ◌≢◌, ◌⊎◌, ◌+◌, ◌<◌, ℕ, List, [], Option, Some, None, Result, Ok, Err, OnOk, inl, inr, refl, sym, ap, subst}
use Rattle.std.specs.Io.KnownBytes.{Appends}
use Rattle.fw_capture.specs.declared.error.AppendError.{AppendError}
use Rattle.fw_capture.specs.declared.error.AppendError.TheVariants as append
use Rattle.fw_capture.specs.declared.error.StreamError.{StreamError}
use Rattle.fw_capture.specs.declared.error.StreamError.TheVariants as stream
use Rattle.fw_capture.specs.declared.fault.CaptureError.{CaptureError}
use Rattle.fw_capture.specs.declared.format.Format.{Format}
use Rattle.fw_capture.specs.declared.packet.Packet.{Packet}
use Rattle.fw_capture.specs.Place.{Place}
use Rattle.fw_capture.specs.Reading.{record_at, size_at}
use Rattle.fw_capture.specs.Steps.{NextGives}
use Rattle.fw_capture.specs.Streams.{max_record}
use Rattle.fw_capture.specs.View.{Told, told_in}
use Rattle.fw_recording.specs.Recording.{records_bytes}
use Rattle.fw_seal.specs.Sealing.{Ends}
use Rattle.fw_dissect.specs.declared.error.DissectError.{DissectError}
use Rattle.fw_dissect.specs.declared.error.DissectError.TheVariants as error
use Rattle.fw_dissect.specs.Captures.{PlainRecord, RefusesPlain}
use Rattle.fw_dissect.specs.Streams.{IsOfPlain}
use Rattle.fw_dissect.specs.Private.{IsOfNoRecord, IsOfReader, IsPacketOf, LongIf, NoneIf, PutsRecord, at, of_append, of_stream}

-- ---- errors

pub start_of : (offset : ℕ) (s : StreamError) → (s ≡ stream.Input) ⊎ (s ≡ stream.OutOfMemory)
    → (of_stream offset s ≡ error.Input) ⊎ (of_stream offset s ≡ error.OutOfMemory)
start_of offset s (inl is) = inl (ap (of_stream offset) is)
start_of offset s (inr is) = inr (ap (of_stream offset) is)

pub of_start : (e : DissectError) → (e ≡ error.Input) ⊎ (e ≡ error.OutOfMemory) → IsOfNoRecord e
of_start e (inl is) = subst IsOfNoRecord (sym is) tt
of_start e (inr is) = subst IsOfNoRecord (sym is) tt

pub no_plain_at_start : {X : Type 0} (e : DissectError) → (e ≡ error.Input) ⊎ (e ≡ error.OutOfMemory) → IsOfPlain e → X
no_plain_at_start e (inl is) kind = absurd (subst IsOfPlain is kind)
no_plain_at_start e (inr is) kind = absurd (subst IsOfPlain is kind)

pub no_plain_of_reader : {X : Type 0} (e : DissectError) → IsOfReader e → IsOfPlain e → X
no_plain_of_reader (error.TooLong offset) is kind = absurd kind
no_plain_of_reader error.Input is kind = absurd kind
no_plain_of_reader error.NoRecord is kind = absurd is
no_plain_of_reader error.Plain is kind = absurd is
no_plain_of_reader error.Output is kind = absurd is
no_plain_of_reader error.OutOfMemory is kind = absurd kind

pub of_reader : (offset : ℕ) (s : StreamError) → IsOfReader (of_stream offset s)
of_reader offset stream.TooLong = tt
of_reader offset stream.Input = tt
of_reader offset stream.OutOfMemory = tt

pub too_long : (offset : ℕ) (s : StreamError) (f : Format) (rest : List ℕ) → (s ≡ stream.TooLong → max_record < 16 + size_at f rest)
    → LongIf (of_stream offset s) offset f rest
too_long offset stream.TooLong f rest long = (refl, long refl)
too_long offset stream.Input f rest long = tt
too_long offset stream.OutOfMemory f rest long = tt

pub makes_none : (links : List Ends) (time : ℕ) (told : Told) (e : AppendError) → (e ≡ append.OutOfMemory) ⊎ RefusesPlain links time told e
    → NoneIf (of_append e) links time told
makes_none links time told append.OutOfMemory why = tt
makes_none links time told append.TimePast (inl is) = absurd (cc)
makes_none links time told append.TimePast (inr refused) = (append.TimePast, refused)
makes_none links time told append.TwoFamilies (inl is) = absurd (cc)
makes_none links time told append.TwoFamilies (inr refused) = (append.TwoFamilies, refused)
makes_none links time told append.TooLong (inl is) = absurd (cc)
makes_none links time told append.TooLong (inr refused) = (append.TooLong, refused)

-- ---- the packet of a record

pub packet_is : (f : Format) (offset : ℕ) (bytes : List ℕ) (new : Place) (r : Result (Option Packet) CaptureError) → NextGives (at f bytes offset) new r
    → IsPacketOf f offset bytes r
packet_is f offset bytes new (Ok None) gives = gives.0
packet_is f offset bytes new (Ok (Some p)) gives = (gives.0, gives.1)
packet_is f offset bytes new (Err e) gives = (gives.0, gives.1, gives.3)

module _ (f : Format) (offset : ℕ) (shown bytes : List ℕ) (same : shown ≡ bytes) where
  pub read_at : (next : Option Packet) (p : Packet) → next ≡ Some p → IsPacketOf f offset shown (Ok next)
      → (size : ℕ) × (record_at f bytes ≡ Ok (p.nanoseconds, told_in p.content, size))
  read_at next p is gives =
      let P : List ℕ → Type 0 = λ x. IsPacketOf f offset x (Ok (Some p)) in
      let Q : Option Packet → Type 0 = λ n. IsPacketOf f offset shown (Ok n) in
      subst P same (subst Q is gives)

  pub none_at : (next : Option Packet) → next ≡ None → IsPacketOf f offset shown (Ok next) → bytes ≡ []
  none_at next is gives =
      let P : List ℕ → Type 0 = λ x. IsPacketOf f offset x (Ok None) in
      let Q : Option Packet → Type 0 = λ n. IsPacketOf f offset shown (Ok n) in
      subst P same (subst Q is gives)

  pub fault_at : (e : CaptureError) → IsPacketOf f offset shown (Err e) → (record_at f bytes ≡ Err e.fault) × (e.offset ≡ offset) × (bytes ≢ [])
  fault_at e gives =
      let P : List ℕ → Type 0 = λ x. IsPacketOf f offset x (Err e) in
      subst P same gives

-- ---- what a writer gets

module _ {A E : Type 0} where
  pub puts_same : (r : Result A E) (first last : Option (List ℕ)) (shown bytes : List ℕ) → shown ≡ bytes → OnOk r (Appends first last shown)
      → OnOk r (Appends first last bytes)
  puts_same (Ok x) first last shown bytes same put = subst (λ (b : List ℕ). Appends first last b) same put
  puts_same (Err e) first last shown bytes same put = tt

  pub puts_record : (r : Result A E) (first last : Option (List ℕ)) (shown : List ℕ) (links : List Ends) (time : ℕ) (told : Told) (plain : List (ℕ × Told))
      → PlainRecord links time told plain → shown ≡ records_bytes plain → OnOk r (Appends first last shown) → OnOk r (PutsRecord links time told first last)
  puts_record (Ok x) first last shown links time told plain is same put = (plain, is, subst (λ (b : List ℕ). Appends first last b) same put)
  puts_record (Err e) first last shown links time told plain is same put = tt
