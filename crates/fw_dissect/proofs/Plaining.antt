-- Records in plain words.
use Rattle.std.proofs.Common.{◌≡◌, ◌⊎◌, inl, inr, ℕ, List, [], ◌∷◌, ◌++◌, Result, Ok, Err, IfErr, OnOk, refl, sym, ap, subst, ◌∙◌, append_assoc, append-nil}
use Rattle.fw_capture.specs.declared.error.AppendError.{AppendError}
use Rattle.fw_capture.specs.declared.error.AppendError.TheVariants.{TimePast, TwoFamilies, TooLong, OutOfMemory}
use Rattle.fw_capture.specs.View.{Endpoint, Told, datagram, note}
use Rattle.fw_capture.specs.declared.packet.Note.{Note}
use Rattle.fw_capture.specs.Spelling.{packet_bytes}
use Rattle.fw_capture.specs.Refusal.{IsRefusal, refusal_of}
use Rattle.fw_recording.specs.Recording.{records_bytes}
use Rattle.fw_seal.specs.Sealing.{Ends}
use Rattle.fw_dissect.specs.Captures.{Plain, PlainRecord, PlainRecords, RefusesPlain}

pub bytes_append : (a b : List (ℕ × Told)) → records_bytes (a ++ b) ≡ records_bytes a ++ records_bytes b
bytes_append [] b = refl
bytes_append (r ∷ a) b =
    ap (λ (l : List ℕ). packet_bytes r.0 r.1 ++ l) (bytes_append a b) ∙ sym (append_assoc (packet_bytes r.0 r.1) (records_bytes a) (records_bytes b))

module _ (links : List Ends) where
  pub plain_more : (read plain one : List (ℕ × Told)) (time : ℕ) (told : Told) → PlainRecords links read plain → PlainRecord links time told one
      → PlainRecords links (read ++ (time, told) ∷ []) (plain ++ one)
  plain_more [] plain one time told is gives = (one, [], gives, refl, ap (λ (l : List (ℕ × Told)). l ++ one) is ∙ sym (append-nil one))
  plain_more (r ∷ read) plain one time told h gives =
      (h.0, h.1 ++ one, h.2, plain_more read h.1 one time told h.3 gives, ap (λ (l : List (ℕ × Told)). l ++ one) h.4 ∙ append_assoc h.0 h.1 one)

  -- ---- why there is none

  -- what stands in the place of a record is refused
  pub refuses : (time : ℕ) (told : Told) (plain : ℕ × Told) (e : AppendError) → PlainRecord links time told (plain ∷ []) → IsRefusal (refusal_of plain.0 plain.1) e
      → (e ≡ OutOfMemory) ⊎ RefusesPlain links time told e
  refuses time told plain OutOfMemory is h = inl refl
  refuses time told plain TimePast is h = inr (record { plain = plain; is = is; refused = h })
  refuses time told plain TwoFamilies is h = inr (record { plain = plain; is = is; refused = h })
  refuses time told plain TooLong is h = inr (record { plain = plain; is = is; refused = h })

  -- ---- what is appended of a record

  -- it tells this, and goes on so
  abbrev pub Appends : ℕ → Told → (old new : List ℕ) → Type 0
  Appends time told old new = (plain : List (ℕ × Told)) × PlainRecord links time told plain × (new ≡ old ++ records_bytes plain)

  pub told_so : {A : Type 0} (r : Result A AppendError) (time : ℕ) (told same : Told) (old new : List ℕ) → told ≡ same → OnOk r (Appends time same old new)
      → OnOk r (Appends time told old new)
  told_so r time told same old new is h = subst (λ (t : Told). OnOk r (Appends time t old new)) (sym is) h

  -- one record, which stands in its place
  pub on_one : {A : Type 0} (r : Result A AppendError) (time : ℕ) (told plain : Told) (old new : List ℕ) → PlainRecord links time told ((time, plain) ∷ [])
      → OnOk r (new ≡ old ++ records_bytes ((time, plain) ∷ [])) → OnOk r (Appends time told old new)
  on_one (Ok x) time told plain old new is h = ((time, plain) ∷ [], is, h)
  on_one (Err e) time told plain old new is h = tt

  pub on_refusal : {A : Type 0} (r : Result A AppendError) (time : ℕ) (told plain : Told) → PlainRecord links time told ((time, plain) ∷ [])
      → IfErr r (λ e. IsRefusal (refusal_of time plain) e) → IfErr r (λ e. (e ≡ OutOfMemory) ⊎ RefusesPlain links time told e)
  on_refusal (Ok x) time told plain is h = tt
  on_refusal (Err e) time told plain is h = refuses time told (time, plain) e is h

  pub datagram_is : (time : ℕ) (from to : Endpoint) (wire items shown : List ℕ) → Plain links wire items → shown ≡ items
      → PlainRecord links time (datagram from to wire) ((time, datagram from to shown) ∷ [])
  datagram_is time from to wire items shown is same = (shown, subst (λ (l : List ℕ). Plain links wire l) (sym same) is, refl)

  pub note_is : (time : ℕ) (told : Told) (n : Note) → told ≡ note n → PlainRecord links time told ((time, note n) ∷ [])
  note_is time told n is = subst (λ (t : Told). PlainRecord links time t ((time, note n) ∷ [])) (sym is) refl
