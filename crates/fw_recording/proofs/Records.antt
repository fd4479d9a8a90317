-- A capture as far as it has come, one record after another.
use Rattle.std.proofs.Common.{◌≡◌, ℕ, suc, ◌+◌, ◌<◌, List, [], ◌∷◌, ◌++◌, length, drop, Some, refl, sym, ap, subst, ◌∙◌, append_assoc, append-nil, add-one, drop-cons, inl, inr, arith}
use Rattle.std.specs.Prelude.{slice_index}
use Rattle.fw_capture.specs.declared.error.AppendError.{AppendError}
use Rattle.fw_capture.specs.Refusal.{refusal_of}
use Rattle.fw_capture.specs.Spelling.{packet_bytes}
use Rattle.fw_world.specs.World.{Datagram}
use Rattle.fw_recording.specs.Recording.{SomeRefused, record_of, records_bytes, records_from, run_records}

-- what is there, with the records that are left, is the whole; and what refuses one of these refuses one of all
pub record SoFar (sent : List Datagram) (number : ℕ) (first now : List ℕ) : Type 0 where
  pub whole : now ++ records_bytes (records_from number (drop number sent)) ≡ first ++ records_bytes (run_records sent)
  pub refused : (e : AppendError) → SomeRefused (records_from number (drop number sent)) e → SomeRefused (run_records sent) e

pub begins : (sent : List Datagram) (first : List ℕ) → SoFar sent 0 first first
begins sent first = record { whole = refl; refused = λ e h. h }

pub goes_on : (sent : List Datagram) (number : ℕ) (d : Datagram) (first now next : List ℕ) → SoFar sent number first now → drop number sent ≡ d ∷ drop (number + 1) sent
    → next ≡ now ++ packet_bytes (record_of number d).0 (record_of number d).1 → SoFar sent (number + 1) first next
goes_on sent number d first now next so_far cut more =
    let packet = packet_bytes (record_of number d).0 (record_of number d).1 in
    let rest = records_bytes (records_from (number + 1) (drop (number + 1) sent)) in
    record {
      whole =
          ap (λ (t : List ℕ). t ++ rest) more
          ∙ append_assoc now packet rest
          ∙ sym (ap (λ (ds : List Datagram). now ++ records_bytes (records_from number ds)) cut)
          ∙ so_far.whole;
      refused = λ e h.
          let P : List Datagram → Type 0 = λ ds. SomeRefused (records_from number ds) e in
          so_far.refused e (subst P (sym cut) (inr h));
    }

pub ends : (sent : List Datagram) (number : ℕ) (first now : List ℕ) → SoFar sent number first now → drop number sent ≡ [] → now ≡ first ++ records_bytes (run_records sent)
ends sent number first now so_far none =
    sym (append-nil now) ∙ sym (ap (λ (ds : List Datagram). now ++ records_bytes (records_from number ds)) none) ∙ so_far.whole

pub refuses : (sent : List Datagram) (number : ℕ) (d : Datagram) (first now : List ℕ) (e : AppendError) → SoFar sent number first now → drop number sent ≡ d ∷ drop (number + 1) sent
    → refusal_of (record_of number d).0 (record_of number d).1 ≡ Some e → SomeRefused (run_records sent) e
refuses sent number d first now e so_far cut is =
    let P : List Datagram → Type 0 = λ ds. SomeRefused (records_from number ds) e in
    so_far.refused e (subst P (sym cut) (inl is))
