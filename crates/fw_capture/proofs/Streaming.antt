-- What was taken of a reader that has a capture.
use Rattle.std.proofs.Common.{◌≡◌, ◌≤◌, ◌<◌, ◌+◌, ℕ, Bool, true, false, List, [], ◌∷◌, ◌++◌, length, Option, Some, None, Result, Ok, Err, refl, sym, ap, subst, ◌∙◌, arith}
use Rattle.std.specs.Prelude.{nat_lt, OnOk}
use Rattle.std.proofs.lemmas.Bool.Decides.{nat_tests}
use Rattle.std.proofs.lemmas.List.{length-append}
use Rattle.std.proofs.KnownBytes.{Consumes-trans}
use Rattle.std.specs.Io.KnownBytes.{Consumes, IsAtEnd}
use Rattle.fw_capture.specs.declared.fault.CaptureFault.{CaptureFault}
use Rattle.fw_capture.specs.declared.format.Format.{Format}
use Rattle.fw_capture.specs.View.{Told}
use Rattle.fw_capture.specs.Reading.{header_at, record_at, size_at}
use Rattle.fw_capture.specs.Streams.{TakesHeader, TakesRecord, left_of, max_record}
use Rattle.fw_capture.specs.Private.{Fills}
use Rattle.fw_capture.proofs.Filling.{filled_first}
use Rattle.fw_capture.proofs.Wholeness.{header_long, nothing_more, number_before, record_before, same_header, sized}

none_left : (after : Option (List ℕ)) → IsAtEnd after → left_of after ≡ []
none_left None end = refl
none_left (Some left) end = end

all_given : (none given bytes : List ℕ) → none ≡ [] → bytes ≡ none ++ given → given ≡ bytes
all_given none given bytes empty is = sym (is ∙ ap (λ (x : List ℕ). x ++ given) empty)

pub header_taken : (before after : Option (List ℕ)) (none bytes : List ℕ) → none ≡ [] → Fills 24 before after none bytes → TakesHeader before after bytes
header_taken before after none bytes empty fills =
    let P : List ℕ → Type 0 = λ x. Consumes before after x in
    let small : length bytes ≤ 24 = fills.within (omega (arith, ap length empty)) in
    record {
      taken = subst P (all_given none fills.given bytes empty fills.appended) fills.consumed;
      right = λ f is.
          let long : 24 ≤ length bytes = header_long bytes f is in
          (omega (arith, long, small), λ rest. same_header bytes rest (λ less. absurd (omega (arith, long, less))) ∙ is);
      faulty = λ e is. same_header bytes (left_of after) (λ less. none_left after (fills.at_end less)) ∙ is;
    }

-- the header isn't whole
pub part_taken : (f : Format) (before after : Option (List ℕ)) (none bytes : List ℕ) → none ≡ [] → Fills 16 before after none bytes → length bytes < 16
    → TakesRecord f before after bytes
part_taken f before after none bytes empty fills less =
    let P : List ℕ → Type 0 = λ x. Consumes before after x in
    record {
      taken = subst P (all_given none fills.given bytes empty fills.appended) fills.consumed;
      ends = λ h. fills.at_end less;
      right = λ x is. let read = sized f bytes x is in absurd (omega (arith, read.1, less));
      faulty = λ e is. ap (λ (x : List ℕ). record_at f x) (nothing_more bytes (left_of after) (none_left after (fills.at_end less))) ∙ is;
    }

fault_stays : (f : Format) (bytes left : List ℕ) (e : CaptureFault) (size : ℕ) (b : Bool) → nat_lt (length bytes) size ≡ b → size ≡ 16 + size_at f bytes
    → (length bytes < size → left ≡ []) → record_at f bytes ≡ Err e → record_at f (bytes ++ left) ≡ Err e
fault_stays f bytes left e size true less is end bad =
    ap (λ (x : List ℕ). record_at f x) (nothing_more bytes left (end (grind (arith, nat_tests, less)))) ∙ bad
fault_stays f bytes left e size false whole is end bad =
    let long : size ≤ length bytes = grind (arith, nat_tests, whole) in
    record_before f bytes left (omega (arith, long, is)) (omega (arith, long, is)) ∙ bad

pub record_taken : (f : Format) (before mid after : Option (List ℕ)) (none header bytes : List ℕ) (size : ℕ) → none ≡ [] → Fills 16 before mid none header
    → 16 ≤ length header → size ≡ 16 + size_at f header → Fills size mid after header bytes → TakesRecord f before after bytes
record_taken f before mid after none header bytes size empty first long is second =
    let P : List ℕ → Type 0 = λ x. Consumes before mid x in
    let Q : List ℕ → Type 0 = λ x. Consumes before after x in
    let front : Consumes before mid header = subst P (all_given none first.given header empty first.appended) first.consumed in
    let same : size_at f bytes ≡ size_at f header =
    ap (λ (x : List ℕ). size_at f x) second.appended ∙ number_before f.little 8 header second.given (omega (arith, long)) in
    let there : length bytes ≡ length header + length second.given = ap length second.appended ∙ length-append header second.given in
    let small : length header ≤ 16 = first.within (omega (arith, ap length empty)) in
    let within : length bytes ≤ size = second.within (omega (arith, small, is)) in
    record {
      taken = subst Q (sym second.appended) (Consumes-trans before mid after header second.given front second.consumed);
      ends = λ h. absurd (omega (arith, ap length h, there, long));
      right = λ x read.
          let by = sized f bytes x read in
          (omega (arith, by.0, by.2, within, is, same), λ rest. record_before f bytes rest by.1 (omega (arith, by.0, by.2)) ∙ read);
      faulty = λ e bad.
          fault_stays f bytes (left_of after) e size (nat_lt (length bytes) size) refl (omega (arith, is, same)) (λ less. none_left after (second.at_end less)) bad;
    }

pub on_record : {A E : Type 0} → (r : Result A E) (f : Format) (before mid after : Option (List ℕ)) (none header bytes : List ℕ) (size : ℕ) → none ≡ []
    → Fills 16 before mid none header → 16 ≤ length header → size ≡ 16 + size_at f header → OnOk r (Fills size mid after header bytes)
    → OnOk r (TakesRecord f before after bytes)
on_record (Ok x) f before mid after none header bytes size empty first long is second = record_taken f before mid after none header bytes size empty first long is second
on_record (Err e) f before mid after none header bytes size empty first long is second = tt

-- the header says that the record is longer than the longest that is taken
pub too_long : (f : Format) (before mid : Option (List ℕ)) (none header rest : List ℕ) (size : ℕ) → none ≡ [] → Fills 16 before mid none header
    → 16 ≤ length header → size ≡ 16 + size_at f header → max_record < size → before ≡ Some rest → max_record < 16 + size_at f rest
too_long f before mid none header rest size empty first long is over at =
    let one = filled_first 16 before mid none header rest empty first at in
    let same : size_at f rest ≡ size_at f header =
    ap (λ (x : List ℕ). size_at f x) one.2 ∙ number_before f.little 8 header one.0 (omega (arith, long)) in
    omega (arith, is, same, over)
