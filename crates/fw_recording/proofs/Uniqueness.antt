-- A capture has one list of records at most, and one end: what stands at a place is read as one thing.
use Rattle.std.proofs.Common.{◌≡◌, ◌≢◌, ℕ, List, [], ◌∷◌, Option, Some, None, Result, Ok, Err, inl, inr, refl, sym, ap, subst, ◌∙◌}
use Rattle.fw_capture.specs.declared.fault.CaptureError.{CaptureError}
use Rattle.fw_capture.specs.declared.format.Format.{Format}
use Rattle.fw_capture.specs.Place.{Place}
use Rattle.fw_capture.specs.Reading.{record_at, header_at}
use Rattle.fw_capture.specs.Steps.{OpensAs, after}
use Rattle.fw_capture.specs.View.{Told}
use Rattle.fw_recording.specs.Laws.{OneReading}
use Rattle.fw_recording.specs.Records.{EndsAt, HasRecords}

-- the value of a result, or another; and so its fault
abbrev value_or : {T E : Type 0} → T → Result T E → T
value_or x (Ok y) = y
value_or x (Err e) = x

abbrev fault_or : {T E : Type 0} → E → Result T E → E
fault_or e (Ok x) = e
fault_or e (Err f) = f

one_value : {T E : Type 0} (r : Result T E) (x y : T) → r ≡ Ok x → r ≡ Ok y → x ≡ y
one_value r x y one two = ap (value_or x) (sym one ∙ two)

one_fault : {T E : Type 0} (r : Result T E) (e f : E) → r ≡ Err e → r ≡ Err f → e ≡ f
one_fault r e f one two = ap (fault_or e) (sym one ∙ two)

not_both : {T E : Type 0} (r : Result T E) (x : T) (e : E) → r ≡ Ok x → r ≡ Err e → ⊥
not_both r x e one two = let both = sym one ∙ two in absurd (cc)

same_error : (e f : CaptureError) → e.fault ≡ f.fault → e.offset ≡ f.offset → e ≡ f
same_error e f faults offsets = λ i. record { fault = faults i; offset = offsets i }

-- no record is read of no byte
no_record : (f : Format) (x : ℕ × Told × ℕ) → record_at f [] ≢ Ok x
unfolding record_at
no_record f x is = absurd (cc)

same_end : (place : Place) (e f : Option CaptureError) → EndsAt place e → EndsAt place f → e ≡ f
same_end place None None a b = refl
same_end place None (Some f) a b = absurd (b.2 a)
same_end place (Some e) None a b = absurd (a.2 b)
same_end place (Some e) (Some f) a b =
    ap Some (same_error e f (one_fault (record_at place.format place.rest) e.fault f.fault a.0 b.0) (a.1 ∙ sym b.1))

-- where the capture ends, no record is read
no_more : (place : Place) (e : Option CaptureError) (x : ℕ × Told × ℕ) → EndsAt place e → record_at place.format place.rest ≢ Ok x
no_more place None x at read = no_record place.format x (ap (record_at place.format) (sym at) ∙ read)
no_more place (Some e) x at read = not_both (record_at place.format place.rest) x e.fault read at.0

same_records : (place : Place) (some others : List (ℕ × Told)) (e f : Option CaptureError)
    → HasRecords place some e → HasRecords place others f → (some ≡ others) × (e ≡ f)
same_records place [] [] e f one two = (refl, same_end place e f one two)
same_records place [] (s ∷ others) e f one two = absurd (no_more place e (s.0, s.1, two.0) one two.1)
same_records place (r ∷ some) [] e f one two = absurd (no_more place f (r.0, r.1, one.0) two one.1)
same_records place (r ∷ some) (s ∷ others) e f one two =
    let same = one_value (record_at place.format place.rest) (r.0, r.1, one.0) (s.0, s.1, two.0) one.1 two.1 in
    let sizes : one.0 ≡ two.0 = ap (λ (x : ℕ × Told × ℕ). x.2) same in
    let left = subst (λ (size : ℕ). HasRecords (after size place) others f) (sym sizes) two.2 in
    let later = same_records (after one.0 place) some others e f one.2 left in
    (λ i. ((same i).0, (same i).1) ∷ later.0 i, later.1)

same_place : (capture : List ℕ) (p q : Place) → OpensAs capture (Ok p) → OpensAs capture (Ok q) → p ≡ q
same_place capture p q one two =
    let formats = one_value (header_at capture) p.format q.format one.0 two.0 in
    let rests : p.rest ≡ q.rest = one.1 ∙ sym two.1 in
    let offsets : p.offset ≡ q.offset = one.2 ∙ sym two.2 in
    λ i. record { format = formats i; rest = rests i; offset = offsets i }

pub one_reading : OneReading
one_reading capture some others e f (inl (p, opens, one)) (inl (q, opens_too, two)) =
    same_records p some others e f one
    (subst (λ (place : Place). HasRecords place others f) (sym (same_place capture p q opens opens_too)) two)
one_reading capture some others e f (inl (p, opens, one)) (inr (bad, refused, two, end)) =
    absurd (not_both (header_at capture) p.format bad.fault opens.0 refused.0)
one_reading capture some others e f (inr (bad, refused, one, end)) (inl (q, opens, two)) =
    absurd (not_both (header_at capture) q.format bad.fault opens.0 refused.0)
one_reading capture some others e f (inr (bad, refused, one, end)) (inr (worse, refused_too, two, other_end)) =
    let faults = one_fault (header_at capture) bad.fault worse.fault refused.0 refused_too.0 in
    let same = same_error bad worse faults (refused.1 ∙ sym refused_too.1) in
    (one ∙ sym two, end ∙ ap Some same ∙ sym other_end)
