-- What a meter does leaves it its capacity.
use Rattle.std.proofs.Common.{◌≡◌, ◌∙◌, ◌+◌, ℕ, Bool, true, false, List, Option, Some, None, inl, inr, refl, ap}
use Rattle.fw_names.specs.Name.{Name}
use Rattle.fw_verify.specs.Slices.{slice_size}
use Rattle.fw_image.specs.Laws.{StepKeepsSize, TurnKeepsSize}
use Rattle.fw_image.specs.Meter.{Meter, Phase, idle, receiving, verifying, verified, spoilt, switched, goal_bytes}
use Rattle.fw_image.specs.Step.{OperationOutcome, done, refused, verification_initiated, Operation, enable, initiate, block, verify, activate, begun, digested_phase, spoilt_phase, switched_to, verified_phase, with_cell, Does, Judges, Leaves, Tears, TurnsIn}
use Rattle.fw_image.specs.declared.error.Refusal.TheVariants.{Disabled, BadInitiate, BadBlock, Missing, Fault, Differs}

kept : (this old new : Meter) → Leaves true this new → this.capacity ≡ old.capacity → new.capacity ≡ old.capacity
kept this old new h same = ap (λ (m : Meter). m.capacity) (h.is refl) ∙ same

switched_size : (m : Meter) (phase : Phase) (bytes : Option (List ℕ)) → (switched_to m phase bytes).capacity ≡ m.capacity
switched_size m idle bytes = refl
switched_size m (receiving goal) bytes = refl
switched_size m (verifying goal taken) bytes = refl
switched_size m (verified goal) None = refl
switched_size m (verified goal) (Some bytes) = refl
switched_size m (spoilt goal) bytes = refl
switched_size m switched bytes = refl

judged : (old new : Meter) (genuine : Bool) → Judges true old genuine new → new.capacity ≡ old.capacity
judged old new true h = kept (record old { phase = verified_phase old.phase }) old new h.0 refl
judged old new false h = kept (record old { phase = spoilt_phase old.phase }) old new h.0 refl

torn : (old new : Meter) (i : ℕ) (value : List ℕ) → Tears true old i value new → new.capacity ≡ old.capacity
torn old new i value (inl h) = kept old old new h refl
torn old new i value (inr (there, any, was, size, left)) = kept (with_cell old i any) old new left refl

enabled : (old new : Meter) (b : Bool) (made : OperationOutcome) → Does true old (enable b) made new → new.capacity ≡ old.capacity
enabled old new b done h = kept (record old { enabled = b }) old new h refl
enabled old new b (refused Disabled) h = absurd h
enabled old new b (refused BadInitiate) h = absurd h
enabled old new b (refused BadBlock) h = absurd h
enabled old new b (refused Missing) h = absurd h
enabled old new b (refused Fault) h = kept old old new h refl
enabled old new b (refused Differs) h = absurd h
enabled old new b verification_initiated h = absurd h

initiated : (old new : Meter) (name : Name) (size : ℕ) (made : OperationOutcome) → Does true old (initiate name size) made new → new.capacity ≡ old.capacity
initiated old new name size done h = kept (begun old name size) old new h refl
initiated old new name size (refused Disabled) h = absurd h
initiated old new name size (refused BadInitiate) h = absurd h
initiated old new name size (refused BadBlock) h = absurd h
initiated old new name size (refused Missing) h = absurd h
initiated old new name size (refused Fault) h = kept old old new h refl
initiated old new name size (refused Differs) h = absurd h
initiated old new name size verification_initiated h = absurd h

blocked : (old new : Meter) (i : ℕ) (value : List ℕ) (made : OperationOutcome) → Does true old (block i value) made new → new.capacity ≡ old.capacity
blocked old new i value done h = kept (with_cell old i value) old new h refl
blocked old new i value (refused Disabled) h = absurd h
blocked old new i value (refused BadInitiate) h = absurd h
blocked old new i value (refused BadBlock) h = absurd h
blocked old new i value (refused Missing) h = absurd h
blocked old new i value (refused Fault) h = torn old new i value h
blocked old new i value (refused Differs) h = absurd h
blocked old new i value verification_initiated h = absurd h

verified_so : (old new : Meter) (made : OperationOutcome) → Does true old verify made new → new.capacity ≡ old.capacity
verified_so old new done h = judged old new true h.1
verified_so old new (refused Disabled) h = absurd h
verified_so old new (refused BadInitiate) h = absurd h
verified_so old new (refused BadBlock) h = absurd h
verified_so old new (refused Missing) h = absurd h
verified_so old new (refused Fault) h = kept old old new h refl
verified_so old new (refused Differs) h = judged old new false h.1
verified_so old new verification_initiated h = kept (record old { phase = digested_phase old.phase slice_size }) old new h.1 refl

activated : (old new : Meter) (made : OperationOutcome) → Does true old activate made new → new.capacity ≡ old.capacity
activated old new done h = kept (switched_to old old.phase (goal_bytes old)) old new h (switched_size old old.phase (goal_bytes old))
activated old new (refused Disabled) h = absurd h
activated old new (refused BadInitiate) h = absurd h
activated old new (refused BadBlock) h = absurd h
activated old new (refused Missing) h = absurd h
activated old new (refused Fault) h = kept old old new h refl
activated old new (refused Differs) h = absurd h
activated old new verification_initiated h = absurd h

done_size : (old new : Meter) (operation : Operation) (made : OperationOutcome) → Does true old operation made new → new.capacity ≡ old.capacity
done_size old new (enable b) made h = enabled old new b made h
done_size old new (initiate name size) made h = initiated old new name size made h
done_size old new (block i value) made h = blocked old new i value made h
done_size old new verify made h = verified_so old new made h
done_size old new activate made h = activated old new made h

pub stepped_size : StepKeepsSize
stepped_size old new operation made (inl h) = kept old old new h.same refl
stepped_size old new operation made (inr h) = done_size old new operation made h.does

turned_in : (phase : Phase) (old new : Meter) → TurnsIn phase true old true new → new.capacity ≡ old.capacity
turned_in idle old new h = ap (λ (m : Meter). m.capacity) h
turned_in (receiving goal) old new h = ap (λ (m : Meter). m.capacity) h
turned_in (verifying goal taken) old new (inl h) = kept (record old { phase = verifying goal (taken + slice_size) }) old new h.1 refl
turned_in (verifying goal taken) old new (inr (last, inl h)) = judged old new true h
turned_in (verifying goal taken) old new (inr (last, inr h)) = judged old new false h
turned_in (verified goal) old new h = ap (λ (m : Meter). m.capacity) h
turned_in (spoilt goal) old new h = ap (λ (m : Meter). m.capacity) h
turned_in switched old new h = ap (λ (m : Meter). m.capacity) h

pub turned_size : TurnKeepsSize
turned_size old new h = turned_in old.phase old new h
