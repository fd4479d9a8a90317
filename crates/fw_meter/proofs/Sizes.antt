-- What a meter does with a datagram leaves it its capacity.
use Rattle.std.proofs.Common.{true, ◌≡◌, inl, inr, ap}
use Rattle.fw_server.specs.Meaning as meaning
use Rattle.fw_server.specs.Meaning.{Meaning, meaning_of}
use Rattle.fw_image.specs.Meter.{Meter}
use Rattle.fw_image.specs.Step.{Operation, enable, initiate, block, verify, activate}
use Rattle.fw_image.specs.Laws.{StepKeepsSize}
use Rattle.fw_meter.specs.Laws.{KeepsSize}
use Rattle.fw_meter.specs.Step.{MeterResult, MeterStep, Operates}

operated_size : (steps : StepKeepsSize) (old new : Meter) (operation : Operation) (result : MeterResult) → Operates true old operation result new → new.capacity ≡ old.capacity
operated_size steps old new operation result (made, step, told) = steps old new operation made step

asked_size : (steps : StepKeepsSize) (old new : Meter) (asked : Meaning) (result : MeterResult) → MeterStep true old asked result new → new.capacity ≡ old.capacity
asked_size steps old new (meaning.read reading) result h = ap (λ (m : Meter). m.capacity) h.1
asked_size steps old new (meaning.refused refusal) result h = ap (λ (m : Meter). m.capacity) h.1
asked_size steps old new (meaning.enable b) result h = operated_size steps old new (enable b) result h
asked_size steps old new (meaning.initiate identifier size) result (inl (name, spells, h)) = operated_size steps old new (initiate name size) result h
asked_size steps old new (meaning.initiate identifier size) result (inr h) = ap (λ (m : Meter). m.capacity) h.2
asked_size steps old new (meaning.block i value) result h = operated_size steps old new (block i value) result h
asked_size steps old new meaning.verify result h = operated_size steps old new verify result h
asked_size steps old new meaning.activate result h = operated_size steps old new activate result h

pub handled_size : StepKeepsSize → KeepsSize
handled_size steps old new datagram reply activated (inl h) = asked_size steps old new (meaning_of h.content) h.responds.result h.responds.steps
handled_size steps old new datagram reply activated (inr h) = ap (λ (m : Meter). m.capacity) h.same
