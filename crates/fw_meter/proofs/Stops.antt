-- What a fault leaves is what a stop may leave.
use Rattle.std.proofs.Common.{◌≡◌, ◌≢◌, ℕ, zero, suc, Bool, true, false, IsTrue, List, Option, Some, None, ◌⊎◌, length, inl, inr, refl, ap, subst, ◌∙◌}
use Rattle.std.proofs.lemmas.Bool.{cases_eq}
use Rattle.std.specs.FinMap.{get}
use Rattle.fw_server.specs.Meaning.{Meaning, read, enable, initiate, block, verify, activate, refused as denied, meaning_of}
use Rattle.fw_store.specs.declared.header.Goal.{Goal}
use Rattle.fw_image.specs.Meter.{Meter, Phase, idle, receiving, verifying, verified, spoilt, switched, reopened}
use Rattle.fw_image.specs.State.{Counts}
use Rattle.fw_image.specs.Step as operations
use Rattle.fw_image.specs.Step.{Operation, refused, done, verification_initiated, Admits, IsBlock, Does, with_cell, Step, Turn, TurnsIn}
use Rattle.fw_image.specs.declared.error.Refusal.TheVariants.{Disabled, BadInitiate, BadBlock, Missing, Fault, Differs}
use Rattle.fw_names.specs.Name.{Name}
use Rattle.fw_meter.specs.Handling.{Handles}
use Rattle.fw_meter.specs.Laws.{Stops, FaultIsStop, TurnFaultIsStop}
use Rattle.fw_meter.specs.Step.{MeterResult, got, coded, tells_no_fault, Operates, MeterStep, operation_code, activation_of}

-- ---- an operation that returns a fault

made_fault : (made : operations.OperationOutcome) → coded 1 ≡ coded (operation_code made) → made ≡ refused Fault
made_fault done e = absurd cc
made_fault (refused Disabled) e = absurd cc
made_fault (refused BadInitiate) e = absurd cc
made_fault (refused BadBlock) e = absurd cc
made_fault (refused Missing) e = absurd cc
made_fault (refused Fault) e = refl
made_fault (refused Differs) e = absurd cc
made_fault verification_initiated e = absurd cc

-- the cell of the block that was to be written is torn
pub record TearsCell (old : Meter) (asked : Meaning) (new : Meter) : Type 0 where
  pub goal : Goal
  pub number : ℕ
  pub value : List ℕ
  pub there : List ℕ
  pub left : List ℕ
  pub asks : asked ≡ block number value
  pub receives : old.phase ≡ receiving goal
  pub is_block : IsBlock old.block_size goal.size number value
  pub was : get old.cells number ≡ Some there
  pub size : length left ≡ length value
  pub torn : new ≡ with_cell old number left

-- a phase that admits a block receives it
pub admits_block : (m : Meter) (phase : Phase) (i : ℕ) (value : List ℕ) → Admits m phase (operations.block i value)
    → (goal : Goal) × (phase ≡ receiving goal) × IsBlock m.block_size goal.size i value
admits_block m idle i value h = elim h [ ]
admits_block m (receiving goal) i value h = (goal, refl, h)
admits_block m (verifying goal taken) i value h = elim h [ ]
admits_block m (verified goal) i value h = elim h [ ]
admits_block m (spoilt goal) i value h = elim h [ ]
admits_block m switched i value h = elim h [ ]

-- only a block's operation leaves anything else than what was there
abbrev Left : Meter → Meaning → Meter → Type 0
Left old asked new = (new ≡ old) ⊎ TearsCell old asked new

left_by : (old new : Meter) (asked : Meaning) (operation : Operation) → (Does true old operation (refused Fault) new → new ≡ old)
    → Operates true old operation (coded 1) new → Left old asked new
left_by old new asked operation stays (made, step, told) =
    elim (subst (λ (x : operations.OperationOutcome). Step true old operation x new) (made_fault made told) step) [
      | inl h ↦ inl (h.same.is refl)
      | inr h ↦ inl (stays h.does)
    ]

left_by_block : (old new : Meter) (i : ℕ) (value : List ℕ) → Operates true old (operations.block i value) (coded 1) new → Left old (block i value) new
left_by_block old new i value (made, step, told) =
    elim (subst (λ (x : operations.OperationOutcome). Step true old (operations.block i value) x new) (made_fault made told) step) [
      | inl h ↦ inl (h.same.is refl)
      | inr h ↦ elim h.does [
        | inl leaves ↦ inl (leaves.is refl)
        | inr t ↦
            let admitted = admits_block old old.phase i value h.serves.1 in
            inr (record {
              goal = admitted.0;
              number = i;
              value = value;
              there = t.0;
              left = t.1;
              asks = refl;
              receives = admitted.1;
              is_block = admitted.2;
              was = t.2;
              size = t.3;
              torn = t.4.is refl;
            })
      ]
    ]

left : (old new : Meter) (asked : Meaning) → MeterStep true old asked (coded 1) new → Left old asked new
left old new (read reading) h = inl h.1
left old new (denied code) h = inl h.1
left old new (enable e) h = left_by old new (enable e) (operations.enable e) (λ does. does.is refl) h
left old new (initiate identifier size) (inl (name, spells, h)) = left_by old new (initiate identifier size) (operations.initiate name size) (λ does. does.is refl) h
left old new (initiate identifier size) (inr h) = inl h.2
left old new (block i value) h = left_by_block old new i value h
left old new verify h = left_by old new verify operations.verify (λ does. does.is refl) h
left old new activate h = left_by old new activate operations.activate (λ does. does.is refl) h

-- ---- what returns no fault, and what activates nothing

is_fault : (a : MeterResult) → (a ≡ coded 1) ⊎ (a ≢ coded 1)
is_fault (got answer) = inr (λ e. cc)
is_fault (coded c) = elim (cases_eq c 1) [ inl e ↦ inl (ap coded e) | inr n ↦ inr (λ e. n cc) ]

pub activates_none : (asked : Meaning) (new : Meter) → activation_of asked (coded 1) new ≡ None
activates_none (read reading) new = refl
activates_none (denied code) new = refl
activates_none (enable e) new = refl
activates_none (initiate identifier size) new = refl
activates_none (block i value) new = refl
activates_none verify new = refl
activates_none activate new = refl

pub fault_told_by : (a : MeterResult) → tells_no_fault a ≡ false → a ≡ coded 1
fault_told_by (got answer) e = absurd cc
fault_told_by (coded zero) e = absurd cc
fault_told_by (coded (suc zero)) e = refl
fault_told_by (coded (suc (suc c))) e = absurd cc

told_faultless : (a : MeterResult) → a ≢ coded 1 → IsTrue (tells_no_fault a)
told_faultless (got answer) n = refl
told_faultless (coded zero) n = refl
told_faultless (coded (suc zero)) n = absurd (n refl)
told_faultless (coded (suc (suc c))) n = refl

stops : (B : Bool → Type 0) (old new : Meter) (datagram : List ℕ) (reply : Option (List ℕ)) (activated : Option Name) → Handles true B old datagram reply activated new → Stops old datagram activated new
stops B old new datagram reply activated (inr h) = inl (h.same, h.none_activated)
stops B old new datagram reply activated (inl h) =
    let did = h.responds in
    let asked = meaning_of h.content in
    elim (is_fault did.result) [
      | inl fault ↦
          let none : activated ≡ None = did.activates ∙ ap (λ (a : MeterResult). activation_of asked a new) fault ∙ activates_none asked new in
          elim (left old new asked (subst (λ (a : MeterResult). MeterStep true old asked a new) fault did.steps)) [
            | inl same ↦ inl (same, none)
            | inr t ↦ inr (inl (
              record {
                source = h.source;
                invoke = h.invoke;
                content = h.content;
                goal = t.goal;
                number = t.number;
                value = t.value;
                there = t.there;
                left = t.left;
                brings = h.brings;
                asks = t.asks;
                receives = t.receives;
                is_block = t.is_block;
                was = t.was;
                size = t.size;
                torn = t.torn;
              },
              none,
            ))
          ]
      | inr n ↦ inr (inr (
        reply,
        inl (record {
          source = h.source;
          invoke = h.invoke;
          content = h.content;
          brings = h.brings;
          responds = record { result = did.result; steps = did.steps; replies = did.replies; activates = did.activates; faults = told_faultless did.result n };
        }),
      ))
    ]

pub fault_is_stop : FaultIsStop
fault_is_stop old new datagram reply activated honest h =
    stops (Counts old new) old.meter new.meter datagram reply activated
    (subst (λ (b : Bool). Handles b (Counts old new) old.meter datagram reply activated new.meter) honest h)

-- ---- a turn

turn_stops : (p : Phase) (faultless : Bool) (old new : Meter) → TurnsIn p true old faultless new → (new ≡ reopened old) ⊎ TurnsIn p true old true new
turn_stops p true old new h = inr h
turn_stops idle false old new h = elim h [ ]
turn_stops (receiving goal) false old new h = elim h [ ]
turn_stops (verifying goal taken) false old new h = inl (h.is refl)
turn_stops (verified goal) false old new h = elim h [ ]
turn_stops (spoilt goal) false old new h = elim h [ ]
turn_stops switched false old new h = elim h [ ]

pub turn_fault_is_stop : TurnFaultIsStop
turn_fault_is_stop old new faultless honest h =
    turn_stops old.meter.phase faultless old.meter new.meter (subst (λ (b : Bool). Turn b old.meter faultless new.meter) honest h)
