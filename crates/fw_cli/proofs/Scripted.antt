-- What a command that runs a script says by a fault, from when the fault came.
use Rattle.std.proofs.Common.{◌≡◌, ℕ, List, [], Option, Result, Err, IfErr, inl, inr, refl, sym, subst, arith}
use Rattle.std.specs.Prelude.{IsTrue, is_some, ◌⊎◌, ◌≢◌, ◌≤◌}
use Rattle.std.proofs.KnownBytes.{Consumes-nil, Keeps-refl}
use Rattle.fw_faults.specs.declared.fault.Fault.{Fault}
use Rattle.fw_faults.specs.declared.fault.Fault.TheVariants as fault
use Rattle.fw_faults.specs.declared.error.InputError.{InputError}
use Rattle.fw_faults.specs.declared.error.InputError.TheVariants as input_error
use Rattle.fw_faults.specs.Faults.{fault_of_input}
use Rattle.fw_faults.specs.Reading.{Gives, ReadsAll, ReadsUntil, max_input}
use Rattle.fw_script.specs.Script.{IsBadLine}
use Rattle.fw_script.specs.declared.error.FatesError.{FatesError}
use Rattle.fw_script.specs.declared.error.FatesError.TheVariants as fates
use Rattle.fw_cli.specs.Private.{IsOfLiveWorkers, IsOfWorkers, fault_of_run_capture, fault_of_script_input}
use Rattle.fw_cli.specs.Rehearsing.{IsBarredIn}
use Rattle.fw_cli.specs.Replaying.{MakesOne, MayTakeMemory, MayWantFor, ReadsOne}
use Rattle.fw_cli.specs.Scripts.{EndsBy, fault_of_fates, fault_of_replay}
use Rattle.fw_cli.specs.declared.capture.RunCaptureError.{RunCaptureError}
use Rattle.fw_cli.specs.declared.capture.RunCaptureError.TheVariants as run_capture
use Rattle.fw_cli.specs.declared.replay.ReplayingError.{ReplayingError}
use Rattle.fw_cli.specs.declared.replay.ReplayingError.TheVariants as replay
use Rattle.fw_cli.specs.declared.workers.ScriptInputError.{ScriptInputError}
use Rattle.fw_cli.specs.declared.workers.ScriptInputError.TheVariants as script_input

-- ---- when a fault comes

-- before anything is read
abbrev IsOfFates : Fault → Type 0
IsOfFates fault.BadFates = Unit {0}
IsOfFates fault.OutOfMemory = Unit {0}
IsOfFates f = ⊥

-- while the script is read
abbrev IsOfReading : Fault → Type 0
IsOfReading fault.Input = Unit {0}
IsOfReading fault.TooMuchInput = Unit {0}
IsOfReading fault.OutOfMemory = Unit {0}
IsOfReading (fault.BadLine number) = Unit {0}
IsOfReading f = ⊥

-- once all input was read, and before anything is captured
abbrev pub IsOfRun : Fault → Type 0
IsOfRun (fault.BadLine number) = Unit {0}
IsOfRun fault = IsOfLiveWorkers fault

-- of the capture
abbrev IsOfCapturing : Fault → Type 0
IsOfCapturing fault.OutOfMemory = Unit {0}
IsOfCapturing fault.CaptureFault = Unit {0}
IsOfCapturing f = ⊥

-- of the writer
abbrev IsOfWriting : Fault → Type 0
IsOfWriting fault.Output = Unit {0}
IsOfWriting f = ⊥

pub of_workers : (f : Fault) → IsOfWorkers f → IsOfLiveWorkers f
of_workers fault.Socket is = tt
of_workers f is = is

pub of_run : (f : Fault) → IsOfLiveWorkers f → IsOfRun f
of_run (fault.BadLine number) is = tt
of_run f is = is

of_reading : (f : Fault) → (f ≡ fault.Input) ⊎ ((f ≡ fault.TooMuchInput) ⊎ ((f ≡ fault.OutOfMemory) ⊎ ((number : ℕ) × (f ≡ fault.BadLine number)))) → IsOfReading f
of_reading f (inl e) = subst IsOfReading (sym e) tt
of_reading f (inr (inl e)) = subst IsOfReading (sym e) tt
of_reading f (inr (inr (inl e))) = subst IsOfReading (sym e) tt
of_reading f (inr (inr (inr (number, e)))) = subst IsOfReading (sym e) tt

-- ---- how far the reading was

read_none : (f : Fault) (before : Option (List ℕ)) → IsOfFates f → ReadsUntil f before before
read_none fault.BadFates before is = tt
read_none fault.OutOfMemory before is = ([], Consumes-nil before, omega arith)
read_none f before is = absurd is

read_all : (f : Fault) (before after : Option (List ℕ)) (input : List ℕ) → ReadsAll before after input → IsOfRun f → ReadsUntil f before after
read_all fault.OutOfMemory before after input all is = (input, all.given, all.within)
read_all fault.Input before after input all is = absurd is
read_all fault.TooMuchInput before after input all is = absurd is
read_all fault.Output before after input all is = absurd is
read_all f before after input all is = tt

read_captured : (f : Fault) (before after : Option (List ℕ)) (input : List ℕ) → ReadsAll before after input → IsOfCapturing f → ReadsUntil f before after
read_captured fault.OutOfMemory before after input all is = (input, all.given, all.within)
read_captured fault.CaptureFault before after input all is = tt
read_captured f before after input all is = absurd is

-- ---- what is said then

of_fates : (f : Fault) → (f ≡ fault.BadFates) ⊎ (f ≡ fault.OutOfMemory) → IsOfFates f
of_fates f (inl e) = subst IsOfFates (sym e) tt
of_fates f (inr e) = subst IsOfFates (sym e) tt

pub unbegun : {C : Type 0} (MayWant : Type 0) (IsUnmade : List ℕ → Type 0) (before : Option (List ℕ)) (capture : Option C) (first : Option (List ℕ)) (f : Fault)
    → (f ≡ fault.OutOfMemory → MayWant) → (f ≡ fault.BadFates) ⊎ (f ≡ fault.OutOfMemory)
    → EndsBy MayWant IsUnmade before before capture capture first first f
unbegun MayWant IsUnmade before capture first f memory faults =
    let is : IsOfFates f = of_fates f faults in
    record {
      bad_line = λ number other. absurd (subst IsOfFates other is);
      bad_setup = λ other. absurd (subst IsOfFates other is);
      event = λ other. absurd (subst IsOfFates other is);
      memory = memory;
      capture_fault = λ other. absurd (subst IsOfFates other is);
      reading = read_none f before is;
      silent = λ _. Keeps-refl first;
      uncaptured = λ _ _. refl;
    }

pub unread : {C : Type 0} (IsUnmade : List ℕ → Type 0) (before after : Option (List ℕ)) (capture : Option C) (first : Option (List ℕ)) (f : Fault)
    → ((number : ℕ) → f ≡ fault.BadLine number → ReadsOne before after (λ input. IsBadLine input number))
    → (f ≡ fault.OutOfMemory → MayWantFor before after) → ReadsUntil f before after
    → (f ≡ fault.Input) ⊎ ((f ≡ fault.TooMuchInput) ⊎ ((f ≡ fault.OutOfMemory) ⊎ ((number : ℕ) × (f ≡ fault.BadLine number))))
    → EndsBy (MayWantFor before after) IsUnmade before after capture capture first first f
unread IsUnmade before after capture first f bad_line memory reading faults =
    let is : IsOfReading f = of_reading f faults in
    record {
      bad_line = bad_line;
      bad_setup = λ other. absurd (subst IsOfReading other is);
      event = λ other. absurd (subst IsOfReading other is);
      memory = memory;
      capture_fault = λ other. absurd (subst IsOfReading other is);
      reading = reading;
      silent = λ _. Keeps-refl first;
      uncaptured = λ _ _. refl;
    }

-- the same of input of which nothing is made
abbrev IsOfInput : Fault → Type 0
IsOfInput fault.Input = Unit {0}
IsOfInput fault.TooMuchInput = Unit {0}
IsOfInput fault.OutOfMemory = Unit {0}
IsOfInput f = ⊥

of_input : (f : Fault) → (f ≡ fault.Input) ⊎ ((f ≡ fault.TooMuchInput) ⊎ (f ≡ fault.OutOfMemory)) → IsOfInput f
of_input f (inl e) = subst IsOfInput (sym e) tt
of_input f (inr (inl e)) = subst IsOfInput (sym e) tt
of_input f (inr (inr e)) = subst IsOfInput (sym e) tt

any_reading : (f : Fault) → (f ≡ fault.Input) ⊎ ((f ≡ fault.TooMuchInput) ⊎ (f ≡ fault.OutOfMemory))
    → (f ≡ fault.Input) ⊎ ((f ≡ fault.TooMuchInput) ⊎ ((f ≡ fault.OutOfMemory) ⊎ ((number : ℕ) × (f ≡ fault.BadLine number))))
any_reading f (inl e) = inl e
any_reading f (inr (inl e)) = inr (inl e)
any_reading f (inr (inr e)) = inr (inr (inl e))

pub unread_input : {C : Type 0} (IsUnmade : List ℕ → Type 0) (before after : Option (List ℕ)) (capture : Option C) (first : Option (List ℕ)) (f : Fault)
    → (f ≡ fault.OutOfMemory → Gives before after (λ count. (1 ≤ count) × (count ≤ max_input))) → ReadsUntil f before after
    → (f ≡ fault.Input) ⊎ ((f ≡ fault.TooMuchInput) ⊎ (f ≡ fault.OutOfMemory))
    → EndsBy (MayWantFor before after) IsUnmade before after capture capture first first f
unread_input IsUnmade before after capture first f memory reading faults =
    let is : IsOfInput f = of_input f faults in
    unread IsUnmade before after capture first f (λ number other. absurd (subst IsOfInput other is)) (λ e. inl (memory e)) reading (any_reading f faults)

pub untold : {C : Type 0} (IsUnmade : List ℕ → Type 0) (before after : Option (List ℕ)) (capture : Option C) (first : Option (List ℕ)) (input : List ℕ) (f : Fault)
    → ReadsAll before after input
    → ((number : ℕ) → f ≡ fault.BadLine number → IsBadLine input number) → (f ≡ fault.BadSetup → IsUnmade input)
    → (f ≡ fault.Event → IsBarredIn input) → (f ≡ fault.OutOfMemory → MayTakeMemory input) → IsOfRun f
    → EndsBy (MayWantFor before after) IsUnmade before after capture capture first first f
untold IsUnmade before after capture first input f all bad_line bad_setup event memory is = record {
  bad_line = λ number e. (input, all, bad_line number e);
  bad_setup = λ e. (input, all, bad_setup e);
  event = λ e. (input, all, event e);
  memory = λ e. inr (input, all, memory e);
  capture_fault = λ other. absurd (subst IsOfRun other is);
  reading = read_all f before after input all is;
  silent = λ _. Keeps-refl first;
  uncaptured = λ _ _. refl;
}

same_line : (a b : ℕ) → fault.BadLine a ≡ fault.BadLine b → a ≡ b
same_line a b is = cc

-- of a replay: no event is refused so
pub unreplayed : {C : Type 0} (IsUnmade : List ℕ → Type 0) (before after : Option (List ℕ)) (capture : Option C) (first : Option (List ℕ)) (input : List ℕ) (e : ReplayingError)
    → ReadsAll before after input
    → ((number : ℕ) → e ≡ replay.BadLine number → IsBadLine input number) → (e ≡ replay.BadSetup → IsUnmade input)
    → (e ≡ replay.OutOfMemory → MayTakeMemory input)
    → (e ≡ replay.OutOfMemory) ⊎ ((e ≡ replay.BadSetup) ⊎ ((number : ℕ) × (e ≡ replay.BadLine number)))
    → EndsBy (MayWantFor before after) IsUnmade before after capture capture first first (fault_of_replay e)
unreplayed IsUnmade before after capture first input e all bad_line bad_setup memory (inl is) =
    subst (λ (e : ReplayingError). EndsBy (MayWantFor before after) IsUnmade before after capture capture first first (fault_of_replay e)) (sym is)
    (untold IsUnmade before after capture first input fault.OutOfMemory all (λ number other. absurd (cc other)) (λ other. absurd (cc other)) (λ other. absurd (cc other))
    (λ _. memory is) tt)
unreplayed IsUnmade before after capture first input e all bad_line bad_setup memory (inr (inl is)) =
    subst (λ (e : ReplayingError). EndsBy (MayWantFor before after) IsUnmade before after capture capture first first (fault_of_replay e)) (sym is)
    (untold IsUnmade before after capture first input fault.BadSetup all (λ number other. absurd (cc other)) (λ _. bad_setup is) (λ other. absurd (cc other))
    (λ other. absurd (cc other)) tt)
unreplayed IsUnmade before after capture first input e all bad_line bad_setup memory (inr (inr (line, is))) =
    subst (λ (e : ReplayingError). EndsBy (MayWantFor before after) IsUnmade before after capture capture first first (fault_of_replay e)) (sym is)
    (untold IsUnmade before after capture first input (fault.BadLine line) all (λ number other. subst (IsBadLine input) (same_line line number other) (bad_line line is))
    (λ other. absurd (cc other)) (λ other. absurd (cc other)) (λ other. absurd (cc other)) tt)

-- what was captured, where the capture didn't fail
same_captured : {C : Type 0} (capture captured : Option C) (f : Fault) → (f ≡ fault.OutOfMemory → captured ≡ capture)
    → (f ≡ fault.OutOfMemory) ⊎ (f ≡ fault.CaptureFault) → f ≢ fault.CaptureFault → captured ≡ capture
same_captured capture captured f same (inl e) other = same e
same_captured capture captured f same (inr e) other = absurd (other e)

of_capturing : (f : Fault) → (f ≡ fault.OutOfMemory) ⊎ (f ≡ fault.CaptureFault) → IsOfCapturing f
of_capturing f (inl e) = subst IsOfCapturing (sym e) tt
of_capturing f (inr e) = subst IsOfCapturing (sym e) tt

pub uncaptured : {C : Type 0} (IsUnmade : List ℕ → Type 0) (before after : Option (List ℕ)) (capture captured : Option C) (first : Option (List ℕ)) (input : List ℕ) (f : Fault)
    → ReadsAll before after input → MakesOne input → IsTrue (is_some capture) → (f ≡ fault.OutOfMemory → captured ≡ capture)
    → (f ≡ fault.OutOfMemory) ⊎ (f ≡ fault.CaptureFault)
    → EndsBy (MayWantFor before after) IsUnmade before after capture captured first first f
uncaptured IsUnmade before after capture captured first input f all makes asked same faults =
    let is : IsOfCapturing f = of_capturing f faults in
    record {
      bad_line = λ number other. absurd (subst IsOfCapturing other is);
      bad_setup = λ other. absurd (subst IsOfCapturing other is);
      event = λ other. absurd (subst IsOfCapturing other is);
      memory = λ _. inr (input, all, inr makes);
      capture_fault = λ _. (asked, (input, all, makes));
      reading = read_captured f before after input all is;
      silent = λ _. Keeps-refl first;
      uncaptured = λ _ other. same_captured capture captured f same faults other;
    }

pub unwritten : {C : Type 0} (IsUnmade : List ℕ → Type 0) (before after : Option (List ℕ)) (capture captured : Option C) (first last : Option (List ℕ)) (input : List ℕ) (f : Fault)
    → ReadsAll before after input → f ≡ fault.Output
    → EndsBy (MayWantFor before after) IsUnmade before after capture captured first last f
unwritten IsUnmade before after capture captured first last input f all e =
    let is : IsOfWriting f = subst IsOfWriting (sym e) tt in
    record {
      bad_line = λ number other. absurd (subst IsOfWriting other is);
      bad_setup = λ other. absurd (subst IsOfWriting other is);
      event = λ other. absurd (subst IsOfWriting other is);
      memory = λ other. absurd (subst IsOfWriting other is);
      capture_fault = λ other. absurd (subst IsOfWriting other is);
      reading = subst (λ (f : Fault). ReadsUntil f before after) (sym e) (input, all);
      silent = λ other. absurd (other e);
      uncaptured = λ other _. absurd (other e);
    }

-- memory may be wanted for more
pub wants_more : {C : Type 0} (MayWant MayWantMore : Type 0) (IsUnmade : List ℕ → Type 0) (before after : Option (List ℕ)) (capture captured : Option C) (first last : Option (List ℕ)) (f : Fault)
    → (MayWant → MayWantMore) → EndsBy MayWant IsUnmade before after capture captured first last f
    → EndsBy MayWantMore IsUnmade before after capture captured first last f
wants_more MayWant MayWantMore IsUnmade before after capture captured first last f more ends = record {
  bad_line = ends.bad_line;
  bad_setup = ends.bad_setup;
  event = ends.event;
  memory = λ e. more (ends.memory e);
  capture_fault = ends.capture_fault;
  reading = ends.reading;
  silent = ends.silent;
  uncaptured = ends.uncaptured;
}

-- ---- the errors of the parts of a command, as faults

-- a command ends so by an error that is this fault
pub ends_as : {A E C : Type 0} (r : Result A E) (of : E → Fault) (MayWant : Type 0) (IsUnmade : List ℕ → Type 0) (before after : Option (List ℕ)) (capture captured : Option C)
    (first last : Option (List ℕ)) (e : E) (f : Fault) → r ≡ Err e → of e ≡ f → EndsBy MayWant IsUnmade before after capture captured first last f
    → IfErr r (λ e. EndsBy MayWant IsUnmade before after capture captured first last (of e))
ends_as {A} {E} r of MayWant IsUnmade before after capture captured first last e f was same ends =
    subst (λ (x : Result A E). IfErr x (λ e. EndsBy MayWant IsUnmade before after capture captured first last (of e))) (sym was)
    (subst (λ (f : Fault). EndsBy MayWant IsUnmade before after capture captured first last f) (sym same) ends)

pub fates_memory : (e : FatesError) → fault_of_fates e ≡ fault.OutOfMemory → e ≡ fates.OutOfMemory
fates_memory fates.BadFates is = absurd (cc is)
fates_memory fates.OutOfMemory is = refl

pub of_fates_error : (e : FatesError) → (fault_of_fates e ≡ fault.BadFates) ⊎ (fault_of_fates e ≡ fault.OutOfMemory)
of_fates_error fates.BadFates = inl refl
of_fates_error fates.OutOfMemory = inr refl

pub input_memory : (e : InputError) → fault_of_input e ≡ fault.OutOfMemory → e ≡ input_error.OutOfMemory
input_memory input_error.Input is = absurd (cc is)
input_memory input_error.TooMuchInput is = absurd (cc is)
input_memory input_error.OutOfMemory is = refl

pub of_input_error : (e : InputError) → (fault_of_input e ≡ fault.Input) ⊎ ((fault_of_input e ≡ fault.TooMuchInput) ⊎ (fault_of_input e ≡ fault.OutOfMemory))
of_input_error input_error.Input = inl refl
of_input_error input_error.TooMuchInput = inr (inl refl)
of_input_error input_error.OutOfMemory = inr (inr refl)

pub script_line : (e : ScriptInputError) (number : ℕ) → fault_of_script_input e ≡ fault.BadLine number → e ≡ script_input.BadLine number
script_line script_input.Input number is = absurd (cc is)
script_line script_input.TooMuchInput number is = absurd (cc is)
script_line (script_input.BadLine n) number is = cc
script_line script_input.OutOfMemory number is = absurd (cc is)

pub script_memory : (e : ScriptInputError) → fault_of_script_input e ≡ fault.OutOfMemory → e ≡ script_input.OutOfMemory
script_memory script_input.Input is = absurd (cc is)
script_memory script_input.TooMuchInput is = absurd (cc is)
script_memory (script_input.BadLine n) is = absurd (cc is)
script_memory script_input.OutOfMemory is = refl

pub of_script_error : (e : ScriptInputError) → (fault_of_script_input e ≡ fault.Input) ⊎ ((fault_of_script_input e ≡ fault.TooMuchInput)
    ⊎ ((fault_of_script_input e ≡ fault.OutOfMemory) ⊎ ((number : ℕ) × (fault_of_script_input e ≡ fault.BadLine number))))
of_script_error script_input.Input = inl refl
of_script_error script_input.TooMuchInput = inr (inl refl)
of_script_error (script_input.BadLine n) = inr (inr (inr (n, refl)))
of_script_error script_input.OutOfMemory = inr (inr (inl refl))

pub capture_memory : (e : RunCaptureError) → fault_of_run_capture e ≡ fault.OutOfMemory → e ≡ run_capture.OutOfMemory
capture_memory run_capture.CaptureFault is = absurd (cc is)
capture_memory run_capture.OutOfMemory is = refl

pub of_capture_error : (e : RunCaptureError) → (fault_of_run_capture e ≡ fault.OutOfMemory) ⊎ (fault_of_run_capture e ≡ fault.CaptureFault)
of_capture_error run_capture.CaptureFault = inr refl
of_capture_error run_capture.OutOfMemory = inl refl
