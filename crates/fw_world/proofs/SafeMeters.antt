-- What an operation keeps of a meter of the world.
use Rattle.std.proofs.Common.{◌≡◌, ℕ, ◌+◌, ◌≤◌, ◌-◌, Bool, true, false, List, [], ◌++◌, length, Option, Some, None, inl, inr, refl, sym, ◌∙◌, ap, subst, arith, All, Contains}
use Rattle.std.proofs.lemmas.List.Elements.{Contains-append_left, Contains-append_cases, Contains-push, Contains-push_cases, All-nil, All-cons}
use Rattle.sha2.specs.Sha256.{sha256}
use Rattle.sha2.proofs.Facts256.{length-sha256}
use Rattle.fw_names.specs.Name.{Campaign, Name, IsOpened, IsRelease, IsName, name_of}
use Rattle.fw_blocks.specs.Cuts.{block_start, block_end}
use Rattle.fw_store.specs.Header.{goal_count}
use Rattle.fw_store.specs.declared.header.Goal.{Goal}
use Rattle.fw_verify.specs.Slices.{slice_size}
use Rattle.fw_image.specs.declared.status.TransferStatus.TheVariants.{VerificationSuccessful}
use Rattle.fw_image.specs.Fits.{CellsFit}
use Rattle.fw_image.specs.Laws.{JoinedSize}
use Rattle.fw_image.specs.Meter.{Meter, Phase, idle, receiving, verifying, verified, spoilt, switched, status_of, goal_of, joined, goal_bytes, IsGenuine, reopened, reopened_phase, restarted}
use Rattle.fw_image.specs.Step.{Operation, enable, initiate, block, verify, activate, OperationOutcome, done, refused, verification_initiated, IsOffer, IsBlock, Admits, Serves, begun, with_cell, digested_phase, verified_phase, spoilt_phase, switched_to, Judges, Does, Step, Turn, TurnsIn}
use Rattle.fw_image.specs.declared.error.Refusal.{Refusal}
use Rattle.fw_image.specs.declared.error.Refusal.TheVariants.{Fault, Differs}
use Rattle.fw_world.specs.World.{Activation, Offers}
use Rattle.fw_world.specs.Step.{activated}
use Rattle.fw_world.specs.Headline.{IsOffered, FirstNames, IsOwn, IsSafe}
use Rattle.fw_world.proofs.Cells.{get_cases, no_cell}

-- what holds of the meter of a number
pub record IsSafeMeter (IsFirst : FirstNames) (offered : Offers) (activations : List Activation) (number : ℕ) (meter : Meter) : Type 0 where
  pub block_size : 1 ≤ meter.block_size
  pub named : IsName meter.running.name
  pub own : IsOwn IsFirst activations number meter.running.name
  pub running : sha256 meter.running.bytes ≡ meter.running.name.digest
  pub goals : (goal : Goal) → goal_of meter.phase ≡ Some goal → IsOffered offered goal.name goal.size
  pub aimed : (goal : Goal) → goal_of meter.phase ≡ Some goal → IsName goal.name
  -- releases rise: from those that it switched to, to the one that runs, to the goal's
  pub newest : (a : Activation) → Contains activations a → a.meter ≡ number → a.name.release ≤ meter.running.name.release
  pub risen : (goal : Goal) → goal_of meter.phase ≡ Some goal → meter.running.name.release ≤ goal.name.release
  pub cells : (goal : Goal) → goal_of meter.phase ≡ Some goal → CellsFit meter.block_size goal.size meter.cells
  pub verified : status_of meter.phase ≡ VerificationSuccessful → IsGenuine (goal_of meter.phase) (goal_bytes meter)

-- ---- more offers and activations

abbrev pub OffersGrow : Offers → Offers → Type 0
OffersGrow offered more = (campaign : Campaign) (image : List ℕ) → offered campaign ≡ Some image → more campaign ≡ Some image

pub offered_grows : (offered more : Offers) (name : Name) (size : ℕ) → OffersGrow offered more → IsOffered offered name size → IsOffered more name size
offered_grows offered more name size grows h = record { image = h.image; offers = grows name.campaign h.image h.offers; named = h.named; sized = h.sized }

pub own_grows : (IsFirst : FirstNames) (activations more : List Activation) (number : ℕ) (name : Name) → IsOwn IsFirst activations number name → IsOwn IsFirst (activations ++ more) number name
own_grows IsFirst activations more number name (inl first) = inl first
own_grows IsFirst activations more number name (inr had) = inr (had.0, Contains-append_left activations more _ had.1)

pub offers_grow : (IsFirst : FirstNames) (offered more : Offers) (activations : List Activation) (number : ℕ) (meter : Meter) → OffersGrow offered more
    → IsSafeMeter IsFirst offered activations number meter → IsSafeMeter IsFirst more activations number meter
offers_grow IsFirst offered more activations number meter grows k = record {
  block_size = k.block_size;
  named = k.named;
  own = k.own;
  running = k.running;
  goals = λ goal e. offered_grows offered more goal.name goal.size grows (k.goals goal e);
  aimed = k.aimed;
  newest = k.newest;
  risen = k.risen;
  cells = k.cells;
  verified = k.verified;
}

-- more activations, none of which is the meter's own
pub activations_grow : (IsFirst : FirstNames) (offered : Offers) (activations more : List Activation) (number : ℕ) (meter : Meter) → ((a : Activation) → Contains more a → a.meter ≡ number → ⊥)
    → IsSafeMeter IsFirst offered activations number meter → IsSafeMeter IsFirst offered (activations ++ more) number meter
activations_grow IsFirst offered activations more number meter others k = record {
  block_size = k.block_size;
  named = k.named;
  own = own_grows IsFirst activations more number meter.running.name k.own;
  running = k.running;
  goals = k.goals;
  aimed = k.aimed;
  newest = λ a held mine. elim (Contains-append_cases activations more a held) [
    | inl had ↦ k.newest a had mine
    | inr new ↦ absurd (others a new mine)
  ];
  risen = k.risen;
  cells = k.cells;
  verified = k.verified;
}

pub none_held : (a : Activation) → Contains [] a → ⊥
none_held a held = let within = held.1 in omega arith

-- an offered image's name has a spelling
pub offered_name : (offered : Offers) → ((campaign : Campaign) (image : List ℕ) → offered campaign ≡ Some image → IsOpened campaign) → (campaign : Campaign) (release : ℕ) (image : List ℕ) → offered campaign ≡ Some image
    → IsRelease campaign release → IsName (name_of campaign release image)
offered_name offered campaigns campaign release image offers is =
    record { is_campaign = inr (campaigns campaign image offers); is_release = is; digest_size = length-sha256 image }

one_goal : (o : Option Goal) (a b : Goal) → o ≡ Some a → o ≡ Some b → a ≡ b
one_goal o a b e f = cc

-- a phase that admits a block receives it
admits_block : (m : Meter) (phase : Phase) (number : ℕ) (value : List ℕ) → Admits m phase (block number value) → (goal : Goal) × (phase ≡ receiving goal) × IsBlock m.block_size goal.size number value
admits_block m idle number value h = elim h [ ]
admits_block m (receiving goal) number value h = (goal, refl, h)
admits_block m (verifying goal taken) number value h = elim h [ ]
admits_block m (verified goal) number value h = elim h [ ]
admits_block m (spoilt goal) number value h = elim h [ ]
admits_block m switched number value h = elim h [ ]

-- each admits just the offers of the meter
admits_initiate : (m : Meter) (phase : Phase) (name : Name) (size : ℕ) → Admits m phase (initiate name size) → IsOffer m.limit m.block_size m.capacity m.running.name.release name size
admits_initiate m idle name size h = h
admits_initiate m (receiving goal) name size h = h
admits_initiate m (verifying goal taken) name size h = h
admits_initiate m (verified goal) name size h = h
admits_initiate m (spoilt goal) name size h = h
admits_initiate m switched name size h = h

-- one that admits an activate is verified
pub admits_activate : (m : Meter) (phase : Phase) → Admits m phase activate → (goal : Goal) × (phase ≡ verified goal)
admits_activate m idle h = elim h [ ]
admits_activate m (receiving goal) h = elim h [ ]
admits_activate m (verifying goal taken) h = elim h [ ]
admits_activate m (verified goal) h = (goal, refl)
admits_activate m (spoilt goal) h = elim h [ ]
admits_activate m switched h = elim h [ ]

-- the bytes of a genuine goal
pub genuine_bytes : (goal : Goal) (o : Option (List ℕ)) → IsGenuine (Some goal) o → (bytes : List ℕ) × (o ≡ Some bytes) × (sha256 bytes ≡ goal.name.digest)
genuine_bytes goal None h = elim h [ ]
genuine_bytes goal (Some bytes) h = (bytes, refl, h)

-- ---- what each operation does

-- an image that an operation switches to
abbrev pub switches : Operation → OperationOutcome → Meter → Option Name
switches activate done new = Some new.running.name
switches operation outcome new = None

-- what an operation initiates is offered, and its name has a spelling
abbrev pub IsOfOffers : Offers → Operation → Type 0
IsOfOffers offered (initiate name size) = IsName name × IsOffered offered name size
IsOfOffers offered operation = Unit {0}

module _ (IsFirst : FirstNames) (offered : Offers) (activations : List Activation) (number : ℕ) where
  -- the meter is safe, and what it switched to runs, and is as offered
  pub record IsSafeAfter (name : Option Name) (new : Meter) : Type 0 where
    pub meter : IsSafeMeter IsFirst offered (activations ++ activated number name new) number new
    pub runs : (given : Name) → name ≡ Some given → given ≡ new.running.name
    pub activation : All (IsSafe offered) (activated number name new)

  pub quiet : (new : Meter) → IsSafeMeter IsFirst offered activations number new → IsSafeAfter None new
  quiet new k = record {
    meter = activations_grow IsFirst offered activations [] number new (λ a held mine. none_held a held) k;
    runs = λ given e. absurd cc;
    activation = All-nil (IsSafe offered);
  }

  enable_safe : (old : Meter) (b : Bool) → IsSafeMeter IsFirst offered activations number old → IsSafeMeter IsFirst offered activations number (record old { enabled = b })
  enable_safe old b k = record {
    block_size = k.block_size;
    named = k.named;
    own = k.own;
    running = k.running;
    goals = k.goals;
    aimed = k.aimed;
    newest = k.newest;
    risen = k.risen;
    cells = k.cells;
    verified = k.verified;
  }

  begun_safe : (old : Meter) (name : Name) (size : ℕ) → IsName name × IsOffered offered name size → old.running.name.release ≤ name.release → IsSafeMeter IsFirst offered activations number old
      → IsSafeMeter IsFirst offered activations number (begun old name size)
  begun_safe old name size offer rises k = record {
    block_size = k.block_size;
    named = k.named;
    own = k.own;
    running = k.running;
    goals = λ goal e. subst (λ (g : Goal). IsOffered offered g.name g.size) (one_goal _ _ goal refl e) offer.1;
    aimed = λ goal e. subst (λ (g : Goal). IsName g.name) (one_goal _ _ goal refl e) offer.0;
    newest = k.newest;
    risen = λ goal e. subst (λ (g : Goal). old.running.name.release ≤ g.name.release) (one_goal _ _ goal refl e) rises;
    cells = λ goal e n cell f. absurd (no_cell n cell f);
    verified = λ e. absurd cc;
  }

  -- a block of the goal is written, or any bytes of its length
  pub cell_safe : (old : Meter) (goal : Goal) (n : ℕ) (value left : List ℕ) → old.phase ≡ receiving goal → IsBlock old.block_size goal.size n value → length left ≡ length value
      → IsSafeMeter IsFirst offered activations number old → IsSafeMeter IsFirst offered activations number (with_cell old n left)
  cell_safe old goal n value left receives is_block size k = record {
    block_size = k.block_size;
    named = k.named;
    own = k.own;
    running = k.running;
    goals = k.goals;
    aimed = k.aimed;
    newest = k.newest;
    risen = k.risen;
    cells = λ g e other cell f. elim (get_cases old.cells n left other cell f) [
      | inl same ↦
          let block_length : ℕ → ℕ → ℕ = λ size number. block_end old.block_size size number - block_start old.block_size number in
          let goals : goal ≡ g = one_goal (goal_of old.phase) goal g (ap goal_of receives) e in
          sym (ap length same.1) ∙ size ∙ is_block.long ∙ (λ i. block_length (goals i).size (sym same.0 i))
      | inr had ↦ k.cells g e other cell had
    ];
    verified = λ e. let status = ap status_of receives in absurd cc;
  }

  -- another phase with the same goal, which is verified only if its bytes are genuine
  pub phase_safe : (old : Meter) (phase : Phase) → goal_of phase ≡ goal_of old.phase → (status_of phase ≡ VerificationSuccessful → IsGenuine (goal_of old.phase) (goal_bytes old))
      → IsSafeMeter IsFirst offered activations number old → IsSafeMeter IsFirst offered activations number (record old { phase = phase })
  phase_safe old phase same genuine k = record {
    block_size = k.block_size;
    named = k.named;
    own = k.own;
    running = k.running;
    goals = λ goal e. k.goals goal (sym same ∙ e);
    aimed = λ goal e. k.aimed goal (sym same ∙ e);
    newest = k.newest;
    risen = λ goal e. k.risen goal (sym same ∙ e);
    cells = λ goal e. k.cells goal (sym same ∙ e);
    verified = λ e. subst (λ (o : Option Goal). IsGenuine o (joined old.cells (goal_count old.block_size o))) (sym same) (genuine e);
  }

  verified_goal : (p : Phase) → goal_of (verified_phase p) ≡ goal_of p
  verified_goal idle = refl
  verified_goal (receiving goal) = refl
  verified_goal (verifying goal taken) = refl
  verified_goal (verified goal) = refl
  verified_goal (spoilt goal) = refl
  verified_goal switched = refl

  spoilt_goal : (p : Phase) → goal_of (spoilt_phase p) ≡ goal_of p
  spoilt_goal idle = refl
  spoilt_goal (receiving goal) = refl
  spoilt_goal (verifying goal taken) = refl
  spoilt_goal (verified goal) = refl
  spoilt_goal (spoilt goal) = refl
  spoilt_goal switched = refl

  -- what is verified afterwards was so before
  spoilt_status : (p : Phase) → status_of (spoilt_phase p) ≡ VerificationSuccessful → status_of p ≡ VerificationSuccessful
  spoilt_status idle e = e
  spoilt_status (receiving goal) e = absurd cc
  spoilt_status (verifying goal taken) e = absurd cc
  spoilt_status (verified goal) e = e
  spoilt_status (spoilt goal) e = e
  spoilt_status switched e = e

  digested_goal : (p : Phase) (taken : ℕ) → goal_of (digested_phase p taken) ≡ goal_of p
  digested_goal idle taken = refl
  digested_goal (receiving goal) taken = refl
  digested_goal (verifying goal n) taken = refl
  digested_goal (verified goal) taken = refl
  digested_goal (spoilt goal) taken = refl
  digested_goal switched taken = refl

  digested_status : (p : Phase) (taken : ℕ) → status_of (digested_phase p taken) ≡ VerificationSuccessful → status_of p ≡ VerificationSuccessful
  digested_status idle taken e = e
  digested_status (receiving goal) taken e = absurd cc
  digested_status (verifying goal n) taken e = e
  digested_status (verified goal) taken e = e
  digested_status (spoilt goal) taken e = e
  digested_status switched taken e = e

  reopened_goal : (p : Phase) → goal_of (reopened_phase p) ≡ goal_of p
  reopened_goal idle = refl
  reopened_goal (receiving goal) = refl
  reopened_goal (verifying goal taken) = refl
  reopened_goal (verified goal) = refl
  reopened_goal (spoilt goal) = refl
  reopened_goal switched = refl

  reopened_status : (p : Phase) → status_of (reopened_phase p) ≡ VerificationSuccessful → status_of p ≡ VerificationSuccessful
  reopened_status idle e = e
  reopened_status (receiving goal) e = e
  reopened_status (verifying goal taken) e = absurd cc
  reopened_status (verified goal) e = e
  reopened_status (spoilt goal) e = e
  reopened_status switched e = e

  -- a restart ends a verification that goes on
  pub reopened_safe : (old : Meter) → IsSafeMeter IsFirst offered activations number old → IsSafeMeter IsFirst offered activations number (reopened old)
  reopened_safe old k = phase_safe old (reopened_phase old.phase) (reopened_goal old.phase) (λ e. k.verified (reopened_status old.phase e)) k

  -- and leaves all else except how many blocks an image may have
  pub restarted_safe : (old : Meter) → IsSafeMeter IsFirst offered activations number old → IsSafeMeter IsFirst offered activations number (restarted old)
  restarted_safe old k =
      let kept = reopened_safe old k in record {
        block_size = kept.block_size;
        named = kept.named;
        own = kept.own;
        running = kept.running;
        goals = kept.goals;
        aimed = kept.aimed;
        newest = kept.newest;
        risen = kept.risen;
        cells = kept.cells;
        verified = kept.verified;
      }

  -- the goal's bytes are judged
  judges_safe : (old new : Meter) (genuine : Bool) → Judges true old genuine new → IsSafeMeter IsFirst offered activations number old → IsSafeMeter IsFirst offered activations number new
  judges_safe old new true judges k =
      subst (IsSafeMeter IsFirst offered activations number) (sym (judges.0.is refl)) (phase_safe old (verified_phase old.phase) (verified_goal old.phase) (λ e. judges.1 refl) k)
  judges_safe old new false judges k =
      subst (IsSafeMeter IsFirst offered activations number) (sym (judges.0.is refl))
      (phase_safe old (spoilt_phase old.phase) (spoilt_goal old.phase) (λ e. k.verified (spoilt_status old.phase e)) k)

  -- a turn digests a slice more, or judges
  turns_safe : (old new : Meter) → IsSafeMeter IsFirst offered activations number old → (p : Phase) → old.phase ≡ p → TurnsIn p true old true new → IsSafeMeter IsFirst offered activations number new
  turns_safe old new k (verifying goal taken) is (inl on) =
      subst (IsSafeMeter IsFirst offered activations number) (sym (on.1.is refl)) (phase_safe old (verifying goal (taken + slice_size)) (sym (ap goal_of is)) (λ e. absurd cc) k)
  turns_safe old new k (verifying goal taken) is (inr (last, inl genuine)) = judges_safe old new true genuine k
  turns_safe old new k (verifying goal taken) is (inr (last, inr other)) = judges_safe old new false other k
  turns_safe old new k idle is same = subst (IsSafeMeter IsFirst offered activations number) (sym same) k
  turns_safe old new k (receiving goal) is same = subst (IsSafeMeter IsFirst offered activations number) (sym same) k
  turns_safe old new k (verified goal) is same = subst (IsSafeMeter IsFirst offered activations number) (sym same) k
  turns_safe old new k (spoilt goal) is same = subst (IsSafeMeter IsFirst offered activations number) (sym same) k
  turns_safe old new k switched is same = subst (IsSafeMeter IsFirst offered activations number) (sym same) k

  pub turn_safe : (old new : Meter) → IsSafeMeter IsFirst offered activations number old → Turn true old true new → IsSafeMeter IsFirst offered activations number new
  turn_safe old new k turn = turns_safe old new k old.phase refl turn

  -- the goal of a verified meter becomes the image that runs
  switched_safe : (old : Meter) (goal : Goal) (bytes : List ℕ) → goal_of old.phase ≡ Some goal → length bytes ≡ goal.size → sha256 bytes ≡ goal.name.digest
      → IsSafeMeter IsFirst offered activations number old → IsSafeAfter (Some goal.name) (switched_to old (verified goal) (Some bytes))
  switched_safe old goal bytes is size digest k = record {
    meter = record {
      block_size = k.block_size;
      named = k.aimed goal is;
      own = inr (bytes, Contains-push activations _);
      running = digest;
      goals = λ g e. absurd cc;
      aimed = λ g e. absurd cc;
      newest = λ a held mine. elim (Contains-push_cases activations _ a held) [
        | inl had ↦
            let was = k.newest a had mine in
            let rises = k.risen goal is in
            let now : a.name.release ≤ goal.name.release = omega arith in
            now
        | inr same ↦ let level : goal.name.release ≤ goal.name.release = omega arith in subst (λ (x : Activation). x.name.release ≤ goal.name.release) same level
      ];
      risen = λ g e. absurd cc;
      cells = λ g e. absurd cc;
      verified = λ e. absurd cc;
    };
    runs = λ given e. one_name given goal.name e;
    activation = All-cons (IsSafe offered) _ []
        (record { image = offer.image; offers = offer.offers; sized = size ∙ offer.sized; digest = digest; named = sym offer.named })
        (All-nil (IsSafe offered));
  }
    where
      offer : IsOffered offered goal.name goal.size
      offer = k.goals goal is

      one_name : (a b : Name) → Some b ≡ Some a → a ≡ b
      one_name a b e = cc

  activate_safe : JoinedSize → (old new : Meter) → IsSafeMeter IsFirst offered activations number old → Admits old old.phase activate → new ≡ switched_to old old.phase (goal_bytes old)
      → IsSafeAfter (Some new.running.name) new
  activate_safe sizes old new k admits is =
      let has_verified = admits_activate old old.phase admits in
      let goal : Goal = has_verified.0 in
      let phase : old.phase ≡ verified goal = has_verified.1 in
      let goal_is : goal_of old.phase ≡ Some goal = ap goal_of phase in
      let genuine : IsGenuine (Some goal) (goal_bytes old) =
      subst (λ (o : Option Goal). IsGenuine o (goal_bytes old)) goal_is (k.verified (ap status_of phase)) in
      let bytes = genuine_bytes goal (goal_bytes old) genuine in
      let whole : joined old.cells (goal_count old.block_size (Some goal)) ≡ Some bytes.0 =
      ap (λ (o : Option Goal). joined old.cells (goal_count old.block_size o)) (sym goal_is) ∙ bytes.1 in
      let size : length bytes.0 ≡ goal.size = sizes old.block_size goal.size old.cells bytes.0 k.block_size (k.cells goal goal_is) whole in
      let same : new ≡ switched_to old (verified goal) (Some bytes.0) = is ∙ (λ i. switched_to old (phase i) (bytes.1 i)) in
      subst (λ (m : Meter). IsSafeAfter (Some m.running.name) m) (sym same)
      (switched_safe old goal bytes.0 goal_is size bytes.2 k)

  -- an operation that no line refuses
  does_safe : JoinedSize → (old new : Meter) → IsSafeMeter IsFirst offered activations number old → (operation : Operation) (outcome : OperationOutcome) → IsOfOffers offered operation → Serves old operation → Does true old operation outcome new
      → IsSafeAfter (switches operation outcome new) new
  does_safe sizes old new k (enable b) done asks serves does = quiet new (subst (IsSafeMeter IsFirst offered activations number) (sym (does.is refl)) (enable_safe old b k))
  does_safe sizes old new k (initiate name size) done asks serves does =
      let rises = (admits_initiate old old.phase name size serves.1).risen in
      quiet new (subst (IsSafeMeter IsFirst offered activations number) (sym (does.is refl)) (begun_safe old name size asks rises k))
  does_safe sizes old new k (block n value) done asks serves does =
      let admitted = admits_block old old.phase n value serves.1 in
      quiet new (subst (IsSafeMeter IsFirst offered activations number) (sym (does.is refl)) (cell_safe old admitted.0 n value value admitted.1 admitted.2 refl k))
  does_safe sizes old new k verify done asks serves does = quiet new (judges_safe old new true does.1 k)
  does_safe sizes old new k activate done asks serves does = activate_safe sizes old new k serves.1 (does.is refl)
  does_safe sizes old new k verify (refused Differs) asks serves does = quiet new (judges_safe old new false does.1 k)
  does_safe sizes old new k verify verification_initiated asks serves does =
      quiet new (subst (IsSafeMeter IsFirst offered activations number) (sym (does.1.is refl))
      (phase_safe old (digested_phase old.phase slice_size) (digested_goal old.phase slice_size) (λ e. k.verified (digested_status old.phase slice_size e)) k))
  does_safe sizes old new k (block n value) (refused Fault) asks serves (inl leaves) = quiet new (subst (IsSafeMeter IsFirst offered activations number) (sym (leaves.is refl)) k)
  does_safe sizes old new k (block n value) (refused Fault) asks serves (inr torn) =
      let admitted = admits_block old old.phase n value serves.1 in
      quiet new (subst (IsSafeMeter IsFirst offered activations number) (sym (torn.4.is refl)) (cell_safe old admitted.0 n value torn.1 admitted.1 admitted.2 torn.3 k))
  does_safe sizes old new k operation (refused Fault) asks serves does = quiet new (subst (IsSafeMeter IsFirst offered activations number) (sym (does.is refl)) k)
  does_safe sizes old new k operation (refused r) asks serves does = elim does [ ]
  does_safe sizes old new k operation verification_initiated asks serves does = elim does [ ]

  pub step_safe : JoinedSize → (old new : Meter) → IsSafeMeter IsFirst offered activations number old → (operation : Operation) (outcome : OperationOutcome) → IsOfOffers offered operation → Step true old operation outcome new → IsSafeAfter (switches operation outcome new) new
  step_safe sizes old new k operation outcome asks (inl h) =
      subst (λ (o : OperationOutcome). IsSafeAfter (switches operation o new) new) (sym h.told)
      (refused_safe operation h.refusal (subst (IsSafeMeter IsFirst offered activations number) (sym (h.same.is refl)) k))
    where
      refused_safe : (operation : Operation) (r : Refusal) → IsSafeMeter IsFirst offered activations number new → IsSafeAfter (switches operation (refused r) new) new
      refused_safe activate r safe = quiet new safe
      refused_safe operation r safe = quiet new safe
  step_safe sizes old new k operation outcome asks (inr h) = does_safe sizes old new k operation outcome asks h.serves h.does
