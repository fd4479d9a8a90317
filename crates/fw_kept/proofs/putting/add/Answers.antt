use Rattle.std.proofs.Common.{rules, ◌≡◌, ℕ, List, [], ◌∷◌, ◌++◌, sym, subst, append_assoc}
use Rattle.fw_ledger.specs.Entry.{Spells}
use Rattle.fw_ledger.specs.Replay.{Adds}
use Rattle.fw_ledger.specs.View.{entry_of}
use Rattle.fw_ledger.specs.Noted.{known_with, AreNotesOf}
use Rattle.fw_kept.proofs.Books.{all_push}
use Rattle.fw_kept.proofs.putting.add.Goals as goal

pub returns-in-Ok-clause-waits : goal.returns-in-Ok-clause-waits
returns-in-Ok-clause-waits g c = λ head synced book next noted known keeps makes.
    let bytes = c.deref.result.now in
    let here : bytes ≡ c.in_ok-bytes.bytes.items = search rules in
    let entry = entry_of c.args.told.now in
    let spells : Spells bytes entry = subst (λ (l : List ℕ). Spells l entry) (sym here) c.in_ok-bytes.ensures.spelled in
    let adds : Adds bytes book next = record { entry = entry; spells = spells; makes = makes } in
    record {
      done = keeps.done;
      waiting = keeps.waiting ++ bytes ∷ [];
      has = c.in-Ok.ensures.waits keeps.done keeps.waiting keeps.has;
      of_done = keeps.of_done;
      of_waiting = all_push keeps.waiting bytes synced book next keeps.of_waiting adds;
      notes_done = keeps.notes_done;
      notes_all = subst (λ (l : List (List ℕ)). AreNotesOf l (known_with known entry)) (append_assoc keeps.done keeps.waiting (bytes ∷ [])) (c.notes_go_on.ensures (keeps.done ++ keeps.waiting) bytes entry known keeps.notes_all spells);
    }

pub returns-clause-unchanged : goal.returns-clause-unchanged
returns-clause-unchanged g c = λ head synced book noted known keeps. record {
  done = keeps.done;
  waiting = keeps.waiting;
  has = c.in-Err.ensures.unchanged keeps.done keeps.waiting keeps.has;
  of_done = keeps.of_done;
  of_waiting = keeps.of_waiting;
  notes_done = keeps.notes_done;
  notes_all = keeps.notes_all;
}
