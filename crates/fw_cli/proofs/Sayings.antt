-- What a daemon tells, in lines.
use Rattle.std.proofs.Common.{◌≡◌, ℕ, Bool, true, false, List, [], ◌∷◌, ◌++◌, map, IsTrue, inl, inr, refl, sym, ap, subst, append-nil, ◌∙◌}
use Rattle.std.proofs.lemmas.List.{map-append}
use Rattle.std.specs.Prelude.{Option, Some, None}
use Rattle.fw_names.specs.Name.{Campaign, Name, name_of}
use Rattle.fw_daemon.specs.Rounds.{listed}
use Rattle.fw_daemon.specs.declared.daemon.Dropped.{Dropped}
use Rattle.fw_daemon.specs.declared.event.MeterEvent.{MeterEvent}
use Rattle.fw_head.specs.Head.{Head, campaign_at, cancelled_head, opened_head}
use Rattle.fw_rollout.specs.Counting.{CountsRows}
use Rattle.fw_rollout.specs.declared.daemon.Counts.{Counts}
use Rattle.fw_rollout.specs.declared.ended.Ended.{Ended}
use Rattle.fw_plan.specs.declared.part.Part.{Part}
use Rattle.fw_host.specs.Heads.{cancelled_line, opened_line}
use Rattle.fw_host.specs.Meters.{event_line}
use Rattle.fw_host.specs.Telling.{Told, lines_of_rows}
use Rattle.fw_host.proofs.Tellings.{told_none, told_on}
use Rattle.fw_cli.specs.Telling.{AreTold, Change, ChangesAll, ChangesOne, Happening, IsSaid, Said, TellsChanges, TellsEnded, cancels, happened, happenings_by, happenings_said, lacked, lack_of, line_of, lines_of, may_be_left_out, opens}

-- ---- of meters

told_append : (xs ys ks ls : List Happening) → AreTold xs ks → AreTold ys ls → AreTold (xs ++ ys) (ks ++ ls)
told_append [] ys ks ls none more = subst (λ (l : List Happening). AreTold ys (l ++ ls)) (sym none) more
told_append (x ∷ xs) ys ks ls (inl (rest, is, are)) more = inl (rest ++ ls, ap (λ (l : List Happening). l ++ ls) is, told_append xs ys rest ls are more)
told_append (x ∷ xs) ys ks ls (inr (may, are)) more = inr (may, told_append xs ys ks ls are more)

said_append : (xs ys : List Said) → happenings_said (xs ++ ys) ≡ happenings_said xs ++ happenings_said ys
said_append [] ys = refl
said_append (happened one ∷ xs) ys = ap (λ (l : List Happening). one ∷ l) (said_append xs ys)
said_append (lacked dropped faults unopened untold ∷ xs) ys = said_append xs ys

said_in_lack : (says : Bool) (dropped : Dropped) (faults unopened untold : ℕ) → happenings_said (lack_of says dropped faults unopened untold) ≡ []
said_in_lack true dropped faults unopened untold = refl
said_in_lack false dropped faults unopened untold = refl

-- what happened to one meter, and then more
happenings_more : (number : Option ℕ) (events more : List MeterEvent) → happenings_by number (events ++ more) ≡ happenings_by number events ++ happenings_by number more
happenings_more number events more = let one : MeterEvent → Happening = λ e. (number, e) in map-append one events more

lines_append : (xs ys : List Said) → lines_of (xs ++ ys) ≡ lines_of xs ++ lines_of ys
lines_append xs ys = map-append (λ (one : Said). line_of one) xs ys

pub said_none : (was : Bool) (a : Option (List ℕ)) → IsSaid [] was was a a
said_none was a = record { said = []; are = refl; told = told_none was a }

-- nothing happened in a round
pub said_nothing : (number : Option ℕ) (event : Option MeterEvent) (was : Bool) (a : Option (List ℕ)) → event ≡ None → IsSaid (happenings_by number (listed event)) was was a a
said_nothing number event was a none = subst (λ (o : Option MeterEvent). IsSaid (happenings_by number (listed o)) was was a a) (sym none) (said_none was a)

-- something did
pub said_some : (number : Option ℕ) (event : Option MeterEvent) (one : MeterEvent) (p q : Bool) (a b : Option (List ℕ)) → event ≡ Some one → IsSaid (happenings_by number (one ∷ [])) p q a b
    → IsSaid (happenings_by number (listed event)) p q a b
said_some number event one p q a b is said = subst (λ (o : Option MeterEvent). IsSaid (happenings_by number (listed o)) p q a b) (sym is) said

-- it is left out
pub said_left_out : (number : Option ℕ) (one : MeterEvent) (was : Bool) (a : Option (List ℕ)) → IsTrue (may_be_left_out one) → IsSaid (happenings_by number (one ∷ [])) was was a a
said_left_out number one was a may = record { said = []; are = inr (may, refl); told = told_none was a }

-- it is told
pub said_one : (number : Option ℕ) (one : MeterEvent) (p q : Bool) (a b : Option (List ℕ)) → Told (event_line number one ∷ []) p q a b → IsSaid (happenings_by number (one ∷ [])) p q a b
said_one number one p q a b told = record { said = happened (number, one) ∷ []; are = inl ([], refl, refl); told = told }

said_then : (xs ys : List Happening) (p q r : Bool) (a b c : Option (List ℕ)) → IsSaid xs p q a b → IsSaid ys q r b c → IsSaid (xs ++ ys) p r a c
said_then xs ys p q r a b c one two = record {
  said = one.said ++ two.said;
  are = subst (λ (l : List Happening). AreTold (xs ++ ys) l) (sym (said_append one.said two.said))
      (told_append xs ys (happenings_said one.said) (happenings_said two.said) one.are two.are);
  told = subst (λ (l : List (List ℕ)). Told l p r a c) (sym (lines_append one.said two.said)) (told_on (lines_of one.said) (lines_of two.said) p q r a b c one.told two.told);
}

-- and what was dropped, if anything was
said_lack : (xs : List Happening) (says : Bool) (dropped : Dropped) (faults unopened untold : ℕ) (p q r : Bool) (a b c : Option (List ℕ)) → IsSaid xs p q a b
    → Told (lines_of (lack_of says dropped faults unopened untold)) q r b c → IsSaid xs p r a c
said_lack xs says dropped faults unopened untold p q r a b c was lack =
    let last = lack_of says dropped faults unopened untold in
    let same : happenings_said (was.said ++ last) ≡ happenings_said was.said =
    said_append was.said last ∙ ap (λ (l : List Happening). happenings_said was.said ++ l) (said_in_lack says dropped faults unopened untold) ∙ append-nil (happenings_said was.said) in
    record {
      said = was.said ++ last;
      are = subst (λ (l : List Happening). AreTold xs l) (sym same) was.are;
      told = subst (λ (l : List (List ℕ)). Told l p r a c) (sym (lines_append was.said last)) (told_on (lines_of was.said) (lines_of last) p q r a b c was.told lack);
    }

-- a round is told
pub said_round : (happenings : List Happening) (number : Option ℕ) (event : Option MeterEvent) (says : Bool) (dropped : Dropped) (faults unopened untold : ℕ) (p q r s : Bool)
    (a b c d : Option (List ℕ)) → IsSaid happenings p q a b → IsSaid (happenings_by number (listed event)) q r b c → Told (lines_of (lack_of says dropped faults unopened untold)) r s c d
    → IsSaid (happenings ++ happenings_by number (listed event)) p s a d
said_round happenings number event says dropped faults unopened untold p q r s a b c d was next lack =
    let more = happenings_by number (listed event) in
    said_lack (happenings ++ more) says dropped faults unopened untold p r s a c d (said_then happenings more p q r a b c was next) lack

-- a round of a meter that is alone
pub said_alone : (events : List MeterEvent) (event : Option MeterEvent) (says : Bool) (dropped : Dropped) (faults unopened untold : ℕ) (p q r s : Bool) (a b c d : Option (List ℕ))
    → IsSaid (happenings_by None events) p q a b → IsSaid (happenings_by None (listed event)) q r b c → Told (lines_of (lack_of says dropped faults unopened untold)) r s c d
    → IsSaid (happenings_by None (events ++ listed event)) p s a d
said_alone events event says dropped faults unopened untold p q r s a b c d was next lack =
    subst (λ (l : List Happening). IsSaid l p s a d) (sym (happenings_more None events (listed event)))
    (said_round (happenings_by None events) None event says dropped faults unopened untold p q r s a b c d was next lack)

-- ---- of head ends

changes_append : (start middle now : Head) (xs ys : List Change) (ks ls : List (List ℕ)) → ChangesAll start xs ks middle → ChangesAll middle ys ls now
    → ChangesAll start (xs ++ ys) (ks ++ ls) now
changes_append start middle now [] ys [] ls same then = subst (λ (h : Head). ChangesAll h ys ls now) same then
changes_append start middle now [] ys (k ∷ ks) ls first then = absurd first
changes_append start middle now (x ∷ xs) ys [] ls first then = absurd first
changes_append start middle now (x ∷ xs) ys (k ∷ ks) ls (next, one, all) then = (next, one, changes_append next middle now xs ys ks ls all then)

pub changes_none : (h : Head) (was : Bool) (a : Option (List ℕ)) → TellsChanges h h was was a a
changes_none h was a = record { changes = []; lines = []; made = refl; told = told_none was a }

-- nothing was changed or told
pub changes_same : (old new : Head) (was : Bool) (a : Option (List ℕ)) → new ≡ old → TellsChanges old new was was a a
changes_same old new was a same = record { changes = []; lines = []; made = same; told = told_none was a }

pub changes_one : (old new : Head) (change : Change) (line : List ℕ) (p q : Bool) (a b : Option (List ℕ)) → ChangesOne old change line new → Told (line ∷ []) p q a b
    → TellsChanges old new p q a b
changes_one old new change line p q a b made told = record { changes = change ∷ []; lines = line ∷ []; made = (new, made, refl); told = told }

-- what is cancelled is told of
pub changes_cancelled : (serial : ℕ) (campaign : Campaign) (old new : Head) (p q : Bool) (a b : Option (List ℕ)) → new ≡ cancelled_head old serial → campaign ≡ campaign_at old serial
    → Told (cancelled_line campaign ∷ []) p q a b → TellsChanges old new p q a b
changes_cancelled serial campaign old new p q a b made is told =
    changes_one old new (cancels serial) (cancelled_line campaign) p q a b (made, ap (λ (it : Campaign). cancelled_line it) is) told

-- what is opened is told of
pub changes_opened : (release : ℕ) (image : List ℕ) (part : Part) (name : Name) (old new : Head) (p q : Bool) (a b : Option (List ℕ))
    → new ≡ opened_head old part.serial release image part.meters.items → name ≡ name_of (campaign_at old part.serial) release image
    → Told (opened_line name ∷ []) p q a b → TellsChanges old new p q a b
changes_opened release image part name old new p q a b made is told =
    changes_one old new (opens part.serial release image part.meters.items) (opened_line name) p q a b (made, ap (λ (it : Name). opened_line it) is) told

pub changes_on : (old middle new : Head) (p q r : Bool) (a b c : Option (List ℕ)) → TellsChanges old middle p q a b → TellsChanges middle new q r b c → TellsChanges old new p r a c
changes_on old middle new p q r a b c first second = record {
  changes = first.changes ++ second.changes;
  lines = first.lines ++ second.lines;
  made = changes_append old middle new first.changes second.changes first.lines second.lines first.made second.made;
  told = told_on first.lines second.lines p q r a b c first.told second.told;
}

-- rows ended, and their lines were told
pub rows_told : (was now : Counts) (rows : List Ended) (p q : Bool) (a b : Option (List ℕ)) → CountsRows rows was now → Told (lines_of_rows rows) p q a b
    → TellsEnded was now [] p q a b
rows_told was now rows p q a b counts told = record {
  rows = rows;
  counts = counts;
  told = subst (λ (l : List (List ℕ)). Told l p q a b) (sym (append-nil (lines_of_rows rows))) told;
}
