-- What is known of the meters goes on with what is done.
use Rattle.std.proofs.Common.{◌≡◌, ◌≢◌, ◌↔◌, ℕ, ◌+◌, ◌≤◌, Bool, true, false, List, ◌∷◌, Option, Some, None, inl, inr, ⊎_elim, refl, sym, subst, ◌∙◌, arith}
use Rattle.std.specs.Prelude.{if◌then◌else◌, min, slice_get}
use Rattle.std.specs.declared.net.socket_addr.SocketAddr.{SocketAddr}
use Rattle.std.proofs.lemmas.Bool.{false≢true}
use Rattle.fw_port.specs.Acts.{came, quiet, sent}
use Rattle.fw_survey.specs.Questions.{question_bytes}
use Rattle.fw_survey.specs.Answers.{Answers, AnswersJust}
use Rattle.fw_survey.specs.Rows.{Row, answered_by, asked_at, inquiry_of, is_late, is_open, most_asked, next_question, settled, settled_at, settled_row, taken_row, with_inquiry}
use Rattle.fw_survey.specs.History.{Act, IsTold, Knows, KnowsAll, KnowsOf, WasAsked, WasTold}
use Rattle.fw_survey.specs.Survey.{ChangesAt}
use Rattle.fw_survey.specs.declared.answer.Answer.{Answer}
use Rattle.fw_survey.specs.declared.question.Question.{Question}
use Rattle.fw_survey.specs.declared.row.Inquiry.{Inquiry}
use Rattle.fw_survey.proofs.Questions.{IsOther, put_address, put_there, same_asked, same_or_other}
use Rattle.fw_survey.proofs.Rows.{IsChanged, WasThere, found, open_asked, opens}

-- ---- one question

-- the same was told
told_on : (old new : List Act) (at : SocketAddr) (q : Question) (o : Option Answer) → ((a : Answer) → WasTold new at q a → WasTold old at q a)
    → ((a : Answer) → WasTold old at q a → WasTold new at q a) → IsTold old at q o → IsTold new at q o
told_on old new at q None back on none = λ a t. none a (back a t)
told_on old new at q (Some a) back on t = on a t

-- it was asked and told just so
knows_on : (old new : List Act) (at : SocketAddr) (q : Question) (inquiry : Inquiry) → WasAsked new at q ↔ WasAsked old at q
    → ((a : Answer) → WasTold new at q a → WasTold old at q a) → ((a : Answer) → WasTold old at q a → WasTold new at q a)
    → KnowsOf old at q inquiry → KnowsOf new at q inquiry
knows_on old new at q inquiry asked back on k = record {
  asked = (λ w. k.asked.0 (asked.0 w), λ n. asked.1 (k.asked.1 n));
  answered = told_on old new at q inquiry.answer back on k.answered;
}

-- ---- nothing comes, or what comes is from elsewhere or no answer

pub knows_quiet : (done : List Act) (row : Row) → Knows done row → Knows (quiet ∷ done) row
knows_quiet done row k = λ q. knows_on done (quiet ∷ done) row.address q (inquiry_of row q) (λ w. w, λ w. w) (λ a t. t) (λ a t. t) (k q)

no_new : (done : List Act) (from : SocketAddr) (bytes : List ℕ) (at : SocketAddr) (q : Question) (a : Answer)
    → ((from ≡ at) × WasAsked done at q × Answers bytes q a → ⊥) → WasTold (came from bytes ∷ done) at q a → WasTold done at q a
no_new done from bytes at q a none t = ⊎_elim (λ h. absurd (none h)) (λ w. w) t

pub knows_elsewhere : (done : List Act) (from : SocketAddr) (bytes : List ℕ) (row : Row) → row.address ≢ from → Knows done row → Knows (came from bytes ∷ done) row
knows_elsewhere done from bytes row apart k = λ q.
    knows_on done (came from bytes ∷ done) row.address q (inquiry_of row q) (λ w. w, λ w. w)
    (λ a t. no_new done from bytes row.address q a (λ h. apart (sym h.0)) t) (λ a t. inr t) (k q)

pub knows_nothing : (done : List Act) (from : SocketAddr) (bytes : List ℕ) (row : Row) → ((q : Question) (a : Answer) → Answers bytes q a → ⊥) → Knows done row
    → Knows (came from bytes ∷ done) row
knows_nothing done from bytes row none k = λ q.
    knows_on done (came from bytes ∷ done) row.address q (inquiry_of row q) (λ w. w, λ w. w)
    (λ a t. no_new done from bytes row.address q a (λ h. none q a h.2) t) (λ a t. inr t) (k q)

-- ---- an answer comes

-- it is taken
knows_answer : (done : List Act) (from : SocketAddr) (bytes : List ℕ) (at : SocketAddr) (q : Question) (a : Answer) (now : ℕ) (inquiry : Inquiry)
    → from ≡ at → Answers bytes q a → is_open inquiry ≡ true → KnowsOf done at q inquiry → KnowsOf (came from bytes ∷ done) at q (answered_by a now inquiry)
knows_answer done from bytes at q a now inquiry e answers opened k = record {
  asked = (λ w. k.asked.0 w, λ n. k.asked.1 n);
  answered = inl (e, k.asked.1 (open_asked inquiry opened), answers);
}

-- its question isn't open
told_closed : (done : List Act) (from : SocketAddr) (bytes : List ℕ) (at : SocketAddr) (q : Question) (inquiry : Inquiry) (o : Option Answer) → inquiry.answer ≡ o
    → is_open inquiry ≡ false → WasAsked done at q ↔ (1 ≤ inquiry.asked) → IsTold done at q o → IsTold (came from bytes ∷ done) at q o
told_closed done from bytes at q inquiry None e closed asked none = λ a t.
    none a (no_new done from bytes at q a (λ h. false≢true (sym closed ∙ opens inquiry e (asked.0 h.1))) t)
told_closed done from bytes at q inquiry (Some a) e closed asked t = inr t

knows_closed : (done : List Act) (from : SocketAddr) (bytes : List ℕ) (at : SocketAddr) (q : Question) (inquiry : Inquiry) → is_open inquiry ≡ false
    → KnowsOf done at q inquiry → KnowsOf (came from bytes ∷ done) at q inquiry
knows_closed done from bytes at q inquiry closed k = record {
  asked = (λ w. k.asked.0 w, λ n. k.asked.1 n);
  answered = told_closed done from bytes at q inquiry inquiry.answer refl closed k.asked k.answered;
}

-- of another question nothing came
knows_other : (done : List Act) (from : SocketAddr) (bytes : List ℕ) (at : SocketAddr) (q r : Question) (a : Answer) (inquiry : Inquiry) → r ≢ q → AnswersJust bytes q a
    → KnowsOf done at r inquiry → KnowsOf (came from bytes ∷ done) at r inquiry
knows_other done from bytes at q r a inquiry apart just k =
    knows_on done (came from bytes ∷ done) at r inquiry (λ w. w, λ w. w) (λ b t. no_new done from bytes at r b (λ h. apart (just.just r b h.2)) t) (λ b t. inr t) k

taken_by : (opened : Bool) (done : List Act) (from : SocketAddr) (bytes : List ℕ) (q : Question) (a : Answer) (now : ℕ) (row : Row) → is_open (inquiry_of row q) ≡ opened
    → from ≡ row.address → AnswersJust bytes q a → Knows done row
    → Knows (came from bytes ∷ done) (if opened then with_inquiry row q (answered_by a now (inquiry_of row q)) else row)
taken_by false done from bytes q a now row closed e just k = λ r. ⊎_elim
    (λ (same : r ≡ q). knows_closed done from bytes row.address r (inquiry_of row r)
    (subst (λ (x : Question). is_open (inquiry_of row x) ≡ false) (sym same) closed) (k r))
    (λ (other : IsOther q r). knows_other done from bytes row.address q r a (inquiry_of row r) other.apart just (k r))
    (same_or_other q r)
taken_by true done from bytes q a now row opened e just k = λ r.
    let now_is : Inquiry = answered_by a now (inquiry_of row q) in
    let new : Row = with_inquiry row q now_is in
    let done' : List Act = came from bytes ∷ done in
    subst (λ (at : SocketAddr). KnowsOf done' at r (inquiry_of new r)) (sym (put_address row q now_is)) (⊎_elim
    (λ (same : r ≡ q). subst (λ (x : Question). KnowsOf done' row.address x (inquiry_of new x)) (sym same)
    (subst (λ (i : Inquiry). KnowsOf done' row.address q i) (sym (put_there row q now_is))
    (knows_answer done from bytes row.address q a now (inquiry_of row q) e just.answers opened (k q))))
    (λ (other : IsOther q r). subst (λ (i : Inquiry). KnowsOf done' row.address r i) (sym (other.kept row now_is))
    (knows_other done from bytes row.address q r a (inquiry_of row r) other.apart just (k r)))
    (same_or_other q r))

pub knows_taken : (done : List Act) (from : SocketAddr) (bytes : List ℕ) (q : Question) (a : Answer) (now : ℕ) (row : Row) → from ≡ row.address → AnswersJust bytes q a
    → Knows done row → Knows (came from bytes ∷ done) (taken_row q a now row)
knows_taken done from bytes q a now row e just k = taken_by (is_open (inquiry_of row q)) done from bytes q a now row refl e just k

-- ---- a question is asked

counted_once : (n : ℕ) → 1 ≤ min (n + 1) most_asked
counted_once n = omega arith

pub knows_asked : (done : List Act) (q : Question) (now : ℕ) (row : Row) → Knows done row
    → Knows (sent row.address (question_bytes q) ∷ done) (with_inquiry row q (asked_at now (inquiry_of row q)))
knows_asked done q now row k = λ r.
    let now_is : Inquiry = asked_at now (inquiry_of row q) in
    let new : Row = with_inquiry row q now_is in
    let done' : List Act = sent row.address (question_bytes q) ∷ done in
    subst (λ (at : SocketAddr). KnowsOf done' at r (inquiry_of new r)) (sym (put_address row q now_is)) (⊎_elim
    (λ (same : r ≡ q). subst (λ (x : Question). KnowsOf done' row.address x (inquiry_of new x)) (sym same)
    (subst (λ (i : Inquiry). KnowsOf done' row.address q i) (sym (put_there row q now_is)) (record {
      asked = (λ w. counted_once (inquiry_of row q).asked, λ n. inl (refl, refl));
      answered = told_on done done' row.address q (inquiry_of row q).answer (λ a t. t) (λ a t. t) (k q).answered;
    })))
    (λ (other : IsOther q r). subst (λ (i : Inquiry). KnowsOf done' row.address r i) (sym (other.kept row now_is))
    (knows_on done done' row.address r (inquiry_of row r)
    (λ w. ⊎_elim (λ h. absurd (other.apart (sym (same_asked q r h.1)))) (λ before. before) w, λ w. inr w) (λ a t. t) (λ a t. t) (k r)))
    (same_or_other q r))

pub knows_asked_elsewhere : (done : List Act) (to : SocketAddr) (bytes : List ℕ) (row : Row) → row.address ≢ to → Knows done row → Knows (sent to bytes ∷ done) row
knows_asked_elsewhere done to bytes row apart k = λ q.
    knows_on done (sent to bytes ∷ done) row.address q (inquiry_of row q)
    (λ w. ⊎_elim (λ h. absurd (apart (sym h.0))) (λ before. before) w, λ w. inr w) (λ a t. t) (λ a t. t) (k q)

-- ---- a question is waited for no more

settled_by : (late : Bool) (done : List Act) (q : Question) (row : Row) → Knows done row → Knows done (if late then with_inquiry row q (settled (inquiry_of row q)) else row)
settled_by false done q row k = k
settled_by true done q row k = λ r.
    let now_is : Inquiry = settled (inquiry_of row q) in
    let new : Row = with_inquiry row q now_is in
    subst (λ (at : SocketAddr). KnowsOf done at r (inquiry_of new r)) (sym (put_address row q now_is)) (⊎_elim
    (λ (same : r ≡ q). subst (λ (x : Question). KnowsOf done row.address x (inquiry_of new x)) (sym same)
    (subst (λ (i : Inquiry). KnowsOf done row.address q i) (sym (put_there row q now_is)) (record { asked = (k q).asked; answered = (k q).answered })))
    (λ (other : IsOther q r). subst (λ (i : Inquiry). KnowsOf done row.address r i) (sym (other.kept row now_is)) (k r))
    (same_or_other q r))

settles_at : (o : Option Question) (timeout now : ℕ) (done : List Act) (row : Row) → Knows done row → Knows done (settled_at timeout now row o)
settles_at None timeout now done row k = k
settles_at (Some q) timeout now done row k = settled_by (is_late timeout now (inquiry_of row q)) done q row k

pub knows_settled : (timeout now : ℕ) (done : List Act) (row : Row) → Knows done row → Knows done (settled_row timeout now row)
knows_settled timeout now done row k = settles_at (next_question row) timeout now done row k

-- ---- all meters

-- one is changed, and of the others as much is known
pub knows_changed : (place : ℕ) (change : Row → Row) (done after : List Act) (old new : List Row) → ChangesAt place change old new
    → ((other : ℕ) (row : Row) → other ≢ place → slice_get old other ≡ Some row → Knows done row → Knows after row)
    → ((row : Row) → slice_get old place ≡ Some row → Knows done row → Knows after (change row)) → KnowsAll done old → KnowsAll after new
knows_changed place change done after old new changes elsewhere here k = λ other row is. ⊎_elim
    (λ (w : WasThere place change old other row). elsewhere other row w.apart w.was (k other row w.was))
    (λ (c : IsChanged place change old other row). subst (λ (x : Row). Knows after x) (sym c.now) (here c.before c.was (k place c.before c.was)))
    (found place change old new changes other row is)

pub knows_each : (done after : List Act) (rows : List Row) → ((row : Row) → Knows done row → Knows after row) → KnowsAll done rows → KnowsAll after rows
knows_each done after rows each k = λ place row is. each row (k place row is)
