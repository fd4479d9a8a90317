-- What a survey did over a port, call after call.
use Rattle.std.proofs.Common.{◌≡◌, ℕ, Bool, IsTrue, List, ◌∷◌, refl, sym, subst, ◌∙◌}
use Rattle.std.specs.Prelude.{OnOk, Result, Ok, Err}
use Rattle.std.specs.declared.net.socket_addr.SocketAddr.{SocketAddr}
use Rattle.fw_port.specs.Acts.{came, quiet, sent}
use Rattle.fw_port.specs.declared.port.NoReport.{NoReport}
use Rattle.fw_port.specs.declared.port.Port
use Rattle.fw_survey.specs.History.{Act, IsRead, KnowsAll, SendsReads}
use Rattle.fw_survey.specs.Rows.{Row, settled_row}
use Rattle.fw_survey.specs.Survey.{ChangesAt, HearsAs, KeepsMeters, MaySurvey, MaySurveyOver, SurveysOver, addresses_of}
use Rattle.fw_survey.proofs.History.{knows_each, knows_quiet}
use Rattle.fw_survey.proofs.Placing.{AreApart}
use Rattle.fw_survey.proofs.Surveys.{heard_all, keeps_all, keeps_then, settled_all}

-- so far it went well
pub record Went {P : Type 0} (N : Port.Ghosts P NoReport) (old : P) (before : List Row) (new : P) (after : List Row) : Type 0 where
  pub reads : IsTrue (N.honest old) → SendsReads (addresses_of before) (N.acts old) → SendsReads (addresses_of before) (N.acts new)
  pub knows : IsTrue (N.honest old) → KnowsAll (N.acts old) before → KnowsAll (N.acts new) after
  pub meters : KeepsMeters before after
  pub honesty : N.honest new ≡ N.honest old
  pub law : (done : List Act) → N.legal old done → N.legal new done

on_ok : {T E : Type 0} (r : Result T E) (X : Type 0) → X → OnOk r X
on_ok (Ok t) X x = x
on_ok (Err e) X x = tt

-- whatever is returned
pub surveyed : {P T E : Type 0} (N : Port.Ghosts P NoReport) (old new : P) (before after : List Row) (r : Result T E) → Went N old before new after
    → SurveysOver N old before r new after
surveyed N old new before after r w = record {
  reads = w.reads;
  knows = λ honest known. on_ok r _ (w.knows honest known);
  meters = w.meters;
  honesty = w.honesty;
  law = w.law;
}

pub went_nowhere : {P : Type 0} (N : Port.Ghosts P NoReport) (port : P) (rows : List Row) → Went N port rows port rows
went_nowhere N port rows = record {
  reads = λ honest reads. reads;
  knows = λ honest known. known;
  meters = keeps_all rows;
  honesty = refl;
  law = λ done legal. legal;
}

honest_on : {P : Type 0} (N : Port.Ghosts P NoReport) (old new : P) → N.honest new ≡ N.honest old → IsTrue (N.honest old) → IsTrue (N.honest new)
honest_on N old new e honest = subst (λ (b : Bool). IsTrue b) (sym e) honest

-- a call more went well
pub went_on : {P T E : Type 0} (N : Port.Ghosts P NoReport) (first second third : P) (one two three : List Row) (t : T) → Went N first one second two
    → SurveysOver {E = E} N second two (Ok t) third three → Went N first one third three
went_on N first second third one two three t w s = record {
  reads = λ honest reads.
      subst (λ (addresses : List SocketAddr). SendsReads addresses (N.acts third)) w.meters.addresses
      (s.reads (honest_on N first second w.honesty honest)
      (subst (λ (addresses : List SocketAddr). SendsReads addresses (N.acts second)) (sym w.meters.addresses) (w.reads honest reads)));
  knows = λ honest known. s.knows (honest_on N first second w.honesty honest) (w.knows honest known);
  meters = keeps_then one two three w.meters s.meters;
  honesty = s.honesty ∙ w.honesty;
  law = λ done legal. s.law done (w.law done legal);
}

-- or ended, and less is known
pub record Stopped {P : Type 0} (N : Port.Ghosts P NoReport) (old : P) (before : List Row) (new : P) (after : List Row) : Type 0 where
  pub reads : IsTrue (N.honest old) → SendsReads (addresses_of before) (N.acts old) → SendsReads (addresses_of before) (N.acts new)
  pub meters : KeepsMeters before after
  pub honesty : N.honest new ≡ N.honest old
  pub law : (done : List Act) → N.legal old done → N.legal new done

pub stopped : {P T E : Type 0} (N : Port.Ghosts P NoReport) (first second third : P) (one two three : List Row) (r : Result T E) → Went N first one second two
    → SurveysOver N second two r third three → Stopped N first one third three
stopped N first second third one two three r w s = record {
  reads = λ honest reads.
      subst (λ (addresses : List SocketAddr). SendsReads addresses (N.acts third)) w.meters.addresses
      (s.reads (honest_on N first second w.honesty honest)
      (subst (λ (addresses : List SocketAddr). SendsReads addresses (N.acts second)) (sym w.meters.addresses) (w.reads honest reads)));
  meters = keeps_then one two three w.meters s.meters;
  honesty = s.honesty ∙ w.honesty;
  law = λ done legal. s.law done (w.law done legal);
}

-- what may be sent first may be sent then
pub may_on : {P : Type 0} (N : Port.Ghosts P NoReport) (old new : P) (before after : List Row) → Went N old before new after → MaySurveyOver N old before → MaySurveyOver N new after
may_on N old new before after w may = λ honest.
    let was : IsTrue (N.honest old) = subst (λ (b : Bool). IsTrue b) w.honesty honest in
    let begins : MaySurvey (N.legal old) (addresses_of before) (N.acts old) = may was in
    record {
      reads = subst (λ (addresses : List SocketAddr). SendsReads addresses (N.acts new)) (sym w.meters.addresses) (w.reads was begins.reads);
      may = λ done reads. w.law done (begins.may done (subst (λ (addresses : List SocketAddr). SendsReads addresses done) w.meters.addresses reads));
    }

-- ---- what comes

pub reads_same : (addresses : List SocketAddr) (before after : List Act) → after ≡ before → SendsReads addresses before → SendsReads addresses after
reads_same addresses before after is reads = subst (λ (acts : List Act). SendsReads addresses acts) (sym is) reads

pub reads_quiet : (addresses : List SocketAddr) (before after : List Act) → after ≡ quiet ∷ before → SendsReads addresses before → SendsReads addresses after
reads_quiet addresses before after is reads = subst (λ (acts : List Act). SendsReads addresses acts) (sym is) reads

pub reads_came : (addresses : List SocketAddr) (from : SocketAddr) (bytes : List ℕ) (before after : List Act) → after ≡ came from bytes ∷ before
    → SendsReads addresses before → SendsReads addresses after
reads_came addresses from bytes before after is reads = subst (λ (acts : List Act). SendsReads addresses acts) (sym is) reads

pub reads_sent : (addresses : List SocketAddr) (to : SocketAddr) (bytes : List ℕ) (before after : List Act) → after ≡ sent to bytes ∷ before → IsRead addresses to bytes
    → SendsReads addresses before → SendsReads addresses after
reads_sent addresses to bytes before after is read reads = subst (λ (acts : List Act). SendsReads addresses acts) (sym is) (read, reads)

pub known_quiet : (rows : List Row) (before after : List Act) → after ≡ quiet ∷ before → KnowsAll before rows → KnowsAll after rows
known_quiet rows before after is known =
    subst (λ (acts : List Act). KnowsAll acts rows) (sym is) (knows_each before (quiet ∷ before) rows (λ row k. knows_quiet before row k) known)

pub known_came : (old new : List Row) (now : ℕ) (from : SocketAddr) (bytes : List ℕ) (before after : List Act) → after ≡ came from bytes ∷ before → AreApart (addresses_of old)
    → HearsAs now from bytes old new → KnowsAll before old → KnowsAll after new
known_came old new now from bytes before after is apart hears known =
    subst (λ (acts : List Act). KnowsAll acts new) (sym is) (heard_all before now from bytes old new apart hears known)

-- ---- a question is waited for no more

pub settles_on : {P : Type 0} (N : Port.Ghosts P NoReport) (first second : P) (one two three : List Row) (timeout now place : ℕ) → Went N first one second two
    → ChangesAt place (settled_row timeout now) two three → KeepsMeters two three → Went N first one second three
settles_on N first second one two three timeout now place w changes keeps = record {
  reads = w.reads;
  knows = λ honest known. settled_all (N.acts second) timeout now place two three changes (w.knows honest known);
  meters = keeps_then one two three w.meters keeps;
  honesty = w.honesty;
  law = w.law;
}
