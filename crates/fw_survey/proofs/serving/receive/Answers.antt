use Rattle.std.proofs.Common.{rules, ◌≡◌, ◌∷◌, take}
use Rattle.fw_port.specs.Acts.{came, quiet}
use Rattle.fw_survey.proofs.Rounds.{known_came, known_quiet, reads_came, reads_quiet, reads_same}
use Rattle.fw_survey.proofs.Surveys.{keeps_all}
use Rattle.fw_survey.proofs.serving.receive.Goals as goal

pub returns-in_err-arrival-clause-surveys : goal.returns-in_err-arrival-clause-surveys
returns-in_err-arrival-clause-surveys g c = record {
  reads = λ honest reads. reads_same _ _ _ (c.in_err-arrival.ensures.closed honest) reads;
  knows = λ honest known. search rules;
  meters = keeps_all _;
  honesty = c.receive.ensures.honesty;
  law = c.receive.ensures.law;
}

pub returns-in_default-clause-surveys : goal.returns-in_default-clause-surveys
returns-in_default-clause-surveys g c = record {
  reads = λ honest reads.
      let is : g.P.Port.acts c.receive.new.self ≡ quiet ∷ g.P.Port.acts c.args.port.now = search rules in reads_quiet _ _ _ is reads;
  knows = λ honest known.
      let is : g.P.Port.acts c.receive.new.self ≡ quiet ∷ g.P.Port.acts c.args.port.now = search rules in known_quiet _ _ _ is known;
  meters = keeps_all _;
  honesty = c.receive.ensures.honesty;
  law = c.receive.ensures.law;
}

pub returns-in_err-now-clause-surveys : goal.returns-in_err-now-clause-surveys
returns-in_err-now-clause-surveys g c = record {
  reads = λ honest reads.
      let is : g.P.Port.acts c.receive.new.self ≡ came c.in-Some.arrival.from (take c.in-Some.arrival.count c.receive.new.buffer) ∷ g.P.Port.acts c.args.port.now = search rules in
      reads_came _ _ _ _ _ is reads;
  knows = λ honest known. search rules;
  meters = keeps_all _;
  honesty = c.receive.ensures.honesty;
  law = c.receive.ensures.law;
}

pub returns-in_err-hear-clause-surveys : goal.returns-in_err-hear-clause-surveys
returns-in_err-hear-clause-surveys g c = record {
  reads = λ honest reads.
      let is : g.P.Port.acts c.receive.new.self ≡ came c.in-Some.arrival.from (take c.in-Some.arrival.count c.receive.new.buffer) ∷ g.P.Port.acts c.args.port.now = search rules in
      reads_came _ _ _ _ _ is reads;
  knows = λ honest known. search rules;
  meters = c.hear.ensures.meters;
  honesty = c.receive.ensures.honesty;
  law = c.receive.ensures.law;
}

pub returns-clause-surveys : goal.returns-clause-surveys
returns-clause-surveys g c = record {
  reads = λ honest reads.
      let is : g.P.Port.acts c.receive.new.self ≡ came c.in-Some.arrival.from (take c.in-Some.arrival.count c.receive.new.buffer) ∷ g.P.Port.acts c.args.port.now = search rules in
      reads_came _ _ _ _ _ is reads;
  knows = λ honest known.
      let is : g.P.Port.acts c.receive.new.self ≡ came c.in-Some.arrival.from (take c.in-Some.arrival.count c.receive.new.buffer) ∷ g.P.Port.acts c.args.port.now = search rules in
      known_came _ _ _ _ _ _ _ is c.requires.survey.apart (c.in_ok-hear.ensures.heard c.requires.survey) known;
  meters = c.hear.ensures.meters;
  honesty = c.receive.ensures.honesty;
  law = c.receive.ensures.law;
}
