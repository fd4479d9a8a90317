use Rattle.std.proofs.Common.{List, refl, sym, subst}
use Rattle.std.specs.Global.{Vec}
use Rattle.fw_port.specs.Lists.{acts_of}
use Rattle.fw_port.specs.declared.list.Deed.{Deed}
use Rattle.fw_port.specs.declared.port.NoReport.{NoReport}
use Rattle.std.proofs.lemmas.Result.{on_ok_weaker}
use Rattle.fw_survey.specs.History.{KnowsAll, SendsReads}
use Rattle.fw_survey.specs.Survey.{addresses_of, rows_of}
use Rattle.fw_survey.proofs.list.survey_list.Goals as goal

pub survey_meters-ended-requires : goal.survey_meters-ended-requires
survey_meters-ended-requires g c = record {
  begins = λ honest. record {
    reads = subst (λ (deeds : List (Deed NoReport)). SendsReads (addresses_of (rows_of c.args.survey.now)) (acts_of deeds)) (sym c.new-port.ensures) tt;
    may = λ done reads. (addresses_of (rows_of c.args.survey.now), reads);
  };
  survey = c.requires.survey;
}

pub returns-clause-reads : goal.returns-clause-reads
returns-clause-reads g c =
    let addresses = addresses_of (rows_of c.args.survey.now) in
    let begun = subst (λ (deeds : List (Deed NoReport)). SendsReads addresses (acts_of deeds)) (sym c.new-port.ensures) tt in
    subst (λ (deeds : Vec (Deed NoReport)). SendsReads addresses (acts_of deeds.items)) (sym c.into_deeds.ensures) (c.survey_meters-ended.ensures.surveys.reads refl begun)

pub returns-clause-knows : goal.returns-clause-knows
returns-clause-knows g c = λ known.
    let begun = subst (λ (deeds : List (Deed NoReport)). KnowsAll (acts_of deeds) (rows_of c.args.survey.now)) (sym c.new-port.ensures) known in
    on_ok_weaker c.survey_meters-ended.result
    (λ done. subst (λ (deeds : Vec (Deed NoReport)). KnowsAll (acts_of deeds.items) (rows_of c.survey_meters-ended.new.survey)) (sym c.into_deeds.ensures) done)
    (c.survey_meters-ended.ensures.surveys.knows refl begun)
