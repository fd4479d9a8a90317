use Rattle.fw_rollout.proofs.schedule.Schedule.count_on.Goals as goal

pub returns-clause-schedule : goal.returns-clause-schedule
returns-clause-schedule c = λ s. record {
  flight_fits = s.flight_fits;
  counts_live = s.counts_live;
  counts_out = s.counts_out;
  within = s.within;
  awaited = s.awaited;
  waits = s.waits;
  addressed = s.addressed;
  queue = s.queue;
}
