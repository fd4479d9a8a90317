use Rattle.std.proofs.Common.{refl, inl, inr}
use Rattle.fw_stored.proofs.recovery.recovered.Goals as goal

pub returns-in-Ok-clause-recovered : goal.returns-in-Ok-clause-recovered
returns-in-Ok-clause-recovered c = inl (c.in-Some.write, c.in-Some.ensures.fits, c.in-Some.ensures.some, c.in-Ok.ensures.mends)

pub returns-in-Err-clause-torn : goal.returns-in-Err-clause-torn
returns-in-Err-clause-torn c is = record {
  write = c.in-Some.write;
  is = c.in-Some.ensures.fits;
  journal = c.in-Some.ensures.some;
  torn = c.in-Err.ensures.memory;
}

pub returns-in-None-clause-recovered : goal.returns-in-None-clause-recovered
returns-in-None-clause-recovered c = inr (c.in-None.ensures.none, refl)
