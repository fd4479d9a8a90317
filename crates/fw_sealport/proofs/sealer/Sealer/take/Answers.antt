use Rattle.std.proofs.Common.{◌≡◌, ◌≢◌, ◌+◌, ◌∷◌, [], ◌∙◌, ℕ, Err, ap, subst, sym, refl, arith}
use Rattle.fw_counter.specs.Counters.{counter_of}
use Rattle.fw_counter.specs.Moves.{MovesLead, limit, reserved_after, reserves, uses}
use Rattle.fw_counter.specs.Reserved.{HasReserved}
use Rattle.fw_counter.specs.declared.error.CounterError.{CounterError}
use Rattle.fw_sealport.proofs.SealerFacts.{why_none}
use Rattle.fw_sealport.proofs.sealer.Sealer.take.Goals as goal

pub returns-in-Err-clause-why : goal.returns-in-Err-clause-why
returns-in-Err-clause-why g c =
    let error = c.in-Err.error in
    why_none g.D.JournalDevice c.args.self.now.counters error c.in-Err.ensures.refusals (λ is. c.in-Err.ensures.spent.0 (ap (λ (e : CounterError). Err e) is))
    (λ sound is. c.in-Err.ensures.never sound (ap (λ (e : CounterError). Err e) is)) (λ is. (c.in-Err.ensures.memory (ap (λ (e : CounterError). Err e) is)).0)

pub returns-in-Ok-clause-uses : goal.returns-in-Ok-clause-uses
returns-in-Ok-clause-uses g c =
    let counters = c.args.self.now.counters in
    let given : c.in-Ok.number ≡ (counter_of counters).next = c.in-Ok.ensures.given in
    record {
      used = c.in-Ok.ensures.after;
      goes = λ before.
          subst (λ (n : ℕ). MovesLead before (counter_of counters) (reserves (reserved_after (counter_of counters)) ∷ uses ∷ []) (n ∷ before) (counter_of c.take.new.self)) given
          (c.in-Ok.ensures.goes before);
      reserved = λ kept left may. subst (λ (n : ℕ). HasReserved left (n + 1)) given (c.in-Ok.ensures.each_cut kept left may);
      kept = c.take.ensures.stays;
      fault = refl;
    }

pub returns-in-Ok-clause-below : goal.returns-in-Ok-clause-below
returns-in-Ok-clause-below g c =
    let given : c.in-Ok.number ≡ (counter_of c.args.self.now.counters).next = c.in-Ok.ensures.given in
    let apart : c.in-Ok.number ≢ limit = λ is. absurd (cc (c.in-Ok.ensures.spent.1 (sym given ∙ is))) in
    omega arith
