use Rattle.std.proofs.Common.{◌≡◌, ◌+◌, arith, subst}
use Rattle.fw_keys.specs.Links.{IsNew}
use Rattle.fw_keys.specs.Refusals.{IsBad}
use Rattle.fw_keys.proofs.Steps.{goes_on, stops}
use Rattle.fw_keys.proofs.reading.read_links.Goals as goal

pub returns-in-Err-clause-refused : goal.returns-in-Err-clause-refused
returns-in-Err-clause-refused g c = λ number why e.
    let names = g.N.EndName.names in
    let entries = c.loop-line.file.entries in
    let line = c.in-Some.line.now in
    let same : c.in-Err.why ≡ why = cc e in
    let counted : number ≡ c.loop-line.number + 1 = cc e in
    let bad = subst (λ own. IsBad names own entries line c.in-Err.why) c.loop-line.invariant.own c.in-Err.ensures in
    stops names c.args.own (c.args.before + 1) c.args.text.now c.loop-line.rest.now line c.in-Some.after.now c.loop-line.number number entries why
    c.loop-line.invariant.so_far c.in-Some.ensures.lines counted (subst (λ w. IsBad names c.args.own entries line w) same bad)

pub loop-line-preserved : goal.loop-line-preserved
loop-line-preserved g c =
    let entries = c.loop-line.file.entries in
    let new = subst (λ own. IsNew own entries c.in-Ok.entry) c.loop-line.invariant.own c.in-Ok.ensures.1 in
    rw c.in_ok-add-in-Ok.ensures.added
    (record {
      counted = omega (arith, c.in-Some.ensures.shorter, c.loop-line.invariant.counted);
      own = c.loop-line.invariant.own;
      so_far =
          goes_on g.N.EndName.names c.args.own (c.args.before + 1) c.args.text.now c.loop-line.rest.now c.in-Some.line.now c.in-Some.after.now c.loop-line.number entries
          c.in-Ok.entry c.loop-line.invariant.so_far c.in-Some.ensures.lines c.in-Ok.ensures.0 new;
    })
