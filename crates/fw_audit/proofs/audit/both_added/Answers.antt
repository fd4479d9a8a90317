use Rattle.std.proofs.Common.{Option, sym, subst}
use Rattle.std.proofs.lemmas.Result.{IfOk-weaker}
use Rattle.fw_audit.specs.Private.{Adds, AddsBoth}
use Rattle.fw_audit.specs.declared.life.Left.{Left}
use Rattle.fw_audit.proofs.Gathering.{adds_both, adds_first}
use Rattle.fw_audit.proofs.audit.both_added.Goals as goal

pub returns-in-Some : goal.returns-in-Some
returns-in-Some c =
    let found = c.args.found.items in
    let all = c.in_ok-all.all in
    IfOk-weaker c.added-in-Some.result (λ more. Adds all.items c.in-Some.second more.items) (λ more. AddsBoth found c.args.first c.args.second more.items)
    (λ more two. subst (λ (o : Option Left). AddsBoth found c.args.first o more.items) (sym c.in-Some.is) (adds_both found all.items more.items c.args.first c.in-Some.second c.in_ok-all.ensures two))
    c.added-in-Some.ensures

pub returns-in-None : goal.returns-in-None
returns-in-None c =
    subst (λ (o : Option Left). AddsBoth c.args.found.items c.args.first o c.in_ok-all.all.items) (sym c.in-None.is) (adds_first c.args.found.items c.in_ok-all.all.items c.args.first c.in_ok-all.ensures)
