use Rattle.std.proofs.Common.{◌≡◌, List, [], ◌∷◌, ◌++◌, All, rules, subst, sym}
use Rattle.std.proofs.lemmas.List.Elements.{All-push}
use Rattle.fw_cli.specs.Fleets.{HasHeads}
use Rattle.fw_cli.specs.declared.fleet.Member.{Member}
use Rattle.fw_cli.proofs.fleet.members_of.Goals as goal

pub loop-site-preserved : goal.loop-site-preserved
loop-site-preserved g c =
    let items : c.push.new.self.items ≡ c.loop-site.members.items ++ c.in-Ok.member ∷ [] = search rules in
    record {
      counted = search rules;
      same = search rules;
      heads = subst (λ (members : List Member). All (HasHeads c.args.options.now.heads.items) members) (sym items)
          (All-push (HasHeads c.args.options.now.heads.items) c.loop-site.members.items c.in-Ok.member c.loop-site.invariant.heads c.in-Ok.ensures.heads);
    }
