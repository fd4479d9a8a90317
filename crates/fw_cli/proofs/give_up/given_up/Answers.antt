use Rattle.std.proofs.lemmas.Result.{IfOk-weaker}
use Rattle.fw_cli.proofs.GivenUp.{gives_up_in}
use Rattle.fw_cli.proofs.give_up.given_up.Goals as goal

pub returns : goal.returns
returns g c = record {
  given = IfOk-weaker c.give_up_in.result _ _ (λ given it. gives_up_in c.args.options.now c.deref.result.now c.in-Ok.kept c.give_up_in.new.kept _ _ _ c.deref.ensures.value c.in-Ok.ensures.number it)
      c.give_up_in.ensures.given;
}
