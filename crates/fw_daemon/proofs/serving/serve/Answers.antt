use Rattle.std.proofs.Common.{rules, ◌≡◌, ◌++◌, List, [], Bool, IsTrue, refl, sym, ap, subst, append_assoc, ◌∙◌}
use Rattle.fw_daemon.specs.Acts.{Act}
use Rattle.fw_daemon.proofs.Going.{goes_on}
use Rattle.fw_daemon.proofs.Steps.{round_on}
use Rattle.fw_daemon.proofs.Watching.{watched_none, watched_on, watched_same}
use Rattle.fw_daemon.proofs.serving.serve.Goals as goal

pub step-requires : goal.step-requires
step-requires g c = λ h done now s.
    let honest : IsTrue (g.P.Port.honest c.args.port.now) = subst (λ (b : Bool). IsTrue b) c.loop.invariant.3 h in
    let served = c.loop.invariant.2 honest in
    subst (λ (l : List Act). g.P.Port.legal c.loop.port l)
    (append_assoc done served.done (g.P.Port.acts c.args.port.now) ∙ ap (λ (l : List Act). done ++ l) (sym served.adds))
    (c.loop.invariant.4 _ (c.requires honest (done ++ served.done) now (goes_on _ _ now served.done done served.serving s)))

pub loop-preserved : goal.loop-preserved
loop-preserved g c =
    let was = c.loop.invariant in (
      search rules,
      search rules,
      round_on _ _ _ _ _ _ _ _ was.3 was.2 c.step.ensures.serves,
      c.step.ensures.honesty ∙ was.3,
      λ done legal. c.step.ensures.law done (was.4 done legal),
      watched_on g.W.Watch.tells _ _ _ _ _ _ _ was.5 c.in-Ok.ensures.goes c.round.ensures.tells,
    )

pub returns-in-Err-clause-serves : goal.returns-in-Err-clause-serves
returns-in-Err-clause-serves g c = round_on _ _ _ _ _ _ _ _ c.loop.invariant.3 c.loop.invariant.2 c.step.ensures.serves

pub returns-in-Err-clause-watched : goal.returns-in-Err-clause-watched
returns-in-Err-clause-watched g c = watched_same g.W.Watch.tells _ _ _ _ _ c.in-Err.ensures.closed c.loop.invariant.5

pub loop-init : goal.loop-init
loop-init g c = (
  search rules,
  search rules,
  λ honest. record { done = []; adds = refl; serving = refl },
  refl,
  λ done legal. legal,
  watched_none g.W.Watch.tells _ _,
)
