use Rattle.std.proofs.Common.{◌≡◌, ◌++◌, ◌+◌, ◌<◌, List, [], ◌∷◌, length, take, sym, ap, subst, ◌∙◌, arith}
use Rattle.std.specs.Global.{Vec}
use Rattle.std.proofs.lemmas.Bool.{false≢true}
use Rattle.std.proofs.lemmas.List.{take_all}
use Rattle.fw_names.specs.Name.{Name}
use Rattle.fw_head_audit.specs.Private.{AreNamesAt}
use Rattle.fw_head_audit.specs.declared.claims.Claim.{Claim}
use Rattle.fw_head_audit.proofs.Claiming.{names_kept, names_more}
use Rattle.fw_head_audit.proofs.Lists.{one_more}
use Rattle.fw_head_audit.proofs.Sockets.{exact_socket, same_socket}
use Rattle.fw_head_audit.proofs.claims.names_at.Goals.{then-eq+in_ok-push, else-eq}
use Rattle.fw_head_audit.proofs.claims.names_at.Goals as goal

pub loop-at-preserved : goal.loop-at-preserved
loop-at-preserved c =
    let claims = c.args.claims.now in
    let from = c.args.from in
    let at = c.loop-at.at in
    let claim = c.index-claims-at.result in
    let inside : at < length claims = omega (arith, c.loop-at-test.true) in
    let more : take (at + 1) claims ≡ take at claims ++ claim ∷ [] = one_more claims at claim inside c.index-claims-at.is in
    subst (λ (l : List Claim). AreNamesAt l from c.if-eq.names.items) (sym more) (elim c.if-eq.branch [
      | then-eq+in_ok-push w ↦
          let own : claim.from ≡ from = exact_socket claim.from from (sym c.eq.ensures ∙ w.if-eq.true) in
          subst (λ (l : List Name). AreNamesAt (take at claims ++ claim ∷ []) from l) (sym (ap (λ (v : Vec Name). v.items) w.names-is ∙ w.in_ok-push.ensures.items))
          (names_more (take at claims) claim from c.loop-at.names.items c.loop-at.invariant own)
      | else-eq w ↦ subst (λ (l : List Name). AreNamesAt (take at claims ++ claim ∷ []) from l) (sym (ap (λ (v : Vec Name). v.items) w.names-is))
          (names_kept (take at claims) claim from c.loop-at.names.items c.loop-at.invariant
          (λ (own : claim.from ≡ from). false≢true (sym w.if-eq.false ∙ c.eq.ensures ∙ same_socket claim.from from own)))
    ])

pub returns : goal.returns
returns c =
    subst (λ (l : List Claim). AreNamesAt l c.args.from c.loop-at.names.items) (take_all c.loop-at.at c.args.claims.now (omega (arith, c.loop-at-test.false))) c.loop-at.invariant
