use Rattle.std.proofs.Common.{◌≡◌, ℕ, List, ◌++◌, ap, subst, ◌∙◌}
use Rattle.std.proofs.lemmas.Result.{err_from_is_err_and}
use Rattle.std.specs.Io.KnownBytes.{Appends}
use Rattle.fw_dissect.proofs.dissection.tell.Goals as goal

pub returns-in_err-put_plain-clause-none : goal.returns-in_err-put_plain-clause-none
returns-in_err-put_plain-clause-none g c =
    let p = err_from_is_err_and c.from_residual.result c.from_residual.ensures.1 in
    rw (p.1, p.2) c.in_err-put_plain.ensures.none

pub returns-in_err-put_plain-clause-asked : goal.returns-in_err-put_plain-clause-asked
returns-in_err-put_plain-clause-asked g c =
    let p = err_from_is_err_and c.from_residual.result c.from_residual.ensures.1 in
    rw p.1 (λ kind. c.in_err-put_plain.ensures.asked)

pub returns-clause-line : goal.returns-clause-line
returns-clause-line g c =
    let line = c.in_ok-next.ensures.line in
    let is : c.as_str.result.now ≡ line.0 = c.as_str.ensures.value ∙ line.2 ∙ ap (λ (x : List ℕ). x ++ line.0) c.new-line.ensures.bytes in
    (line.0, line.1, subst (λ (x : List ℕ). Appends (g.W.Write.contents c.args.writer.now) (g.W.Write.contents c.put_line.new.writer) x) is c.in_ok-put_line.ensures.put)
