use Rattle.std.proofs.Common.{◌≡◌, subst, sym, ◌∙◌}
use Rattle.std.proofs.lemmas.Result.{IfErr-weaker}
use Rattle.fw_capture.specs.Spelling.{file_header}
use Rattle.fw_dissect.specs.declared.error.DissectError.{DissectError}
use Rattle.fw_dissect.specs.declared.error.DissectError.TheVariants as error
use Rattle.fw_dissect.specs.Private.{IsOfNoRecord}
use Rattle.fw_dissect.proofs.Taken.{puts_same}
use Rattle.fw_dissect.proofs.plain.put_header.Goals as goal

pub returns-clause-put : goal.returns-clause-put
returns-clause-put g c =
    puts_same c.put.result (g.C.Write.contents c.args.writer.now) (g.C.Write.contents c.put.new.writer) c.deref.result.now file_header
    (c.deref.ensures.value ∙ c.in_ok-header.ensures) c.put.ensures.put

pub returns-clause-faults : goal.returns-clause-faults
returns-clause-faults g c =
    IfErr-weaker c.put.result (λ (e : DissectError). e ≡ error.Plain) (λ (e : DissectError). IsOfNoRecord e) (λ e is. subst IsOfNoRecord (sym is) tt) c.put.ensures.faults
