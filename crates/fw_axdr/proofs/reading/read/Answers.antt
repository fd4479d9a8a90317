use Rattle.std.proofs.Common.{sym, ap, ◌∙◌}
use Rattle.std.proofs.lemmas.Result.{err_from_is_err_and}
use Rattle.fw_axdr.specs.Private.{data_at}
use Rattle.fw_axdr.proofs.Again.{shorter, spelled_front, none_if, fails_if}
use Rattle.fw_axdr.proofs.reading.read.Goals as goal

pub overflow_sub-result : goal.overflow_sub-result
overflow_sub-result c = rw c.len.ensures (shorter 8 c.args.bytes.now _ c.data.new.reader (ap (data_at 8) (sym c.new-reader.ensures) ∙ c.in_ok-value.ensures.gives))

pub returns-clause-found : goal.returns-clause-found
returns-clause-found c = rw c.len.ensures (spelled_front 8 c.args.bytes.now _ c.data.new.reader (ap (data_at 8) (sym c.new-reader.ensures) ∙ c.in_ok-value.ensures.gives))

pub returns-in_err-value-clause-none : goal.returns-in_err-value-clause-none
returns-in_err-value-clause-none c =
    let p = err_from_is_err_and c.from_residual.result c.from_residual.ensures.1 in
    rw (p.1, p.2) (none_if 8 c.args.bytes.now _ (rw c.new-reader.ensures at c.in_err-value.ensures.gives))

pub returns-in_err-value-clause-fault : goal.returns-in_err-value-clause-fault
returns-in_err-value-clause-fault c =
    let p = err_from_is_err_and c.from_residual.result c.from_residual.ensures.1 in
    rw (p.1, p.2) (fails_if 8 c.args.bytes.now _ (rw c.new-reader.ensures at c.in_err-value.ensures.gives))

pub returns-in_err-value-clause-memory : goal.returns-in_err-value-clause-memory
returns-in_err-value-clause-memory c =
    let p = err_from_is_err_and c.from_residual.result c.from_residual.ensures.1 in
    rw (p.1, p.2) (rw c.new-reader.ensures at c.in_err-value.ensures.memory)
