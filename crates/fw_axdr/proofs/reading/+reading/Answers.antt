use Rattle.std.proofs.Common.{◌≤◌, ◌⊎◌, inr, refl, sym, arith}
use Rattle.std.proofs.lemmas.Result.{err_from_is_err_and}
use Rattle.fw_axdr.specs.View.{value_of, values_of}
use Rattle.fw_axdr.specs.Spelling.{SomeBegins}
use Rattle.fw_axdr.specs.Memory.{MayTakeMemory}
use Rattle.fw_axdr.specs.Private.{data_at, each_at, items_at, contents_at}
use Rattle.fw_axdr.proofs.Loop.{values_of-pushed, goes_on, ends, is_done, no_byte_if, too_deep, data_at_tag}
use Rattle.fw_axdr.proofs.Wants.{IfMemory-map, IfMemory-none, counted_takes, first_there, element_takes, data_takes}
use Rattle.fw_axdr.proofs.reading.+reading.Goals as goal

pub items-loop-preserved : goal.items-loop-preserved
items-loop-preserved t c =
    let item = c.in_ok-data.field-0 in
    let e = values_of-pushed c.loop.items.items c.push.new.self.items item c.in_ok-push.ensures.items in
    let there = first_there c.args.levels c.in_ok-count.count c.loop.counter (values_of c.loop.items.items) c.length.new.self c.loop.reader (value_of item) c.data.new.reader c.loop.invariant c.in_ok-data.ensures.gives in
    record {
      so_far = rw e (goes_on (λ s. data_at c.args.levels s) (values_of c.loop.items.items) c.in_ok-count.count c.loop.counter c.loop.reader (value_of item) c.data.new.reader (each_at (λ s. data_at c.args.levels s) c.in_ok-count.count c.length.new.self) c.loop-test.true c.in_ok-data.ensures.gives c.loop.invariant.so_far);
      starts = λ none. absurd (omega arith);
      first = λ some. there;
    }

pub items-returns-in_err-data-clause-gives : goal.items-returns-in_err-data-clause-gives
unfolding items_at
items-returns-in_err-data-clause-gives t c =
    let p = err_from_is_err_and c.from_residual-in_err-data.result c.from_residual-in_err-data.ensures.1 in
    rw (c.in_ok-count.ensures.gives, p.1, p.2) (ends (λ s. data_at c.args.levels s) c.in_err-data.field-0.0 (values_of c.loop.items.items) c.in_ok-count.count c.loop.counter c.loop.reader (each_at (λ s. data_at c.args.levels s) c.in_ok-count.count c.length.new.self) c.loop-test.true c.in_err-data.ensures.gives c.loop.invariant.so_far)

pub items-returns-clause-gives : goal.items-returns-clause-gives
unfolding items_at
items-returns-clause-gives t c =
    rw (c.in_ok-count.ensures.gives, c.from_vec.ensures) (is_done (λ s. data_at c.args.levels s) (values_of c.loop.items.items) c.in_ok-count.count c.loop.counter c.loop.reader (each_at (λ s. data_at c.args.levels s) c.in_ok-count.count c.length.new.self) c.loop-test.false c.loop.invariant.so_far)

pub contents-returns-in_ok-items-in-Array-clause-gives : goal.contents-returns-in_ok-items-in-Array-clause-gives
unfolding contents_at
contents-returns-in_ok-items-in-Array-clause-gives t c = rw (c.in-Array.is, c.in_ok-items-in-Array.ensures.gives) refl

pub contents-returns-in_ok-items-in-Structure-clause-gives : goal.contents-returns-in_ok-items-in-Structure-clause-gives
unfolding contents_at
contents-returns-in_ok-items-in-Structure-clause-gives t c = rw (c.in-Structure.is, c.in_ok-items-in-Structure.ensures.gives) refl

pub data-returns-in_err-byte-clause-gives : goal.data-returns-in_err-byte-clause-gives
data-returns-in_err-byte-clause-gives t c =
    let p = err_from_is_err_and c.from_residual.result c.from_residual.ensures.1 in
    rw (p.1, p.2) (no_byte_if c.args.reader.now c.in_err-byte.field-0.0 c.args.levels c.in_err-byte.ensures.gives)

pub data-returns-then-levels-eq0-clause-gives : goal.data-returns-then-levels-eq0-clause-gives
data-returns-then-levels-eq0-clause-gives t c = rw c.if-levels-eq0.true (too_deep c.args.reader.now c.in_ok-byte.byte c.u8.new.self c.in_ok-byte.ensures.gives)

pub data-returns-in_default-clause-gives : goal.data-returns-in_default-clause-gives
data-returns-in_default-clause-gives t c =
    data_at_tag c.args.levels c.args.reader.now c.in_ok-byte.byte c.u8.new.self _ c.in_ok-byte.ensures.gives (omega (arith, c.if-levels-eq0.false)) (sym c.in_default.ensures)

pub data-returns-clause-gives : goal.data-returns-clause-gives
data-returns-clause-gives t c =
    let e = data_at_tag c.args.levels c.args.reader.now c.in_ok-byte.byte c.u8.new.self _ c.in_ok-byte.ensures.gives (omega (arith, c.if-levels-eq0.false)) (sym c.in-Some.ensures) in
    rw e c.contents.ensures.gives

pub items-returns-in_err-count-clause-memory : goal.items-returns-in_err-count-clause-memory
items-returns-in_err-count-clause-memory t c =
    let p = err_from_is_err_and c.from_residual.result c.from_residual.ensures.1 in
    rw (p.1, p.2) (IfMemory-none c.in_err-count.field-0.0 _)

pub items-returns-in_err-data-clause-memory : goal.items-returns-in_err-data-clause-memory
items-returns-in_err-data-clause-memory t c =
    let p = err_from_is_err_and c.from_residual-in_err-data.result c.from_residual-in_err-data.ensures.1 in
    let some : 1 ≤ c.in_ok-count.count = omega (arith, c.loop-test.true) in
    rw (p.1, p.2) (IfMemory-map c.in_err-data.field-0.0 _ _
    (λ wants. counted_takes (λ n rest. MayTakeMemory c.args.levels rest ⊎ SomeBegins c.args.levels rest) c.args.reader.now c.in_ok-count.count c.length.new.self c.in_ok-count.ensures.gives some
    (element_takes c.args.levels c.in_ok-count.count c.loop.counter (values_of c.loop.items.items) c.length.new.self c.loop.reader c.loop.invariant wants))
    c.in_err-data.ensures.memory)

pub items-returns-in_err-push-clause-memory : goal.items-returns-in_err-push-clause-memory
items-returns-in_err-push-clause-memory t c =
    let p = err_from_is_err_and c.from_residual-in_err-push.result c.from_residual-in_err-push.ensures.1 in
    let some : 1 ≤ c.in_ok-count.count = omega (arith, c.loop-test.true) in
    let there = first_there c.args.levels c.in_ok-count.count c.loop.counter (values_of c.loop.items.items) c.length.new.self c.loop.reader (value_of c.in_ok-data.field-0) c.data.new.reader c.loop.invariant c.in_ok-data.ensures.gives in
    rw (p.1, p.2) (counted_takes (λ n rest. MayTakeMemory c.args.levels rest ⊎ SomeBegins c.args.levels rest) c.args.reader.now c.in_ok-count.count c.length.new.self c.in_ok-count.ensures.gives some (inr there))

pub data-returns-clause-memory : goal.data-returns-clause-memory
data-returns-clause-memory t c =
    data_takes c.contents.result c.args.levels c.in_ok-byte.byte c.in-Some.tag c.args.reader.now c.u8.new.self c.in_ok-byte.ensures.gives (omega (arith, c.if-levels-eq0.false)) (sym c.in-Some.ensures) c.contents.ensures.memory
