use Rattle.std.proofs.Common.{◌≡◌, ◌≤◌, ◌++◌, ℕ, List, Result, Ok, Err, IfErr, take, arith, length-append, length-take, subst, sym}
use Rattle.std.specs.Prelude.{IsErrAnd, Option}
use Rattle.std.proofs.KnownBytes.{Consumes-trans}
use Rattle.fw_faults.specs.declared.error.InputError.{InputError}
use Rattle.fw_faults.specs.declared.error.InputError.TheVariants.{OutOfMemory}
use Rattle.fw_faults.specs.Faults.{fault_of_input}
use Rattle.fw_faults.specs.Reading.{Gives, ReadsUntil, max_input}
use Rattle.fw_faults.proofs.input.read_input.Goals as goal

-- how much was read if memory ran out
wanted_after : {T : Type 0} (result : Result T InputError) (before after : Option (List ℕ)) → IsErrAnd result (λ error. error ≡ OutOfMemory)
    → Gives before after (λ count. count ≤ max_input) → IfErr result (λ error. ReadsUntil (fault_of_input error) before after)
wanted_after (Ok value) before after wanted given = tt
wanted_after (Err error) before after wanted given = subst (λ (e : InputError). ReadsUntil (fault_of_input e) before after) (sym wanted) given

pub returns-then-count-len-clause-reading : goal.returns-then-count-len-clause-reading
returns-then-count-len-clause-reading g c =
    let read = rw c.in-Some.is at c.in_ok-count.ensures.bytes in
    let chunk = take c.in-Some.count c.read.new.chunk in (
      c.loop-chunk.input.items ++ chunk,
      Consumes-trans _ _ _ c.loop-chunk.input.items chunk c.loop-chunk.invariant.given read.1,
      simp (length-append, length-take) (omega (arith, read.0)),
    )

pub returns-in_err-extend_from_slice-clause-reading : goal.returns-in_err-extend_from_slice-clause-reading
returns-in_err-extend_from_slice-clause-reading g c =
    let read = rw c.in-Some.is at c.in_ok-count.ensures.bytes in
    let chunk = take c.in-Some.count c.read.new.chunk in
    wanted_after c.from_residual-in_err-extend_from_slice.result _ _ c.from_residual-in_err-extend_from_slice.ensures.1 (
      c.loop-chunk.input.items ++ chunk,
      Consumes-trans _ _ _ c.loop-chunk.input.items chunk c.loop-chunk.invariant.given read.1,
      simp (length-append, length-take) (omega (arith, read.0)),
    )

pub returns-in_err-extend_from_slice-clause-memory : goal.returns-in_err-extend_from_slice-clause-memory
returns-in_err-extend_from_slice-clause-memory g c = λ wanted.
    let read = rw c.in-Some.is at c.in_ok-count.ensures.bytes in
    let chunk = take c.in-Some.count c.read.new.chunk in (
      c.loop-chunk.input.items ++ chunk,
      Consumes-trans _ _ _ c.loop-chunk.input.items chunk c.loop-chunk.invariant.given read.1,
      simp (length-append, length-take) (omega (arith, read.0)),
    )
