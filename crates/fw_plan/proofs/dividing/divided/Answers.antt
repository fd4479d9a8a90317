use Rattle.std.proofs.Common.{◌≡◌, ℕ, ◌+◌, length, min, sym, ap, subst, ◌∙◌, arith, length-append}
use Rattle.std.specs.Slice.Iter.{chunks_rest}
use Rattle.fw_plan.specs.Private.{IsBehind}
use Rattle.fw_plan.proofs.Numbers.{found, goes_on}
use Rattle.fw_plan.proofs.Parts.{behind_parts, joined_more, serials_more, sizes_more}
use Rattle.fw_plan.proofs.dividing.divided.Goals as goal

pub loop-chunk-preserved : goal.loop-chunk-preserved
loop-chunk-preserved c =
    let steps = c.in-Some.ensures.steps.1 in
    let before = c.loop-chunk.invariant in
    let pushed = c.in_ok-push.ensures.items in
    let left : length (chunks_rest c.loop-chunk.chunk-iterator) ≡ length c.in-Some.chunk.now + length (chunks_rest c.next.new.self) =
    ap length steps.0 ∙ length-append c.in-Some.chunk.now (chunks_rest c.next.new.self) in
    let one_more : length c.push.new.self.items ≡ length c.loop-chunk.parts.items + 1 =
    ap length pushed ∙ length-append c.loop-chunk.parts.items _ in
    let sized = c.in-Some.ensures.steps.0 ∙ before.sized in
    let cut : length c.in-Some.chunk.now ≡ min 256 (length (chunks_rest c.loop-chunk.chunk-iterator)) =
    steps.1 ∙ ap (λ n. min n (length (chunks_rest c.loop-chunk.chunk-iterator))) before.sized in
    let some = steps.2 in
    let whole = before.full some in
    let meters = c.in_ok-meters.ensures.items_if_clones_equal (λ x y is. is) in
    let is = found c.args.book.now c.loop-chunk.next _ c.in-Some-next_from.free before.next (rw c.in-Some-next_from.is at c.next_from.ensures) in
    record {
      sized = sized;
      serials = serials_more c.args.book.now c.args.serial c.loop-chunk.parts.items c.push.new.self.items _ pushed before.serials is;
      sizes = sizes_more _ _ _ _ pushed meters (omega arith) (omega arith) before.sizes;
      joined = joined_more _ _ _ _ _ _ _ pushed meters steps.0 before.joined;
      next = subst (λ (n : ℕ). IsBehind c.checked_add-next.result n) (sym (behind_parts c.args.serial c.loop-chunk.parts.items c.push.new.self.items _ pushed))
          (goes_on c.checked_add-next.result c.in-Some-next_from.free c.checked_add-next.ensures is.fits);
      enough = omega arith;
      few = omega arith;
      full = λ h. omega arith;
    }
