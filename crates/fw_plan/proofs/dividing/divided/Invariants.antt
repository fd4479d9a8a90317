use Rattle.std.proofs.Common.{◌≡◌, ℕ, ◌+◌, ◌*◌, ◌<◌, ◌≤◌, ◌++◌, map, length, All}
use Rattle.std.specs.Slice.Iter.{chunks_rest, chunks_size}
use Rattle.std.specs.List.{flat_map}
use Rattle.fw_plan.specs.declared.part.Part.{Part}
use Rattle.fw_plan.specs.Openings.{AreNextFree, HasMeters, behind}
use Rattle.fw_plan.specs.Private.{IsBehind}
use Rattle.fw_plan.proofs.dividing.divided.Given as goal

-- the parts so far have the meters before those that are left, and are full while some are left
abbrev pub invariant-loop-chunk : goal.invariant-loop-chunk
invariant-loop-chunk l = record {
  sized : chunks_size l.chunk-iterator ≡ 256;
  serials : AreNextFree l.book l.serial (map (λ (part : Part). part.serial) l.parts.items);
  sizes : All HasMeters l.parts.items;
  joined : flat_map (λ (part : Part). part.meters.items) l.parts.items ++ chunks_rest l.chunk-iterator ≡ l.meters;
  next : IsBehind l.next (behind l.serial (map (λ (part : Part). part.serial) l.parts.items));
  enough : length l.meters ≤ 256 * length l.parts.items + length (chunks_rest l.chunk-iterator);
  few : 256 * length l.parts.items + length (chunks_rest l.chunk-iterator) ≤ length l.meters + 255;
  full : 0 < length (chunks_rest l.chunk-iterator) → 256 * length l.parts.items + length (chunks_rest l.chunk-iterator) ≡ length l.meters;
}
