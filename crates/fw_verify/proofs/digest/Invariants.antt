use Rattle.std.proofs.Common.{◌≡◌, ◌<◌, ◌≤◌, ◌-◌, ◌%◌, true, IsTrue}
use Rattle.fw_store.specs.Device.{slot_bytes}
use Rattle.fw_store.specs.Faults.{Keeps, Spends}
use Rattle.fw_verify.specs.Progress.{IsDigesting}
use Rattle.fw_verify.specs.Slices.{slice_count}
use Rattle.fw_verify.proofs.digest.Given as goal

abbrev pub invariant-loop : goal.invariant-loop
invariant-loop g l =
    let s = g.S.ImageStore in
    record {
      slot : l.digesting.slot ≡ l.fn.slot;
      size : l.digesting.size ≡ l.fn.size;
      within : l.digesting.taken ≤ l.fn.size;
      whole : l.digesting.taken < l.fn.size → l.digesting.taken % 4096 ≡ 0;
      kept : Keeps (s.known l.fn.store) (s.known l.store);
      faultless : (s.known l.store).faults ≡ (s.known l.fn.store).faults;
      spends : Spends (slice_count l.digesting.taken) (s.known l.fn.store).fuse (s.known l.store).fuse true;
      same : IsTrue (s.known l.fn.store).honest → (s.known l.store).device ≡ (s.known l.fn.store).device;
      fed : IsTrue (s.known l.fn.store).honest → IsDigesting l.digesting (slot_bytes (s.known l.fn.store).device l.fn.slot);
    }

abbrev pub decreases-loop : goal.decreases-loop
decreases-loop g l = l.fn.size - l.digesting.taken
