use Rattle.std.proofs.Common.{◌≡◌, ℕ, ◌+◌, ◌-◌, ◌++◌, ◌∙◌, IsTrue, List, length, slice_range, refl, ap, arith}
use Rattle.fw_store.specs.StoreBytes.{old_store_size}
use Rattle.fw_store.proofs.Outcomes.{on_ok_too}
use Rattle.fw_store.proofs.device_store.read_parts.Goals as goal

pub returns-clause-done : goal.returns-clause-done
returns-clause-done g c h =
    let bytes = g.D.ByteDevice.contents c.args.device.now in
    let last = c.read_at-2.new.out in
    let at : ℕ = c.tail_at.result in
    let end : ℕ = at + length c.split_at_mut-front.result.1.now in
    let still : IsTrue (g.D.ByteDevice.honest c.read_at.new.self) = rw (c.read_at.ensures.kept.honesty) h in
    let size : 4 + length c.split_at_mut-front.result.0.now ≡ 618 = omega arith in
    let front : c.read_at.new.out ≡ slice_range bytes 4 618 = c.in_ok-read_at.ensures.done h ∙ ap (slice_range bytes 4) size in
    let count : end ≡ old_store_size c.args.capacity + (length c.args.out.now - 614) = omega arith in
    on_ok_too c.read_at-2.result c.read_at-2.result refl
    (λ e. ap (λ (l : List ℕ). l ++ last) front
    ∙ ap (λ (l : List ℕ). slice_range bytes 4 618 ++ l)
    (e ∙ ap (λ (l : List ℕ). slice_range l at end) (c.in_ok-read_at.ensures.same h)
    ∙ ap (λ (n : ℕ). slice_range bytes n end) c.tail_at.ensures
    ∙ ap (slice_range bytes (old_store_size c.args.capacity)) count))
    (c.read_at-2.ensures.done still)
