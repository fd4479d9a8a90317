use Rattle.std.proofs.Common.{◌≡◌, ℕ, ◌+◌, ◌++◌, ◌≤◌, ◌∙◌, ap, sym, refl, arith, IsTrue, length, take, drop, List, replicate}
use Rattle.std.specs.Int.{w32, to_be_bytes}
use Rattle.fw_store.specs.Device.{splice, padded}
use Rattle.fw_store.specs.StoreBytes.{store_size, old_store_size}
use Rattle.fw_store.specs.Versions.{bytes_of, version_of}
use Rattle.fw_store.proofs.Outcomes.{on_ok_too}
use Rattle.fw_store.proofs.SliceLemmas.{length-splice}
use Rattle.fw_store.proofs.Laying.{behind_number, laid_behind, slots_size}
use Rattle.fw_store.proofs.device_store.write_behind.Goals as goal

pub write_at-requires-2 : goal.write_at-requires-2
write_at-requires-2 g c h =
    let was : IsTrue (g.D.ByteDevice.honest c.args.device.now) = rw (← c.write_at.ensures.kept.honesty) h in
    let blank = g.D.ByteDevice.contents c.args.device.now in
    let slots = g.D.ByteDevice.contents c.write_at.new.self in
    let size : ℕ = store_size (version_of c.args.head.now) c.args.capacity in
    let whole : length c.as_slice.result.now ≡ length (bytes_of c.args.head.now) = ap length c.as_slice.ensures.value in
    let all : length blank ≡ size = (c.requires.blank was).size in
    let enough : old_store_size c.args.capacity ≤ size = omega arith in
    let written : slots ≡ splice blank 618 c.args.image.now = c.in_ok-write_at.ensures.done was in
    let now : length slots ≡ size = ap length written ∙ slots_size c.args.capacity size blank c.args.image.now all enough c.requires.fits in
    omega arith

pub write_at-requires-3 : goal.write_at-requires-3
write_at-requires-3 g c h =
    let slotted : IsTrue (g.D.ByteDevice.honest c.write_at.new.self) = rw (← c.write_at-2.ensures.kept.honesty) h in
    let was : IsTrue (g.D.ByteDevice.honest c.args.device.now) = rw (← c.write_at.ensures.kept.honesty) slotted in
    let blank = g.D.ByteDevice.contents c.args.device.now in
    let slots = g.D.ByteDevice.contents c.write_at.new.self in
    let headed = g.D.ByteDevice.contents c.write_at-2.new.self in
    let size : ℕ = store_size (version_of c.args.head.now) c.args.capacity in
    let whole : length c.as_slice.result.now ≡ length (bytes_of c.args.head.now) = ap length c.as_slice.ensures.value in
    let all : length blank ≡ size = (c.requires.blank was).size in
    let enough : old_store_size c.args.capacity ≤ size = omega arith in
    let written : slots ≡ splice blank 618 c.args.image.now = c.in_ok-write_at.ensures.done was in
    let now : length slots ≡ size = ap length written ∙ slots_size c.args.capacity size blank c.args.image.now all enough c.requires.fits in
    let front = c.split_at.result.0.now in
    let long : length headed ≡ size = ap length (c.in_ok-write_at-2.ensures.done slotted) ∙ length-splice slots 4 front (omega arith) ∙ now in
    omega arith

pub returns-clause-done : goal.returns-clause-done
returns-clause-done g c h =
    let slotted : IsTrue (g.D.ByteDevice.honest c.write_at.new.self) = rw (c.write_at.ensures.kept.honesty) h in
    let headed : IsTrue (g.D.ByteDevice.honest c.write_at-2.new.self) = rw (c.write_at-2.ensures.kept.honesty) slotted in
    let capacity : ℕ = c.args.capacity in
    let image = c.args.image.now in
    let z : ℕ = 0 in
    let blank = g.D.ByteDevice.contents c.args.device.now in
    let size : ℕ = store_size (version_of c.args.head.now) capacity in
    let bytes : List ℕ = c.as_slice.result.now in
    let front = c.split_at.result.0.now in
    let last = c.split_at.result.1.now in
    let whole : length bytes ≡ length (bytes_of c.args.head.now) = ap length c.as_slice.ensures.value in
    let many : size ≡ old_store_size capacity + length last = omega arith in
    let behind = behind_number (to_be_bytes w32 capacity) (take 614 (bytes_of c.args.head.now)) (padded image capacity) (replicate capacity z)
    (drop 614 (bytes_of c.args.head.now)) refl in
    on_ok_too c.write_at-3.result c.write_at-3.result refl
    (λ e. laid_behind capacity size blank (g.D.ByteDevice.contents c.write_at.new.self) (g.D.ByteDevice.contents c.write_at-2.new.self)
    (g.D.ByteDevice.contents c.write_at-3.new.self) front last image (c.requires.blank h) many
    (c.in_ok-write_at.ensures.done h) (c.in_ok-write_at-2.ensures.done slotted)
    (e ∙ ap (λ (n : ℕ). splice (g.D.ByteDevice.contents c.write_at-2.new.self) n last) c.tail_at.ensures) (omega arith) c.requires.fits
    ∙ ap (λ (l : List ℕ). take 4 blank ++ (l ++ (padded image capacity ++ (replicate capacity z ++ last)))) c.split_at.ensures.front
    ∙ ap (λ (l : List ℕ). take 4 blank ++ (take 614 bytes ++ (padded image capacity ++ (replicate capacity z ++ l)))) c.split_at.ensures.back
    ∙ ap (λ (l : List ℕ). take 4 blank ++ (take 614 l ++ (padded image capacity ++ (replicate capacity z ++ drop 614 l)))) c.as_slice.ensures.value
    ∙ ap (λ (l : List ℕ). take 4 blank ++ l) (sym behind))
    (c.write_at-3.ensures.done headed)
