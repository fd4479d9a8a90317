use Rattle.std.proofs.Common.{◌≡◌, ◌-◌, ◌≤◌, IsTrue, ap, ◌∙◌, refl, subst, sym, inl, arith, length, length-append, replicate, ℕ, List}
use Rattle.std.proofs.lemmas.List.{length-replicate}
use Rattle.fw_store.specs.Device.{Device, padded}
use Rattle.fw_store.specs.Sizes.{IsLaidOut}
use Rattle.fw_store.specs.StoreBytes.{device_at, store_bytes, store_size}
use Rattle.fw_store.specs.Versions.{bytes_of}
use Rattle.fw_store.specs.declared.tail.Tail.{Tail}
use Rattle.fw_store.specs.declared.version.HeaderVersion.{HeaderVersion}
use Rattle.fw_store.specs.declared.version.HeaderVersion.TheVariants.{Two}
use Rattle.fw_store.proofs.Soundness.{sound_both}
use Rattle.fw_store.proofs.StoreByteLemmas.{device_again, bytes_laid}
use Rattle.fw_store.proofs.device_store.DeviceStore.create_on.Goals as goal

pub invariant_of-result : goal.invariant_of-result
invariant_of-result g c = record {
  laid_out = λ h.
      let capacity = c.args.capacity in
      let image = c.args.factory.now in
      let z : ℕ = 0 in
      let d : Device = record { head = bytes_of c.fresh_bytes-head.result; first = padded image capacity; second = replicate capacity z } in
      let was : IsTrue (g.D.ByteDevice.honest c.args.device) = rw (← c.lay_out.ensures.kept.honesty) h in
      let is = c.is_setup.ensures.0 c.if-not-is_setup.false in
      let fits : length image ≤ capacity = is.fits in
      let first : length (padded image capacity) ≡ capacity =
      omega (arith, length-append image (replicate (capacity - length image) z), length-replicate (capacity - length image) z) in
      subst (λ (tail : Tail). IsLaidOut tail capacity (g.D.ByteDevice.contents c.lay_out.new.device)) (sym c.of_version.ensures)
      (bytes_laid Two capacity d (g.D.ByteDevice.contents c.lay_out.new.device) (c.in_ok-lay_out.ensures.done was) is.room c.fresh_bytes-head.ensures.size first
      (length-replicate capacity z));
}

pub returns-clause-fresh : goal.returns-clause-fresh
returns-clause-fresh g c h =
    let capacity = c.args.capacity in
    let image = c.args.factory.now in
    let z : ℕ = 0 in
    let of : List ℕ → Device = λ (head : List ℕ). record { head = head; first = padded image capacity; second = replicate capacity z } in
    let fits : length image ≤ capacity = (c.is_setup.ensures.0 c.if-not-is_setup.false).fits in
    let first : length (padded image capacity) ≡ capacity =
    omega (arith, length-append image (replicate (capacity - length image) z), length-replicate (capacity - length image) z) in
    let d = of (bytes_of c.fresh_bytes-head.result) in
    ap (device_at capacity) (c.in_ok-lay_out.ensures.done h)
    ∙ device_again Two capacity d (store_bytes capacity d) c.fresh_bytes-head.ensures.size first (length-replicate capacity z) (inl refl)
    ∙ ap of c.fresh_bytes-head.ensures.value

pub returns-clause-soundness : goal.returns-clause-soundness
returns-clause-soundness g c sound =
    let fits = c.in_ok-lay_out.ensures.within sound in
    let size = ap (λ (v : HeaderVersion). store_size v c.args.capacity) c.fresh_bytes-head.ensures.version in
    let room = c.lay_out.ensures.kept.size in
    (sound_both (g.D.ByteDevice.sound c.lay_out.new.device) (g.D.ByteDevice.room c.lay_out.new.device) c.args.capacity).1
    (c.lay_out.ensures.kept.soundness sound, omega arith)

pub returns-clause-whole : goal.returns-clause-whole
returns-clause-whole g c h =
    let capacity = c.args.capacity in
    let image = c.args.factory.now in
    let z : ℕ = 0 in
    let of : List ℕ → Device = λ (head : List ℕ). record { head = head; first = padded image capacity; second = replicate capacity z } in
    c.in_ok-lay_out.ensures.done h ∙ ap (λ (head : List ℕ). store_bytes capacity (of head)) c.fresh_bytes-head.ensures.value
