use Rattle.std.proofs.Common.{◌≡◌, ℕ, ◌++◌, ◌≤◌, ◌∙◌, ap, refl, sym, arith, IsTrue, length, take, drop, List, replicate}
use Rattle.std.proofs.Common.{append_assoc}
use Rattle.std.proofs.lemmas.List.{length-take, length-replicate}
use Rattle.std.specs.Int.{w32, to_be_bytes}
use Rattle.fw_store.specs.Device.{splice, padded}
use Rattle.fw_store.specs.StoreBytes.{store_size}
use Rattle.fw_store.specs.Versions.{bytes_of, version_of}
use Rattle.fw_store.specs.declared.version.HeaderVersion.{HeaderVersion}
use Rattle.fw_store.proofs.Outcomes.{on_ok, on_ok_too}
use Rattle.fw_store.proofs.Laying.{blank_zeros, no_shorter, numbered}
use Rattle.fw_store.proofs.device_store.lay_out.Goals as goal

pub write_behind-requires-clause-blank : goal.write_behind-requires-clause-blank
write_behind-requires-clause-blank g c h =
    let was : IsTrue (g.D.ByteDevice.honest c.args.device.now) = rw (← c.clear.ensures.kept.honesty) h in
    let size = c.store_size.ensures ∙ ap (λ (v : HeaderVersion). store_size v c.args.capacity) c.version.ensures in
    let z : ℕ = 0 in
    blank_zeros (store_size (version_of c.args.head.now) c.args.capacity) (g.D.ByteDevice.contents c.clear.new.device)
    (c.in_ok-clear.ensures.done was ∙ ap (λ (n : ℕ). replicate n z) size) (omega arith)

pub replace_at-requires : goal.replace_at-requires
replace_at-requires g c h =
    let cleared : IsTrue (g.D.ByteDevice.honest c.clear.new.device) = rw (← c.write_behind.ensures.kept.honesty) h in
    let was : IsTrue (g.D.ByteDevice.honest c.args.device.now) = rw (← c.clear.ensures.kept.honesty) cleared in
    let blank = g.D.ByteDevice.contents c.clear.new.device in
    let behind = g.D.ByteDevice.contents c.write_behind.new.device in
    let z : ℕ = 0 in
    let all : length blank ≡ c.store_size.result = ap length (c.in_ok-clear.ensures.done was) ∙ length-replicate c.store_size.result z in
    let size = c.store_size.ensures ∙ ap (λ (v : HeaderVersion). store_size v c.args.capacity) c.version.ensures in
    let number : length c.to_be_bytes.result ≡ 4 = ap length c.to_be_bytes.ensures in
    let four : length (take 4 blank) ≡ 4 = omega (arith, length-take 4 blank) in
    let long : 4 ≤ length behind = no_shorter behind (take 4 blank) _ 4 (c.in_ok-write_behind.ensures.done cleared) four in
    omega arith

pub returns-clause-done : goal.returns-clause-done
returns-clause-done g c h =
    let cleared : IsTrue (g.D.ByteDevice.honest c.clear.new.device) = rw (c.clear.ensures.kept.honesty) h in
    let ready : IsTrue (g.D.ByteDevice.honest c.write_behind.new.device) = rw (c.write_behind.ensures.kept.honesty) cleared in
    let capacity : ℕ = c.args.capacity in
    let z : ℕ = 0 in
    let head : List ℕ = bytes_of c.args.head.now in
    let first = padded c.args.image.now capacity in
    let blank = g.D.ByteDevice.contents c.clear.new.device in
    let behind = g.D.ByteDevice.contents c.write_behind.new.device in
    let number : List ℕ = to_be_bytes w32 capacity in
    let rest = take 614 head ++ (first ++ (replicate capacity z ++ drop 614 head)) in
    let grouped : number ++ take 614 head ++ first ++ replicate capacity z ++ drop 614 head ≡ number ++ rest = simp append_assoc in
    let all : length blank ≡ c.store_size.result = ap length (c.in_ok-clear.ensures.done h) ∙ length-replicate c.store_size.result z in
    let size = c.store_size.ensures ∙ ap (λ (v : HeaderVersion). store_size v c.args.capacity) c.version.ensures in
    let four : length (take 4 blank) ≡ 4 = omega (arith, length-take 4 blank) in
    on_ok_too c.replace_at.result c.replace_at.result refl
    (λ e. numbered number rest behind (g.D.ByteDevice.contents c.replace_at.new.self) (take 4 blank) four refl
    (c.in_ok-write_behind.ensures.done cleared ∙ ap (λ (l : List ℕ). take 4 blank ++ drop 4 l) grouped)
    (e ∙ ap (λ (n : List ℕ). splice behind 0 n) c.to_be_bytes.ensures)
    ∙ sym grouped)
    (c.replace_at.ensures.done ready)

pub returns-clause-within : goal.returns-clause-within
returns-clause-within g c sound =
    let size = c.store_size.ensures ∙ ap (λ (v : HeaderVersion). store_size v c.args.capacity) c.version.ensures in
    let fits = c.in_ok-clear.ensures.within sound in
    on_ok c.replace_at.result (omega arith)
