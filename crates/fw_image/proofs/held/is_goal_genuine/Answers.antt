use Rattle.std.proofs.Common.{◌≡◌, ◌↔◌, IsTrue, Bool, take}
use Rattle.std.proofs.lemmas.Result.{IfOk-weaker}
use Rattle.sha2.specs.Sha256.{sha256}
use Rattle.fw_store.specs.Device.{slot_bytes}
use Rattle.fw_store.specs.Slot.{other}
use Rattle.fw_image.specs.Moves.{IsVerifiedGenuine}
use Rattle.fw_image.specs.Stored.{meter_of}
use Rattle.fw_image.proofs.Openings.{verified_iff}
use Rattle.fw_image.proofs.held.is_goal_genuine.Goals as goal

pub returns-clause-genuine : goal.returns-clause-genuine
returns-clause-genuine g c = λ honest.
    let known = g.S.ImageStore.known in
    let store = known c.args.store.now in
    let h = c.args.header.now in
    let d = store.device in
    let iff = verified_iff c.cuts_join.ensures store.capacity h d c.in-Some.goal c.requires (λ slot. g.met.S.ImageStore.sized c.args.store.now slot honest) c.in-VerificationSuccessful.is c.in-Some.is in
    let digest = rw c.other.ensures at (c.is_genuine.ensures.digest honest) in
    IfOk-weaker c.is_genuine.result (λ (same : Bool). IsTrue same ↔ (sha256 (take c.in-Some.goal.size (slot_bytes d (other h.running_slot))) ≡ c.in-Some.goal.name.digest)) (λ (genuine : Bool). IsTrue genuine ↔ IsVerifiedGenuine (meter_of store.capacity h d)) (λ genuine same. (λ t. iff.0 (same.0 t), λ v. same.1 (iff.1 v))) digest
