use Rattle.std.proofs.Common.{refl, subst, sym}
use Rattle.std.specs.Prelude.{IsTrue}
use Rattle.fw_store.specs.Memory.{is_sound, known_of}
use Rattle.fw_evidence.specs.Stores.{HoldsNone}
use Rattle.fw_evidence.specs.declared.error.StoreRefusal.{StoreRefusal}
use Rattle.fw_evidence.proofs.Opening.{holds, no_fault, refused}
use Rattle.fw_evidence.proofs.store.meter_in.Goals as goal

pub refusal_of-requires : goal.refusal_of-requires
refusal_of-requires c =
    let store = c.in-Ok.store in
    let sound : IsTrue (is_sound store) = rw c.in-Ok.ensures.read.unfused refl in
    no_fault (known_of store) _ c.in-Err.error sound c.in-Err.ensures.refused

pub returns-in-Ok-open_kept-clause-meter : goal.returns-in-Ok-open_kept-clause-meter
returns-in-Ok-open_kept-clause-meter c = holds c.args.bytes.now c.in-Ok.store c.in-Ok-open_kept.meter c.in-Ok.ensures.read c.in-Ok-open_kept.ensures.opened

pub returns-in-Err-clause-refused : goal.returns-in-Err-clause-refused
returns-in-Err-clause-refused c =
    let store = c.in-Ok.store in
    let sound : IsTrue (is_sound store) = rw c.in-Ok.ensures.read.unfused refl in
    let is = c.in-Err.ensures.refused in
    subst (λ (e : StoreRefusal). HoldsNone c.args.bytes.now e) (sym c.refusal_of.ensures)
    (refused c.args.bytes.now store c.in-Err.error _ c.in-Ok.ensures.read is (no_fault (known_of store) _ c.in-Err.error sound is))
