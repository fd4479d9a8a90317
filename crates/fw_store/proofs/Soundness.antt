-- When a store over a device is sound: the device is, and has room for every header.
use Rattle.std.proofs.Common.{◌≡◌, ◌↔◌, ◌≤◌, ℕ, Bool, true, false, ◌&&◌, IsTrue, refl, rules, tests, arith}
use Rattle.std.proofs.lemmas.Bool.{false≢true}
use Rattle.std.specs.Prelude.{Result, Ok, Err, IsErr}
use Rattle.fw_store.specs.Faults.{count_after, HasCause}
use Rattle.fw_store.specs.StoreBytes.{has_room, store_size}
use Rattle.fw_store.specs.declared.error.StoreFault.{StoreFault}
use Rattle.fw_store.specs.declared.version.HeaderVersion.{HeaderVersion}
use Rattle.fw_store.specs.declared.version.HeaderVersion.TheVariants.{One, Two}

pub sound_both : (sound : Bool) (room capacity : ℕ) → IsTrue (sound && has_room room capacity) ↔ (IsTrue sound × (store_size Two capacity ≤ room))
sound_both false room capacity = (λ no. absurd (false≢true no), λ both. absurd (false≢true both.0))
sound_both true room capacity = (λ fits. (refl, search (rules, tests)), λ both. let fits = both.1 in search (rules, tests))

-- it is sound still where the device is, and has as much room
pub still_sound : (sound sound' : Bool) (room room' capacity : ℕ) → (IsTrue sound → IsTrue sound') → room' ≡ room
    → IsTrue (sound && has_room room capacity) → IsTrue (sound' && has_room room' capacity)
still_sound sound sound' room room' capacity stays same is =
    let both = (sound_both sound room capacity).0 is in
    let fits : store_size Two capacity ≤ room = both.1 in
    (sound_both sound' room' capacity).1 (stays both.0, omega arith)

-- a store of no version has more bytes than one of version 2
pub size_within : (version : HeaderVersion) (capacity : ℕ) → store_size version capacity ≤ store_size Two capacity
size_within One capacity = omega arith
size_within Two capacity = omega arith

-- a call failed that is counted, and that no sound store has
pub failed_call : {T : Type 0} (sound : Bool) (before after : ℕ) (r : Result T StoreFault) → IsErr r → after ≡ count_after false before
    → (IsTrue sound → ⊥) → HasCause sound before after r
failed_call sound before after (Ok a) failed counted none = absurd (false≢true failed)
failed_call sound before after (Err e) failed counted none = record { counted = counted; never = λ is. absurd (none is) }
