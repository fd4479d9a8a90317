use Rattle.std.proofs.Common.{◌≡◌, ◌≢◌, ◌<◌, ◌^◌, ℕ, List, length, take, Option, Some, None, IsTrue, sym, ap, subst, ◌∙◌, inl, inr, arith}
use Rattle.std.specs.Int.{w32, to_be_bytes}
use Rattle.std.specs.Prelude.{IfNone}
use Rattle.fw_store.specs.Setup.{IsCapacity}
use Rattle.fw_store.specs.Sizes.{stored_size}
use Rattle.fw_store.specs.StoreBytes.{IsStore}
use Rattle.fw_store.specs.declared.device_store.Found.{Found}
use Rattle.fw_store.specs.declared.tail.Tail.{Tail}
use Rattle.fw_store.specs.declared.tail.Tail.TheVariants.{Empty, Releases, Marks}
use Rattle.fw_store.proofs.Parts.{same_number}
use Rattle.fw_store.proofs.device_store.find.Goals as goal

-- where bytes begin with a capacity, and have no length of a store of that capacity, they are no store
no_store : (capacity : ℕ) (bytes : List ℕ) → capacity < 2 ^ 32 → take 4 bytes ≡ to_be_bytes w32 capacity
    → (IsCapacity capacity → (tail : Tail) → length bytes ≢ stored_size tail capacity) → (other : ℕ) → IsStore bytes other → ⊥
no_store capacity bytes fits begins none other is =
    let room = is.room in
    let same : other ≡ capacity = same_number other capacity (omega arith) fits (sym is.begins ∙ begins) in
    let there = none (subst IsCapacity same is.room) in
    elim is.size [
      | inl two ↦ there Marks (two ∙ ap (stored_size Marks) same)
      | inr less ↦ elim less [
        | inl one ↦ there Releases (one ∙ ap (stored_size Releases) same)
        | inr old ↦ there Empty (old ∙ ap (stored_size Empty) same)
      ]
    ]

none_found : (found : Option Found) (capacity len : ℕ) (bytes : List ℕ) → capacity < 2 ^ 32 → take 4 bytes ≡ to_be_bytes w32 capacity → len ≡ length bytes
    → IfNone found (IsCapacity capacity → (tail : Tail) → len ≢ stored_size tail capacity) → IfNone found ((other : ℕ) → IsStore bytes other → ⊥)
none_found (Some found) capacity len bytes fits begins size none = tt
none_found None capacity len bytes fits begins size none =
    no_store capacity bytes fits begins (λ room tail same. none room tail (size ∙ same))

pub returns-clause-none : goal.returns-clause-none
returns-clause-none g c h =
    let bytes = g.D.ByteDevice.contents c.args.device.now in
    let still : IsTrue (g.D.ByteDevice.honest c.len.new.self) = rw (c.len.ensures.kept.honesty) h in
    let begins : take 4 bytes ≡ to_be_bytes w32 c.number-capacity.result =
    ap (take 4) (sym (c.len.ensures.same h)) ∙ sym (c.in_ok-read_at.ensures.done still) ∙ sym c.number-capacity.ensures in
    none_found c.of.result c.number-capacity.result c.in_ok-len.len bytes (omega arith) begins (c.in_ok-len.ensures.done h) c.of.ensures.none
