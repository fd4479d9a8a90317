-- What the making of a store makes of the disk, up to its room.
use Rattle.std.proofs.Common.{◌≡◌, ℕ, ◌-◌, ◌≤◌, min, List, [], length, take, refl, sym, ap, ◌∙◌, subst, inr, arith}
use Rattle.std.proofs.lemmas.List.{take_all}
use Rattle.std.proofs.lemmas.Grind.{common_steps}
use Rattle.std.specs.Int.{w32, to_be_bytes}
use Rattle.fw_disk.specs.declared.name.Name.TheVariants.{New}
use Rattle.fw_disk.specs.Disk.{Disk}
use Rattle.fw_disk.specs.Calls.{NoName, splice, IsTorn, Writes, Tears}
use Rattle.fw_disk.specs.Ours.{Takes}
use Rattle.fw_disk.proofs.Steps.{only_trans, only_more, left_over_keeps}
use Rattle.fw_store.specs.Setup.{IsCapacity}
use Rattle.fw_store.specs.StoreBytes.{store_size}
use Rattle.fw_store.specs.Beside.{IsBegunStore, few_are_begun}
use Rattle.fw_store.specs.Making.{TakesRoom}
use Rattle.fw_store.specs.declared.version.HeaderVersion.TheVariants.{Two}

-- a write of the capacity alone, whole or not
pub torn_capacity : (capacity n count : ℕ) → count ≡ 4 → (x y : Disk) → x.bytes n ≡ [] → Tears n 0 count x y → TakesRoom capacity n x y
torn_capacity capacity n count four x y empty t = record {
  only = t.rest;
  left_over = λ room. few_are_begun (y.bytes n) (omega (arith, t.torn.no_longer, ap length empty, four));
}

pub length_capacity : (capacity : ℕ) → length (to_be_bytes w32 capacity) ≡ 4
length_capacity capacity = refl

-- what is written whole in an empty file
pub written_capacity : (n : ℕ) (bytes : List ℕ) (x y : Disk) → x.bytes n ≡ [] → Writes n 0 bytes x y → y.bytes n ≡ bytes
written_capacity n bytes x y empty w = w.written ∙ ap (λ (l : List ℕ). splice l 0 bytes) empty ∙ grind (arith, common_steps)

-- the capacity stands in front, and no more than the room of a store behind it
module _ (capacity size : ℕ) (size_is : size ≡ store_size Two capacity) where
  four : length (to_be_bytes w32 capacity) ≡ 4
  four = length_capacity capacity

  begins : (s : List ℕ) → IsTorn 4 (size - 4) (to_be_bytes w32 capacity) s → take 4 s ≡ to_be_bytes w32 capacity
  begins s torn =
      let front : min 4 (length (to_be_bytes w32 capacity)) ≡ 4 = omega (arith, four) in
      subst (λ (k : ℕ). take k s ≡ take 4 (to_be_bytes w32 capacity)) front torn.before ∙ take_all 4 (to_be_bytes w32 capacity) (omega (arith, four))

  most : (s : List ℕ) → IsTorn 4 (size - 4) (to_be_bytes w32 capacity) s → length s ≤ store_size Two capacity
  most s torn = omega (arith, torn.no_longer, four, size_is)

  -- zeros behind the capacity, which is there
  pub torn_zeros : (n : ℕ) (x y z : Disk) → TakesRoom capacity n x y → y.bytes n ≡ to_be_bytes w32 capacity → Tears n 4 (size - 4) y z → TakesRoom capacity n x z
  torn_zeros n x y z t has zeros = record {
    only = only_trans NoName (λ m. m ≡ n) x y z t.only zeros.rest;
    left_over = λ room.
        let torn : IsTorn 4 (size - 4) (to_be_bytes w32 capacity) (z.bytes n) = subst (λ (l : List ℕ). IsTorn 4 (size - 4) l (z.bytes n)) has zeros.torn in
        inr (capacity, record { begins = begins (z.bytes n) torn; room = room; most = most (z.bytes n) torn });
  }

-- room is taken in a file that may be taken
pub takes_roomed : (may : ℕ → Type 0) (capacity n : ℕ) → may n → (x y : Disk) → TakesRoom capacity n x y → Takes IsBegunStore (IsCapacity capacity) New may x y
takes_roomed may capacity n taken x y r = record {
  only = only_more NoName (λ m. m ≡ New) (λ m. m ≡ n) may x y (λ m no. absurd no) (λ m is. subst (λ (k : ℕ). may k) (sym is) taken) r.only;
  left_over = λ room. left_over_keeps IsBegunStore New n x y (r.only.entries New (λ no. no)) (λ m differ. r.only.contents m differ) (λ had. r.left_over room);
}
