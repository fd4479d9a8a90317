-- What the reader says of an opening.
use Rattle.std.proofs.Common.{◌≡◌, ℕ, ◌*◌, ◌%◌, ◌<◌, ◌^◌, List, [], ◌∷◌, ◌++◌, length, refl, sym, ap, ◌∙◌, arith, length-append}
use Rattle.std.specs.Int.{w32, to_be_bytes}
use Rattle.fw_names.specs.Name.{Campaign, IsOpened, campaign_bytes}
use Rattle.fw_ledger.specs.Entry.{Source, Entry, opening, mark, cancelling, endings, note, meters_bytes, opening_front, mark_bytes, IsSource, Spells, NoOpening}
use Rattle.fw_ledger.specs.Note.{note_bytes}
use Rattle.fw_ledger.proofs.Spellings.{front_unique, tail_of}

length-meters_bytes : (meters : List ℕ) → length (meters_bytes meters) ≡ 4 * length meters
length-meters_bytes [] = refl
length-meters_bytes (m ∷ meters) =
    let four : length (to_be_bytes w32 m) ≡ 4 = refl in
    omega (arith, length-append (to_be_bytes w32 m) (meters_bytes meters), length-meters_bytes meters, four)

-- where what follows the fields isn't four bytes for each meter
pub odd_meters : (bytes m : List ℕ) (c : Campaign) (r : ℕ) (x : Source) → IsOpened c → r < 2 ^ 32 → IsSource x → bytes ≡ opening_front c r x ++ m → ¬ (length m % 4 ≡ 0) → NoOpening bytes
odd_meters bytes m c r x opened fits has found odd = λ campaign release source meters is_opened fit is_source e.
    let same = (front_unique c campaign r release x source m (meters_bytes meters) opened is_opened fits fit has is_source (sym found ∙ e)).3 in
    odd (omega (arith, ap length same, length-meters_bytes meters))

pub opening_none : (bytes : List ℕ) → NoOpening bytes → (entry : Entry) → Spells (1 ∷ bytes) entry → ⊥
opening_none bytes none (opening c r x ms) spells = none c r x ms spells.can.0 spells.fit.0 spells.can.1 (tail_of 1 1 bytes (opening_front c r x ++ meters_bytes ms) spells.spelled).1
opening_none bytes none (mark c m e) spells = absurd (omega (arith, (tail_of 1 2 bytes (mark_bytes c m e) spells.spelled).0))
opening_none bytes none (cancelling c) spells = absurd (omega (arith, (tail_of 1 3 bytes (campaign_bytes c) spells.spelled).0))
opening_none bytes none (endings c ns) spells = absurd (omega (arith, (tail_of 1 4 bytes (campaign_bytes c ++ ns) spells.spelled).0))
opening_none bytes none (note c n) spells = absurd (omega (arith, (tail_of 1 5 bytes (campaign_bytes c ++ note_bytes n) spells.spelled).0))
