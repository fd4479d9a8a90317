-- A GET reads the active name at one object and attribute alone.
use Rattle.std.proofs.Common.{◌≡◌, ℕ, ℤ, Bool, true, false, List, Option, Some, None, refl, sym, ap, ◌∙◌, arith}
use Rattle.std.specs.Prelude.{pos, nat_eq, ◌==◌, if◌then◌else◌}
use Rattle.std.specs.Ordering.{int_eq}
use Rattle.std.specs.Option.{option_and_then}
use Rattle.std.specs.Cmp.Lexicographic.{pointwise, same_text}
use Rattle.std.proofs.lemmas.Bool.Decides.{Decides-int_eq, Decides-eqb}
use Rattle.fw_apdu.specs.Request.{Descriptor, get_request}
use Rattle.fw_server.specs.Meaning.{instance_bytes, object_at, class_of, attribute_of, Meaning, read, refused, or_refused, asked_of, meaning_at, meaning_of}
use Rattle.fw_server.specs.declared.object.Object.{Object}
use Rattle.fw_server.specs.declared.object.Object.TheVariants.{ImageTransfer, ActiveIdentifier, ActiveSignature}
use Rattle.fw_server.specs.declared.object.Reading.{Reading}
use Rattle.fw_server.specs.declared.object.Reading.TheVariants.{LogicalName, BlockSize, TransferredBlocks, FirstNotTransferred, TransferEnabled, TransferStatus, ToActivate, ActiveName, ActiveDigest}
use Rattle.fw_server.specs.declared.code.ResultCode.TheVariants.{ObjectClassInconsistent, ReadWriteDenied}
use Rattle.fw_server.specs.Laws.{OnlyIdentifier}

-- no attribute of Image transfer is it
image_rows : (a b c d e f g : Bool) →
    (if a then Some (LogicalName ImageTransfer) else (if b then Some BlockSize else (if c then Some TransferredBlocks else (if d then Some FirstNotTransferred else (
    if e then Some TransferEnabled else (if f then Some TransferStatus else (if g then Some ToActivate else None))))))) ≡ Some ActiveName → ⊥
image_rows true b c d e f g h = grind arith
image_rows false true c d e f g h = grind arith
image_rows false false true d e f g h = grind arith
image_rows false false false true e f g h = grind arith
image_rows false false false false true f g h = grind arith
image_rows false false false false false true g h = grind arith
image_rows false false false false false false true h = grind arith
image_rows false false false false false false false h = grind arith

-- of a Data object only the value is
data_rows : (i : Object) (v : Reading) (a b : Bool) → (if a then Some (LogicalName i) else (if b then Some v else None)) ≡ Some ActiveName → (b ≡ true) × (v ≡ ActiveName)
data_rows i v true b h = absurd (grind arith)
data_rows i v false true h = (refl, grind arith)
data_rows i v false false h = absurd (grind arith)

attribute_is : (i : Object) (n : ℤ) → attribute_of i n ≡ Some ActiveName → (i ≡ ActiveIdentifier) × (n ≡ pos 2)
attribute_is ImageTransfer n h =
    absurd (image_rows (int_eq n (pos 1)) (int_eq n (pos 2)) (int_eq n (pos 3)) (int_eq n (pos 4)) (int_eq n (pos 5)) (int_eq n (pos 6)) (int_eq n (pos 7)) h)
attribute_is ActiveIdentifier n h =
    let second = (data_rows ActiveIdentifier ActiveName (int_eq n (pos 1)) (int_eq n (pos 2)) h).0 in (refl, (Decides-int_eq n (pos 2)).0 second)
attribute_is ActiveSignature n h =
    let other = (data_rows ActiveSignature ActiveDigest (int_eq n (pos 1)) (int_eq n (pos 2)) h).1 in absurd (grind arith)

reading_is : (r : Option Reading) → or_refused ReadWriteDenied (option_and_then (λ reading. Some (read reading)) r) ≡ read ActiveName → r ≡ Some ActiveName
reading_is None h = absurd (grind arith)
reading_is (Some r) h = grind arith

class_is : (b : Bool) (m : Meaning) → (if b then m else refused ObjectClassInconsistent) ≡ read ActiveName → (b ≡ true) × (m ≡ read ActiveName)
class_is true m h = (refl, h)
class_is false m h = absurd (grind arith)

-- the object, its class and the attribute
object_is : (found : Option Object) (d : Descriptor) → meaning_at found (get_request d) ≡ read ActiveName
    → (found ≡ Some ActiveIdentifier) × (d.class ≡ 1) × (d.number ≡ pos 2)
object_is None d h = absurd (grind arith)
object_is (Some i) d h =
    let class = class_is (d.class == class_of i) (asked_of i (get_request d)) h in
    let attribute = attribute_is i d.number (reading_is (attribute_of i d.number) class.1) in
    let own : d.class ≡ class_of i = (Decides-eqb d.class (class_of i)).0 class.0 in
    (ap Some attribute.0, own ∙ ap class_of attribute.0, attribute.1)

name_rows : (a b c : Bool) → (if a then Some ImageTransfer else (if b then Some ActiveIdentifier else (if c then Some ActiveSignature else None))) ≡ Some ActiveIdentifier → b ≡ true
name_rows true b c h = absurd (grind arith)
name_rows false true c h = refl
name_rows false false true h = absurd (grind arith)
name_rows false false false h = absurd (grind arith)

name_is : (s : List ℕ) → object_at s ≡ Some ActiveIdentifier → s ≡ instance_bytes ActiveIdentifier
name_is s h =
    same_text s (instance_bytes ActiveIdentifier)
    (sym (name_rows (pointwise nat_eq s (instance_bytes ImageTransfer)) (pointwise nat_eq s (instance_bytes ActiveIdentifier)) (pointwise nat_eq s (instance_bytes ActiveSignature)) h))

same_descriptor : (d : Descriptor) (c : ℕ) (s : List ℕ) (n : ℤ) → d.class ≡ c → d.instance ≡ s → d.number ≡ n → d ≡ record { class = c; instance = s; number = n }
same_descriptor d c s n class instance number =
    ap (λ (x : ℕ). record { class = x; instance = d.instance; number = d.number }) class
    ∙ ap (λ (x : List ℕ). record { class = c; instance = x; number = d.number }) instance
    ∙ ap (λ (x : ℤ). record { class = c; instance = s; number = x }) number

identified : (d : Descriptor) → meaning_of (get_request d) ≡ read ActiveName → d ≡ record { class = 1; instance = instance_bytes ActiveIdentifier; number = pos 2 }
identified d h =
    let parts = object_is (object_at d.instance) d h in
    same_descriptor d 1 (instance_bytes ActiveIdentifier) (pos 2) parts.1 (name_is d.instance parts.0) parts.2

pub only_identifier : OnlyIdentifier
only_identifier d = (identified d, λ h. ap (λ (x : Descriptor). meaning_of (get_request x)) h)
