-- The shapes of requests and of their parameters.
use Rattle.std.proofs.Common.{◌≡◌, ◌≢◌, ◌⊎◌, ℕ, ℤ, pos, Bool, true, false, cond, ◌&&◌, ◌||◌, List, [], ◌∷◌, length, Option, Some, None, inl, inr, refl, sym, ap, subst, ◌∙◌, arith, ⊎_elim}
use Rattle.std.specs.Prelude.{◌==◌, nat_eq}
use Rattle.std.specs.Option.{option_and_then}
use Rattle.std.specs.Ordering.{int_eq}
use Rattle.std.specs.Cmp.Lexicographic.{pointwise, same_text}
use Rattle.std.proofs.lemmas.Bool.{and_parts, false≢true, or_cases}
use Rattle.std.proofs.lemmas.Bool.Decides.{Decides-eqb, Decides-int_eq}
use Rattle.fw_axdr.specs.Value.{Value, Values, structure, boolean, double_long_unsigned, octet_string, integer, none, more}
use Rattle.fw_axdr.specs.View.{values_of}
use Rattle.fw_axdr.specs.declared.data.Data.{Data}
use Rattle.fw_names.specs.Name.{Name, name_bytes}
use Rattle.fw_apdu.specs.Cosem as cosem
use Rattle.fw_apdu.specs.Request.{Descriptor, RequestContent, get_request, set_request, action_request}
use Rattle.fw_client.specs.Ask as ask
use Rattle.fw_client.specs.Ask.{Ask, active_identifier, image_transfer, pair, request_of}
use Rattle.fw_server.specs.Meaning.{number_in, octets_in, two_in, two_of}
use Rattle.fw_head_audit.specs.Private.{Kind, free, initiating, blocking, asked_by, blocking_of, free_if, initiating_of, is_identifier, is_read_number, is_transfer, is_true, is_zero, method_asks, order_of, set_asks}

pub no_pair : (ds : List Data) → length ds ≢ 2 → two_of (values_of ds) ≡ None
no_pair [] other = refl
no_pair (a ∷ []) other = refl
no_pair (a ∷ (b ∷ [])) other = absurd (omega arith)
no_pair (a ∷ (b ∷ (c ∷ ds))) other = refl

-- ---- choices

none_is : {A : Type 0} (a : A) → None ≡ Some a → ⊥
none_is a e = cc

pub some_is : {A : Type 0} (a b : A) → Some a ≡ Some b → a ≡ b
some_is a b e = cc

pub if_some : {A : Type 0} (b : Bool) (o : Option A) (a : A) → cond b o None ≡ Some a → (b ≡ true) × (o ≡ Some a)
if_some true o a e = (refl, e)
if_some false o a e = absurd (none_is a e)

then_some : {A B : Type 0} (f : A → Option B) (o : Option A) (b : B) → option_and_then f o ≡ Some b → (a : A) × (o ≡ Some a) × (f a ≡ Some b)
then_some f None b e = absurd (none_is b e)
then_some f (Some a) b e = (a, refl, e)

-- ---- values

no_true : false ≡ true → ⊥
no_true e = false≢true e

boolean_is : (v : Value) → is_true v ≡ true → v ≡ boolean true
boolean_is (boolean b) e = ap boolean e
boolean_is v e = absurd (no_true e)

integer_is : (v : Value) → is_zero v ≡ true → v ≡ integer (pos 0)
integer_is (integer z) e = ap integer ((Decides-int_eq z (pos 0)).0 e)
integer_is v e = absurd (no_true e)

octets_is : (v : Value) (bytes : List ℕ) → octets_in v ≡ Some bytes → v ≡ octet_string bytes
octets_is (octet_string o) bytes e = ap octet_string (some_is o bytes e)
octets_is v bytes e = absurd (none_is bytes e)

number_is : (v : Value) (number : ℕ) → number_in v ≡ Some number → v ≡ double_long_unsigned number
number_is (double_long_unsigned n) number e = ap double_long_unsigned (some_is n number e)
number_is v number e = absurd (none_is number e)

two_items_are : (vs : Values) (both : Value × Value) → two_of vs ≡ Some both → structure vs ≡ pair both.0 both.1
two_items_are none both e = absurd (none_is both e)
two_items_are (more a none) both e = absurd (none_is both e)
two_items_are (more a (more b none)) both e =
    let had : Value × Value = (a, b) in ap (λ (x : Value × Value). pair x.0 x.1) (some_is had both e)
two_items_are (more a (more b (more c vs))) both e = absurd (none_is both e)

two_are : (v : Value) (both : Value × Value) → two_in v ≡ Some both → v ≡ pair both.0 both.1
two_are (structure vs) both e = two_items_are vs both e
two_are v both e = absurd (none_is both e)

same_pair : (a b c d : Value) → a ≡ c → b ≡ d → pair a b ≡ pair c d
same_pair a b c d e f = ap (λ (x : Value). pair x b) e ∙ ap (λ (x : Value). pair c x) f

-- ---- what is asked

-- an ask that any offer lets a head end send
abbrev pub IsFree : Ask → Type 0
IsFree (ask.initiate name size) = ⊥
IsFree (ask.block number value) = ⊥
IsFree asked = Unit {0}

-- a request asks this
abbrev pub IsKind : RequestContent → Kind → Type 0
IsKind content free = (asked : Ask) × IsFree asked × (content ≡ request_of asked)
IsKind content (initiating identifier size) =
    content ≡ action_request (image_transfer cosem.image_transfer_initiate) (Some (pair (octet_string identifier) (double_long_unsigned size)))
IsKind content (blocking number value) = content ≡ request_of (ask.block number value)

abbrev pub kind_for : Ask → Kind
kind_for (ask.initiate name size) = initiating (name_bytes name) size
kind_for (ask.block number value) = blocking number value
kind_for asked = free

pub asks_for : (asked : Ask) → asked_by (request_of asked) ≡ Some (kind_for asked)
asks_for ask.block_size = refl
asks_for ask.first_missing = refl
asks_for ask.blocks = refl
asks_for ask.status = refl
asks_for ask.info = refl
asks_for ask.active_name = refl
asks_for ask.enable = refl
asks_for (ask.initiate name size) = refl
asks_for (ask.block number value) = refl
asks_for ask.verify = refl
asks_for ask.activate = refl

descriptor_is : (d : Descriptor) (class : ℕ) (instance : List ℕ) (number : ℤ) → d.class ≡ class → d.instance ≡ instance → d.number ≡ number
    → d ≡ record { class = class; instance = instance; number = number }
descriptor_is d class instance number of_class of_instance of_number =
    ap (λ (x : ℕ). record { class = x; instance = d.instance; number = d.number }) of_class
    ∙ ap (λ (x : List ℕ). record { class = class; instance = x; number = d.number }) of_instance
    ∙ ap (λ (x : ℤ). record { class = class; instance = instance; number = x }) of_number

transfer_is : (d : Descriptor) (number : ℤ) → is_transfer d.class d.instance ≡ true → int_eq d.number number ≡ true → d ≡ image_transfer number
transfer_is d number transfer e =
    let parts = and_parts (d.class == cosem.image_transfer_class) (pointwise nat_eq d.instance cosem.image_transfer) transfer in
    descriptor_is d cosem.image_transfer_class cosem.image_transfer number ((Decides-eqb d.class cosem.image_transfer_class).0 parts.0)
    (same_text d.instance cosem.image_transfer (sym parts.1)) ((Decides-int_eq d.number number).0 e)

identifier_is : (d : Descriptor) → is_identifier d.class d.instance d.number ≡ true → d ≡ active_identifier cosem.value
identifier_is d e =
    let first = and_parts (d.class == cosem.data_class) (pointwise nat_eq d.instance cosem.active_firmware_identifier && int_eq d.number cosem.value) e in
    let second = and_parts (pointwise nat_eq d.instance cosem.active_firmware_identifier) (int_eq d.number cosem.value) first.1 in
    descriptor_is d cosem.data_class cosem.active_firmware_identifier cosem.value ((Decides-eqb d.class cosem.data_class).0 first.0)
    (same_text d.instance cosem.active_firmware_identifier (sym second.0)) ((Decides-int_eq d.number cosem.value).0 second.1)

-- ---- a read

read_is : (d : Descriptor) → is_transfer d.class d.instance ≡ true → is_read_number d.number ≡ true → IsKind (get_request d) free
read_is d transfer e =
    let n : ℤ = d.number in
    ⊎_elim (λ (is : int_eq n cosem.image_block_size ≡ true). (ask.block_size, tt, ap get_request (transfer_is d cosem.image_block_size transfer is)))
    (λ (a : (int_eq n cosem.image_transferred_blocks_status || (int_eq n cosem.image_first_not_transferred_block_number
    || (int_eq n cosem.image_transfer_status || int_eq n cosem.image_to_activate_info))) ≡ true).
    ⊎_elim (λ (is : int_eq n cosem.image_transferred_blocks_status ≡ true). (ask.blocks, tt, ap get_request (transfer_is d cosem.image_transferred_blocks_status transfer is)))
    (λ (b : (int_eq n cosem.image_first_not_transferred_block_number || (int_eq n cosem.image_transfer_status || int_eq n cosem.image_to_activate_info)) ≡ true).
    ⊎_elim
    (λ (is : int_eq n cosem.image_first_not_transferred_block_number ≡ true). (
      ask.first_missing,
      tt,
      ap get_request (transfer_is d cosem.image_first_not_transferred_block_number transfer is),
    ))
    (λ (c : (int_eq n cosem.image_transfer_status || int_eq n cosem.image_to_activate_info) ≡ true).
    ⊎_elim (λ (is : int_eq n cosem.image_transfer_status ≡ true). (ask.status, tt, ap get_request (transfer_is d cosem.image_transfer_status transfer is)))
    (λ (is : int_eq n cosem.image_to_activate_info ≡ true). (ask.info, tt, ap get_request (transfer_is d cosem.image_to_activate_info transfer is)))
    (or_cases (int_eq n cosem.image_transfer_status) (int_eq n cosem.image_to_activate_info) c))
    (or_cases (int_eq n cosem.image_first_not_transferred_block_number) (int_eq n cosem.image_transfer_status || int_eq n cosem.image_to_activate_info) b))
    (or_cases (int_eq n cosem.image_transferred_blocks_status) (int_eq n cosem.image_first_not_transferred_block_number || (int_eq n cosem.image_transfer_status || int_eq n cosem.image_to_activate_info)) a))
    (or_cases (int_eq n cosem.image_block_size) (int_eq n cosem.image_transferred_blocks_status || (int_eq n cosem.image_first_not_transferred_block_number || (int_eq n cosem.image_transfer_status || int_eq n cosem.image_to_activate_info))) e)

either_some : {A : Type 0} (b : Bool) (o p : Option A) (a : A) → cond b o p ≡ Some a → ((b ≡ true) × (o ≡ Some a)) ⊎ (p ≡ Some a)
either_some true o p a e = inl (refl, e)
either_some false o p a e = inr e

free_is : (is : Bool) (kind : Kind) → free_if is ≡ Some kind → (is ≡ true) × (free ≡ kind)
free_is true kind e = (refl, some_is free kind e)
free_is false kind e = absurd (none_is kind e)

get_is : (d : Descriptor) (kind : Kind) → asked_by (get_request d) ≡ Some kind → IsKind (get_request d) kind
get_is d kind e =
    let transfer : Bool = is_transfer d.class d.instance in
    let identifier : Bool = is_identifier d.class d.instance d.number in
    ⊎_elim
    (λ (h : (transfer ≡ true) × (free_if (is_read_number d.number) ≡ Some kind)).
    (let found = free_is (is_read_number d.number) kind h.1 in subst (IsKind (get_request d)) found.1 (read_is d h.0 found.0)))
    (λ (h : free_if identifier ≡ Some kind).
    let found = free_is identifier kind h in
    subst (IsKind (get_request d)) found.1 (ask.active_name, tt, ap get_request (identifier_is d found.0)))
    (either_some transfer (free_if (is_read_number d.number)) (free_if identifier) kind e)

-- ---- a set

set_is : (d : Descriptor) (v : Value) (kind : Kind) → asked_by (set_request d v) ≡ Some kind → IsKind (set_request d v) kind
set_is d v kind e =
    let first = if_some (is_transfer d.class d.instance) (set_asks d.number v) kind e in
    let second = if_some (int_eq d.number cosem.image_transfer_enabled) (free_if (is_true v)) kind first.1 in
    let third = free_is (is_true v) kind second.1 in
    subst (IsKind (set_request d v)) third.1 (
      ask.enable,
      tt,
      ap (λ (x : Descriptor). set_request x v) (transfer_is d cosem.image_transfer_enabled first.0 second.0)
          ∙ ap (λ (x : Value). set_request (image_transfer cosem.image_transfer_enabled) x) (boolean_is v third.0),
    )

-- ---- an action

four_rows : {A : Type 0} (a b c d : Bool) (i j k l : Option A) (x : A) → cond a i (cond b j (cond c k (cond d l None))) ≡ Some x
    → ((a ≡ true) × (i ≡ Some x)) ⊎ (((b ≡ true) × (j ≡ Some x)) ⊎ (((c ≡ true) × (k ≡ Some x)) ⊎ ((d ≡ true) × (l ≡ Some x))))
four_rows true b c d i j k l x e = inl (refl, e)
four_rows false true c d i j k l x e = inr (inl (refl, e))
four_rows false false true d i j k l x e = inr (inr (inl (refl, e)))
four_rows false false false true i j k l x e = inr (inr (inr (refl, e)))
four_rows false false false false i j k l x e = absurd (none_is x e)

action_as : (d : Descriptor) (parameter : Option Value) (number : ℤ) (v w : Value) → d ≡ image_transfer number → parameter ≡ Some v → v ≡ w
    → action_request d parameter ≡ action_request (image_transfer number) (Some w)
action_as d parameter number v w own given is =
    ap (λ (x : Descriptor). action_request x parameter) own ∙ ap (λ (x : Option Value). action_request (image_transfer number) x) (given ∙ ap (λ (x : Value). Some x) is)

initiate_is : (d : Descriptor) (parameter : Option Value) (kind : Kind) → d ≡ image_transfer cosem.image_transfer_initiate → option_and_then initiating_of parameter ≡ Some kind
    → IsKind (action_request d parameter) kind
initiate_is d parameter kind own e =
    let v = then_some initiating_of parameter kind e in
    let both = then_some (λ (x : Value × Value). option_and_then (λ identifier. option_and_then (λ size. Some (initiating identifier size)) (number_in x.1)) (octets_in x.0)) (two_in v.0) kind v.2 in
    let identifier = then_some (λ (i : List ℕ). option_and_then (λ size. Some (initiating i size)) (number_in both.0.1)) (octets_in both.0.0) kind both.2 in
    let size = then_some (λ (s : ℕ). Some (initiating identifier.0 s)) (number_in both.0.1) kind identifier.2 in
    let shape : v.0 ≡ pair (octet_string identifier.0) (double_long_unsigned size.0) =
    two_are v.0 both.0 both.1
    ∙ same_pair both.0.0 both.0.1 (octet_string identifier.0) (double_long_unsigned size.0) (octets_is both.0.0 identifier.0 identifier.1) (number_is both.0.1 size.0 size.1) in
    subst (IsKind (action_request d parameter)) (some_is (initiating identifier.0 size.0) kind size.2)
    (action_as d parameter cosem.image_transfer_initiate v.0 (pair (octet_string identifier.0) (double_long_unsigned size.0)) own v.1 shape)

block_is : (d : Descriptor) (parameter : Option Value) (kind : Kind) → d ≡ image_transfer cosem.image_block_transfer → option_and_then blocking_of parameter ≡ Some kind
    → IsKind (action_request d parameter) kind
block_is d parameter kind own e =
    let v = then_some blocking_of parameter kind e in
    let both = then_some (λ (x : Value × Value). option_and_then (λ number. option_and_then (λ bytes. Some (blocking number bytes)) (octets_in x.1)) (number_in x.0)) (two_in v.0) kind v.2 in
    let number = then_some (λ (n : ℕ). option_and_then (λ bytes. Some (blocking n bytes)) (octets_in both.0.1)) (number_in both.0.0) kind both.2 in
    let bytes = then_some (λ (b : List ℕ). Some (blocking number.0 b)) (octets_in both.0.1) kind number.2 in
    let shape : v.0 ≡ pair (double_long_unsigned number.0) (octet_string bytes.0) =
    two_are v.0 both.0 both.1
    ∙ same_pair both.0.0 both.0.1 (double_long_unsigned number.0) (octet_string bytes.0) (number_is both.0.0 number.0 number.1) (octets_is both.0.1 bytes.0 bytes.1) in
    subst (IsKind (action_request d parameter)) (some_is (blocking number.0 bytes.0) kind bytes.2)
    (action_as d parameter cosem.image_block_transfer v.0 (pair (double_long_unsigned number.0) (octet_string bytes.0)) own v.1 shape)

order_is : (d : Descriptor) (parameter : Option Value) (number : ℤ) (asked : Ask) (kind : Kind) → IsFree asked
    → request_of asked ≡ action_request (image_transfer number) (Some (integer (pos 0))) → d ≡ image_transfer number → option_and_then order_of parameter ≡ Some kind
    → IsKind (action_request d parameter) kind
order_is d parameter number asked kind is_free same own e =
    let v = then_some order_of parameter kind e in
    let found = free_is (is_zero v.0) kind v.2 in
    subst (IsKind (action_request d parameter)) found.1
    (asked, is_free, action_as d parameter number v.0 (integer (pos 0)) own v.1 (integer_is v.0 found.0) ∙ sym same)

action_is : (d : Descriptor) (parameter : Option Value) (kind : Kind) → asked_by (action_request d parameter) ≡ Some kind → IsKind (action_request d parameter) kind
action_is d parameter kind e =
    let n : ℤ = d.number in
    let found = if_some (is_transfer d.class d.instance) (method_asks n parameter) kind e in
    let own : (number : ℤ) → int_eq n number ≡ true → d ≡ image_transfer number = λ number is. transfer_is d number found.0 is in
    let i : Option Kind = option_and_then initiating_of parameter in
    let j : Option Kind = option_and_then blocking_of parameter in
    let k : Option Kind = option_and_then order_of parameter in
    ⊎_elim (λ (h : (int_eq n cosem.image_transfer_initiate ≡ true) × (i ≡ Some kind)). initiate_is d parameter kind (own cosem.image_transfer_initiate h.0) h.1)
    (λ (a : ((int_eq n cosem.image_block_transfer ≡ true) × (j ≡ Some kind))
    ⊎ (((int_eq n cosem.image_verify ≡ true) × (k ≡ Some kind)) ⊎ ((int_eq n cosem.image_activate ≡ true) × (k ≡ Some kind)))).
    ⊎_elim (λ (h : (int_eq n cosem.image_block_transfer ≡ true) × (j ≡ Some kind)). block_is d parameter kind (own cosem.image_block_transfer h.0) h.1)
    (λ (b : ((int_eq n cosem.image_verify ≡ true) × (k ≡ Some kind)) ⊎ ((int_eq n cosem.image_activate ≡ true) × (k ≡ Some kind))).
    ⊎_elim (λ (h : (int_eq n cosem.image_verify ≡ true) × (k ≡ Some kind)). order_is d parameter cosem.image_verify ask.verify kind tt refl (own cosem.image_verify h.0) h.1)
    (λ (h : (int_eq n cosem.image_activate ≡ true) × (k ≡ Some kind)). order_is d parameter cosem.image_activate ask.activate kind tt refl (own cosem.image_activate h.0) h.1) b) a)
    (four_rows (int_eq n cosem.image_transfer_initiate) (int_eq n cosem.image_block_transfer) (int_eq n cosem.image_verify) (int_eq n cosem.image_activate) i j k k kind found.1)

pub kind_is : (content : RequestContent) (kind : Kind) → asked_by content ≡ Some kind → IsKind content kind
kind_is (get_request d) kind e = get_is d kind e
kind_is (set_request d v) kind e = set_is d v kind e
kind_is (action_request d parameter) kind e = action_is d parameter kind e
