-- For the model of `Items` alone: how the logic stores values, as trees of numbers.
use Rattle.std.specs.Prelude.{◌≡◌, ℕ, suc, ◌+◌, ℤ, pos, negsuc, Bool, true, false, ◌==◌, if◌then◌else◌, List, [], ◌∷◌, refl}
use Rattle.std.specs.Coded.{Coded}
use base.Stored.{Gv, gnil, gnum, gcons, num}
use mathlib.Core.Path.{sym, ◌∙◌, ap}
use Rattle.fw_axdr.specs.Value.{Value, Values, null, array, structure, boolean, bit_string, double_long, double_long_unsigned, octet_string, visible_string, integer, long, unsigned, long_unsigned, long64, long64_unsigned, enumerated, none, more}

-- larger than that of each element
abbrev mutual
  pub value_size : Value → ℕ
  value_size (array vs) = suc (values_size vs)
  value_size (structure vs) = suc (values_size vs)
  value_size _ = 0

  pub values_size : Values → ℕ
  values_size none = 0
  values_size (more v vs) = suc (value_size v + values_size vs)

abbrev bytes_tree : List ℕ → Gv
bytes_tree [] = gnil
bytes_tree (n ∷ ns) = gcons (gnum n) (bytes_tree ns)

abbrev bytes_back : Gv → List ℕ
bytes_back gnil = []
bytes_back (gnum n) = []
bytes_back (gcons a b) = num a ∷ bytes_back b

pub bytes_again : (ns : List ℕ) → bytes_back (bytes_tree ns) ≡ ns
bytes_again [] = refl
bytes_again (n ∷ ns) = ap (λ (x : List ℕ). n ∷ x) (bytes_again ns)

abbrev bit_tree : Bool → Gv
bit_tree true = gnum 1
bit_tree false = gnum 0

abbrev bit_back : Gv → Bool
bit_back g = num g == 1

pub bit_again : (b : Bool) → bit_back (bit_tree b) ≡ b
bit_again true = refl
bit_again false = refl

abbrev bits_tree : List Bool → Gv
bits_tree [] = gnil
bits_tree (b ∷ bs) = gcons (bit_tree b) (bits_tree bs)

abbrev bits_back : Gv → List Bool
bits_back gnil = []
bits_back (gnum n) = []
bits_back (gcons a b) = bit_back a ∷ bits_back b

pub bits_again : (bs : List Bool) → bits_back (bits_tree bs) ≡ bs
bits_again [] = refl
bits_again (b ∷ bs) = λ i. bit_again b i ∷ bits_again bs i

abbrev int_tree : ℤ → Gv
int_tree (pos n) = gcons (gnum 0) (gnum n)
int_tree (negsuc n) = gcons (gnum 1) (gnum n)

abbrev int_back : Gv → ℤ
int_back gnil = pos 0
int_back (gnum n) = pos 0
int_back (gcons a b) = if num a == 0 then pos (num b) else negsuc (num b)

pub int_again : (z : ℤ) → int_back (int_tree z) ≡ z
int_again (pos n) = refl
int_again (negsuc n) = refl

abbrev mutual
  value_tree : Value → Gv
  value_tree null = gcons (gnum 0) gnil
  value_tree (array vs) = gcons (gnum 1) (values_tree vs)
  value_tree (structure vs) = gcons (gnum 2) (values_tree vs)
  value_tree (boolean b) = gcons (gnum 3) (bit_tree b)
  value_tree (bit_string bs) = gcons (gnum 4) (bits_tree bs)
  value_tree (double_long z) = gcons (gnum 5) (int_tree z)
  value_tree (double_long_unsigned n) = gcons (gnum 6) (gnum n)
  value_tree (octet_string o) = gcons (gnum 7) (bytes_tree o)
  value_tree (visible_string o) = gcons (gnum 8) (bytes_tree o)
  value_tree (integer z) = gcons (gnum 9) (int_tree z)
  value_tree (long z) = gcons (gnum 10) (int_tree z)
  value_tree (unsigned n) = gcons (gnum 11) (gnum n)
  value_tree (long_unsigned n) = gcons (gnum 12) (gnum n)
  value_tree (long64 z) = gcons (gnum 13) (int_tree z)
  value_tree (long64_unsigned n) = gcons (gnum 14) (gnum n)
  value_tree (enumerated n) = gcons (gnum 15) (gnum n)

  values_tree : Values → Gv
  values_tree none = gnil
  values_tree (more v vs) = gcons (value_tree v) (values_tree vs)

abbrev number_by : ℕ → ℕ → Value
number_by t n =
    if t == 6 then double_long_unsigned n else (if t == 11 then unsigned n else (if t == 12 then long_unsigned n else (if t == 14 then long64_unsigned n else enumerated n)))

abbrev int_by : ℕ → ℤ → Value → Value
int_by t z other =
    if t == 5 then double_long z else (if t == 9 then integer z else (if t == 10 then long z else (if t == 13 then long64 z else other)))

abbrev value_by : ℕ → Gv → Values → Value
value_by t g vs =
    if t == 0 then null else (if t == 1 then array vs else (if t == 2 then structure vs else (if t == 3 then boolean (bit_back g) else
    (if t == 4 then bit_string (bits_back g) else (if t == 7 then octet_string (bytes_back g) else (if t == 8 then visible_string (bytes_back g) else
    int_by t (int_back g) (number_by t (num g))))))))

-- a tree as a value, and as the values that it lists
abbrev back : Gv → Value × Values
back gnil = (null, none)
back (gnum n) = (null, none)
back (gcons a b) = (value_by (num a) b (back b).1, more (back a).0 (back b).1)

mutual
  pub value_again : (v : Value) → (back (value_tree v)).0 ≡ v
  value_again null = refl
  value_again (array vs) = ap array (values_again vs)
  value_again (structure vs) = ap structure (values_again vs)
  value_again (boolean b) = ap boolean (bit_again b)
  value_again (bit_string bs) = ap bit_string (bits_again bs)
  value_again (double_long z) = ap double_long (int_again z)
  value_again (double_long_unsigned n) = refl
  value_again (octet_string o) = ap octet_string (bytes_again o)
  value_again (visible_string o) = ap visible_string (bytes_again o)
  value_again (integer z) = ap integer (int_again z)
  value_again (long z) = ap long (int_again z)
  value_again (unsigned n) = refl
  value_again (long_unsigned n) = refl
  value_again (long64 z) = ap long64 (int_again z)
  value_again (long64_unsigned n) = refl
  value_again (enumerated n) = refl

  pub values_again : (vs : Values) → (back (values_tree vs)).1 ≡ vs
  values_again none = refl
  values_again (more v vs) = λ i. more (value_again v i) (values_again vs i)

abbrev pub values_code : Coded Values
values_code = record { code = values_tree; inj = λ x y p. sym (values_again x) ∙ ap (λ g. (back g).1) p ∙ values_again y }
