-- Public vocabulary: what a Data is, apart from its bytes and from where it lies in memory
-- (IEC 62056-6-2, Common data types).
use Rattle.std.specs.Prelude.{ℕ, suc, max, ℤ, Bool, List}

mutual
  pub data Value : Type 0 where
    null : Value
    array : Values → Value
    structure : Values → Value
    boolean : Bool → Value
    bit_string : List Bool → Value
    double_long : ℤ → Value
    double_long_unsigned : ℕ → Value
    octet_string : List ℕ → Value
    visible_string : List ℕ → Value
    integer : ℤ → Value
    long : ℤ → Value
    unsigned : ℕ → Value
    long_unsigned : ℕ → Value
    long64 : ℤ → Value
    long64_unsigned : ℕ → Value
    enumerated : ℕ → Value

  -- the elements of an array or a structure
  pub data Values : Type 0 where
    none : Values
    more : Value → Values → Values

-- how many elements
abbrev pub count : Values → ℕ
count none = 0
count (more v vs) = suc (count vs)

-- the outermost value has depth 1, and an element is one deeper than its array or structure
abbrev mutual
  pub depth : Value → ℕ
  depth (array vs) = suc (deepest vs)
  depth (structure vs) = suc (deepest vs)
  depth _ = 1

  pub deepest : Values → ℕ
  deepest none = 0
  deepest (more v vs) = max (depth v) (deepest vs)
