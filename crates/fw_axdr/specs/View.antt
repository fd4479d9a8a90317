-- Public vocabulary: the value that a `Data` of the code stands for.
use Rattle.std.specs.Prelude.{List, [], ◌∷◌}
use Rattle.fw_axdr.specs.Value.{Value, Values, null, array, structure, boolean, bit_string, double_long, double_long_unsigned, octet_string, visible_string, integer, long, unsigned, long_unsigned, long64, long64_unsigned, enumerated, none, more}
use Rattle.fw_axdr.specs.declared.data.Data.{Data}
use Rattle.fw_axdr.specs.declared.data.Data.TheVariants.{Null, Array, Structure, Boolean, BitString, DoubleLong, DoubleLongUnsigned, OctetString, VisibleString, Integer, Long, Unsigned, LongUnsigned, Long64, Long64Unsigned, Enumerated}

-- one level: contracts see `Items` as values already, and `Bits` and `Octets` as lists
abbrev pub value_of : Data → Value
value_of Null = null
value_of (Array vs) = array vs
value_of (Structure vs) = structure vs
value_of (Boolean b) = boolean b
value_of (BitString bs) = bit_string bs
value_of (DoubleLong z) = double_long z
value_of (DoubleLongUnsigned n) = double_long_unsigned n
value_of (OctetString o) = octet_string o
value_of (VisibleString o) = visible_string o
value_of (Integer z) = integer z
value_of (Long z) = long z
value_of (Unsigned n) = unsigned n
value_of (LongUnsigned n) = long_unsigned n
value_of (Long64 z) = long64 z
value_of (Long64Unsigned n) = long64_unsigned n
value_of (Enumerated n) = enumerated n

abbrev pub values_of : List Data → Values
values_of [] = none
values_of (d ∷ ds) = more (value_of d) (values_of ds)
