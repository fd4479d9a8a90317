-- For the model of `Items` alone: an element lies less deep than its array or structure.
use Rattle.std.specs.Prelude.{◌≤◌, List, [], ◌∷◌}
use Rattle.std.proofs.Common.{arith}
use denote.Param.Weighed.{most}
use Rattle.fw_axdr.specs.Stored.{values_size, value_size}
use Rattle.fw_axdr.specs.View.{value_of, values_of}
use Rattle.fw_axdr.specs.declared.data.Data.{Data}
use Rattle.fw_axdr.specs.declared.data.Data.TheVariants.{Null, Array, Structure, Boolean, BitString, DoubleLong, DoubleLongUnsigned, OctetString, VisibleString, Integer, Long, Unsigned, LongUnsigned, Long64, Long64Unsigned, Enumerated}
use Rattle.fw_axdr.specs.declared.data.Items.TheInside.{Inside}
use Rattle.fw_axdr.specs.declared.data.Items.TheDeep.{deep-Items, deep-Data}

data_falls : (d : Data) → deep-Data d ≤ value_size (value_of d)
data_falls Null = omega arith
data_falls (Array vs) = omega arith
data_falls (Structure vs) = omega arith
data_falls (Boolean b) = omega arith
data_falls (BitString bs) = omega arith
data_falls (DoubleLong z) = omega arith
data_falls (DoubleLongUnsigned n) = omega arith
data_falls (OctetString o) = omega arith
data_falls (VisibleString o) = omega arith
data_falls (Integer z) = omega arith
data_falls (Long z) = omega arith
data_falls (Unsigned n) = omega arith
data_falls (LongUnsigned n) = omega arith
data_falls (Long64 z) = omega arith
data_falls (Long64Unsigned n) = omega arith
data_falls (Enumerated n) = omega arith

items_fall : (ds : List Data) → most deep-Data ds ≤ values_size (values_of ds)
items_fall [] = omega arith
items_fall (d ∷ ds) = omega (arith, data_falls d, items_fall ds)

pub items_falls : (a : Inside) → deep-Items a ≤ values_size (values_of a.items.items)
items_falls a = omega (arith, items_fall a.items.items)
