-- Public vocabulary: a file's names and their paths.
use Rattle.std.specs.Prelude.{ℕ, List, [], Bool, true, false, codes}
use Rattle.fw_disk.specs.declared.name.Name.{Name}
use Rattle.fw_disk.specs.declared.name.Name.TheVariants.{Main, New, Journal}

-- what stands behind the path of FILE
abbrev pub ending_of : Name → List ℕ
ending_of Main = []
ending_of New = codes ".new"
ending_of Journal = codes ".journal"

abbrev pub same_name : Name → Name → Bool
same_name Main Main = true
same_name New New = true
same_name Journal Journal = true
same_name _ _ = false
