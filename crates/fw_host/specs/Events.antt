-- Public vocabulary: which files beside those of events and of metrics are their own, while they are made.
use Rattle.std.specs.Prelude.{◌≡◌, ◌⊎◌, ℕ, ◌≤◌, List, codes, length, take}
use Rattle.std.proofs.Common.{refl, sym, ap, ◌∙◌, arith}
use Rattle.std.proofs.lemmas.List.{length-take, take_all}
use Rattle.fw_disk.specs.declared.name.Name.TheVariants.{Main}
use Rattle.fw_disk.specs.Disk.{Disk, absent}
use Rattle.fw_disk.specs.Ours.{IsOurs}
use Rattle.fw_host.specs.BegunCapture.{begins_again}

-- a file of events that is begun has no byte
abbrev pub IsEmpty : List ℕ → Type 0
IsEmpty bytes = length bytes ≤ 0

abbrev pub page_front : List ℕ
page_front = codes "# HELP dlmsfw_bo"

-- what a cut making leaves of a page of metrics: in front its first bytes, as far as it goes
abbrev pub IsPage : List ℕ → Type 0
IsPage bytes = take 16 bytes ≡ take (length bytes) page_front

-- a page may be put under FILE: nothing is there, or one is
abbrev pub MayHavePage : Disk → Type 0
MayHavePage disk = (disk.entry Main ≡ absent) ⊎ ((n : ℕ) × IsOurs IsPage disk Main n)

-- ---- their laws: no bytes are ours, and the first bytes of what is ours

pub none_is_empty : (bytes : List ℕ) → length bytes ≤ 0 → IsEmpty bytes
none_is_empty bytes none = none

pub front_is_empty : (count : ℕ) (bytes : List ℕ) → IsEmpty bytes → IsEmpty (take count bytes)
front_is_empty count bytes is = omega (arith, length-take count bytes, is)

pub none_is_page : (bytes : List ℕ) → length bytes ≤ 0 → IsPage bytes
none_is_page bytes none =
    let empty : length bytes ≡ 0 = omega arith in
    take_all 16 bytes (omega arith) ∙ sym (take_all 0 bytes none) ∙ ap (λ (n : ℕ). take n page_front) (sym empty)

pub front_is_page : (count : ℕ) (bytes : List ℕ) → IsPage bytes → IsPage (take count bytes)
front_is_page count bytes is = begins_again page_front bytes count refl is
