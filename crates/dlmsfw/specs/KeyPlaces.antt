-- What a fault of the making of keys is about.
use Rattle.std.specs.Prelude.{◌≡◌, ℕ, List, ◌++◌, Option, None, Some, codes}
use Rattle.std.specs.Option.{option_map}
use Rattle.fw_disk.specs.declared.reason.Reason.{Reason}
use Rattle.fw_key_files.specs.Making.{path_in}
use Rattle.fw_key_files.specs.declared.owner.Owner.{Owner}
use Rattle.fw_cli.specs.declared.keys.KeyMakingError.{KeyMakingError}
use Rattle.fw_cli.specs.declared.keys.KeyMakingError.TheVariants.{BadList, KeysFault, ListFault}
use Rattle.fw_cli.specs.declared.keys.KeysFailure.{KeysFailure}
use Rattle.dlmsfw.specs.Refusals.{reason_told}
use Rattle.dlmsfw.specs.declared.key_places.KeyPlace.{KeyPlace}
use Rattle.dlmsfw.specs.declared.key_places.KeyPlace.TheVariants.{Made, Meters}
use Rattle.dlmsfw.specs.declared.key_places.KeyPlaces.{KeyPlaces}
use Rattle.dlmsfw.specs.declared.refusal.Refusal.{Refusal}

-- the option with its value, and behind that of --out the path of the file that is made
abbrev pub key_place_text : KeyPlace → List ℕ
key_place_text (Meters file) = codes "--meters " ++ file.now
key_place_text (Made folder owner) = codes "--out " ++ (folder.now ++ (codes ": " ++ path_in folder.now owner))

-- what this error is about, where it is one of the making of the file of this end
abbrev pub key_place_in : KeyMakingError → Option Owner → KeyPlaces → Option KeyPlace
key_place_in ListFault owner places = Some (Meters places.meters)
key_place_in (BadList line) owner places = Some (Meters places.meters)
key_place_in KeysFault owner places = option_map (λ (end : Owner). Made places.folder end) owner
key_place_in error owner places = None

abbrev pub key_place_of : KeysFailure → KeyPlaces → Option KeyPlace
key_place_of failure places = key_place_in failure.error failure.owner places

-- If the file of an end can't be made, what is told is the reason that came with the fault, or nothing if none did.
abbrev pub TellsKeyReason : Option KeyPlace → Option Reason → Option Refusal → Type 0
TellsKeyReason (Some (Made folder owner)) reason told = told ≡ reason_told reason
TellsKeyReason place reason told = Unit {0}
