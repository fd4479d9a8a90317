-- Public vocabulary: what `keys` makes and tells, and the fault that each of its errors is.
use Rattle.std.specs.Prelude.{◌≡◌, ℕ, List, ◌++◌, Option, codes, flat_map, map}
use Rattle.std.specs.Io.KnownBytes.{Appends}
use Rattle.fw_faults.specs.declared.fault.Fault.{Fault}
use Rattle.fw_faults.specs.declared.fault.Fault.TheVariants as fault
use Rattle.fw_host.specs.Lists.{SpellsList}
use Rattle.fw_host.specs.Waves.{listed_in}
use Rattle.fw_host.specs.declared.wave_list.Planned.{Planned}
use Rattle.fw_key_files.specs.Making.{KeyText, all_owners, owners_of, path_in}
use Rattle.fw_key_files.specs.declared.owner.Owner.{Owner}
use Rattle.fw_rollout.specs.declared.link.Listed.{Listed}
use Rattle.fw_cli.specs.declared.keys.KeyMakingError.{KeyMakingError}
use Rattle.fw_cli.specs.declared.keys.KeyMakingError.TheVariants.{BadList, KeysFault, ListFault, NoRandomness, Output, OutOfMemory}
use Rattle.fw_cli.specs.declared.keys.KeysOptions.{KeysOptions}

-- the numbers of the meters of a list, in order
abbrev pub numbers_of : List Listed → List ℕ
numbers_of list = map (λ (at : Listed). at.meter) list

-- the line of this end's file
abbrev pub made_line : List ℕ → Owner → List ℕ
made_line folder owner = codes "made " ++ (path_in folder owner ++ codes "\n")

-- those of these ends' files
abbrev pub made_lines : List ℕ → List Owner → List ℕ
made_lines folder owners = flat_map (λ (owner : Owner). made_line folder owner) owners

-- those of these files
abbrev pub lines_of : List ℕ → List KeyText → List ℕ
lines_of folder files = flat_map (λ (file : KeyText). made_line folder file.owner) files

-- some text is a list of meters, and a line was written for the head end's file and for each meter's, in order
pub record TellsKeys (options : KeysOptions) (before after : Option (List ℕ)) : Type 0 where
  pub text : List ℕ
  pub list : List Planned
  pub spells : SpellsList options.listen text list
  pub told : Appends before after (made_lines options.folder.now (all_owners (numbers_of (listed_in list))))

-- some text is a list of meters, and these are the files of the head end and of its meters in order
pub record IsAsked (options : KeysOptions) (files : List KeyText) : Type 0 where
  pub text : List ℕ
  pub list : List Planned
  pub spells : SpellsList options.listen text list
  pub owners : owners_of files ≡ all_owners (numbers_of (listed_in list))

-- the fault that says why keys aren't made
abbrev pub fault_of_making : KeyMakingError → Fault
fault_of_making ListFault = fault.ListFault
fault_of_making (BadList line) = fault.BadList line
fault_of_making NoRandomness = fault.NoRandomness
fault_of_making KeysFault = fault.KeysFault
fault_of_making Output = fault.Output
fault_of_making OutOfMemory = fault.OutOfMemory
