-- Public vocabulary: what the command `name` does to its reader and its writer, where the bytes that these hold are known: what the reader
-- has left before and after, and what the writer holds at first and at last.
use Rattle.std.specs.Prelude.{ℕ, ◌≤◌, List, ◌++◌, length, Option, codes}
use Rattle.std.specs.Io.KnownBytes.{Appends}
use Rattle.hex.specs.Hex.{encode_lower}
use Rattle.fw_blocks.specs.Cuts.{max_image}
use Rattle.fw_names.specs.Name.{Campaign, SpellsName, name_of}
use Rattle.fw_faults.specs.Reading.{ReadsAll}
use Rattle.fw_faults.specs.declared.fault.Fault.{Fault}
use Rattle.fw_faults.specs.declared.fault.Fault.TheVariants as fault
use Rattle.fw_cli.specs.declared.name.NameError.{NameError}
use Rattle.fw_cli.specs.declared.name.NameError.TheVariants as name

-- All input was read, and it is an image that a campaign can offer: it has 1 to 16,777,216 bytes.
pub record ReadsImage (before after : Option (List ℕ)) (image : List ℕ) : Type 0 where
  pub read : ReadsAll before after image
  pub begins : 1 ≤ length image
  pub ends : length image ≤ max_image

-- what a name says of an image besides its digest: the campaign that offers it, and its release
pub record Naming : Type 0 where
  pub campaign : Campaign
  pub release : ℕ

-- An image was read, and its name in this campaign and of this release was written: the hexadecimal digits of the spelling in lower
-- case, and a line feed.
pub record WritesName (naming : Naming) (before after first last : Option (List ℕ)) : Type 0 where
  pub image : List ℕ
  pub spelling : List ℕ
  pub read : ReadsImage before after image
  pub spelled : SpellsName spelling (name_of naming.campaign naming.release image)
  pub written : Appends first last (encode_lower spelling ++ codes "\n")

-- the fault that says why it ended early
abbrev pub fault_of_name : NameError → Fault
fault_of_name name.Input = fault.Input
fault_of_name name.TooMuchInput = fault.TooMuchInput
fault_of_name name.EmptyImage = fault.EmptyImage
fault_of_name name.ImageTooLong = fault.ImageTooLong
fault_of_name name.Output = fault.Output
fault_of_name name.OutOfMemory = fault.OutOfMemory
