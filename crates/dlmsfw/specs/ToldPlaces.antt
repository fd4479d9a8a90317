-- Which file of a head end's events or metrics a fault is about.
use Rattle.std.specs.Prelude.{ℕ, List, ◌++◌, Option, None, codes}
use Rattle.std.specs.Option.{option_map}
use Rattle.fw_cli.specs.declared.told_files.ToldFile.{ToldFile}
use Rattle.fw_cli.specs.declared.told_files.ToldFile.TheVariants as told
use Rattle.fw_cli.specs.declared.told_files.Untold.{Untold}
use Rattle.fw_disk.specs.declared.name.Name.{Name}
use Rattle.dlmsfw.specs.Texts.{file_text}
use Rattle.dlmsfw.specs.declared.options.HeadShown.{HeadShown}
use Rattle.dlmsfw.specs.declared.told_files.ToldPlace.{ToldPlace}
use Rattle.dlmsfw.specs.declared.told_files.ToldPlace.TheVariants as place

-- the option with its value, and the file beside it that is meant
abbrev pub told_place_text : ToldPlace → List ℕ
told_place_text (place.Events file) = codes "--events " ++ file_text file
told_place_text (place.Metrics file) = codes "--metrics " ++ file_text file

abbrev pub told_place_in : ToldFile → Name → HeadShown → Option ToldPlace
told_place_in told.Events name shown = option_map (λ path. place.Events (record { path = path; number = None; name = name })) shown.events
told_place_in told.Metrics name shown = option_map (λ path. place.Metrics (record { path = path; number = None; name = name })) shown.metrics

abbrev pub told_place_of : Untold → HeadShown → Option ToldPlace
told_place_of untold shown = told_place_in untold.file untold.reason.name shown
