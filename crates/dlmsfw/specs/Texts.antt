-- What a second line begins with: the option that a fault is about, and of a file beside another its path; or, of `live`, why no wires could be made.
use Rattle.std.specs.Prelude.{ℕ, List, [], ◌++◌, Option, None, Some, codes, decimal}
use Rattle.std.specs.Net.Text.{socket_text}
use Rattle.fw_disk.specs.Endings.{ending_of}
use Rattle.fw_disk.specs.declared.name.Name.{Name}
use Rattle.fw_disk.specs.declared.name.Name.TheVariants.{Main, New, Journal}
use Rattle.fw_plan.specs.declared.threshold.MaxFailed.TheVariants as max
use Rattle.dlmsfw.specs.declared.cause.Cause.{Cause}
use Rattle.dlmsfw.specs.declared.cause.Cause.TheVariants.{NoLoopback, TooManySockets}
use Rattle.dlmsfw.specs.declared.cause.CounterFile.{CounterFile}
use Rattle.dlmsfw.specs.declared.cause.NamedFile.{NamedFile}
use Rattle.dlmsfw.specs.declared.cause.Place.{Place}
use Rattle.dlmsfw.specs.declared.cause.Place.TheVariants as place
use Rattle.dlmsfw.specs.declared.cause.BookPlace.{BookPlace}
use Rattle.dlmsfw.specs.declared.cause.BookPlace.TheVariants as book

-- why no wires could be made
abbrev pub cause_text : Cause → List ℕ
cause_text TooManySockets = codes "too many open files: each link takes two sockets; ulimit -n prints how many open files a process may have"
cause_text NoLoopback = codes "no socket can be bound on 127.0.0.1: this system may have no loopback address, or the user no right to it"

-- what stands behind FILE in the name of one of several meters
abbrev pub number_text : Option ℕ → List ℕ
number_text None = []
number_text (Some number) = codes "." ++ decimal number

-- the path of a file, and that of the one beside it, if that is meant
abbrev pub beside_text : Name → List ℕ → List ℕ
beside_text Main path = path
beside_text New path = path ++ (codes ": " ++ (path ++ codes ".new"))
beside_text Journal path = path ++ (codes ": " ++ (path ++ codes ".journal"))

abbrev pub file_text : NamedFile → List ℕ
file_text file = beside_text file.name (file.path.now ++ number_text file.number)

-- the path of a key file, and that of its counters beside it, or of the one beside those
abbrev pub counter_text : CounterFile → List ℕ
counter_text file = file.path.now ++ (codes ": " ++ (file.path.now ++ (codes ".counter" ++ ending_of file.name)))

abbrev pub place_text : Place → List ℕ
place_text (place.Listen address) = codes "--listen " ++ socket_text address
place_text (place.ListenOf address number) = codes "--listen " ++ (socket_text address ++ (codes ", meter " ++ decimal number))
place_text (place.Store file) = codes "--store " ++ file_text file
place_text (place.FactoryFile file) = codes "--factory-file " ++ file.now
place_text (place.Capacity capacity) = codes "--capacity " ++ decimal capacity
place_text (place.Capture file) = codes "--capture " ++ file_text file
place_text (place.Keys file) = codes "--keys " ++ file.now
place_text (place.Counter file) = codes "--keys " ++ counter_text file

abbrev pub book_place_text : BookPlace → List ℕ
book_place_text (book.Book file) = codes "--book " ++ file_text file
book_place_text (book.HeadListen address) = codes "--listen " ++ socket_text address
book_place_text (book.Meters file) = codes "--meters " ++ file.now
book_place_text (book.Image file) = codes "--image " ++ file.now
book_place_text (book.Open serial) = codes "--open " ++ decimal serial
book_place_text (book.Cancel serials) = codes "--cancel " ++ serials.now
book_place_text (book.Campaign serial) = codes "--campaign " ++ decimal serial
book_place_text (book.Threshold (max.Rows most)) = codes "--max-failed " ++ decimal most
book_place_text (book.Threshold (max.Percent most)) = codes "--max-failed " ++ (decimal most ++ codes "%")
book_place_text (book.HeadCapture file) = codes "--capture " ++ file_text file
book_place_text (book.HeadKeys file) = codes "--keys " ++ file.now
book_place_text (book.HeadCounter file) = codes "--keys " ++ counter_text file
