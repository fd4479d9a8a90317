-- Public vocabulary: the command `meter`: the lines that it prints, and the image that a new meter runs.
use Rattle.std.specs.Prelude.{ℕ, ◌==◌, if◌then◌else◌, List, [], ◌++◌, Option, None, Some, codes, decimal}
use Rattle.std.specs.declared.net.socket_addr.SocketAddr.{SocketAddr}
use Rattle.std.specs.Net.Text.{socket_text}
use Rattle.hex.specs.Hex.{encode_lower}
use Rattle.fw_names.specs.Name.{Name}
use Rattle.fw_daemon.specs.declared.daemon.Dropped.{Dropped}
use Rattle.fw_daemon.specs.declared.event.Cause.{Cause}
use Rattle.fw_daemon.specs.declared.event.Cause.TheVariants as cause
use Rattle.fw_daemon.specs.declared.event.Work.{Work}
use Rattle.fw_daemon.specs.declared.event.Work.TheVariants as work
use Rattle.fw_daemon.specs.declared.event.MeterEvent.{MeterEvent}
use Rattle.fw_daemon.specs.declared.event.MeterEvent.TheVariants as event

-- the address that datagrams are received at
abbrev pub listening_line : SocketAddr → List ℕ
listening_line at = codes "listening " ++ (socket_text at ++ codes "\n")

-- which meter a line is of, where a process has several
abbrev pub meter_start : Option ℕ → List ℕ
meter_start None = []
meter_start (Some number) = codes "meter " ++ (decimal number ++ codes " ")

-- the head end and the serial number of the campaign of an image, and its release; hyphens if an identifier is no name
abbrev pub title_words : Option Name → List ℕ
title_words None = codes "- - -"
title_words (Some name) =
    decimal name.campaign.head ++ (codes " " ++ (decimal name.campaign.serial ++ (codes " " ++ decimal name.release)))

-- what became of an image: its name, and the digits of its digest in lower case
abbrev pub image_words : List ℕ → Name → List ℕ
image_words word name =
    word ++ (codes " " ++ (decimal name.campaign.head ++ (codes " " ++ (decimal name.campaign.serial ++ (codes " " ++ (decimal name.release
    ++ (codes " " ++ encode_lower name.digest)))))))

-- why an initiate was refused, in the words of `trace`
abbrev pub cause_words : Cause → List ℕ
cause_words cause.Disabled = codes "transfer is disabled"
cause_words cause.Unnamed = codes "no name"
cause_words cause.Unopened = codes "the name of a factory image"
cause_words (cause.Below release running) = codes "release " ++ (decimal release ++ (codes " is below the running " ++ decimal running))
cause_words cause.Limits = codes "not within the limits of the meter"

-- what the store was called for
abbrev pub work_words : Work → List ℕ
work_words work.Enable = codes "enable"
work_words work.Initiate = codes "initiate"
work_words (work.Block number) = codes "block " ++ decimal number
work_words work.Verify = codes "verify"
work_words work.Activate = codes "activate"

-- which image was refused, of how many bytes, and why
abbrev pub refused_words : Option Name → ℕ → Cause → List ℕ
refused_words name size why = codes "refused " ++ (title_words name ++ (codes " " ++ (decimal size ++ (codes ": " ++ cause_words why))))

abbrev pub event_words : MeterEvent → List ℕ
event_words (event.Refused name size why) = refused_words name size why
event_words (event.Failed w) = codes "store failed at " ++ work_words w
event_words (event.Verified name) = image_words (codes "verified") name
event_words (event.Differs name) = image_words (codes "differs") name
event_words (event.Activated name) = image_words (codes "activated") name

-- the line of an event, of several meters with the number of the one that it is of
abbrev pub event_line : Option ℕ → MeterEvent → List ℕ
event_line number e = meter_start number ++ (event_words e ++ codes "\n")

-- a count after its word, if it isn't 0
abbrev pub count_words : List ℕ → ℕ → List ℕ
count_words word n = if n == 0 then [] else (word ++ decimal n)

-- the datagrams that were dropped, as strangers' and for lack of memory, how often the socket failed, how many datagrams didn't open, and how
-- many events were left out, if any
abbrev pub dropped_line : Dropped → ℕ → ℕ → ℕ → List ℕ
dropped_line dropped faults unopened untold =
    codes "dropped strangers " ++ (decimal dropped.strangers ++ (codes " unserved " ++ (decimal dropped.unserved ++ (codes " faults "
    ++ (decimal faults ++ (count_words (codes " unopened ") unopened ++ (count_words (codes " untold ") untold ++ codes "\n")))))))

-- the image that a new meter runs if none is given
abbrev pub default_factory : List ℕ
default_factory = codes "abc"
