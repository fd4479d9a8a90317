-- Public vocabulary: why a log is none of a meter, or not of the one whose store was found.
use Rattle.std.specs.Prelude.{◌≡◌, ◌+◌, List, ◌∷◌, take, slice_get, Some}
use Rattle.std.specs.declared.net.socket_addr.SocketAddr.{SocketAddr}
use Rattle.fw_image.specs.Meter.{Image, Meter}
use Rattle.fw_audit.specs.Log.{Item, started, sent, turned}
use Rattle.fw_audit.specs.Stands.{Stand, ended, waits, owes, Leads, IsLog, IsMeterLog}
use Rattle.fw_audit.specs.declared.error.Rule.{Rule}
use Rattle.fw_audit.specs.declared.error.Rule.TheVariants as broken
use Rattle.fw_audit.specs.declared.error.Departure.{Departure}
use Rattle.fw_audit.specs.declared.error.AuditError.{AuditError}
use Rattle.fw_audit.specs.declared.error.AuditError.TheVariants as errors

-- the rule that an item breaks which leads nowhere from where the process stands
abbrev pub rule_of : Stand → Item → Rule
rule_of (ended meter) item = broken.NotStarted
rule_of (waits meter) turned = broken.NothingVerified
rule_of (waits meter) item = broken.NothingOwed
rule_of (owes to reply meter) (sent there bytes) = broken.OtherReply
rule_of (owes to reply meter) item = broken.ReplyMissing

-- From old, the items before this place lead to somewhere, and with the one at this place they lead nowhere. It breaks this rule.
pub record IsDeparture (heads : List SocketAddr) (old : Stand) (log : List Item) (d : Departure) : Type 0 where
  pub images : List Image
  pub stand : Stand
  pub leads : Leads heads old (take d.at log) images stand
  pub item : Item
  pub there : slice_get log d.at ≡ Some item
  pub rule : d.rule ≡ rule_of stand item
  pub departs : (others : List Image) (new : Stand) → Leads heads old (take (d.at + 1) log) others new → ⊥

-- Memory may be wanted if a process was started: for what it may have left, and for what came to it. Otherwise none is.
abbrev pub MayWantMemory : List Item → Type 0
MayWantMemory log = (rest : List Item) × (log ≡ started ∷ rest)

-- What an audit says of a log from a store with one meter to a store with another.
abbrev pub IsRefused : List SocketAddr → Meter → List Item → Meter → AuditError → Type 0
IsRefused heads begin log end (errors.Departs d) = IsDeparture heads (ended begin) log d
IsRefused heads begin log end errors.OtherStore = IsLog heads begin log × ((images : List Image) → IsMeterLog heads begin log images end → ⊥)
IsRefused heads begin log end errors.OutOfMemory = MayWantMemory log
