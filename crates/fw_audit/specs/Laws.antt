-- Public vocabulary: the laws of logs. They speak of definitions alone.
use Rattle.std.specs.Prelude.{◌≡◌, ◌⊎◌, ◌++◌, ℕ, List, [], ◌∷◌}
use Rattle.std.specs.declared.net.socket_addr.SocketAddr.{SocketAddr}
use Rattle.fw_image.specs.Meter.{Image, Meter}
use Rattle.fw_audit.specs.Log.{Item, started, came, sent}
use Rattle.fw_audit.specs.Stands.{Stand, waits, Leads, IsLog, IsMeterLog}

-- What a log begins with is a log: a process may be killed there.
abbrev pub FrontsAreLogs : Type 0
FrontsAreLogs = (heads : List SocketAddr) (begin : Meter) (front rest : List Item) → IsLog heads begin (front ++ rest) → IsLog heads begin front

-- A datagram that may be answered with a reply may be followed by nothing else than that reply, to that address, or by a start. So with
-- the reply changed, or left out, it is no log.
abbrev pub OneReply : Type 0
OneReply =
    (heads : List SocketAddr) (old : Meter) (from to : SocketAddr) (datagram reply : List ℕ) (item : Item) (log rest : List Item) (images others : List Image) (new other : Stand)
    → Leads heads (waits old) (came from datagram ∷ sent to reply ∷ log) images new
    → Leads heads (waits old) (came from datagram ∷ item ∷ rest) others other
    → (item ≡ started) ⊎ (item ≡ sent to reply)

-- A reply is sent once, and none is sent that isn't owed. So with a reply added it is no log.
abbrev pub NoMoreReplies : Type 0
NoMoreReplies =
    (heads : List SocketAddr) (old : Stand) (to there : SocketAddr) (reply bytes : List ℕ) (log : List Item) (images : List Image) (new : Stand)
    → Leads heads old (sent to reply ∷ sent there bytes ∷ log) images new → ⊥

-- the last of these images, or the first one if there are none
abbrev pub last_of : Image → List Image → Image
last_of first [] = first
last_of first (image ∷ images) = last_of image images

-- A meter runs the last image that it switched to, and the one that it ran before its log if it switched to none. So with that switch left
-- out or changed, or another one added behind it, this is no log between the same two stores.
abbrev pub RunsTheLast : Type 0
RunsTheLast =
    (heads : List SocketAddr) (begin : Meter) (log : List Item) (images : List Image) (end : Meter)
    → IsMeterLog heads begin log images end → end.running ≡ last_of begin.running images
