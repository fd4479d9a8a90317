-- One round in which a datagram was handled.
use Rattle.std.proofs.Common.{◌≡◌, List, ◌∷◌, inl, inr, refl, sym, ap, subst, ◌∙◌}
use Rattle.std.specs.declared.net.socket_addr.SocketAddr.{SocketAddr}
use Rattle.std.specs.Prelude.{ℕ, Option, Some, None}
use Rattle.fw_meter.specs.declared.meter.Handled.{Handled}
use Rattle.fw_meter.specs.Handling.{reply_bytes}
use Rattle.fw_port.specs.Acts.{came, sent}
use Rattle.fw_daemon.specs.Acts.{Act}
use Rattle.fw_daemon.specs.Daemon.{Daemon, Hears}
use Rattle.fw_daemon.specs.Rounds.{IsRound, with_reply}
use Rattle.fw_daemon.specs.declared.daemon.Heard.TheVariants as heard
use Rattle.fw_daemon.specs.declared.event.MeterEvent.{MeterEvent}

handled : (start now : Daemon) (before after : List Act) (from : SocketAddr) (datagram : List ℕ) (h : Handled) (told : Option MeterEvent)
    → after ≡ with_reply from datagram (reply_bytes h.reply) before → Hears start from datagram (heard.Handled h told) now → IsRound start before after told now
handled start now before after from datagram h told is hears = inr (record {
  from = from;
  datagram = datagram;
  what = heard.Handled h told;
  middle = now;
  hears = hears;
  acts = is;
  tells = refl;
  goes_on = refl;
})

-- it has no reply
pub silent : (start now : Daemon) (before after : List Act) (from : SocketAddr) (datagram : List ℕ) (h : Handled) (told : Option MeterEvent) → after ≡ came from datagram ∷ before
    → Hears start from datagram (heard.Handled h told) now → reply_bytes h.reply ≡ None → IsRound start before after told now
silent start now before after from datagram h told is hears none =
    handled start now before after from datagram h told (is ∙ ap (λ (r : Option (List ℕ)). with_reply from datagram r before) (sym none)) hears

-- it has one, which is sent
pub replied : (start now : Daemon) (before middle after : List Act) (from : SocketAddr) (datagram bytes : List ℕ) (h : Handled) (told : Option MeterEvent)
    → middle ≡ came from datagram ∷ before → after ≡ sent from bytes ∷ middle → Hears start from datagram (heard.Handled h told) now → reply_bytes h.reply ≡ Some bytes
    → IsRound start before after told now
replied start now before middle after from datagram bytes h told is sends hears reply =
    handled start now before after from datagram h told
    (sends ∙ ap (λ (l : List Act). sent from bytes ∷ l) is ∙ ap (λ (r : Option (List ℕ)). with_reply from datagram r before) (sym reply)) hears
