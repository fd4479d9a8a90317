-- The laws of logs.
use Rattle.std.proofs.Common.{◌≡◌, ◌⊎◌, ℕ, List, inl, inr, refl, sym, ap, subst, ◌∙◌}
use Rattle.std.specs.declared.net.socket_addr.SocketAddr.{SocketAddr}
use Rattle.fw_image.specs.Meter.{Image, Meter, reopened}
use Rattle.fw_meter.specs.Laws.{OneAnswer}
use Rattle.fw_audit.specs.Log.{Item, started, came, sent, turned}
use Rattle.fw_audit.specs.Stands.{Stand, ended, waits, owes, left_by, Hears, Makes}
use Rattle.fw_audit.specs.Laws.{FrontsAreLogs, NoMoreReplies, OneReply}
use Rattle.fw_audit.specs.Private.{Alive}
use Rattle.fw_audit.proofs.Leading.{split}
use Rattle.fw_audit.proofs.Steps.{alive_before, dropped_once, handled_once, not_alive}

pub fronts_are_logs : FrontsAreLogs
fronts_are_logs heads begin front rest (images, end, log) =
    let s = split heads (ended begin) log.stand front rest images log.leads in
    (s.first, left_by s.mid, record { stand = s.mid; leads = s.before; left = refl })

-- ---- one reply

same_stand : OneAnswer → (heads : List SocketAddr) (old : Meter) (from : SocketAddr) (datagram : List ℕ) (images others : List Image) (a b : Stand)
    → Hears heads (waits old) from datagram images a → Hears heads (waits old) from datagram others b → Alive a → Alive b → a ≡ b
same_stand answer heads old from datagram images others a b (inl h) k alive lives =
    h.stands ∙ sym (handled_once answer heads old h.after from datagram h.reply h.name h.may_ask h.handles others b k lives)
same_stand answer heads old from datagram images others a b (inr (inl h)) k alive lives = h.stands ∙ sym (dropped_once heads old from datagram h.may_not others b k lives)
same_stand answer heads old from datagram images others a b (inr (inr h)) k alive lives = absurd (not_alive (reopened old) a h.ends alive)

owes_it : (heads : List SocketAddr) (a new : Stand) (to : SocketAddr) (reply : List ℕ) (images : List Image) → Makes heads a (sent to reply) images new → (meter : Meter) × (a ≡ owes to reply meter)
owes_it heads (ended meter) new to reply images h = absurd h
owes_it heads (waits meter) new to reply images h = absurd h
owes_it heads (owes there bytes meter) new to reply images (address, same, none, is) =
    (meter, ap (λ (t : SocketAddr). owes t bytes meter) (sym address) ∙ ap (λ (b : List ℕ). owes to b meter) (sym same))

only_reply : (heads : List SocketAddr) (to : SocketAddr) (reply : List ℕ) (meter : Meter) (item : Item) (images : List Image) (new : Stand) → Makes heads (owes to reply meter) item images new
    → (item ≡ started) ⊎ (item ≡ sent to reply)
only_reply heads to reply meter started images new h = inl refl
only_reply heads to reply meter (came from datagram) images new h = absurd h
only_reply heads to reply meter (sent there bytes) images new (address, same, none, is) =
    inr (ap (λ (t : SocketAddr). sent t bytes) address ∙ ap (λ (b : List ℕ). sent to b) same)
only_reply heads to reply meter turned images new h = absurd h

start_or_not : (item : Item) → (item ≡ started) ⊎ (item ≡ started → ⊥)
start_or_not started = inl refl
start_or_not (came from datagram) = inr (λ e. cc)
start_or_not (sent to bytes) = inr (λ e. cc)
start_or_not turned = inr (λ e. cc)

pub one_reply : OneAnswer → OneReply
one_reply answer heads old from to datagram reply item log rest images others new other (a, first, more, makes, leads, all) (b, second, still, does, goes, whole) = by_start (start_or_not item)
  where
    by_start : (item ≡ started) ⊎ (item ≡ started → ⊥) → (item ≡ started) ⊎ (item ≡ sent to reply)
    by_start (inl is) = inl is
    by_start (inr going) =
        let alive = alive_before heads a leads.0 (sent to reply) leads.1 leads.3 (λ e. cc) in
        let lives = alive_before heads b goes.0 item goes.1 goes.3 going in
        let same : a ≡ b = same_stand answer heads old from datagram first second a b makes does alive lives in
        let owed = owes_it heads a leads.0 to reply leads.1 leads.3 in
        only_reply heads to reply owed.0 item goes.1 goes.0 (subst (λ (s : Stand). Makes heads s item goes.1 goes.0) (sym same ∙ owed.1) goes.3)

pub no_more_replies : NoMoreReplies
no_more_replies heads (ended meter) to there reply bytes log images new (a, first, rest, makes, leads, all) = makes
no_more_replies heads (waits meter) to there reply bytes log images new (a, first, rest, makes, leads, all) = makes
no_more_replies heads (owes address owed meter) to there reply bytes log images new (a, first, rest, makes, leads, all) =
    subst (λ (s : Stand). Makes heads s (sent there bytes) leads.1 leads.0) makes.3 leads.3
