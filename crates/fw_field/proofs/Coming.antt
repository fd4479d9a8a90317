-- What one end sent comes to the other, and what a head end reports is true.
use Rattle.std.proofs.Common.{◌≡◌, ℕ, inl, inr, List, [], ◌∷◌, ◌++◌, Contains, sym, ap, subst}
use Rattle.std.proofs.lemmas.List.Elements.{Contains-append_left, Contains-append_cases}
use Rattle.std.specs.declared.net.socket_addr.SocketAddr.{SocketAddr}
use Rattle.fw_port.specs.Acts.{came, quiet, sent, told}
use Rattle.fw_rollout.specs.Acts.{Act}
use Rattle.fw_rollout.specs.Leading.{Step, hears, idles, ticks, sends, saves, tells, acts_of}
use Rattle.fw_rollout.specs.declared.ended.Ended.{Ended}
use Rattle.fw_world.specs.Step.{replies}
use Rattle.fw_world.specs.World.{Datagram}
use Rattle.fw_field.specs.Field.{Field}
use Rattle.fw_field.specs.Moves.{Move, round, kill_meter, step, open_campaign, cancel_campaign, give_up, ask_others, kill_head, MovesLead, Goes, to_meter, to_head}
use Rattle.fw_field.specs.Laws.{AfterMoves, AnswersCome, LeadingIsMoves, ReportsAreTrue, SentComes, SentStays, ToldIsTrue, moves_of}
use Rattle.fw_field.proofs.Serving.{first_is, later, none_there, one_there}

-- ---- what is sent stays

same_sent : (old new : Field) (d : Datagram) → new.sent ≡ old.sent → Contains old.sent d → Contains new.sent d
same_sent old new d e has = subst (λ (xs : List Datagram). Contains xs d) (sym e) has

more_sent : (old new : Field) (d : Datagram) (more : List Datagram) → new.sent ≡ old.sent ++ more → Contains old.sent d → Contains new.sent d
more_sent old new d more e has = subst (λ (xs : List Datagram). Contains xs d) (sym e) (Contains-append_left old.sent more d has)

stays_by : (addresses : ℕ → List SocketAddr) (old new : Field) (move : Move) (d : Datagram) → Goes addresses old move new → Contains old.sent d → Contains new.sent d
stays_by addresses old new (round number) d (inl t) has = same_sent old new d (ap (λ (f : Field). f.sent) t.new_is) has
stays_by addresses old new (round number) d (inr h) has = more_sent old new d (replies (to_meter h.head number h.datagram) h.reply) (ap (λ (f : Field). f.sent) h.new_is) has
stays_by addresses old new (kill_meter number) d (inl k) has = same_sent old new d (ap (λ (f : Field). f.sent) k.new_is) has
stays_by addresses old new (kill_meter number) d (inr k) has = same_sent old new d (ap (λ (f : Field). f.sent) k.new_is) has
stays_by addresses old new (step number made) d t has = more_sent old new d t.out (ap (λ (f : Field). f.sent) t.new_is) has
stays_by addresses old new (open_campaign campaign release image meters) d t has = same_sent old new d (ap (λ (f : Field). f.sent) t.new_is) has
stays_by addresses old new (cancel_campaign campaign) d t has = same_sent old new d (ap (λ (f : Field). f.sent) t.new_is) has
stays_by addresses old new (give_up number meter) d t has = same_sent old new d (ap (λ (f : Field). f.sent) t.new_is) has
stays_by addresses old new (ask_others number meters) d t has = same_sent old new d (ap (λ (f : Field). f.sent) t.new_is) has
stays_by addresses old new (kill_head number) d t has = same_sent old new d (ap (λ (f : Field). f.sent) t.new_is) has

stays : (addresses : ℕ → List SocketAddr) (f new : Field) (moves : List Move) (d : Datagram) → MovesLead addresses f moves new → Contains f.sent d → Contains new.sent d
stays addresses f new [] d same has = same_sent f new d (ap (λ (g : Field). g.sent) same) has
stays addresses f new (move ∷ moves) d (next, goes, more) has = stays addresses next new moves d more (stays_by addresses f next move d goes has)

pub sent_stays : SentStays
sent_stays = stays

-- ---- what one end sent comes to the other

pub sent_comes : SentStays → SentComes
sent_comes law addresses f new moves number meter from at start steps bytes does made is only has =
    let it = does.sent_all at bytes has in
    record {
      at = is;
      sent = law addresses f new moves (to_meter number meter bytes) made (subst (λ (m : ℕ). Contains f.sent (to_meter number m bytes)) (only it.0 it.1) it.2);
    }

pub answers_come : SentStays → AnswersCome
answers_come law addresses f new moves number head to from leader acts bytes answers made only_head only_meter has =
    let it = answers to bytes has in
    λ meter listed.
    law addresses f new moves (to_head head meter bytes) made
    (subst (λ (h : ℕ). Contains f.sent (to_head h meter bytes)) (only_head it.0 it.1)
    (subst (λ (m : ℕ). Contains f.sent (to_head it.0 m bytes)) (sym (only_meter meter listed)) it.2))

-- ---- what a head end reports is true

pub moves_append : (addresses : ℕ → List SocketAddr) (old mid new : Field) (first second : List Move) → MovesLead addresses old first mid → MovesLead addresses mid second new
    → MovesLead addresses old (first ++ second) new
moves_append addresses old mid new [] second same more = subst (λ (f : Field). MovesLead addresses f second new) same more
moves_append addresses old mid new (move ∷ moves) second (next, goes, rest) more = (next, goes, moves_append addresses next mid new moves second rest more)

-- it reports nothing
abbrev IsNoTell : Act → Type 0
IsNoTell (came from datagram) = Unit {0}
IsNoTell quiet = Unit {0}
IsNoTell (sent to bytes) = Unit {0}
IsNoTell (told ended) = ⊥

-- what it reports
abbrev ended_in : Ended → Act → Ended
ended_in other (came from datagram) = other
ended_in other quiet = other
ended_in other (sent to bytes) = other
ended_in other (told ended) = ended

or_later : (act : Act) (made : Step) (steps : List Step) (ended : Ended) → IsNoTell act → (Contains (acts_of steps) (told ended) → Contains steps (tells ended))
    → Contains (act ∷ acts_of steps) (told ended) → Contains (made ∷ steps) (tells ended)
or_later act made steps ended none rest has = elim (Contains-append_cases (act ∷ []) (acts_of steps) (told ended) has) [
  | inl here ↦ absurd (subst IsNoTell (one_there act (told ended) here) none)
  | inr then ↦ later made (tells ended) steps (rest then)
]

-- what was reported was so by a step
pub tells_in : (steps : List Step) (ended : Ended) → Contains (acts_of steps) (told ended) → Contains steps (tells ended)
tells_in [] ended has = absurd (none_there (told ended) has)
tells_in (hears from datagram ∷ steps) ended has = or_later (came from datagram) (hears from datagram) steps ended tt (λ h. tells_in steps ended h) has
tells_in (idles ∷ steps) ended has = or_later quiet idles steps ended tt (λ h. tells_in steps ended h) has
tells_in (ticks meter ∷ steps) ended has = later (ticks meter) (tells ended) steps (tells_in steps ended has)
tells_in (sends to bytes ∷ steps) ended has = or_later (sent to bytes) (sends to bytes) steps ended tt (λ h. tells_in steps ended h) has
tells_in (saves ∷ steps) ended has = later saves (tells ended) steps (tells_in steps ended has)
tells_in (tells other ∷ steps) ended has = elim (Contains-append_cases (told other ∷ []) (acts_of steps) (told ended) has) [
  | inl here ↦ subst (λ (a : Act). Contains (tells other ∷ steps) (tells (ended_in other a))) (one_there (told other) (told ended) here) (first_is (tells other) steps)
  | inr then ↦ later (tells other) (tells ended) steps (tells_in steps ended then)
]

pub told_is_true : LeadingIsMoves → AfterMoves (λ beginning now. ReportsAreTrue now) → ToldIsTrue
told_is_true leading reports addresses beginning f moves number start now steps is made there rests led came_to =
    let r = leading addresses f number start now steps there rests led came_to in
    let all : MovesLead addresses beginning (moves ++ moves_of number steps) r.0 = moves_append addresses beginning f r.0 moves (moves_of number steps) made r.1 in
    (r.0, r.1, r.2, λ ended has done. reports addresses beginning r.0 (moves ++ moves_of number steps) is all ended (r.3.told_all ended (tells_in steps ended has)) done)
