-- What holds of all that a daemon does behind a sealing port.
use Rattle.std.proofs.Common.{◌≡◌, ◌⊎◌, inl, inr, ℕ, ◌+◌, ◌≤◌, Bool, List, [], ◌∷◌, Option, IsTrue, Contains, option_map, refl, sym, subst, ap, ◌∙◌, arith}
use Rattle.std.proofs.lemmas.List.Elements.{Contains-append_left, Contains-append_right, Contains-append_cases, Contains-push, Contains-push_cases}
use Rattle.std.specs.declared.net.socket_addr.SocketAddr.{SocketAddr}
use Rattle.fw_counter.specs.Moves.{AreBelow, Counter, IsFalling}
use Rattle.fw_journal.specs.declared.device.JournalDevice
use Rattle.fw_port.specs.Acts.{Act, came, quiet, sent, told}
use Rattle.fw_port.specs.declared.port.NoReport.{NoReport}
use Rattle.fw_seal.specs.Laws.{ShortIsSealing}
use Rattle.fw_sealport.specs.Histories.{Call, Calls, CountersRise, OnlySealings, OnlyWhatOpened, WasOpened, WasSealed, WhatIsSentOpens}
use Rattle.fw_sealport.specs.Peers.{SameLinks, link_at}
use Rattle.fw_sealport.specs.Sealing.{next_of}
use Rattle.fw_sealport.specs.declared.links.Links.{Links}
use Rattle.fw_sealport.specs.declared.peer.Peer.{Peer}
use Rattle.fw_sealport.specs.declared.port.SealedPort.{SealedPort}
use Rattle.fw_sealport.specs.declared.sealer.Sealer.{Sealer}

-- ---- lists that begin with an element

none_there : {X : Type 0} (x : X) → Contains [] x → ⊥
none_there x (k, within, same) = absurd (omega arith)

later : {X : Type 0} (first x : X) (xs : List X) → Contains xs x → Contains (first ∷ xs) x
later first x xs has = Contains-append_right (first ∷ []) xs x has

first_is : {X : Type 0} (x : X) (xs : List X) → Contains (x ∷ xs) x
first_is x xs = Contains-append_left (x ∷ []) xs x (Contains-push [] x)

one_there : {X : Type 0} (y x : X) → Contains (y ∷ []) x → y ≡ x
one_there {X} y x has = elim (Contains-push_cases (let none : List X = [] in none) y x has) [
  | inl none ↦ absurd (none_there x none)
  | inr same ↦ same
]

first_or : {X : Type 0} (y x : X) (xs : List X) → Contains (y ∷ xs) x → (y ≡ x) ⊎ Contains xs x
first_or y x xs has = elim (Contains-append_cases (y ∷ []) xs x has) [
  | inl here ↦ inl (one_there y x here)
  | inr there ↦ inr there
]

below_more : (n m : ℕ) (ns : List ℕ) → n ≤ m → AreBelow n ns → AreBelow m ns
below_more n m [] le below = tt
below_more n m (x ∷ xs) le below = (omega (arith, below.0), below_more n m xs le below.1)

-- ---- one call

opened_later : (old new : Links) (below more : List (Act NoReport)) (from : SocketAddr) (datagram : List ℕ) → SameLinks old new
    → ((x : Act NoReport) → Contains below x → Contains more x) → WasOpened new below from datagram → WasOpened old more from datagram
opened_later old new below more from datagram same grows o = record {
  ends = o.ends;
  there = sym (same from) ∙ o.there;
  wire = o.wire;
  has_come = grows (came from o.wire) o.has_come;
  counter = o.counter;
  apdu = o.apdu;
  opens = o.opens;
  plain_is = o.plain_is;
}

sealed_later : (links : Links) (history : List (Act NoReport)) (act : Act NoReport) (used more : List ℕ) (to : SocketAddr) (wire : List ℕ)
    → ((n : ℕ) → Contains used n → Contains more n) → WasSealed links history used to wire → WasSealed links (act ∷ history) more to wire
sealed_later links history act used more to wire grows s = record {
  ends = s.ends;
  there = s.there;
  datagram = s.datagram;
  was_sent = later act (sent to s.datagram) history s.was_sent;
  counter = s.counter;
  was_used = grows s.counter s.was_used;
  seals = s.seals;
}

-- the port below stays honest, and the links stay
record Stays {P D : Type 0} (honest : P → Bool) (start now : SealedPort P D) : Type 0 where
  is_honest : IsTrue (honest now.port)
  links : SameLinks start.links now.links

-- all that were used are below the next one, and each is above all before it
record Rises {P D : Type 0} (used : List ℕ) (now : SealedPort P D) : Type 0 where
  falling : IsFalling used
  below : AreBelow (next_of now.sealer) used

module _ {P D : Type 0} (honest : P → Bool) (acts : P → List (Act NoReport)) (J : JournalDevice.Ghosts D) where
  abbrev Port : Type 0
  Port = SealedPort P D

  links_after : (old new : Port) (used used' : List ℕ) (act : Act NoReport) → Call honest acts J old used act used' new → SameLinks old.links new.links
  links_after old new used used' (came from datagram) c = c.0.lets.links
  links_after old new used used' quiet c = elim c.0 [
    | inl d ↦ λ address. ap (λ (o : Option Peer). option_map (λ (p : Peer). p.link) o) (d.drops.peers address)
    | inr q ↦ λ address. ap (λ (s : Port). link_at s.links address) q.others
  ]
  links_after old new used used' (sent to datagram) c = elim c [
    | inl s ↦ λ address. ap (λ (l : Links). link_at l address) s.0.links
    | inr n ↦ λ address. ap (λ (l : Links). link_at l address) n.0.links
  ]
  links_after old new used used' (told report) c = absurd c

  grown : (x y : Act NoReport) (old new : List (Act NoReport)) → new ≡ y ∷ old → Contains old x → Contains new x
  grown x y old new is has = subst (λ (l : List (Act NoReport)). Contains l x) (sym is) (later y x old has)

  -- what the port below did stays done
  below_after : (old new : Port) (used used' : List ℕ) (act : Act NoReport) → IsTrue (honest old.port) → Call honest acts J old used act used' new
      → (x : Act NoReport) → Contains (acts old.port) x → Contains (acts new.port) x
  below_after old new used used' (came from datagram) h c x has = grown x _ (acts old.port) (acts new.port) (c.0.below h) has
  below_after old new used used' quiet h c x has = elim c.0 [
    | inl d ↦ grown x _ (acts old.port) (acts new.port) (d.below h) has
    | inr q ↦ grown x _ (acts old.port) (acts new.port) (q.below h) has
  ]
  below_after old new used used' (sent to datagram) h c x has = elim c [
    | inl s ↦ grown x _ (acts old.port) (acts new.port) (s.0.below h) has
    | inr n ↦ subst (λ (p : P). Contains (acts p) x) (sym n.0.port) has
  ]
  below_after old new used used' (told report) h c x has = absurd c

  used_after : (old new : Port) (used used' : List ℕ) (act : Act NoReport) → Call honest acts J old used act used' new → (n : ℕ) → Contains used n → Contains used' n
  used_after old new used used' (came from datagram) c n has = subst (λ (l : List ℕ). Contains l n) (sym c.1) has
  used_after old new used used' quiet c n has = subst (λ (l : List ℕ). Contains l n) (sym c.1) has
  used_after old new used used' (sent to datagram) c n has = elim c [
    | inl s ↦ subst (λ (l : List ℕ). Contains l n) (sym s.1) (later (next_of old.sealer) n used has)
    | inr s ↦ subst (λ (l : List ℕ). Contains l n) (sym s.1) has
  ]
  used_after old new used used' (told report) c n has = absurd c

  -- ---- what came

  opened_now : (old new : Port) (used used' : List ℕ) (act : Act NoReport) → IsTrue (honest old.port) → Call honest acts J old used act used' new
      → (from : SocketAddr) (datagram : List ℕ) → act ≡ came from datagram → WasOpened old.links (acts new.port) from datagram
  opened_now old new used used' (came at plain) h c from datagram is =
      let lets = c.0.lets in
      let was : WasOpened old.links (acts new.port) at plain = record {
        ends = lets.before.link;
        there = ap (λ (o : Option Peer). option_map (λ (p : Peer). p.link) o) lets.there;
        wire = c.0.wire;
        has_come = subst (λ (l : List (Act NoReport)). Contains l (came at c.0.wire)) (sym (c.0.below h)) (first_is (came at c.0.wire) (acts old.port));
        counter = lets.lets.counter;
        apdu = lets.lets.apdu;
        opens = lets.lets.opens;
        plain_is = lets.lets.plain_is;
      } in
      let from_is : at ≡ from = cc in
      let plain_is : plain ≡ datagram = cc in
      subst (λ (a : SocketAddr). WasOpened old.links (acts new.port) a datagram) from_is (subst (λ (l : List ℕ). WasOpened old.links (acts new.port) at l) plain_is was)
  opened_now old new used used' quiet h c from datagram is = absurd (cc is)
  opened_now old new used used' (sent to plain) h c from datagram is = absurd (cc is)
  opened_now old new used used' (told report) h c from datagram is = absurd c

  stays : (start now : Port) (history : List (Act NoReport)) (used : List ℕ) → IsTrue (honest start.port) → Calls honest acts J start history used now → Stays honest start now
  stays start now [] used h c = record { is_honest = subst (λ (s : Port). IsTrue (honest s.port)) (sym c.1) h; links = λ address. ap (λ (s : Port). link_at s.links address) c.1 }
  stays start now (act ∷ history) used h c =
      let s = stays start c.0 history c.1 h c.2 in
      record { is_honest = subst (λ (b : Bool). IsTrue b) (sym c.4) s.is_honest; links = λ address. links_after c.0 now c.1 used act c.3 address ∙ s.links address }

  pub only_what_opened : OnlyWhatOpened honest acts J
  only_what_opened start now [] used h c from datagram has = absurd (none_there (came from datagram) has)
  only_what_opened start now (act ∷ history) used h c from datagram has =
      let s = stays start c.0 history c.1 h c.2 in
      elim (first_or act (came from datagram) history has) [
        | inl is ↦ opened_later start.links c.0.links (acts now.port) (acts now.port) from datagram s.links (λ x there. there) (opened_now c.0 now c.1 used act s.is_honest c.3 from datagram is)
        | inr earlier ↦ opened_later start.links start.links (acts c.0.port) (acts now.port) from datagram (λ address. refl)
            (below_after c.0 now c.1 used act s.is_honest c.3) (only_what_opened start c.0 history c.1 h c.2 from datagram earlier)
      ]

  -- ---- what was sent

  -- it was done before, or the daemon sent it now
  sealed_now : (start old new : Port) (history : List (Act NoReport)) (used used' : List ℕ) (act : Act NoReport) → IsTrue (honest old.port) → SameLinks start.links old.links
      → Call honest acts J old used act used' new → (to : SocketAddr) (wire : List ℕ) → Contains (acts new.port) (sent to wire)
      → Contains (acts old.port) (sent to wire) ⊎ WasSealed start.links (act ∷ history) used' to wire
  sealed_now start old new history used used' (came from datagram) h same c to wire has =
      elim (first_or (came from c.0.wire) (sent to wire) (acts old.port) (subst (λ (l : List (Act NoReport)). Contains l (sent to wire)) (c.0.below h) has)) [
        | inl is ↦ absurd (cc is)
        | inr earlier ↦ inl earlier
      ]
  sealed_now start old new history used used' quiet h same c to wire has = elim c.0 [
    | inl d ↦
        elim (first_or (came d.from d.wire) (sent to wire) (acts old.port) (subst (λ (l : List (Act NoReport)). Contains l (sent to wire)) (d.below h) has)) [
          | inl is ↦ absurd (cc is)
          | inr earlier ↦ inl earlier
        ]
    | inr q ↦
        elim (first_or quiet (sent to wire) (acts old.port) (subst (λ (l : List (Act NoReport)). Contains l (sent to wire)) (q.below h) has)) [
          | inl is ↦ absurd (cc is)
          | inr earlier ↦ inl earlier
        ]
  ]
  sealed_now start old new history used used' (sent at plain) h same c to wire has = elim c [
    | inl s ↦
        elim (first_or (sent at s.0.wire) (sent to wire) (acts old.port) (subst (λ (l : List (Act NoReport)). Contains l (sent to wire)) (s.0.below h) has)) [
          | inl is ↦
              let was : WasSealed start.links (sent at plain ∷ history) used' at s.0.wire = record {
                ends = s.0.ends;
                there = sym (same at) ∙ s.0.there;
                datagram = plain;
                was_sent = first_is (sent at plain) history;
                counter = next_of old.sealer;
                was_used = subst (λ (l : List ℕ). Contains l (next_of old.sealer)) (sym s.1) (first_is (next_of old.sealer) used);
                seals = s.0.seals;
              } in
              let to_is : at ≡ to = cc is in
              let wire_is : s.0.wire ≡ wire = cc is in
              inr (subst (λ (a : SocketAddr). WasSealed start.links (sent at plain ∷ history) used' a wire) to_is
              (subst (λ (l : List ℕ). WasSealed start.links (sent at plain ∷ history) used' at l) wire_is was))
          | inr earlier ↦ inl earlier
        ]
    | inr n ↦ inl (subst (λ (p : P). Contains (acts p) (sent to wire)) n.0.port has)
  ]
  sealed_now start old new history used used' (told report) h same c to wire has = absurd c

  pub only_sealings : OnlySealings honest acts J
  only_sealings start now [] used h c to wire has = inl (subst (λ (s : Port). Contains (acts s.port) (sent to wire)) c.1 has)
  only_sealings start now (act ∷ history) used h c to wire has =
      let s = stays start c.0 history c.1 h c.2 in
      elim (sealed_now start c.0 now history c.1 used act s.is_honest s.links c.3 to wire has) [
        | inl earlier ↦
            elim (only_sealings start c.0 history c.1 h c.2 to wire earlier) [
              | inl before ↦ inl before
              | inr was ↦ inr (sealed_later start.links history act c.1 used to wire (used_after c.0 now c.1 used act c.3) was)
            ]
        | inr now_sealed ↦ inr now_sealed
      ]

  -- ---- counters

  rises_after : (old new : Port) (used used' : List ℕ) (act : Act NoReport) → Call honest acts J old used act used' new → Rises used old → Rises used' new
  rises_after old new used used' (came from datagram) c r =
      subst (λ (u : List ℕ). Rises u new) (sym c.1) (record { falling = r.falling; below = subst (λ (s : Sealer D). AreBelow (next_of s) used) (sym c.0.sealer) r.below })
  rises_after old new used used' quiet c r =
      subst (λ (u : List ℕ). Rises u new) (sym c.1) (record {
        falling = r.falling;
        below = elim c.0 [
          | inl d ↦ subst (λ (s : Sealer D). AreBelow (next_of s) used) (sym d.sealer) r.below
          | inr q ↦ subst (λ (p : Port). AreBelow (next_of p.sealer) used) (sym q.others) r.below
        ];
      })
  rises_after old new used used' (sent to datagram) c r = elim c [
    | inl s ↦
        let more : next_of new.sealer ≡ next_of old.sealer + 1 = ap (λ (k : Counter). k.next) s.0.uses.used in
        subst (λ (u : List ℕ). Rises u new) (sym s.1) (record {
          falling = (r.below, r.falling);
          below = (omega (arith, more), below_more (next_of old.sealer) (next_of new.sealer) used (omega (arith, more)) r.below);
        })
    | inr n ↦
        subst (λ (u : List ℕ). Rises u new) (sym n.1) (record {
          falling = r.falling;
          below = elim n.0.unused.used [
            | inl same ↦ subst (λ (k : Counter). AreBelow k.next used) (sym same) r.below
            | inr uses ↦
                let more : next_of new.sealer ≡ next_of old.sealer + 1 = ap (λ (k : Counter). k.next) uses.used in
                below_more (next_of old.sealer) (next_of new.sealer) used (omega (arith, more)) r.below
          ];
        })
  ]
  rises_after old new used used' (told report) c r = absurd c

  rises : (start now : Port) (history : List (Act NoReport)) (used : List ℕ) → Calls honest acts J start history used now → Rises used now
  rises start now [] used c = subst (λ (u : List ℕ). Rises u now) (sym c.0) (record { falling = tt; below = tt })
  rises start now (act ∷ history) used c = rises_after c.0 now c.1 used act c.3 (rises start c.0 history c.1 c.2)

  pub counters_rise : CountersRise honest acts J
  counters_rise start now history used c = (rises start now history used c).falling

-- ---- the other end

pub what_is_sent_opens : ShortIsSealing → WhatIsSentOpens
what_is_sent_opens law ends counter datagram wire s =
    let is = law ends.keys ends.own counter s.apdu s.seals.sealing s.seals.sealed in
    (s.apdu, record { source = 1; dest = 1; sealing = s.seals.sealing; wraps = s.seals.wraps; opens = is }, s.plain_is)
