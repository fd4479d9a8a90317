-- What a head end does after what it did.
use Rattle.std.proofs.Common.{◌≡◌, ◌++◌, List, [], ◌∷◌, refl, sym, ap, subst, append_assoc, ◌∙◌, map, All}
use Rattle.std.specs.declared.net.socket_addr.SocketAddr.{SocketAddr}
use Rattle.std.specs.Prelude.{ℕ}
use Rattle.std.proofs.lemmas.List.Elements.{All-head}
use Rattle.fw_head.specs.Head.{IsOfferedIn}
use Rattle.fw_rollout.specs.declared.ended.Ended.{Ended}
use Rattle.fw_port.specs.Acts.{came, quiet, sent, told}
use Rattle.fw_rollout.specs.Acts.{Act}
use Rattle.fw_rollout.specs.Leading.{IsAboutToSend, IsAboutToTell, IsNotedIn, Leader, Leading, Leads, MayLead, SavesAll, Step, Steps, TicksMeter, acts_of, hears, idles, saves, sends, tells, ticks}

-- ---- lists of steps

pub leading_on : (start middle now : Leader) (first second : List Step) → Leading start first middle → Leading middle second now → Leading start (second ++ first) now
leading_on start middle now first [] s e = subst (λ (l : Leader). Leading start first l) (sym e) s
leading_on start middle now first (step ∷ steps) s (before, t, one) = (before, leading_on start middle before first steps s t, one)

pub acts_on : (second first : List Step) → acts_of (second ++ first) ≡ acts_of second ++ acts_of first
acts_on [] first = refl
acts_on (hears from datagram ∷ steps) first = ap (λ (l : List Act). came from datagram ∷ l) (acts_on steps first)
acts_on (idles ∷ steps) first = ap (λ (l : List Act). quiet ∷ l) (acts_on steps first)
acts_on (ticks meter ∷ steps) first = acts_on steps first
acts_on (sends to bytes ∷ steps) first = ap (λ (l : List Act). sent to bytes ∷ l) (acts_on steps first)
acts_on (saves ∷ steps) first = acts_on steps first
acts_on (tells ended ∷ steps) first = ap (λ (l : List Act). told ended ∷ l) (acts_on steps first)

-- ---- what was done

pub leads_none : (start : Leader) (before : List Act) → Leads start before before start
leads_none start before = record { steps = []; adds = refl; leading = refl }

-- what a head end did and then did is what it did
pub leads_on : (start middle now : Leader) (before acts after : List Act) → Leads start before acts middle → Leads middle acts after now → Leads start before after now
leads_on start middle now before acts after first second = record {
  steps = second.steps ++ first.steps;
  adds = second.adds ∙ ap (λ (l : List Act). acts_of second.steps ++ l) first.adds ∙ sym (append_assoc (acts_of second.steps) (acts_of first.steps) before)
      ∙ ap (λ (l : List Act). l ++ before) (sym (acts_on second.steps first.steps));
  leading = leading_on start middle now first.steps second.steps first.leading second.leading;
}

-- one more step
pub leads_by : (start now : Leader) (step : Step) (before after : List Act) → after ≡ acts_of (step ∷ []) ++ before → Steps start step now → Leads start before after now
leads_by start now step before after is s = record { steps = step ∷ []; adds = is; leading = (start, refl, s) }

-- what a head end may do, it may do once it did some of it
pub may_on : (legal later : List Act → Type 0) (start now : Leader) (before after : List Act) → ((done : List Act) → legal done → later done) → MayLead legal start before
    → Leads start before after now → MayLead later now after
may_on legal later start now before after law may leads = λ steps last leading.
    let shape : acts_of (steps ++ leads.steps) ++ before ≡ acts_of steps ++ after =
    ap (λ (l : List Act). l ++ before) (acts_on steps leads.steps) ∙ append_assoc (acts_of steps) (acts_of leads.steps) before
    ∙ ap (λ (l : List Act). acts_of steps ++ l) (sym leads.adds) in
    subst later shape (law _ (may (steps ++ leads.steps) last (leading_on start now last leads.steps steps leads.leading leading)))

-- a step that a head end may make is legal
pub may_step : (legal : List Act → Type 0) (start now : Leader) (step : Step) (before : List Act) → MayLead legal start before → Steps start step now
    → legal (acts_of (step ∷ []) ++ before)
may_step legal start now step before may s = may (step ∷ []) now (start, refl, s)

-- ---- datagrams that are about to be sent

-- these are still to be sent
abbrev pub sending : Leader → SocketAddr → List (List ℕ) → Leader
sending leader to datagrams = record leader { going = map (λ (bytes : List ℕ). (to, bytes)) datagrams }

pub is_sending : (leader : Leader) (to : SocketAddr) (datagrams : List (List ℕ)) → IsAboutToSend leader to datagrams → leader ≡ sending leader to datagrams
is_sending leader to datagrams h = ap (λ (going : List (SocketAddr × List ℕ)). record leader { going = going }) h.going

pub sends_one : (leader : Leader) (to : SocketAddr) (bytes : List ℕ) (others : List (List ℕ)) → All (IsOfferedIn leader.synced) (bytes ∷ others)
    → Steps (sending leader to (bytes ∷ others)) (sends to bytes) (sending leader to others)
sends_one leader to bytes others offered = record { next = refl; offered = All-head (IsOfferedIn leader.synced) bytes others offered; others = refl }

-- the next one may be sent
pub may_send : (legal later : List Act → Type 0) (leader : Leader) (to : SocketAddr) (bytes : List ℕ) (left others : List (List ℕ)) (before acts : List Act)
    → ((done : List Act) → legal done → later done) → left ≡ bytes ∷ others → All (IsOfferedIn leader.synced) left → MayLead legal leader before
    → Leads leader before acts (sending leader to left) → later (sent to bytes ∷ acts)
may_send legal later leader to bytes left others before acts law is offered may leads =
    let now : Leads leader before acts (sending leader to (bytes ∷ others)) = subst (λ (l : List (List ℕ)). Leads leader before acts (sending leader to l)) is leads in
    let all : All (IsOfferedIn leader.synced) (bytes ∷ others) = subst (λ (l : List (List ℕ)). All (IsOfferedIn leader.synced) l) is offered in
    may_step later (sending leader to (bytes ∷ others)) (sending leader to others) (sends to bytes) acts
    (may_on legal later leader (sending leader to (bytes ∷ others)) before acts law may now) (sends_one leader to bytes others all)

-- and is sent
pub sends_on : (leader : Leader) (to : SocketAddr) (bytes : List ℕ) (left others : List (List ℕ)) (before acts after : List Act) → left ≡ bytes ∷ others
    → All (IsOfferedIn leader.synced) left → Leads leader before acts (sending leader to left) → after ≡ sent to bytes ∷ acts → Leads leader before after (sending leader to others)
sends_on leader to bytes left others before acts after is offered leads adds =
    let now : Leads leader before acts (sending leader to (bytes ∷ others)) = subst (λ (l : List (List ℕ)). Leads leader before acts (sending leader to l)) is leads in
    let all : All (IsOfferedIn leader.synced) (bytes ∷ others) = subst (λ (l : List (List ℕ)). All (IsOfferedIn leader.synced) l) is offered in
    leads_on leader (sending leader to (bytes ∷ others)) (sending leader to others) before acts after now
    (leads_by (sending leader to (bytes ∷ others)) (sending leader to others) (sends to bytes) acts after adds (sends_one leader to bytes others all))

-- ---- rows that are about to be reported

abbrev pub telling : Leader → List Ended → Leader
telling leader saved = record leader { untold = saved }

pub is_telling : (leader : Leader) (saved : List Ended) → IsAboutToTell leader saved → leader ≡ telling leader saved
is_telling leader saved h = ap (λ (untold : List Ended). record leader { untold = untold }) h.untold

pub tells_one : (leader : Leader) (ended : Ended) (others : List Ended) → All (IsNotedIn leader.synced) (ended ∷ others)
    → Steps (telling leader (ended ∷ others)) (tells ended) (telling leader others)
tells_one leader ended others noted = record { next = refl; on_device = All-head (IsNotedIn leader.synced) ended others noted; others = refl }

-- the next one may be reported
pub may_tell : (legal later : List Act → Type 0) (leader : Leader) (ended : Ended) (left others : List Ended) (before acts : List Act)
    → ((done : List Act) → legal done → later done) → left ≡ ended ∷ others → All (IsNotedIn leader.synced) left → MayLead legal leader before
    → Leads leader before acts (telling leader left) → later (told ended ∷ acts)
may_tell legal later leader ended left others before acts law is noted may leads =
    let now : Leads leader before acts (telling leader (ended ∷ others)) = subst (λ (l : List Ended). Leads leader before acts (telling leader l)) is leads in
    let all : All (IsNotedIn leader.synced) (ended ∷ others) = subst (λ (l : List Ended). All (IsNotedIn leader.synced) l) is noted in
    may_step later (telling leader (ended ∷ others)) (telling leader others) (tells ended) acts
    (may_on legal later leader (telling leader (ended ∷ others)) before acts law may now) (tells_one leader ended others all)

-- and is reported
pub tells_on : (leader : Leader) (ended : Ended) (left others : List Ended) (before acts after : List Act) → left ≡ ended ∷ others
    → All (IsNotedIn leader.synced) left → Leads leader before acts (telling leader left) → after ≡ told ended ∷ acts → Leads leader before after (telling leader others)
tells_on leader ended left others before acts after is noted leads adds =
    let now : Leads leader before acts (telling leader (ended ∷ others)) = subst (λ (l : List Ended). Leads leader before acts (telling leader l)) is leads in
    let all : All (IsNotedIn leader.synced) (ended ∷ others) = subst (λ (l : List Ended). All (IsNotedIn leader.synced) l) is noted in
    leads_on leader (telling leader (ended ∷ others)) (telling leader others) before acts after now
    (leads_by (telling leader (ended ∷ others)) (telling leader others) (tells ended) acts after adds (tells_one leader ended others all))

-- ---- what is made before it is sent or reported

pub may_tick : (legal : List Act → Type 0) (leader next : Leader) (meter : ℕ) (before : List Act) → MayLead legal leader before → TicksMeter leader meter next → MayLead legal next before
may_tick legal leader next meter before may ticking =
    may_on legal legal leader next before before (λ done h. h) may (leads_by leader next (ticks meter) before before refl ticking)

pub may_save : (legal : List Act → Type 0) (leader next : Leader) (before : List Act) → MayLead legal leader before → SavesAll leader next → MayLead legal next before
may_save legal leader next before may saving =
    may_on legal legal leader next before before (λ done h. h) may (leads_by leader next saves before before refl saving)
