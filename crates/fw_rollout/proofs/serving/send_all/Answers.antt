use Rattle.std.proofs.Common.{◌≡◌, ◌∷◌, ◌+◌, ◌<◌, List, [], IsTrue, Bool, ℕ, length, map, drop, get_or, sym, subst, ap, ◌∙◌, arith}
use Rattle.std.proofs.lemmas.List.{drop_all, drop_more, get_or-map, length-map}
use Rattle.std.proofs.lemmas.List.Elements.{All-drop}
use Rattle.std.specs.Global.{Vec}
use Rattle.fw_head.specs.Head.{IsOfferedIn}
use Rattle.fw_head.specs.Row.{bytes_of}
use Rattle.fw_rollout.specs.Leading.{Leads}
use Rattle.fw_rollout.proofs.Counted.{rows_kept, rows_then, sends_next}
use Rattle.fw_rollout.proofs.Steps.{may_send, sending, sends_on}
use Rattle.fw_rollout.proofs.serving.send_all.Goals as goal

-- the first of those that are left
next_bytes : (datagrams : List (Vec ℕ)) (i : ℕ) (datagram : Vec ℕ) (bytes : List ℕ) → i < length datagrams → datagram ≡ get_or datagrams i datagram → bytes ≡ datagram.items
    → drop i (bytes_of datagrams) ≡ bytes ∷ drop (i + 1) (bytes_of datagrams)
next_bytes datagrams i datagram bytes inside at is =
    let items : Vec ℕ → List ℕ = λ (d : Vec ℕ). d.items in
    let mapped : i < length (map items datagrams) = omega (arith, length-map datagrams items) in
    drop_more (map items datagrams) i bytes mapped
    ∙ ap (λ (b : List ℕ). b ∷ drop (i + 1) (map items datagrams)) (get_or-map items datagrams i datagram bytes inside ∙ ap items (sym at) ∙ sym is)

pub send-requires : goal.send-requires
send-requires g c = λ h.
    let honest : IsTrue (g.P.Port.honest c.args.port.now) = subst (λ (b : Bool). IsTrue b) c.loop-datagram.invariant.1 h in
    let begins = c.requires honest in
    let i = c.loop-datagram.datagram-index in
    let all = bytes_of c.args.datagrams.now in
    let left = next_bytes c.args.datagrams.now i c.datagram-item.result c.deref.result.now (omega arith) c.datagram-item.is c.deref.ensures.value in
    may_send (g.P.Port.legal c.args.port.now) (g.P.Port.legal c.loop-datagram.port) begins.0 c.args.to c.deref.result.now (drop i all) (drop (i + 1) all)
    (g.P.Port.acts c.args.port.now) (g.P.Port.acts c.loop-datagram.port) c.loop-datagram.invariant.2 left
    (All-drop (IsOfferedIn begins.0.synced) i all begins.1.offered) begins.2 (c.loop-datagram.invariant.0 honest begins.0 begins.1)

pub loop-datagram-preserved : goal.loop-datagram-preserved
loop-datagram-preserved g c =
    let i = c.loop-datagram.datagram-index in
    let all = bytes_of c.args.datagrams.now in
    let left = next_bytes c.args.datagrams.now i c.datagram-item.result c.deref.result.now (omega arith) c.datagram-item.is c.deref.ensures.value in (
      λ honest start about.
          let is = subst (λ (b : Bool). IsTrue b) (sym c.loop-datagram.invariant.1) honest in
          sends_on start c.args.to c.deref.result.now (drop i all) (drop (i + 1) all) (g.P.Port.acts c.args.port.now) (g.P.Port.acts c.loop-datagram.port)
          (g.P.Port.acts c.send.new.self) left (All-drop (IsOfferedIn start.synced) i all about.offered) (c.loop-datagram.invariant.0 honest start about) (c.send.ensures.sent is),
      c.send.ensures.honesty ∙ c.loop-datagram.invariant.1,
      λ done legal. c.send.ensures.law done (c.loop-datagram.invariant.2 done legal),
      λ honest.
          let is = subst (λ (b : Bool). IsTrue b) (sym c.loop-datagram.invariant.1) honest in
          sends_next c.args.to c.deref.result.now (g.P.Port.acts c.loop-datagram.port) (g.P.Port.acts c.args.port.now) (g.P.Port.acts c.send.new.self) (c.send.ensures.sent is)
          (c.loop-datagram.invariant.3 honest),
      rows_then g.P.Port.tells [] [] _ _ _ c.loop-datagram.invariant.4 (rows_kept g.P.Port.tells _ _ c.send.ensures.untold),
    )

pub returns-clause-told : goal.returns-clause-told
returns-clause-told g c = c.loop-datagram.invariant.3

pub returns-clause-sends : goal.returns-clause-sends
returns-clause-sends g c = λ honest start about.
    let items : Vec ℕ → List ℕ = λ (d : Vec ℕ). d.items in
    let all = map items c.args.datagrams.now in
    let none : drop c.loop-datagram.datagram-index all ≡ [] = drop_all c.loop-datagram.datagram-index all (omega (arith, length-map c.args.datagrams.now items)) in
    subst (λ (l : List (List ℕ)). Leads start (g.P.Port.acts c.args.port.now) (g.P.Port.acts c.loop-datagram.port) (sending start c.args.to l)) none
    (c.loop-datagram.invariant.0 honest start about)

pub returns-clause-untold : goal.returns-clause-untold
returns-clause-untold g c = c.loop-datagram.invariant.4
