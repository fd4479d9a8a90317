use Rattle.std.proofs.Common.{◌≡◌, ◌+◌, ◌++◌, List, [], All, length, refl, ap, sym, subst, ◌∙◌, append_assoc, length-append, arith}
use Rattle.std.proofs.lemmas.List.Elements.{All-append}
use Rattle.fw_world.specs.World.{Datagram}
use Rattle.fw_air.specs.declared.log.Chain.{Chain}
use Rattle.fw_air.specs.Logs.{IsSent}
use Rattle.fw_air.specs.Parts.{parts, datagrams_of}
use Rattle.fw_air.proofs.Adding.{datagrams_of-snoc}
use Rattle.fw_air.proofs.Searching.{last_between}
use Rattle.fw_air.proofs.log.find_last.Goals as goal

pub returns-in-Some : goal.returns-in-Some
returns-in-Some c = λ base e.
    let i = c.links.invariant base e in
    let older : List Datagram = datagrams_of (parts c.in-Link.older.value) in
    let here : List Datagram = c.as_slice-here.result.now in
    let newer = i.1.0 in
    let is : datagrams_of (parts c.links.chain.now) ≡ older ++ here =
    ap (λ (x : Chain). datagrams_of (parts x)) c.in-Link.is ∙ (datagrams_of-snoc (parts c.in-Link.older.value) c.in-Link.part ∙ ap (λ (zs : List Datagram). older ++ zs) (sym c.as_slice-here.ensures.value)) in
    let all : datagrams_of (parts c.args.chain.now) ≡ (older ++ here) ++ newer = i.1.1 ∙ ap (λ (zs : List Datagram). zs ++ newer) is in
    let end : c.links.end ≡ base + length (older ++ here) = i.0 ∙ ap (λ (zs : List Datagram). base + length zs) is in
    let long = length-append older here in
    let whole = ap (λ (zs : List Datagram). length zs) all ∙ length-append (older ++ here) newer in
    let at = c.in-Some.at in
    let bound = c.in-Some.ensures.bound in
    let fits = c.ranges.end.fits in
    let number : c.saturating_add.result ≡ c.saturating_sub-start.result + at = omega (arith, c.saturating_add.ensures, c.saturating_sub-start.ensures) in
    rw number (last_between (IsSent c.args.wanted.now.from c.args.wanted.now.to c.args.wanted.now.bytes.now) _ older here newer base c.links.end c.saturating_sub-start.result at all end c.saturating_sub-start.ensures c.in-Some.ensures.last i.1.2)

pub links-preserved : goal.links-preserved
links-preserved c = λ base e.
    let i = c.links.invariant base e in
    let older : List Datagram = datagrams_of (parts c.in-Link.older.value) in
    let here : List Datagram = c.as_slice-here.result.now in
    let newer = i.1.0 in
    let is : datagrams_of (parts c.links.chain.now) ≡ older ++ here =
    ap (λ (x : Chain). datagrams_of (parts x)) c.in-Link.is ∙ (datagrams_of-snoc (parts c.in-Link.older.value) c.in-Link.part ∙ ap (λ (zs : List Datagram). older ++ zs) (sym c.as_slice-here.ensures.value)) in
    let all : datagrams_of (parts c.args.chain.now) ≡ (older ++ here) ++ newer = i.1.1 ∙ ap (λ (zs : List Datagram). zs ++ newer) is in
    let end : c.links.end ≡ base + length (older ++ here) = i.0 ∙ ap (λ (zs : List Datagram). base + length zs) is in
    let long = length-append older here in
    let start : c.saturating_sub-start.result ≡ base + length older = omega (arith, c.saturating_sub-start.ensures) in
    rw c.deref-chain.ensures (start, (here ++ newer, all ∙ append_assoc older here newer, All-append (λ d. ¬ IsSent c.args.wanted.now.from c.args.wanted.now.to c.args.wanted.now.bytes.now d) here newer c.in_default-last_in.ensures.last i.1.2))

pub returns : goal.returns
returns c = λ base e.
    let i = c.links.invariant base e in
    let is : datagrams_of (parts c.links.chain.now) ≡ [] = rw c.in_default.is refl in
    subst (All (λ d. ¬ IsSent c.args.wanted.now.from c.args.wanted.now.to c.args.wanted.now.bytes.now d)) (sym (i.1.1 ∙ ap (λ (zs : List Datagram). zs ++ i.1.0) is)) i.1.2
