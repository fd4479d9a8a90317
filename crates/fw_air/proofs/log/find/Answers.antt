use Rattle.std.proofs.Common.{◌≡◌, ◌++◌, List, ap, sym, subst, ◌∙◌}
use Rattle.fw_world.specs.World.{Datagram}
use Rattle.fw_air.specs.declared.log.Chain.{Chain}
use Rattle.fw_air.specs.Logs.{IsCopy}
use Rattle.fw_air.specs.Parts.{parts, datagrams_of}
use Rattle.fw_air.proofs.Adding.{datagrams_of-snoc}
use Rattle.fw_air.proofs.Finding.{finds}
use Rattle.fw_air.proofs.log.find.Goals as goal

pub returns-then-start-number : goal.returns-then-start-number
returns-then-start-number c = λ base end low.
    let i = c.links.invariant base end low in
    let xs : List Datagram = datagrams_of (parts c.in-Link.older.value) in
    let ys : List Datagram = c.as_slice-here.result.now in
    let is : datagrams_of (parts c.links.chain.now) ≡ xs ++ ys =
    ap (λ (x : Chain). datagrams_of (parts x)) c.in-Link.is ∙ (datagrams_of-snoc (parts c.in-Link.older.value) c.in-Link.part ∙ ap (λ (zs : List Datagram). xs ++ zs) (sym c.as_slice-here.ensures.value)) in
    let f = finds _ xs ys c.links.end c.saturating_sub-start.result c.args.number base is i.0 c.saturating_sub-start.ensures low in
    subst (IsCopy c.copy_at.result) (sym (i.1 ∙ f.from c.if-start-number.true)) c.copy_at.ensures

pub links-preserved : goal.links-preserved
links-preserved c = λ base end low.
    let i = c.links.invariant base end low in
    let xs : List Datagram = datagrams_of (parts c.in-Link.older.value) in
    let ys : List Datagram = c.as_slice-here.result.now in
    let is : datagrams_of (parts c.links.chain.now) ≡ xs ++ ys =
    ap (λ (x : Chain). datagrams_of (parts x)) c.in-Link.is ∙ (datagrams_of-snoc (parts c.in-Link.older.value) c.in-Link.part ∙ ap (λ (zs : List Datagram). xs ++ zs) (sym c.as_slice-here.ensures.value)) in
    let f = finds _ xs ys c.links.end c.saturating_sub-start.result c.args.number base is i.0 c.saturating_sub-start.ensures low in
    rw c.deref-chain.ensures (f.start_is, i.1 ∙ f.before c.if-start-number.false)
