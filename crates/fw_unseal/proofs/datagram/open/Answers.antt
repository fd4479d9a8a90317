use Rattle.std.proofs.Common.{◌<◌, ◌≤◌, length, arith, rules}
use Rattle.fw_seal.specs.Sealing.{NoSealing}
use Rattle.fw_unseal.proofs.Opened.{all_more, all_of}
use Rattle.fw_unseal.proofs.datagram.open.Goals as goal

pub loop-link-preserved : goal.loop-link-preserved
loop-link-preserved c =
    let links = c.args.links.now in
    let link = c.link-item.result in
    let inside : c.loop-link.link-index < length links = omega (arith, c.loop-link-test.true) in
    let none : NoSealing link.keys link.other c.args.sealing.now = search rules in
    all_more (λ ends. NoSealing ends.keys ends.other c.args.sealing.now) links c.loop-link.link-index link inside c.link-item.is c.loop-link.invariant none

pub returns : goal.returns
returns c =
    let links = c.args.links.now in
    let past : length links ≤ c.loop-link.link-index = omega (arith, c.loop-link-test.false) in
    all_of (λ ends. NoSealing ends.keys ends.other c.args.sealing.now) links c.loop-link.link-index past c.loop-link.invariant
