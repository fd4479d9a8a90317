use Rattle.std.proofs.Common.{◌≡◌, ◌<◌, ◌≤◌, length, arith, rules}
use Rattle.std.specs.Prelude.{◌≢◌}
use Rattle.fw_keys.proofs.Listed.{all_more, all_of, is_in, one_is}
use Rattle.fw_keys.proofs.file.has_key.Goals as goal

pub returns-then-is_same : goal.returns-then-is_same
returns-then-is_same g c =
    let entries = c.args.entries.now in
    let entry = c.entry-item.result in
    let inside : c.loop-entry.entry-index < length entries = omega (arith, c.loop-entry-test.true) in
    let same : entry.keys.encryption ≡ c.args.key.now = search rules in
    one_is (λ e. e.keys.encryption ≡ c.args.key.now) entries entry (is_in entries c.loop-entry.entry-index entry inside c.entry-item.is) same

pub loop-entry-preserved : goal.loop-entry-preserved
loop-entry-preserved g c =
    let entries = c.args.entries.now in
    let entry = c.entry-item.result in
    let inside : c.loop-entry.entry-index < length entries = omega (arith, c.loop-entry-test.true) in
    let other : entry.keys.encryption ≢ c.args.key.now = search rules in
    all_more (λ e. e.keys.encryption ≢ c.args.key.now) entries c.loop-entry.entry-index entry inside c.entry-item.is c.loop-entry.invariant other

pub returns : goal.returns
returns g c =
    let entries = c.args.entries.now in
    let past : length entries ≤ c.loop-entry.entry-index = omega (arith, c.loop-entry-test.false) in
    all_of (λ e. e.keys.encryption ≢ c.args.key.now) entries c.loop-entry.entry-index past c.loop-entry.invariant
