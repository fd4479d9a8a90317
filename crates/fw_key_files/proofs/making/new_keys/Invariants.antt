use Rattle.std.proofs.Common.{◌≡◌, take}
use Rattle.std.specs.Prelude.{All}
use Rattle.fw_keys.specs.Titles.{head_title}
use Rattle.fw_key_files.specs.Making.{IsNewLink, ends_in}
use Rattle.fw_key_files.proofs.making.new_keys.Given as goal

-- a link with each meter so far
abbrev pub invariant-loop-meter : goal.invariant-loop-meter
invariant-loop-meter g l = record {
  own : l.keys.own ≡ head_title l.fn.head;
  ends : ends_in l.keys.entries ≡ take l.meter-index l.meters;
  new : All (λ entry. IsNewLink (g.R.Randomness.gave l.random) entry) l.keys.entries;
}
