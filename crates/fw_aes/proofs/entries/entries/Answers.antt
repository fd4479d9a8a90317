use Rattle.std.proofs.Common.{arith}
use Rattle.fw_aes.proofs.EntryFacts.{entries_from, places_ok}
use Rattle.fw_aes.proofs.entries.entries.Goals as goal

pub swizzle : goal.swizzle
swizzle c = places_ok c.args.places c.fits-places.0 c.requires

pub returns : goal.returns
returns c = entries_from c.args.table.now c.args.places 0 16 c.fits-places.0 (omega arith)
