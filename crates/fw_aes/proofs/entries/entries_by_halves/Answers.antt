use Rattle.fw_aes.proofs.EntryFacts.{halves, high_places, low_places}
use Rattle.fw_aes.proofs.entries.entries_by_halves.Goals as goal

pub entries-requires : goal.entries-requires
entries-requires c = low_places c.args.bytes c.fits-bytes

pub entries-requires-2 : goal.entries-requires-2
entries-requires-2 c = high_places c.args.bytes c.fits-bytes

pub returns : goal.returns
returns c = halves c.args.low.now c.args.high.now c.args.bytes c.entries.result c.entries-2.result c.fits-bytes c.entries.ensures c.entries-2.ensures
