-- Public vocabulary: what an ask of the code stands for. It borrows the bytes of a block.
use Rattle.fw_client.specs.Ask as spec
use Rattle.fw_client.specs.declared.ask.Ask.{Ask}
use Rattle.fw_client.specs.declared.ask.Ask.TheVariants as ask

abbrev pub ask_of : Ask → spec.Ask
ask_of ask.BlockSize = spec.block_size
ask_of ask.FirstMissing = spec.first_missing
ask_of ask.Blocks = spec.blocks
ask_of ask.Status = spec.status
ask_of ask.Info = spec.info
ask_of ask.ActiveName = spec.active_name
ask_of ask.Enable = spec.enable
ask_of (ask.Initiate name size) = spec.initiate name size
ask_of (ask.Block number value) = spec.block number value.now
ask_of ask.Verify = spec.verify
ask_of ask.Activate = spec.activate
