use Rattle.std.proofs.Common.{take}
use Rattle.std.specs.Prelude.{string_bytes}
use Rattle.fw_status.specs.Campaigns.{AreLines}
use Rattle.fw_status.proofs.Told.{Behind}
use Rattle.fw_status.proofs.campaigns.append_lines.Given as goal

abbrev pub invariant-loop-campaign : goal.invariant-loop-campaign
invariant-loop-campaign l = Behind AreLines (take l.campaign-index l.campaigns) (string_bytes l.initial.text) (string_bytes l.text)
