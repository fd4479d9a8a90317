use Rattle.std.proofs.Common.{sym, ◌∙◌, arith}
use Rattle.fw_host.proofs.Listings.{other_count, two_fields}
use Rattle.fw_host.proofs.meter_list.wave_of.Goals as goal

pub returns-in-2 : goal.returns-in-2
returns-in-2 c = two_fields _ (sym c.len.ensures ∙ c.in-2.is)

pub returns-in_default : goal.returns-in_default
returns-in_default c = other_count _ (λ two. absurd (omega arith)) (λ three. absurd (omega arith))
