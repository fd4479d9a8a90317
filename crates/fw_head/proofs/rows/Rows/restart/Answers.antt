use Rattle.std.proofs.Common.{rules}
use Rattle.std.proofs.lemmas.Map.Made.{map_same_pairs}
use Rattle.fw_head.specs.Row.{Row, new_row}
use Rattle.fw_head.proofs.rows.Rows.restart.Goals as goal

pub returns : goal.returns
returns c = map_same_pairs _ (λ (r : Row). new_row r.client.meter r.name r.size) _ (λ k v b w g call. search rules) _ _ c.retain.ensures.filtered
