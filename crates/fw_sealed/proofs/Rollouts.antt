-- A rollout behind a sealing port: what its port let through was sent by the meters that it ever asked.
use Rattle.std.proofs.Common.{ℕ, List, subst}
use Rattle.std.specs.declared.net.socket_addr.SocketAddr.{SocketAddr}
use Rattle.fw_rollout.specs.Leading.{Leader, acts_of}
use Rattle.fw_rollout.specs.Rollout.{Deed, Lists, steps_of}
use Rattle.fw_world.specs.declared.datagram.Direction.TheVariants.{ToMeter, ToHead}
use Rattle.fw_field.specs.Rollouts.{CameInRollout, EverAsked, RolloutIsMoves, RolloutToldIsTrue}
use Rattle.fw_sealed.specs.Laws.{IsSealed, LinksStaySealed, SealedMovesAreMoves}
use Rattle.fw_sealed.specs.Links.{Links}
use Rattle.fw_sealed.specs.Moves.{SealedField, field_moves}
use Rattle.fw_sealed.specs.Ports.{OpensOnly, Peer}
use Rattle.fw_sealed.specs.Rollouts.{ArePeersOfRollout, SealedRolloutIsMoves, SealedRolloutToldIsTrue}
use Rattle.fw_sealed.proofs.Ports.{came_as, came_by}
use Rattle.fw_sealed.proofs.Sealed.{was_sent}

came_in : (links : Links) (s : SealedField) (number : ℕ) (start : Leader) (peers : List Peer) (deeds : List Deed) → IsSealed links s
    → ArePeersOfRollout links number start deeds peers → OpensOnly peers s.arrived (acts_of (steps_of deeds)) → CameInRollout s.field number start deeds
came_in links s number start peers deeds is of_head through from datagram meter heard asked =
    let t = through from datagram (came_by (steps_of deeds) from datagram heard) in
    let ends = of_head t.0 t.1 meter (subst (λ (a : SocketAddr). EverAsked start deeds meter a) t.2 asked) in
    was_sent links s.seals s.arrived s.field number meter ToHead datagram is.sent is.genuine
    (came_as links s.arrived number meter ToHead t.0 (links.title number meter ToMeter) datagram ends t.3)

module _ (lists : Lists) where
  pub sealed_rollout : RolloutIsMoves lists → SealedRolloutIsMoves lists
  sealed_rollout law addresses links s number start now peers deeds there rests rolled is of_head through =
      law addresses s.field number start now deeds there rests rolled (came_in links s number start peers deeds is of_head through)

  pub sealed_rollout_told : LinksStaySealed → SealedMovesAreMoves → RolloutToldIsTrue lists → SealedRolloutToldIsTrue lists
  sealed_rollout_told stay moves_law law addresses links beginning s moves number start now peers deeds is made there rests rolled of_head through =
      law addresses beginning.field s.field (field_moves moves) number start now deeds is.field (moves_law addresses links beginning s moves is made) there rests rolled
      (came_in links s number start peers deeds (stay addresses links beginning s moves is made) of_head through)
