-- A world that workers share may be looked at by any thread. What a closure captures crosses to a thread if each of it does.
use Prim.Native.Nat.{ℕ}
use mathlib.Core.List.{List, [], ◌∷◌}
use denote.RattleType.{RattleType}
use denote.Struct.Declared.{shape}
use denote.Struct.Tuple.{TupleAt, field_at, type_at}
use denote.Param.Send.{IsSend, IsSync, recorded_send, struct_send, sendable}
use Rattle.std.proofs.MapsCrossing as maps
use Rattle.std.proofs.Crossing as owned
use Rattle.std.proofs.alloc.Global.TheSendSync as heap
use Rattle.std.proofs.boxed.Box.TheSendSync as boxed
use Rattle.std.proofs.sync.Mutex.TheSendSync as lock
use Rattle.std.proofs.vec.Vec.TheSendSync as vec
use Rattle.fw_air.proofs.core_event.CoreEvent.TheSendSync as core_event
use Rattle.fw_air.proofs.log.Chain.TheLaws.TheKnot
use Rattle.fw_air.proofs.log.Entry.TheSendSync as entry
use Rattle.fw_air.proofs.log.Part.TheSendSync as part
use Rattle.fw_shared.proofs.board.Board.TheSendSync as board
use Rattle.fw_shared.proofs.desk.Desk.TheSendSync as desk
use Rattle.fw_shared.proofs.meter.SharedMeter.TheSendSync as meter
use Rattle.fw_store.proofs.memory.MemoryStore.TheSendSync as store
use Rattle.fw_world.proofs.datagram.Datagram.TheSendSync as datagram
use Rattle.fw_workers.specs.contracts.shared_world.SharedWorld

pub world_sync : IsSync SharedWorld.the_row
world_sync = search (
  heap.the_send,
  heap.the_sync,
  vec.the_send,
  vec.the_sync,
  lock.the_send,
  lock.the_sync,
  boxed.the_send,
  boxed.the_sync,
  entry.the_send,
  entry.the_sync,
  part.the_send,
  part.the_sync,
  datagram.the_send,
  datagram.the_sync,
  board.the_sync,
  desk.the_sync,
  meter.the_sync,
  store.the_send,
  store.the_sync,
  maps.crosses,
  owned.crosses,
  TheKnot.crosses,
  sendable,
) depth 60 fits 20000

module _ (name : List ℕ) (A B C D E F G : RattleType) where
  abbrev seven : List RattleType
  seven = A ∷ B ∷ C ∷ D ∷ E ∷ F ∷ G ∷ []

  -- seven captures
  pub seven_send : IsSend A → IsSend B → IsSend C → IsSend D → IsSend E → IsSend F → IsSend G → IsSend (TupleAt name seven)
  seven_send a b c d e f g =
      recorded_send (field_at name seven).row _ _ (type_at name seven).to_one
      (struct_send (shape (type_at name seven)) (a, (b, (c, (d, (e, (f, (g, tt))))))))
