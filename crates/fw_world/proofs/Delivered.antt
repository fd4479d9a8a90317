-- The datagram of a number.
use Rattle.std.proofs.Common.{◌≡◌, ℕ, List, Some, sym, ap, subst, ◌∙◌, slice_get}
use Rattle.fw_world.specs.declared.datagram.Direction.{Direction}
use Rattle.fw_world.specs.World.{Datagram}
use Rattle.fw_world.specs.declared.datagram.Direction.TheVariants.{ToMeter, ToHead}
use Rattle.fw_world.specs.State.{State, ServesAt, HearsAt, DeliversAt}
use Rattle.fw_world.specs.Private.{IsSentTo}

pub sent_here : (s old : State) → s ≡ old → (xs : List Datagram) (number : ℕ) (d : Datagram) → xs ≡ s.sent → slice_get xs number ≡ Some d → slice_get old.sent number ≡ Some d
sent_here s old is xs number d same at = ap (λ (l : List Datagram). slice_get l number) (sym (same ∙ ap (λ (x : State). x.sent) is)) ∙ at

pub one_datagram : (a b : Datagram) → Some a ≡ Some b → a ≡ b
one_datagram a b e = cc

pub way_of : (sent : List Datagram) (number : ℕ) (way : Direction) (d : Datagram) → IsSentTo sent number way → slice_get sent number ≡ Some d → d.direction ≡ way
way_of sent number way d is at = ap (λ (x : Datagram). x.direction) (one_datagram d is.0 (sym at ∙ is.1)) ∙ is.2

pub delivers_to_head : (old new : State) (d : Datagram) → d.direction ≡ ToHead → HearsAt old d new → DeliversAt d.direction old d new
delivers_to_head old new d way hears = subst (λ (w : Direction). DeliversAt w old d new) (sym way) hears

pub delivers_to_meter : (old new : State) (d : Datagram) → d.direction ≡ ToMeter → ServesAt old d new → DeliversAt d.direction old d new
delivers_to_meter old new d way serves = subst (λ (w : Direction). DeliversAt w old d new) (sym way) serves
