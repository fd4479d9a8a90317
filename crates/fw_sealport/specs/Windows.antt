-- Public vocabulary: which counters of the other end of a link are new, and what is remembered of those that came.
use Rattle.std.specs.Prelude.{◌≡◌, ◌↔◌, ℕ, ◌+◌, ◌-◌, ◌<◌, ◌≤◌, List, Contains}
use Rattle.std.specs.Int.{bit_at}
use Rattle.fw_sealport.specs.declared.window.Order.{Order}
use Rattle.fw_sealport.specs.declared.window.Order.TheVariants.{Loose, Strict}
use Rattle.fw_sealport.specs.declared.window.Window.{Window}

-- by less than how many a counter may be overtaken; by none if each has to be greater than all before it
abbrev pub width_of : Order → ℕ
width_of Loose = 64
width_of Strict = 1

-- A counter is new where these were taken: it is none of them, and each of them is less than `width` above it.
pub record IsNew (width : ℕ) (seen : List ℕ) (counter : ℕ) : Type 0 where
  pub unseen : ¬ Contains seen counter
  pub late : (other : ℕ) → Contains seen other → other < counter + width

-- A window remembers these counters: the greatest, and each that is less than 64 below it.
pub record Remembers (window : Window) (seen : List ℕ) : Type 0 where
  pub below : (counter : ℕ) → Contains seen counter → counter < window.next
  pub greatest : 0 < window.next → Contains seen (window.next - 1)
  pub marked : (counter : ℕ) → counter < window.next → window.next ≤ counter + 64
      → (bit_at window.bits (window.next - counter - 1) ≡ 1) ↔ Contains seen counter
