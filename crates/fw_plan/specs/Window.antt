-- Public vocabulary: when a row may be asked that waits for a time.
use Rattle.std.specs.Prelude.{◌≡◌, ℕ, ◌≤◌, Bool, true}
use Rattle.fw_plan.specs.declared.window.Window.{Window}
use Rattle.fw_plan.specs.declared.window.Window.TheVariants as window

-- a row may be asked at a time: if its next request would activate the image, not before the window begins
abbrev pub IsLetBy : Window → ℕ → Bool → Type 0
IsLetBy window.Always now activates = Unit {0}
IsLetBy (window.From time) now activates = activates ≡ true → time ≤ now
