-- Public vocabulary: what a meter shows and judges requests by, without the bytes of images. It is known also of a meter whose
-- store may give other bytes than were written.
use Rattle.std.specs.Prelude.{◌≡◌, ℕ, Bool, List, length}
use Rattle.fw_axdr.specs.Bits.{packed}
use Rattle.fw_names.specs.Name.{Name}
use Rattle.fw_blocks.specs.Members.{all_marks}
use Rattle.fw_image.specs.Meter.{Meter, Phase, goal_of, status_of, count_of, marks_of}
use Rattle.fw_image.specs.declared.view.MeterView.{MeterView}

pub record Shown : Type 0 where
  pub block_size : ℕ
  pub capacity : ℕ
  pub limit : ℕ
  pub enabled : Bool
  pub phase : Phase
  pub active : Name
  pub active_size : ℕ
  pub marked : List Bool

abbrev pub shown_of : Meter → Shown
shown_of m = record {
  block_size = m.block_size;
  capacity = m.capacity;
  limit = m.limit;
  enabled = m.enabled;
  phase = m.phase;
  active = m.running.name;
  active_size = length m.running.bytes;
  marked = marks_of m.cells (count_of m);
}

-- the view has what a meter shows
pub record IsView (view : MeterView) (shown : Shown) : Type 0 where
  pub limit : view.limit ≡ shown.limit
  pub enabled : view.enabled ≡ shown.enabled
  pub status : view.status ≡ status_of shown.phase
  pub active : view.active ≡ shown.active
  pub active_size : view.active_size ≡ shown.active_size
  pub goal : view.goal ≡ goal_of shown.phase
  pub marked : view.marked ≡ packed (all_marks shown.marked)
