-- Public vocabulary: a new meter, as a new store holds it.
use Rattle.std.specs.Prelude.{ℕ, false, List}
use Rattle.std.specs.FinMap.{empty}
use Rattle.fw_names.specs.Name.{factory_name}
use Rattle.fw_store.specs.Versions.{block_limit}
use Rattle.fw_store.specs.declared.version.HeaderVersion.{HeaderVersion}
use Rattle.fw_image.specs.Meter.{Meter, idle}

-- a new meter runs its factory image, and transfer is disabled; its store has a header of this version
abbrev pub fresh_meter : HeaderVersion → ℕ → ℕ → List ℕ → Meter
fresh_meter version block_size capacity factory = record {
  block_size = block_size;
  capacity = capacity;
  limit = block_limit version;
  enabled = false;
  phase = idle;
  cells = empty;
  running = record { name = factory_name factory; bytes = factory };
}
