-- Public vocabulary: what a new store holds.
use Rattle.std.specs.Prelude.{ℕ, List, length, replicate}
use Rattle.fw_names.specs.Name.{factory_name}
use Rattle.fw_store.specs.Device.{Device, padded}
use Rattle.fw_store.specs.Header.{fresh_header}
use Rattle.fw_store.specs.Layout.{header_bytes}
use Rattle.fw_store.specs.declared.version.HeaderVersion.{HeaderVersion}

-- the factory image in the first slot and zeros after it and in the other one, and the header of this version that says so
abbrev pub fresh_device : HeaderVersion → ℕ → ℕ → List ℕ → Device
fresh_device version block_size capacity factory = record {
  head = header_bytes (fresh_header version block_size (length factory) (factory_name factory));
  first = padded factory capacity;
  second = replicate capacity 0;
}
