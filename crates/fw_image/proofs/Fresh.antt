-- A new store is a new meter.
use Rattle.std.proofs.Common.{ℕ, ◌-◌, ◌^◌, ◌≤◌, ◌<◌, List, length, replicate, refl, sym, ap, inl, arith}
use Rattle.std.proofs.Math.Seq.{take-append_seam}
use Rattle.sha2.proofs.Facts256.{length-sha256}
use Rattle.fw_blocks.specs.Cuts.{max_image}
use Rattle.fw_names.specs.Name.{factory_name, IsName}
use Rattle.fw_store.specs.Header.{fresh_header}
use Rattle.fw_store.specs.Laws.{FreshIsHeader}
use Rattle.fw_image.specs.Fresh.{fresh_meter}
use Rattle.fw_image.specs.Laws.{FreshIsMeter}
use Rattle.fw_image.specs.Meter.{Meter}

-- the meter that runs the factory image with other bytes
abbrev with_bytes : Meter → List ℕ → Meter
with_bytes m bytes = record m { running = record m.running { bytes = bytes } }

pub fresh_is_meter : FreshIsHeader → FreshIsMeter
fresh_is_meter law version block_size capacity factory setup =
    let name : IsName (factory_name factory) = record { is_campaign = inl refl; is_release = record { fits = omega arith; none = λ made. refl }; digest_size = length-sha256 factory } in
    let room : capacity ≤ max_image = setup.room.ends in
    let small : capacity < 2 ^ 32 = omega (arith, room) in (
      record {
        header = fresh_header version block_size (length factory) (factory_name factory);
        valid = law version capacity block_size (length factory) (factory_name factory) small setup.some_block setup.block_in_range setup.some_bytes setup.fits name;
        spelled = refl;
        means = ap (with_bytes (fresh_meter version block_size capacity factory)) (sym (take-append_seam factory (replicate (capacity - length factory) 0)));
      },
      record { running = refl; verified = λ e. absurd cc },
    )
