use Rattle.std.proofs.Common.{◌≤◌, ◌&&◌, IsTrue, refl, sym, ap, subst, ◌∙◌, arith}
use Rattle.fw_store.specs.StoreBytes.{has_room, store_size}
use Rattle.fw_store.specs.Sizes.{IsLaidOut, tail_of}
use Rattle.fw_store.specs.Versions.{version_of}
use Rattle.fw_store.specs.declared.tail.Tail.{Tail}
use Rattle.fw_store.specs.declared.version.HeaderVersion.TheVariants.{Two}
use Rattle.fw_store.proofs.Outcomes.{when_ok, not_both}
use Rattle.fw_store.proofs.Soundness.{sound_both, still_sound, size_within, failed_call}
use Rattle.fw_store.proofs.SlotLemmas.{is_store}
use Rattle.fw_store.proofs.StoreByteLemmas.{laid_are}
use Rattle.fw_store.proofs.device_store.DeviceStoreImageStore.write_header.Goals as goal

pub replace_header-outcome-requires : goal.replace_header-outcome-requires
replace_header-outcome-requires g c h =
    let s = c.args.self.now in
    is_store s.tail s.capacity (g.D.ByteDevice.contents s.device) (s.laid_out h)

pub returns-in_err-answer-clause-kept : goal.returns-in_err-answer-clause-kept
returns-in_err-answer-clause-kept g c =
    let s = c.args.self.now in
    let after = c.replace_header-outcome.new.device in
    record {
      honesty = c.replace_header-outcome.ensures.kept.honesty;
      soundness = still_sound (g.D.ByteDevice.sound s.device) (g.D.ByteDevice.sound after)
          (g.D.ByteDevice.room s.device) (g.D.ByteDevice.room after) s.capacity
          c.replace_header-outcome.ensures.kept.soundness c.replace_header-outcome.ensures.kept.size;
      size = refl;
      later = c.answer.ensures.later;
    }

pub returns-in_err-answer-clause-cause : goal.returns-in_err-answer-clause-cause
returns-in_err-answer-clause-cause g c =
    let s = c.args.self.now in
    failed_call (g.D.ByteDevice.sound s.device && has_room (g.D.ByteDevice.room s.device) s.capacity) s.fault_count c.answer.new.faults
    c.from_residual.result c.from_residual.ensures.0 c.in_err-answer.ensures.counts
    (λ sound.
    let both = (sound_both (g.D.ByteDevice.sound s.device) (g.D.ByteDevice.room s.device) s.capacity).0 sound in
    let most : store_size Two s.capacity ≤ g.D.ByteDevice.room s.device = both.1 in
    let fits = size_within (version_of c.args.bytes.now) s.capacity in
    not_both c.replace_header-outcome.result c.in_err-answer.ensures.through (c.replace_header-outcome.ensures.never both.0 (omega arith)))

pub invariant_of-self-2 : goal.invariant_of-self-2
invariant_of-self-2 g c = record {
  laid_out = λ h.
      let s = c.args.self.now in
      let was : IsTrue (g.D.ByteDevice.honest s.device) = rw (← c.replace_header-outcome.ensures.kept.honesty) h in
      let laid = when_ok c.replace_header-outcome.result c.in_ok-answer.ensures.through (c.replace_header-outcome.ensures.laid_out was) in
      subst (λ (tail : Tail). IsLaidOut tail s.capacity (g.D.ByteDevice.contents c.replace_header-outcome.new.device))
      (sym (c.of_version-self.ensures ∙ ap tail_of c.version.ensures)) laid;
}

pub returns-clause-kept : goal.returns-clause-kept
returns-clause-kept g c =
    let s = c.args.self.now in
    let after = c.replace_header-outcome.new.device in
    record {
      honesty = c.replace_header-outcome.ensures.kept.honesty;
      soundness = still_sound (g.D.ByteDevice.sound s.device) (g.D.ByteDevice.sound after)
          (g.D.ByteDevice.room s.device) (g.D.ByteDevice.room after) s.capacity
          c.replace_header-outcome.ensures.kept.soundness c.replace_header-outcome.ensures.kept.size;
      size = refl;
      later = c.answer.ensures.later;
    }

pub returns-clause-whole : goal.returns-clause-whole
returns-clause-whole g c was =
    let s = c.args.self.now in
    laid_are (version_of c.args.bytes.now) s.capacity (g.D.ByteDevice.contents c.replace_header-outcome.new.device)
    (when_ok c.replace_header-outcome.result c.in_ok-answer.ensures.through (c.replace_header-outcome.ensures.laid_out was))
