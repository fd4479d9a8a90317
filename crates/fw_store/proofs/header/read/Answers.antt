use Rattle.std.proofs.Common.{◌≡◌, ℕ, List, Some, length, drop, slice_range, eqb, w32, sym, ap, ◌∙◌}
use Rattle.std.proofs.Math.Nat.{suc-ne-zero}
use Rattle.std.specs.Int.{from_be_bytes}
use Rattle.std.specs.Prelude.{is_some}
use Rattle.fw_store.specs.Layout.{flag, goal_release}
use Rattle.fw_store.specs.Versions.{block_limit, bytes_of, version_of}
use Rattle.fw_store.proofs.Parts.{Parts, parts_in, size_of_header, drop-header, same_version, flag_again, number_again, goal_release_fits, goal_read, no_goal_read}
use Rattle.fw_store.proofs.header.read.Goals as goal
use Rattle.fw_store.proofs.header.read.Goals.{then-front-eq1+in_ok-read_goal, else-front-eq1}

pub returns-in_err-read_goal-clause-unique : goal.returns-in_err-read_goal-clause-unique
returns-in_err-read_goal-clause-unique c = λ h fits e.
    let p : Parts c.front-front.result.now h = parts_in c.bits_packed.ensures h (bytes_of c.args.bytes.now) c.front-front.result.now fits e c.front-front.ensures.value in
    let release = c.number_at.ensures ∙ ap (from_be_bytes w32) p.goal_release ∙ number_again (goal_release h.goal) (goal_release_fits h.goal fits.goal) in
    let none = goal_read h.goal _ _ _ _ fits.goal p.has_goal c.if-front-eq1.true p.goal release c.in_err-read_goal.ensures in
    absurd (suc-ne-zero 0 (sym c.if-front-eq1.true ∙ p.has_goal ∙ ap (λ goal. flag (is_some goal)) (sym none)))

pub returns-in_err-from_number-clause-unique : goal.returns-in_err-from_number-clause-unique
returns-in_err-from_number-clause-unique c = λ h fits e.
    let p : Parts c.front-front.result.now h = parts_in c.bits_packed.ensures h (bytes_of c.args.bytes.now) c.front-front.result.now fits e c.front-front.ensures.value in
    let status = c.in_err-from_number.ensures h.status (sym p.status) in
    cc

pub returns-in_err-read_name-clause-unique : goal.returns-in_err-read_name-clause-unique
returns-in_err-read_name-clause-unique c = λ h fits e.
    let p : Parts c.front-front.result.now h = parts_in c.bits_packed.ensures h (bytes_of c.args.bytes.now) c.front-front.result.now fits e c.front-front.ensures.value in
    let release = c.number_at-4.ensures ∙ ap (from_be_bytes w32) p.running_release ∙ number_again h.running_name.release fits.running_name.is_release.fits in
    let name = c.in_err-read_name.ensures h.running_name fits.running_name (sym p.running_name) (sym release) in
    cc

pub returns-clause-unique : goal.returns-clause-unique
returns-clause-unique c = λ h fits e.
    let p : Parts c.front-front.result.now h = parts_in c.bits_packed.ensures h (bytes_of c.args.bytes.now) c.front-front.result.now fits e c.front-front.ensures.value in
    let enabled = ap (λ (n : ℕ). eqb n 1) p.enabled ∙ flag_again h.enabled in
    let slot = c.slot_at.ensures h.running_slot (sym p.running_slot) in
    let status : c.in_ok-from_number.field-0 ≡ h.status = let is = c.in_ok-from_number.ensures h.status (sym p.status) in cc in
    let block_size = c.number_at-2.ensures ∙ ap (from_be_bytes w32) p.block_size ∙ number_again h.block_size fits.block_size in
    let running_size = c.number_at-3.ensures ∙ ap (from_be_bytes w32) p.running_size ∙ number_again h.running_size fits.running_size in
    let release = c.number_at-4.ensures ∙ ap (from_be_bytes w32) p.running_release ∙ number_again h.running_name.release fits.running_name.is_release.fits in
    let name : c.in_ok-read_name.field-0 ≡ h.running_name =
    let is = c.in_ok-read_name.ensures h.running_name fits.running_name (sym p.running_name) (sym release) in cc in
    let goal : c.if-front-eq1.goal ≡ h.goal = elim c.if-front-eq1.branch [
      | then-front-eq1+in_ok-read_goal w ↦
          let goal_release = w.number_at.ensures ∙ ap (from_be_bytes w32) p.goal_release ∙ number_again (goal_release h.goal) (goal_release_fits h.goal fits.goal) in
          w.goal-is ∙ goal_read h.goal _ _ _ _ fits.goal p.has_goal w.if-front-eq1.true p.goal goal_release w.in_ok-read_goal.ensures
      | else-front-eq1 w ↦ w.goal-is ∙ no_goal_read h.goal _ p.has_goal w.if-front-eq1.false
    ] in
    let size = sym c.front-front.ensures.all ∙ ap length (sym e) ∙ size_of_header c.bits_packed.ensures h fits in
    let same : version_of c.args.bytes.now ≡ h.version = same_version (version_of c.args.bytes.now) h.version size in
    let version = c.version.ensures ∙ same in
    let count = fits.marks ∙ ap block_limit (sym same) in
    let first = sym p.marks ∙ ap (λ (l : List ℕ). slice_range l 102 614) c.front-front.ensures.value in
    let others = sym (drop-header c.bits_packed.ensures h fits) ∙ ap (drop 622) e in
    let marks = c.read_marks.ensures.unique h.marks count first others in
    λ i. Some (record {
      version = version i;
      enabled = enabled i;
      running_slot = slot i;
      status = status i;
      block_size = block_size i;
      running_size = running_size i;
      running_name = name i;
      goal = goal i;
      marks = marks i;
    })
