use Rattle.std.proofs.Common.{◌≡◌, ℕ, ◌++◌, List, length, take, refl, sym, ap, subst, ◌∙◌, arith}
use Rattle.std.proofs.lemmas.List.{take-append-drop}
use Rattle.fw_store.specs.Device.{splice, with_head}
use Rattle.fw_store.specs.StoreBytes.{device_at}
use Rattle.fw_store.specs.Sizes.{IsLaidOut, tail_of}
use Rattle.fw_store.specs.Versions.{bytes_of, version_of}
use Rattle.fw_store.proofs.Outcomes.{on_ok_too}
use Rattle.fw_store.proofs.SlotLemmas.{store_within, write_head, head_laid}
use Rattle.fw_store.proofs.StoreByteLemmas.{some_behind}
use Rattle.fw_store.proofs.device_store.replace_header.Goals as goal

pub replace_both-requires-clause-begins : goal.replace_both-requires-clause-begins
replace_both-requires-clause-begins g c h =
    let within = store_within c.args.capacity (g.D.ByteDevice.contents c.args.device.now) (c.requires h) in
    let at = c.tail_at.ensures in
    omega arith

pub returns-clause-done : goal.returns-clause-done
returns-clause-done g c h =
    let capacity = c.args.capacity in
    let old = g.D.ByteDevice.contents c.args.device.now in
    let front = c.split_at.result.0.now in
    let last = c.split_at.result.1.now in
    let bytes = bytes_of c.args.bytes.now in
    let some = some_behind (version_of c.args.bytes.now) (length c.as_slice.result.now) c.as_slice.ensures.size in
    let within = store_within capacity old (c.requires h) in
    let joined : front ++ last ≡ bytes =
    ap (λ (l : List ℕ). l ++ last) c.split_at.ensures.front ∙ ap (λ (l : List ℕ). take 614 c.as_slice.result.now ++ l) c.split_at.ensures.back
    ∙ take-append-drop 614 c.as_slice.result.now ∙ c.as_slice.ensures.value in
    on_ok_too c.replace_both.result c.replace_both.result refl
    (λ e. ap (device_at capacity) (e ∙ ap (λ (n : ℕ). take n (splice old 4 front) ++ last) c.tail_at.ensures)
    ∙ write_head capacity old front last (omega arith) (omega arith) within
    ∙ ap (with_head (device_at capacity old)) joined)
    (c.replace_both.ensures.done h)

pub returns-clause-laid_out : goal.returns-clause-laid_out
returns-clause-laid_out g c h =
    let capacity = c.args.capacity in
    let version = version_of c.args.bytes.now in
    let old = g.D.ByteDevice.contents c.args.device.now in
    let front = c.split_at.result.0.now in
    let last = c.split_at.result.1.now in
    let size = c.as_slice.ensures.size in
    let some = some_behind version (length c.as_slice.result.now) size in
    on_ok_too c.replace_both.result c.replace_both.result refl
    (λ e. subst (IsLaidOut (tail_of version) capacity) (sym (e ∙ ap (λ (n : ℕ). take n (splice old 4 front) ++ last) c.tail_at.ensures))
    (head_laid version capacity old front last (omega arith) (omega arith) (c.requires h)))
    (c.replace_both.ensures.done h)

pub returns-clause-never : goal.returns-clause-never
returns-clause-never g c sound fits =
    let size = c.as_slice.ensures.size in
    let at = c.tail_at.ensures in
    c.replace_both.ensures.never sound (omega arith)
