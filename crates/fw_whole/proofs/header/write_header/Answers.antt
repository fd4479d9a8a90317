use Rattle.std.proofs.Common.{◌≡◌, ◌+◌, ◌≤◌, List, ℕ, length, sym, ap, subst, ◌∙◌, arith}
use Rattle.std.proofs.lemmas.List.{length-take-le}
use Rattle.fw_cuts.specs.Write.{Write}
use Rattle.fw_cuts.specs.Sectors.{after_of}
use Rattle.fw_cuts.specs.Both.{Both}
use Rattle.fw_cuts.specs.Cuts.{Goes, IsSynced}
use Rattle.fw_cuts.specs.Rest.{write_on, IsAtRest, IsOldOrNew, IsRecovered}
use Rattle.fw_cuts.specs.declared.files.Part.TheVariants.{Store}
use Rattle.fw_cuts.proofs.Goings.{on_ok, on_ok_2, on_ok_3}
use Rattle.fw_store.specs.Device.{with_head}
use Rattle.fw_store.specs.StoreBytes.{IsStore, device_at, old_store_size}
use Rattle.fw_store.specs.Versions.{bytes_of, header_size, version_of}
use Rattle.fw_whole.specs.Whole.{header_write, IsResting}
use Rattle.fw_whole.proofs.Stores.{store_within, some_behind}
use Rattle.fw_whole.proofs.Finding.{each_cut, header_stays, new_device, new_store, quiet_left, same_write}
use Rattle.fw_whole.proofs.header.write_header.Goals as goal

pub replace-requires : goal.replace-requires
replace-requires g c = λ honest.
    let within = store_within c.args.capacity (g.F.StoreFiles.seen c.args.files.now).held.store (c.requires honest).is in
    let at = c.tail_at.ensures in
    omega arith

pub returns-clause-done : goal.returns-clause-done
returns-clause-done g c = λ honest.
    let a = g.F.StoreFiles.seen c.args.files.now in
    let e = g.F.StoreFiles.seen c.replace.new.files in
    let header = bytes_of c.args.bytes.now in
    let size : length header ≡ header_size (version_of c.args.bytes.now) = sym (ap length c.as_slice.ensures.value) ∙ c.as_slice.ensures.size in
    let w = write_on a.held.store 4 c.split_at.result.0.now c.tail_at.result c.split_at.result.1.now in
    let same : w ≡ header_write c.args.capacity header a.held.store =
    same_write c.args.capacity header c.as_slice.result.now c.split_at.result.0.now c.split_at.result.1.now a.held.store c.tail_at.result
    c.split_at.ensures.front c.split_at.ensures.back c.as_slice.ensures.value c.tail_at.ensures in
    on_ok c.replace.result (e.held.store ≡ after_of w a.held.store) (device_at c.args.capacity e.held.store ≡ with_head (device_at c.args.capacity a.held.store) header)
    (λ made. new_device (version_of c.args.bytes.now) c.args.capacity header a.held.store e.held.store size (c.requires honest).is
    (made ∙ ap (λ (w : Write). after_of w a.held.store) same))
    (c.replace.ensures.done honest)

pub returns-clause-rests : goal.returns-clause-rests
returns-clause-rests g c = λ honest.
    let a = g.F.StoreFiles.seen c.args.files.now in
    let e = g.F.StoreFiles.seen c.replace.new.files in
    let header = bytes_of c.args.bytes.now in
    let size : length header ≡ header_size (version_of c.args.bytes.now) = sym (ap length c.as_slice.ensures.value) ∙ c.as_slice.ensures.size in
    let some = some_behind (version_of c.args.bytes.now) (length c.as_slice.result.now) c.as_slice.ensures.size in
    let long : length c.split_at.result.0.now ≡ 614 = ap length c.split_at.ensures.front ∙ length-take-le 614 c.as_slice.result.now (omega arith) in
    let w = write_on a.held.store 4 c.split_at.result.0.now c.tail_at.result c.split_at.result.1.now in
    let same : w ≡ header_write c.args.capacity header a.held.store =
    same_write c.args.capacity header c.as_slice.result.now c.split_at.result.0.now c.split_at.result.1.now a.held.store c.tail_at.result
    c.split_at.ensures.front c.split_at.ensures.back c.as_slice.ensures.value c.tail_at.ensures in
    let at = c.tail_at.ensures in
    let before : 4 + length c.split_at.result.0.now ≤ 618 = omega arith in
    let behind : old_store_size c.args.capacity ≤ c.tail_at.result = omega arith in
    on_ok_2 c.replace.result (e.held.store ≡ after_of w a.held.store) (IsAtRest 618 (old_store_size c.args.capacity) e) (IsResting c.args.capacity e)
    (λ made rest. record {
      is = new_store (version_of c.args.bytes.now) c.args.capacity header a.held.store e.held.store size (c.requires honest).is
          (made ∙ ap (λ (w : Write). after_of w a.held.store) same);
      rest = rest;
    })
    (c.replace.ensures.done honest)
    (c.replace.ensures.at_rest honest 618 (old_store_size c.args.capacity) (c.requires honest).rest before behind)

pub returns-clause-stays : goal.returns-clause-stays
returns-clause-stays g c = λ honest.
    let a = g.F.StoreFiles.seen c.args.files.now in
    let e = g.F.StoreFiles.seen c.replace.new.files in
    let capacity = c.args.capacity in
    let device = with_head (device_at capacity a.held.store) (bytes_of c.args.bytes.now) in
    on_ok_3 c.replace.result (device_at capacity e.held.store ≡ device) (IsResting capacity e) (IsSynced Store e)
    ((left : Both) (made : List ℕ) → e.may_leave left → IsRecovered left.journal left.store made → IsStore made capacity × (device_at capacity made ≡ device))
    (λ done rests synced left made may found.
    let stays = header_stays capacity e left made rests may found in
    let same = quiet_left 618 (old_store_size capacity) e left made rests.rest may found in
    (stays.0, ap (device_at capacity) (same ∙ synced left may) ∙ done))
    (returns-clause-done g c honest)
    (returns-clause-rests g c honest)
    (c.replace.ensures.synced honest 618 (old_store_size capacity) (c.requires honest).rest)

pub returns-clause-any_moment : goal.returns-clause-any_moment
returns-clause-any_moment g c = λ honest left made since found.
    let a = g.F.StoreFiles.seen c.args.files.now in
    let e = g.F.StoreFiles.seen c.replace.new.files in
    let header = bytes_of c.args.bytes.now in
    let size : length header ≡ header_size (version_of c.args.bytes.now) = sym (ap length c.as_slice.ensures.value) ∙ c.as_slice.ensures.size in
    let w = write_on a.held.store 4 c.split_at.result.0.now c.tail_at.result c.split_at.result.1.now in
    let same : w ≡ header_write c.args.capacity header a.held.store =
    same_write c.args.capacity header c.as_slice.result.now c.split_at.result.0.now c.split_at.result.1.now a.held.store c.tail_at.result
    c.split_at.ensures.front c.split_at.ensures.back c.as_slice.ensures.value c.tail_at.ensures in
    each_cut (version_of c.args.bytes.now) c.args.capacity header a e left made size (c.requires honest) (g.met.F.StoreFiles.only_now c.args.files.now)
    (subst (λ (w : Write). Goes (IsOldOrNew a.held w) a e) same (c.replace.ensures.goes honest 618 (old_store_size c.args.capacity) (c.requires honest).rest))
    since found
