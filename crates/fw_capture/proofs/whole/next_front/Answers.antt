use Rattle.std.proofs.Common.{◌≡◌, ◌≢◌, ℕ, List, true, false, [], ap, sym, ◌∙◌, arith}
use Rattle.fw_capture.specs.Private.{record_size}
use Rattle.fw_capture.specs.Whole.{all_zeros, is_part, without_zeros}
use Rattle.fw_capture.proofs.Filling.{filled_both}
use Rattle.fw_capture.proofs.Wholeness.{front_whole, front_last, front_foreign, some_bytes, sized}
use Rattle.fw_capture.proofs.whole.next_front.Goals.{else-is_part-via-then-is_part+in_ok-only_zeros-in-None+else-branch, else-is_part-via-else-is_part}
use Rattle.fw_capture.proofs.whole.next_front.Goals as goal

pub returns-in-Some-clause-next : goal.returns-in-Some-clause-next
returns-in-Some-clause-next g c = λ rest is.
    let size : c.record_size-size.result ≡ record_size c.args.format c.fill.new.bytes.items = c.record_size-size.ensures ∙ ap (λ (x : List ℕ). record_size c.args.format x) c.as_slice-header.ensures.value in
    let both = filled_both c.args.format _ _ _ c.clear.new.self.items c.fill.new.bytes.items c.fill-2.new.bytes.items c.record_size-size.result rest
    c.clear.ensures.items c.in_ok-fill.ensures.fills size c.in_ok-fill-2.ensures.fills is in
    let found = c.in-Some.ensures.found in
    front_whole c.args.format rest c.fill-2.new.bytes.items both.0 _ found.0 found.1 c.in-Some.size both.2 both.1 both.3 (rw c.deref.ensures.value at found.2.0) (rw c.deref.ensures.value at found.2.1)

pub returns-in-Some-clause-size : goal.returns-in-Some-clause-size
returns-in-Some-clause-size g c = λ size e.
    let found = c.in-Some.ensures.found in
    let read = sized c.args.format c.deref.result.now _ found.2.0 in
    let same : c.in-Some.size ≡ size = cc in
    omega (arith, read.0, same)

pub returns-then-branch-clause-next : goal.returns-then-branch-clause-next
returns-then-branch-clause-next g c = λ rest is.
    let size : c.record_size-size.result ≡ record_size c.args.format c.fill.new.bytes.items = c.record_size-size.ensures ∙ ap (λ (x : List ℕ). record_size c.args.format x) c.as_slice-header.ensures.value in
    let both = filled_both c.args.format _ _ _ c.clear.new.self.items c.fill.new.bytes.items c.fill-2.new.bytes.items c.record_size-size.result rest
    c.clear.ensures.items c.in_ok-fill.ensures.fills size c.in_ok-fill-2.ensures.fills is in
    let zeros : all_zeros both.0 ≡ true = cc (c.in_ok-only_zeros-in-None.ensures.zeros both.0 both.1) in
    let part : is_part c.args.format (without_zeros c.fill-2.new.bytes.items) ≡ true =
    ap (λ (x : List ℕ). is_part c.args.format (without_zeros x)) (sym c.deref-in-None.ensures.value)
    ∙ ap (λ (x : List ℕ). is_part c.args.format x) (sym c.stem.ensures) ∙ sym c.is_part.ensures ∙ c.if-is_part.true in
    front_last c.args.format rest c.fill-2.new.bytes.items both.0 both.2 both.4 (rw c.deref.ensures.value at c.in-None.ensures.none) zeros part

pub returns-else-is_part-clause-next : goal.returns-else-is_part-clause-next
returns-else-is_part-clause-next g c = λ rest is.
    let size : c.record_size-size.result ≡ record_size c.args.format c.fill.new.bytes.items = c.record_size-size.ensures ∙ ap (λ (x : List ℕ). record_size c.args.format x) c.as_slice-header.ensures.value in
    let both = filled_both c.args.format _ _ _ c.clear.new.self.items c.fill.new.bytes.items c.fill-2.new.bytes.items c.record_size-size.result rest
    c.clear.ensures.items c.in_ok-fill.ensures.fills size c.in_ok-fill-2.ensures.fills is in
    let some : c.fill-2.new.bytes.items ≢ [] =
    some_bytes c.as_slice-header.result.now c.fill.new.bytes.items c.in_ok-fill-2.ensures.fills.given c.fill-2.new.bytes.items
    (sym c.is_empty.ensures ∙ c.if-is_empty.false) c.as_slice-header.ensures.value c.in_ok-fill-2.ensures.fills.appended in
    let same : is_part c.args.format (without_zeros c.fill-2.new.bytes.items) ≡ c.is_part.result =
    ap (λ (x : List ℕ). is_part c.args.format (without_zeros x)) (sym c.deref-in-None.ensures.value)
    ∙ ap (λ (x : List ℕ). is_part c.args.format x) (sym c.stem.ensures) ∙ sym c.is_part.ensures in
    let no_part : all_zeros both.0 ≡ true → is_part c.args.format (without_zeros c.fill-2.new.bytes.items) ≡ false = elim c.else-is_part.branch [
      | else-is_part-via-then-is_part+in_ok-only_zeros-in-None+else-branch w ↦ λ zeros. absurd (cc (zeros, w.in_ok-only_zeros-in-None.ensures.zeros both.0 both.1, w.if-branch.false))
      | else-is_part-via-else-is_part w ↦ λ zeros. same ∙ w.if-is_part.false
    ] in
    front_foreign c.args.format rest c.fill-2.new.bytes.items both.0 both.2 some both.4 (rw c.deref.ensures.value at c.in-None.ensures.none) no_part
