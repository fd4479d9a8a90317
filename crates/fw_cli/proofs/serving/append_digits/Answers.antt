use Rattle.std.proofs.Common.{◌≡◌, ℕ, ◌+◌, ◌-◌, ◌*◌, ◌≤◌, List, [], ◌∷◌, ◌++◌, length, take, drop, replicate, min, refl, sym, ap, ◌∙◌, arith, length-append}
use Rattle.std.proofs.lemmas.List.{take_at, drop_at, take_all, drop-replicate, length-take, length-replicate}
use borrow.Rule.Slice.PartMut.{post_of}
use Rattle.hex.specs.Hex.{lower_digits}
use Rattle.hex.proofs.HexLemmas.{length-encode_with}
use Rattle.fw_cli.proofs.serving.append_digits.Goals as goal

-- If the old bytes have grown by room for k digits and a line feed, the digits are put into that room.
digits_put : (old seen digits : List ℕ) (k : ℕ) → seen ≡ old ++ replicate (k + 1) 10 → take (length old) seen ++ (digits ++ post_of (length old) k seen) ≡ old ++ (digits ++ 10 ∷ [])
digits_put old seen digits k room =
    let front : take (length old) seen ≡ old = rw room (take_at old _ (length old) refl) in
    let back : drop (length old) seen ≡ replicate (k + 1) 10 = rw room (drop_at old _ (length old) refl) in
    let one : k + 1 - k ≡ 1 = omega arith in
    let post : post_of (length old) k seen ≡ 10 ∷ [] = ap (λ (l : List ℕ). drop k l) back ∙ drop-replicate k (k + 1) 10 ∙ ap (λ (n : ℕ). replicate n 10) one in
    rw (front, post) refl

-- a text that is cut to its length
cut : (text rest : List ℕ) (len : ℕ) → length text ≡ len → take len (text ++ rest) ≡ text
cut text rest len whole = take_at text rest len whole

-- how long the text was that has grown
counted : (kept added was size end : ℕ) → kept + added ≡ end + 1 → kept ≡ min (end + 1) was → added ≡ end + 1 - size → size ≤ end → was ≡ size
counted kept added was size end sum taken room below = omega arith

old_size : (old seen : List ℕ) (size end : ℕ) → seen ≡ take (end + 1) old ++ replicate (end + 1 - size) 10 → length seen ≡ end + 1 → size ≤ end → length old ≡ size
old_size old seen size end filled whole below =
    let kept : List ℕ = take (end + 1) old in
    let added : List ℕ = replicate (end + 1 - size) 10 in
    let sum : length kept + length added ≡ end + 1 = sym (length-append kept added) ∙ ap (λ (l : List ℕ). length l) (sym filled) ∙ whole in
    counted (length kept) (length added) (length old) size end sum (length-take (end + 1) old) (length-replicate (end + 1 - size) 10) below

written : (old grown seen digits : List ℕ) (start size count end len : ℕ) → start ≡ size → seen ≡ grown → grown ≡ take (end + 1) old ++ replicate (end + 1 - size) 10 → length seen ≡ end + 1
    → end ≡ start + 2 * count → length digits ≡ 2 * count → len ≡ end + 1
    → take len (take start seen ++ (digits ++ post_of start (end - start) seen) ++ drop (length (take start seen ++ (digits ++ post_of start (end - start) seen))) grown) ≡ old ++ (digits ++ 10 ∷ [])
written old grown seen digits start size count end len begins same filled whole ends digit_count cut_at =
    let was : length old ≡ size = old_size old seen size end (same ∙ filled) whole (omega arith) in
    let kept : take (end + 1) old ≡ old = take_all (end + 1) old (omega arith) in
    let count_left : end + 1 - size ≡ end - start + 1 = omega arith in
    let room : seen ≡ old ++ replicate (end - start + 1) 10 = same ∙ filled ∙ rw (kept, count_left) refl in
    let at : start ≡ length old = omega arith in
    let put : take start seen ++ (digits ++ post_of start (end - start) seen) ≡ old ++ (digits ++ 10 ∷ []) =
    rw at (digits_put old seen digits (end - length old) (rw (← at) room)) in
    rw put (cut (old ++ (digits ++ 10 ∷ [])) _ len (simp length-append (omega arith)))

pub returns : goal.returns
returns c =
    let room = c.in_ok-resize.ensures in
    let seen = c.deref_mut.ensures in
    let spelled = c.put_digits.ensures in
    let size : length c.put_digits.new.digits ≡ 2 * length c.args.bytes.now = ap length spelled ∙ length-encode_with lower_digits c.args.bytes.now in
    written c.args.text.now.items c.resize.new.self.items c.deref_mut.result.now c.put_digits.new.digits c.len-start.result _ (length c.args.bytes.now) c.in-Some.end _ c.len-start.ensures
    seen.value room.items (seen.len ∙ room.len) c.in-Some.ensures.0 size room.len
    ∙ rw spelled refl
