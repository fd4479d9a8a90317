use Rattle.std.proofs.Common.{rules, ◌≡◌, ◌≤◌, ◌+◌, ℕ, List, [], ◌∷◌, length, take, min, slice_range, refl, ◌∙◌, ap, arith}
use Rattle.std.proofs.lemmas.List.{take_min, length-take}
use Rattle.fw_disk.proofs.opening.is_ours.Goals as goal

-- room for the first bytes of a file
zeros : List ℕ
zeros = 0 ∷ 0 ∷ 0 ∷ 0 ∷ 0 ∷ 0 ∷ 0 ∷ 0 ∷ 0 ∷ 0 ∷ 0 ∷ 0 ∷ 0 ∷ 0 ∷ 0 ∷ 0 ∷ []

module _ (bytes now : List ℕ) (same : now ≡ bytes) (m len : ℕ) (is_min : m ≡ min len 16) (is_len : len ≡ length bytes) where
  room : length zeros ≡ 16
  unfolding zeros
  room = refl

  count : length (take m zeros) ≡ min 16 (length bytes)
  count = omega (arith, length-take m zeros, room, is_min, is_len)

  within : 0 + length (take m zeros) ≤ length now
  within = omega (arith, count, ap length same)

  front : (out : List ℕ) → out ≡ slice_range now 0 (0 + length (take m zeros)) → out ≡ take 16 bytes
  front out is = is ∙ ap (λ (l : List ℕ). slice_range l 0 (0 + length (take m zeros))) same ∙ ap (λ k. slice_range bytes 0 (0 + k)) count ∙ grind (arith, take_min 16 bytes)

-- the first bytes are those that were read
pub returns-clause-done : goal.returns-clause-done
unfolding zeros
returns-clause-done g c = λ honest.
    let n = g.F.Folder.number c.args.file.now in
    let bytes = (g.F.Folder.seen c.args.folder.now).disk.bytes n in
    let now = (g.F.Folder.seen c.len.new.self).disk.bytes n in
    let then = c.len.ensures.goes honest in
    let same : now ≡ bytes = ap (λ d. d.bytes n) then.reads in
    let is_len = c.in_ok-len.ensures.done honest in
    let is_min : c.min.result ≡ min c.in_ok-len.len 16 = search rules in
    let read = c.in_ok-read_at.ensures.done then.honest (within bytes now same c.min.result c.in_ok-len.len is_min is_len) in
    c.is_ours.ensures bytes (front bytes now same c.min.result c.in_ok-len.len is_min is_len c.read_at.new.out read) is_len
