use Rattle.std.proofs.Common.{rules, arith, length-drop, ◌≡◌, ◌+◌, ◌-◌, ◌≤◌, List, ℕ, length, take, drop, slice_range, ap, ◌∙◌}
use Rattle.std.proofs.lemmas.List.{take_all}
use Rattle.fw_cuts.specs.Write.{Write}
use Rattle.fw_cuts.specs.Both.{Both}
use Rattle.fw_cuts.proofs.header.write_to.Goals as goal

pub returns-then-fits-clause-write : goal.returns-then-fits-clause-write
returns-then-fits-clause-write g c = λ h.
    let same : (g.F.StoreFiles.seen c.size_from.new.files).held ≡ (g.F.StoreFiles.seen c.args.files.now).held = (c.size_from.ensures.goes h).reads in
    let stood : List ℕ = (g.F.StoreFiles.seen c.args.files.now).held.store in
    let read = ap (λ (d : Both). slice_range d.store c.args.at (c.args.at + length (take (length c.args.bytes.now) c.split_at_mut-before.result.0.now))) same in
    let read_front = c.in_ok-read_both.ensures.front h in
    let read_last = c.in_ok-read_both.ensures.last h in
    let front : c.read_both.new.front ≡ slice_range stood c.args.at (c.args.at + length c.args.bytes.now) = search rules in
    let size : c.args.last_at + c.in-Some.size ≡ length stood = search rules in
    let place : length (take c.in-Some.size c.split_at_mut-before.result.1.now) ≡ c.in-Some.size = search rules in
    let end : c.args.last_at + length (take c.in-Some.size c.split_at_mut-before.result.1.now) ≡ length stood = ap (λ (n : ℕ). c.args.last_at + n) place ∙ size in
    let to_end : c.read_both.new.last ≡ slice_range stood c.args.last_at (length stood) = search rules in
    let count : length (drop c.args.last_at stood) ≡ length stood - c.args.last_at = length-drop c.args.last_at stood in
    let rest : length (drop c.args.last_at stood) ≤ length stood - c.args.last_at = omega arith in
    let last : c.read_both.new.last ≡ drop c.args.last_at stood =
    to_end ∙ take_all (length stood - c.args.last_at) (drop c.args.last_at stood) rest in
    ap (λ (l : List ℕ). write_of l c.read_both.new.last) front
    ∙ ap (λ (l : List ℕ). write_of (slice_range stood c.args.at (c.args.at + length c.args.bytes.now)) l) last
  where
    write_of : List ℕ → List ℕ → Write
    write_of before last_before = record {
      at = c.args.at;
      before = before;
      after = c.args.bytes.now;
      last_at = c.args.last_at;
      last_before = last_before;
      last_after = c.args.last.now;
    }
