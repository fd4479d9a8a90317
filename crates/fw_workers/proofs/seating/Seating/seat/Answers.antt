use Rattle.std.proofs.Common.{◌≡◌, ◌+◌, ◌/◌, ◌∷◌, ◌++◌, [], map, min, refl, ap, sym, ◌∙◌, arith}
use Rattle.std.proofs.lemmas.List.{map_push}
use Rattle.std.proofs.lemmas.List.Elements.{All-push}
use Rattle.std.specs.Vec.{vec_len}
use Rattle.fw_workers.specs.Private.{halves, left_after, numbers}
use Rattle.fw_workers.proofs.Seats.{left_next, next_is}
use Rattle.fw_workers.proofs.seating.Seating.seat.Goals as goal

pub loop-share-preserved : goal.loop-share-preserved
loop-share-preserved g c =
    let old = c.loop-share.jobs.items in
    let was = c.loop-share.invariant in
    let pushed = c.in_ok-push.ensures.items in
    let many : vec_len c.push.new.self ≡ vec_len c.loop-share.jobs + 1 = c.in_ok-push.ensures.len in
    let marks = c.args.self.now.seat.allowance in
    let half : c.in_ok-seat.seat.allowance ≡ left_after marks (vec_len c.loop-share.jobs) / 2 =
    ap (λ s. s.allowance) c.in_ok-seat.ensures.second ∙ ap (λ n. n / 2) (c.allowance-marks.ensures ∙ was.left) in
    record {
      seats = rw pushed
          (All-push (λ job. job.seat.board ≡ c.loop-share.self.shared.board.id) old _ was.seats (ap (λ s. s.board) c.in_ok-seat.ensures.second));
      shares = ap (map (λ job. job.share)) pushed ∙ map_push (λ job. job.share) old _ ∙ ap (λ xs. xs ++ c.in-Some.share ∷ []) was.shares;
      workers = rw pushed (All-push (λ job. job.workers ≡ c.len-workers.result) old _ was.workers refl);
      next = omega (arith, c.saturating_add-number.ensures, many, was.next);
      numbers = ap (map (λ job. job.number)) pushed
          ∙ next_is (λ job. job.number) (λ k. min k 4294967295) old _ (vec_len c.loop-share.jobs) was.numbers was.next
          ∙ ap numbers (sym many);
      left = ap (λ s. s.allowance) c.in_ok-seat.ensures.first
          ∙ left_next marks (vec_len c.loop-share.jobs) c.loop-share.self.seat.allowance c.allowance-marks.result (vec_len c.push.new.self)
          was.left c.allowance-marks.ensures many;
      marks = ap (map (λ job. job.seat.allowance)) pushed
          ∙ next_is (λ job. job.seat.allowance) (λ k. left_after marks k / 2) old _ (vec_len c.loop-share.jobs) was.marks half
          ∙ ap (halves marks) (sym many);
    }
