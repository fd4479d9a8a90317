use Rattle.std.proofs.Common.{rules, ◌≡◌, true, length, min, take, sym, ◌∙◌}
use Rattle.std.proofs.lemmas.Bool.Decides.{Decides-eqb}
use Rattle.std.proofs.lemmas.Slice.Eq.{slice_eq-Decides}
use Rattle.fw_host.proofs.Makings.{front_part, form_part}
use Rattle.fw_host.proofs.capture_making.begins_as.Goals as goal

pub returns : goal.returns
returns c = λ all is.
    let front = c.args.front.now in
    let form = c.args.form.now in
    let count = c.min-count.result in
    let sixteen : length form ≡ 16 = search rules in
    let count_is : count ≡ min (length front) 16 = search rules in
    let left : take count front ≡ take 16 all = front_part all front form count is sixteen count_is in
    let right : take count form ≡ take (length all) form = form_part all front form count is sixteen count_is in
    let decides = slice_eq-Decides Decides-eqb (take count front) (take count form) _ c.eq.ensures in (
      λ told.
          let yes : c.eq.result ≡ true = search rules in
          sym left ∙ decides.0 yes ∙ right,
      λ same.
          let yes : c.eq.result ≡ true = decides.1 (left ∙ same ∙ sym right) in
          search rules,
    )
