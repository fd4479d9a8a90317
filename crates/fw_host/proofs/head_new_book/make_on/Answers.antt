use Rattle.std.proofs.Common.{Bool, IsTrue, ℕ, ap, ◌∙◌, subst}
use Rattle.fw_book.specs.Changes.{empty_book}
use Rattle.fw_head.specs.Head.{Head}
use Rattle.fw_kept.specs.Kept.{HasBook}
use Rattle.fw_host.proofs.head_new_book.make_on.Goals as goal

-- what is made is on the device before it is named
pub finish-requires : goal.finish-requires
finish-requires g c = λ honest.
    let D = g.D.JournalDevice in
    let head = c.args.head in
    let same = c.device.ensures.value in
    let was : IsTrue (D.honest c.args.device) = subst (λ (b : Bool). IsTrue b) (ap D.honest same ∙ c.in-Ok.ensures.kept.honesty) honest in
    let own = ap (λ (h : Head). h.book.head) c.in-Ok.ensures.head in (
      head,
      λ left may. subst (λ (k : ℕ). HasBook k left (empty_book head)) own
          (c.device.ensures.each_cut (empty_book head) (c.in-Ok.ensures.made was) left (subst (λ d. D.may_leave d left) same may)),
    )
