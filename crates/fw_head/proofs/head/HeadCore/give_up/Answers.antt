use Rattle.std.proofs.Common.{◌≡◌, Some, refl, sym, ap, subst, ◌∙◌}
use Rattle.std.specs.Option.{option_copied}
use Rattle.fw_names.specs.Name.{Campaign}
use Rattle.fw_book.specs.Changes.{marked}
use Rattle.fw_book.specs.Contents.{Contents}
use Rattle.fw_book.specs.declared.row.RowState.TheVariants.{Failed}
use Rattle.fw_head.specs.declared.giving_up.GivenUp.{GivenUp}
use Rattle.fw_head.specs.Head.{GivesUpRow, Head, Rows, row_of}
use Rattle.fw_head.proofs.Endings.{head_ended_by, of_ok}
use Rattle.fw_head.proofs.head.HeadCore.give_up.Goals as goal

pub invariant_of-self : goal.invariant_of-self
invariant_of-self c =
    let row = c.in-Some.row.now in
    let old = c.self.inside.rows.rows.entries in
    let found : row_of old c.args.meter ≡ Some row = sym c.get.ensures ∙ ap option_copied c.in-Some.is in
    let of = ap (λ (g : GivenUp). g.campaign.serial) c.given_up-given.ensures in
    let mark = of_ok c.mark_failed.result _ c.expect_marked.ensures c.mark_failed.ensures.failed in
    head_ended_by c.states_follow.ensures c.images_stay.ensures c.self.inside.book c.mark_failed.new.self c.self.inside.width old c.end.new.self.rows.entries c.args.meter row c.given_up-given.result.campaign.serial Failed refl found of mark c.end.ensures c.self.invariant

pub returns-clause-given_up : goal.returns-clause-given_up
returns-clause-given_up c =
    let row = c.in-Some.row.now in
    let given = c.given_up-given.result in
    let old = c.self.inside.rows.rows.entries in
    let head : Head = record { book = c.self.inside.book; width = c.self.inside.width; rows = old } in
    let found : row_of old c.args.meter ≡ Some row = sym c.get.ensures ∙ ap option_copied c.in-Some.is in
    let of : given.campaign ≡ row.name.campaign = ap (λ (g : GivenUp). g.campaign) c.given_up-given.ensures in
    let mark = of_ok c.mark_failed.result _ c.expect_marked.ensures c.mark_failed.ensures.failed in
    let new : Head = record { book = c.mark_failed.new.self; width = head.width; rows = c.end.new.self.rows.entries } in
    subst (λ (h : Head). GivesUpRow h c.args.meter c.args.why given new) c.self.view_is (record {
      row = row;
      found = found;
      given_is = c.given_up-given.ensures;
      new_is = ap (λ (b : Contents). (let h : Head = record { book = b; width = head.width; rows = c.end.new.self.rows.entries } in h))
          (mark ∙ ap (λ (k : Campaign). marked head.book k.serial c.args.meter Failed) of)
          ∙ ap (λ (rs : Rows). (let h : Head = record { book = marked head.book row.name.campaign.serial c.args.meter Failed; width = head.width; rows = rs } in h)) c.end.ensures;
    })
