use Rattle.std.proofs.Common.{◌≡◌, Some, refl, sym, ap, subst, ◌∙◌}
use Rattle.std.specs.Option.{option_copied}
use Rattle.fw_names.specs.Name.{Name}
use Rattle.fw_book.specs.declared.row.RowState.TheVariants.{Done, Failed}
use Rattle.fw_book.specs.Changes.{marked}
use Rattle.fw_head.specs.declared.news.RowNews.{RowNews}
use Rattle.fw_head.specs.Row.{reason_of}
use Rattle.fw_head.specs.Head.{Head, Rows, RowsHear, RowsMayWant, HeadHears, TellsReason, row_of, without_meter, news_of}
use Rattle.fw_head.proofs.Offers.{is_marked, claim_meter}
use Rattle.fw_head.proofs.Endings.{head_ended_by, of_ok}
use Rattle.fw_head.proofs.LiveRows.{told_err}
use Rattle.fw_head.proofs.SameRows.{TellsNoEnd, head_heard}
use Rattle.fw_head.proofs.FailedIn.{tells_reason}
use Rattle.fw_head.proofs.TakenOut.{taken_heard, hears_nothing, hears_moved, hears_done, hears_failed}
use Rattle.fw_head.proofs.head.HeadCore.take.Goals.{in-Nothing, in-Moved, in-Done, in-Failed}
use Rattle.fw_head.proofs.head.HeadCore.take.Goals as goal

pub invariant_of-self-in-Nothing : goal.invariant_of-self-in-Nothing
invariant_of-self-in-Nothing c =
    head_heard c.self.inside.book c.self.inside.width c.self.inside.rows.rows.entries c.hear.new.self.rows.entries c.args.from c.args.datagram.now c.in_ok-heard.heard c.in_ok-heard.ensures.heard (subst TellsNoEnd (sym c.in-Nothing.is) tt) c.self.invariant

pub invariant_of-self-in-Moved : goal.invariant_of-self-in-Moved
invariant_of-self-in-Moved c =
    head_heard c.self.inside.book c.self.inside.width c.self.inside.rows.rows.entries c.hear.new.self.rows.entries c.args.from c.args.datagram.now c.in_ok-heard.heard c.in_ok-heard.ensures.heard (subst TellsNoEnd (sym c.in-Moved.is) tt) c.self.invariant

pub expect_marked-requires : goal.expect_marked-requires
expect_marked-requires c =
    let row = c.in-Some.row.now in
    let found : row_of c.self.inside.rows.rows.entries c.args.from ≡ Some row = sym c.get.ensures ∙ ap option_copied c.in-Some.is in
    is_marked c.self.inside.book c.args.from row c.campaign.inside.campaign c.in_ok-heard.heard c.in-Done.claim c.mark_done.result
    (c.self.invariant.of_book c.args.from row found) (ap (λ (n : Name). n.campaign) (c.campaign.view_is ∙ c.name.ensures)) c.in-Done.is (c.in_ok-heard.ensures.claimed row found) c.mark_done.ensures.refused

pub invariant_of-self-in-Failed : goal.invariant_of-self-in-Failed
invariant_of-self-in-Failed c =
    let row = c.in-Some.row.now in
    let old = c.self.inside.rows.rows.entries in
    let found : row_of old c.args.from ≡ Some row = sym c.get.ensures ∙ ap option_copied c.in-Some.is in
    let of : c.campaign.inside.campaign.serial ≡ row.name.campaign.serial = ap (λ (n : Name). n.campaign.serial) (c.campaign.view_is ∙ c.name.ensures) in
    let mark = of_ok c.mark_failed.result _ c.expect_marked-in-Failed.ensures c.mark_failed.ensures.failed in
    let out = c.end-in-Failed.ensures ∙ taken_heard old c.hear.new.self.rows.entries c.args.from c.args.datagram.now c.in_ok-heard.heard c.in_ok-heard.ensures.heard in
    head_ended_by c.states_follow.ensures c.images_stay.ensures c.self.inside.book c.mark_failed.new.self c.self.inside.width old c.end-in-Failed.new.self.rows.entries c.args.from row c.campaign.inside.campaign.serial Failed refl found of mark out c.self.invariant

pub invariant_of-self-in-Done : goal.invariant_of-self-in-Done
invariant_of-self-in-Done c =
    let row = c.in-Some.row.now in
    let old = c.self.inside.rows.rows.entries in
    let found : row_of old c.args.from ≡ Some row = sym c.get.ensures ∙ ap option_copied c.in-Some.is in
    let of : c.campaign.inside.campaign.serial ≡ row.name.campaign.serial = ap (λ (n : Name). n.campaign.serial) (c.campaign.view_is ∙ c.name.ensures) in
    let mark = of_ok c.mark_done.result _ c.expect_marked.ensures c.mark_done.ensures.done in
    let meter = claim_meter c.args.from row c.in_ok-heard.heard c.in-Done.claim (c.self.invariant.of_book c.args.from row found) c.in-Done.is (c.in_ok-heard.ensures.claimed row found) in
    let at_meter = ap (λ m. marked c.self.inside.book c.campaign.inside.campaign.serial m Done) meter in
    let out = c.end.ensures ∙ taken_heard old c.hear.new.self.rows.entries c.args.from c.args.datagram.now c.in_ok-heard.heard c.in_ok-heard.ensures.heard in
    head_ended_by c.states_follow.ensures c.images_stay.ensures c.self.inside.book c.mark_done.new.self c.self.inside.width old c.end.new.self.rows.entries c.args.from row c.campaign.inside.campaign.serial Done refl found of (mark ∙ at_meter) out c.self.invariant

pub returns-clause-heard : goal.returns-clause-heard
returns-clause-heard c =
    let old = c.self.inside.rows.rows.entries in
    let rows = c.hear.new.self.rows.entries in
    let head : Head = record { book = c.self.inside.book; width = c.self.inside.width; rows = old } in
    let row = c.in-Some.row.now in
    let found : row_of old c.args.from ≡ Some row = sym c.get.ensures ∙ ap option_copied c.in-Some.is in
    let P : Head → Type 0 = λ h. HeadHears h c.args.from c.args.datagram.now c.match-heard.news c.match-heard.self in
    let Q : RowNews → Type 0 = λ told. RowsHear old c.args.from c.args.datagram.now told rows in
    let of : c.campaign.inside.campaign ≡ row.name.campaign = ap (λ (n : Name). n.campaign) (c.campaign.view_is ∙ c.name.ensures) in
    subst P c.self.view_is (elim c.match-heard.branch [
      | in-Nothing w ↦ hears_nothing head c.match-heard.self c.args.from c.args.datagram.now rows row c.match-heard.news (subst Q w.in-Nothing.is c.in_ok-heard.ensures.heard) found w.self-is w.news-is
      | in-Moved w ↦ hears_moved head c.match-heard.self c.args.from c.args.datagram.now rows row c.match-heard.news (subst Q w.in-Moved.is c.in_ok-heard.ensures.heard) found w.self-is w.news-is
      | in-Done w ↦
          let mark = of_ok w.mark_done.result _ w.expect_marked.ensures w.mark_done.ensures.done in
          let meter = claim_meter c.args.from row c.in_ok-heard.heard w.in-Done.claim (c.self.invariant.of_book c.args.from row found) w.in-Done.is (c.in_ok-heard.ensures.claimed row found) in
          let book = mark ∙ ap (λ m. marked head.book c.campaign.inside.campaign.serial m Done) meter in
          let end = ap (λ (rs : Rows). (let h : Head = record { book = w.mark_done.new.self; width = head.width; rows = rs } in h)) w.end.ensures in
          let marks = ap (λ b. (let h : Head = record { book = b; width = head.width; rows = without_meter c.args.from rows } in h)) book in
          hears_done head c.match-heard.self c.args.from c.args.datagram.now rows row c.match-heard.news w.in-Done.claim c.campaign.inside.campaign (subst Q w.in-Done.is c.in_ok-heard.ensures.heard) found of (w.self-is ∙ end ∙ marks) w.news-is
      | in-Failed w ↦
          let mark = of_ok w.mark_failed.result _ w.expect_marked-in-Failed.ensures w.mark_failed.ensures.failed in
          let end = ap (λ (rs : Rows). (let h : Head = record { book = w.mark_failed.new.self; width = head.width; rows = rs } in h)) w.end-in-Failed.ensures in
          let marks = ap (λ b. (let h : Head = record { book = b; width = head.width; rows = without_meter c.args.from rows } in h)) mark in
          hears_failed head c.match-heard.self c.args.from c.args.datagram.now rows row c.match-heard.news w.in-Failed.field-0 c.campaign.inside.campaign (subst Q w.in-Failed.is c.in_ok-heard.ensures.heard) found of (w.self-is ∙ end ∙ marks) w.news-is
    ])

pub returns-in_err-heard-clause-memory : goal.returns-in_err-heard-clause-memory
returns-in_err-heard-clause-memory c =
    let P : Head → Type 0 = λ h. RowsMayWant h.rows c.args.from c.args.datagram.now in
    told_err c.from_residual.result (P c.args.self.now) (subst P c.self.view_is c.in_err-heard.ensures.memory)

pub returns-clause-reason : goal.returns-clause-reason
returns-clause-reason c =
    let old = c.self.inside.rows.rows.entries in
    let rows = c.hear.new.self.rows.entries in
    let head : Head = record { book = c.self.inside.book; width = c.self.inside.width; rows = old } in
    let row = c.in-Some.row.now in
    let campaign = c.campaign.inside.campaign in
    let heard = c.in_ok-heard.heard in
    let news = c.match-heard.news in
    let found : row_of old c.args.from ≡ Some row = sym c.get.ensures ∙ ap option_copied c.in-Some.is in
    let of : campaign ≡ row.name.campaign = ap (λ (n : Name). n.campaign) (c.campaign.view_is ∙ c.name.ensures) in
    let told : news ≡ news_of campaign c.args.from heard = elim c.match-heard.branch [
      | in-Nothing w ↦ w.news-is ∙ ap (λ h. news_of campaign c.args.from h) (sym w.in-Nothing.is)
      | in-Moved w ↦ w.news-is ∙ ap (λ h. news_of campaign c.args.from h) (sym w.in-Moved.is)
      | in-Done w ↦ w.news-is ∙ ap (λ h. news_of campaign c.args.from h) (sym w.in-Done.is)
      | in-Failed w ↦ w.news-is ∙ ap (λ h. news_of campaign c.args.from h) (sym w.in-Failed.is)
    ] in
    let same : c.match-heard.heard ≡ heard = elim c.match-heard.branch [
      | in-Nothing w ↦ w.heard-is
      | in-Moved w ↦ w.heard-is
      | in-Done w ↦ w.heard-is ∙ sym w.in-Done.is
      | in-Failed w ↦ w.heard-is
    ] in
    let P : Head → Type 0 = λ h. TellsReason h c.args.from c.args.datagram.now news c.reason.result in
    subst P c.self.view_is (tells_reason c.failed_by_answer.ensures head c.self.invariant c.args.from c.args.datagram.now rows row campaign heard news c.reason.result
    c.in_ok-heard.ensures.heard found of told (c.reason.ensures ∙ ap reason_of same))
