use Rattle.std.proofs.Common.{◌≡◌, ℕ, List, Some, None, refl, sym, ap, ◌∙◌, arith}
use Rattle.std.specs.Option.{option_copied}
use Rattle.fw_head.specs.Row.{Row, ticked, bytes_of}
use Rattle.fw_head.specs.Head.{Head, Rows, row_of, at_meter, image_of, ticked_head}
use Rattle.fw_names.specs.Name.{Name, IsRelease}
use Rattle.fw_head.proofs.Offers.{unoffered, image_found}
use Rattle.fw_head.proofs.Offered.{offered_by}
use Rattle.fw_head.proofs.LiveRows.{at_meter-none, at_meter-alike, either_way, on_ok, on_err}
use Rattle.fw_head.proofs.SameRows.{agree_at, agree_all, keys_at, goes_ticked, head_kept_by}
use Rattle.fw_head.proofs.head.HeadCore.tick.Goals as goal

pub invariant_of-self : goal.invariant_of-self
invariant_of-self c =
    let rows = c.self.inside.rows.rows.entries in
    let change = λ (row : Row). ticked row c.image.result.now c.self.inside.width in
    either_way c.tick.result _
    (on_ok c.tick.result _ _ (λ x new. head_kept_by c.self.inside.book c.self.inside.width rows (at_meter c.args.meter change rows) c.tick.new.self.rows.entries new (keys_at c.args.meter change rows) (agree_at c.args.meter change rows (λ row found. goes_ticked row c.image.result.now c.self.inside.width)) c.self.invariant) c.tick.ensures.ticked)
    (on_err c.tick.result _ _ (λ e new. head_kept_by c.self.inside.book c.self.inside.width rows rows c.tick.new.self.rows.entries new refl (agree_all rows) c.self.invariant) c.tick.ensures.same)

pub unreachable-requires : goal.unreachable-requires
unreachable-requires c =
    let rows = c.self.inside.rows.rows.entries in
    let found : row_of rows c.args.meter ≡ Some c.in-Some.row.now = sym c.get.ensures ∙ ap option_copied c.in-Some.is in
    let is = c.self.invariant.of_book c.args.meter c.in-Some.row.now found in
    unoffered c.self.inside.book c.campaign.inside.campaign c.in-Some.row.now.name.campaign c.in-Some.row.now.name (ap (λ (n : Name). n.campaign) (c.campaign.view_is ∙ c.name.ensures))
    (sym c.offer.ensures.offer ∙ ap option_copied c.in-None-offer.is) is.named

pub returns-clause-ticked : goal.returns-clause-ticked
returns-clause-ticked c =
    let rows = c.self.inside.rows.rows.entries in
    let head : Head = record { book = c.self.inside.book; width = c.self.inside.width; rows = rows } in
    let row = c.in-Some.row.now in
    let found : row_of rows c.args.meter ≡ Some row = sym c.get.ensures ∙ ap option_copied c.in-Some.is in
    let offered = sym c.offer.ensures.offer ∙ ap option_copied c.in-Some-offer.is in
    let image : c.image.result.now ≡ image_of head row = c.image.ensures ∙ image_found c.self.inside.book c.campaign.inside.campaign row.name.campaign c.in-Some-offer.offer.now (ap (λ (n : Name). n.campaign) (c.campaign.view_is ∙ c.name.ensures)) offered in
    let alike = at_meter-alike c.args.meter (λ (r : Row). ticked r c.image.result.now head.width) (λ (r : Row). ticked r (image_of head r) head.width) rows row found (ap (λ (bytes : List ℕ). ticked row bytes head.width) image) in
    on_ok c.tick.result _ _
    (λ x new. ap (λ (rs : Rows). (let h : Head = record { book = head.book; width = head.width; rows = rs } in h)) (new ∙ alike) ∙ ap (λ (h : Head). ticked_head h c.args.meter) c.self.view_is)
    c.tick.ensures.ticked

pub returns-in-None-clause-ticked : goal.returns-in-None-clause-ticked
returns-in-None-clause-ticked c =
    let rows = c.self.inside.rows.rows.entries in
    let head : Head = record { book = c.self.inside.book; width = c.self.inside.width; rows = rows } in
    let absent : row_of rows c.args.meter ≡ None = sym c.get.ensures ∙ ap option_copied c.in-None.is in
    let same = at_meter-none c.args.meter (λ (r : Row). ticked r (image_of head r) head.width) rows absent in
    sym c.self.view_is
    ∙ ap (λ (rs : Rows). (let h : Head = record { book = head.book; width = head.width; rows = rs } in h)) (sym same)
    ∙ ap (λ (h : Head). ticked_head h c.args.meter) c.self.view_is

pub returns-clause-permitted : goal.returns-clause-permitted
returns-clause-permitted c =
    let book = c.self.inside.book in
    let row = c.in-Some.row.now in
    let found : row_of c.self.inside.rows.rows.entries c.args.meter ≡ Some row = sym c.get.ensures ∙ ap option_copied c.in-Some.is in
    let is = c.self.invariant.of_book c.args.meter row found in
    let offered = sym c.offer.ensures.offer ∙ ap option_copied c.in-Some-offer.is in
    let name : Name = record { campaign = c.campaign.inside.campaign; release = c.campaign.inside.release; digest = c.campaign.inside.digest } in
    let fits = c.campaign.ranges.1.0 in
    let release : IsRelease name.campaign name.release = record { fits = omega arith; none = c.campaign.invariant } in
    on_ok c.tick.result _ _
    (λ sent may. offered_by book c.args.self.now.book c.args.meter row name c.in-Some-offer.offer.now c.image.result.now (bytes_of sent.items) (ap (λ (h : Head). h.book) c.self.view_is) is
    (c.campaign.view_is ∙ c.name.ensures) offered release c.image.ensures (may row found))
    c.tick.ensures.permitted
