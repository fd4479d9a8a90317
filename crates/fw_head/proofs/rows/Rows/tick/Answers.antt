use Rattle.std.proofs.Common.{◌≡◌, nat_eq, Option, Some, None, sym, ap, subst, ◌∙◌}
use Rattle.std.specs.Prelude.{IsSomeAnd}
use Rattle.std.specs.Map.{lookup}
use Rattle.std.specs.Option.{option_copied_mut}
use Rattle.fw_head.specs.Phase.{IsLive}
use Rattle.fw_head.specs.Row.{Row, ticked, bytes_of}
use Rattle.fw_head.proofs.LiveRows.{changed_at, unchanged_at, none_at, on_ok, on_err}
use Rattle.fw_head.proofs.Offered.{permitted_of}
use Rattle.fw_head.proofs.rows.Rows.tick.Goals as goal

pub returns-in-Some-clause-ticked : goal.returns-in-Some-clause-ticked
returns-in-Some-clause-ticked c =
    let found : lookup (nat_eq c.number.result) c.args.self.now.rows.entries ≡ Some c.in-Some.row.now = sym c.get_mut.ensures.value ∙ ap option_copied_mut c.in-Some.is in
    on_ok c.tick.result _ _
    (λ x written. changed_at c.number.result c.args.meter (λ (row : Row). ticked row c.args.image.now c.args.width) c.args.self.now.rows.entries _ c.in-Some.row.now c.tick.new.self c.number.ensures found written (c.get_mut.follows.holds c.tick.new.self).0)
    c.tick.ensures.ticked

pub returns-in-Some-clause-same : goal.returns-in-Some-clause-same
returns-in-Some-clause-same c =
    let found : lookup (nat_eq c.number.result) c.args.self.now.rows.entries ≡ Some c.in-Some.row.now = sym c.get_mut.ensures.value ∙ ap option_copied_mut c.in-Some.is in
    on_err c.tick.result _ _
    (λ e same. unchanged_at c.number.result c.args.self.now.rows.entries _ c.in-Some.row.now c.tick.new.self found same (c.get_mut.follows.holds c.tick.new.self).0)
    c.tick.ensures.same

pub returns-in-None-clause-ticked : goal.returns-in-None-clause-ticked
returns-in-None-clause-ticked c =
    let absent : lookup (nat_eq c.number.result) c.args.self.now.rows.entries ≡ None = sym c.get_mut.ensures.value ∙ ap option_copied_mut c.in-None.is in
    none_at c.number.result c.args.meter (λ (row : Row). ticked row c.args.image.now c.args.width) c.args.self.now.rows.entries _ c.number.ensures absent (ap (λ m. m.entries) c.get_mut.follows.holds-at-none)

pub returns-in-Some-clause-permitted : goal.returns-in-Some-clause-permitted
returns-in-Some-clause-permitted c =
    let found : lookup (nat_eq c.number.result) c.args.self.now.rows.entries ≡ Some c.in-Some.row.now = sym c.get_mut.ensures.value ∙ ap option_copied_mut c.in-Some.is in
    on_ok c.tick.result _ _
    (λ sent may row at. permitted_of c.number.result c.args.meter c.args.image.now (bytes_of sent.items) c.args.self.now.rows.entries c.in-Some.row.now row c.number.ensures found at may)
    c.tick.ensures.permitted

pub returns-in-Some-clause-memory : goal.returns-in-Some-clause-memory
returns-in-Some-clause-memory c =
    let rows = c.args.self.now.rows.entries in
    let found : lookup (nat_eq c.number.result) rows ≡ Some c.in-Some.row.now = sym c.get_mut.ensures.value ∙ ap option_copied_mut c.in-Some.is in
    let at : lookup (nat_eq c.args.meter) rows ≡ Some c.in-Some.row.now = ap (λ k. lookup (nat_eq k) rows) (sym c.number.ensures) ∙ found in
    let P : Option Row → Type 0 = λ o. IsSomeAnd o (λ row. IsLive row.stage) in
    on_err c.tick.result _ _ (λ e live. subst P (sym at) live) c.tick.ensures.memory
