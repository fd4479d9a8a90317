use Rattle.std.proofs.Common.{◌≡◌, nat_eq, Some, sym, ap, ◌∙◌}
use Rattle.std.specs.Map.{lookup}
use Rattle.std.specs.Option.{option_copied_mut}
use Rattle.fw_head.proofs.LiveRows.{own_of_row, rows_hear, unchanged_at, on_ok, on_err}
use Rattle.fw_head.proofs.rows.Rows.hear.Goals as goal

pub returns-in-Some-clause-heard : goal.returns-in-Some-clause-heard
returns-in-Some-clause-heard c =
    let found : lookup (nat_eq c.number.result) c.args.self.now.rows.entries ≡ Some c.in-Some.row.now = sym c.get_mut.ensures.value ∙ ap option_copied_mut c.in-Some.is in
    on_ok c.hear.result _ _
    (λ told hears. rows_hear c.number.result c.args.meter c.args.datagram.now told c.args.self.now.rows.entries _ c.in-Some.row.now c.hear.new.self c.number.ensures found (c.get_mut.follows.holds c.hear.new.self).0 hears)
    c.hear.ensures.heard

pub returns-in-Some-clause-same : goal.returns-in-Some-clause-same
returns-in-Some-clause-same c =
    let found : lookup (nat_eq c.number.result) c.args.self.now.rows.entries ≡ Some c.in-Some.row.now = sym c.get_mut.ensures.value ∙ ap option_copied_mut c.in-Some.is in
    on_err c.hear.result _ _
    (λ e same. unchanged_at c.number.result c.args.self.now.rows.entries _ c.in-Some.row.now c.hear.new.self found same (c.get_mut.follows.holds c.hear.new.self).0)
    c.hear.ensures.same

pub returns-in-Some-clause-claimed : goal.returns-in-Some-clause-claimed
returns-in-Some-clause-claimed c =
    let found : lookup (nat_eq c.number.result) c.args.self.now.rows.entries ≡ Some c.in-Some.row.now = sym c.get_mut.ensures.value ∙ ap option_copied_mut c.in-Some.is in
    on_ok c.hear.result _ _
    (λ told own row at. own_of_row c.number.result c.args.meter told c.args.self.now.rows.entries c.in-Some.row.now row c.number.ensures found at own)
    c.hear.ensures.claimed

pub returns-in-Some-clause-memory : goal.returns-in-Some-clause-memory
returns-in-Some-clause-memory c =
    let rows = c.args.self.now.rows.entries in
    let found : lookup (nat_eq c.number.result) rows ≡ Some c.in-Some.row.now = sym c.get_mut.ensures.value ∙ ap option_copied_mut c.in-Some.is in
    let at : lookup (nat_eq c.args.meter) rows ≡ Some c.in-Some.row.now = ap (λ k. lookup (nat_eq k) rows) (sym c.number.ensures) ∙ found in
    on_err c.hear.result _ _ (λ e want. (c.in-Some.row.now, at, want)) c.hear.ensures.memory
