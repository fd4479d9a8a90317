use Rattle.std.proofs.Common.{List, [], ◌∷◌, ◌++◌, sym, ap, ◌∙◌}
use Rattle.fw_air.specs.Logs.{Appended}
use Rattle.fw_shared.specs.Acts.{Recording}
use Rattle.fw_air.specs.Events.{Receipt}
use Rattle.fw_shared.proofs.acts.Recording.record.Goals as goal

pub returns-clause-noted : goal.returns-clause-noted
returns-clause-noted g c =
    let receipts = c.args.receipts.now.items in
    let spent = sym c.spend-number.ensures ∙ c.append-stub.ensures.stub in
    c.push_reserved.ensures.items
    ∙ ap (λ (a : Appended). (let all : List Receipt = receipts ++ (record { number = a.number; event = a.event }) ∷ [] in all)) spent
    ∙ ap (λ (act : Recording _). (let all : List Receipt = receipts ++ (record { number = c.append-stub.result.0.event; event = act.event }) ∷ [] in all)) c.self.view_is
