use Rattle.std.proofs.Common.{◌≡◌, refl, sym, ap, ◌∙◌}
use Rattle.fw_apdu.specs.View.{request_content, request_invoke}
use Rattle.fw_server.specs.Meaning.{refused, meaning_of}
use Rattle.fw_server.specs.View.{planned_meaning}
use Rattle.fw_meter.proofs.Responding.{responds_value, responds_code}
use Rattle.fw_meter.proofs.meter.MeterCore.respond.Goals as goal

pub returns-in_ok-tell-in-Read-clause-step : goal.returns-in_ok-tell-in-Read-clause-step
returns-in_ok-tell-in-Read-clause-step g c =
    let heard = c.args.heard.now in
    responds_value c.args.self.now c.in-Read.reading heard.source (request_invoke heard.request) (request_content heard.request) _ _
    (ap planned_meaning (sym c.in-Read.is) ∙ c.plan.ensures) (rw c.unchanged.ensures c.in_ok-tell-in-Read.ensures.told) (rw c.unchanged.ensures refl)

pub returns-in_ok-code-in-Refused-clause-step : goal.returns-in_ok-code-in-Refused-clause-step
returns-in_ok-code-in-Refused-clause-step g c =
    let heard = c.args.heard.now in
    let content = request_content heard.request in
    let asks : refused c.in-Refused.code ≡ meaning_of content = ap planned_meaning (sym c.in-Refused.is) ∙ c.plan.ensures in
    responds_code c.args.self.now c.in-Refused.code heard.source (request_invoke heard.request) content _ _
    (c.request_refusals.ensures content c.in-Refused.code (sym asks)) asks
    (rw c.unchanged-in-Refused.ensures c.in_ok-code-in-Refused.ensures.told) (rw c.unchanged-in-Refused.ensures refl)
