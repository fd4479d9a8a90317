use Rattle.std.proofs.Common.{◌≡◌, ℕ, rules, subst}
use Rattle.fw_wrapper.specs.Wrapper.{Wraps}
use Rattle.fw_daemon.proofs.telling.request_in.Goals as goal

pub returns-in-Ok-read_request-clause-brought : goal.returns-in-Ok-read_request-clause-brought
returns-in-Ok-read_request-clause-brought c =
    let frame = c.in-Ok.frame in
    let here : frame.dest ≡ 1 = search rules in (
      frame.source,
      record {
        apdu = frame.apdu.now;
        wraps = subst (λ (dest : ℕ). Wraps c.args.datagram.now frame.source dest frame.apdu.now) here c.in-Ok.ensures.found;
        spells = c.in-Ok-read_request.ensures.found;
      },
    )

-- the datagram carries one APDU, and that is no request
pub returns-in-Err : goal.returns-in-Err
returns-in-Err c = record {
  brought = λ source invoke content b. let same = c.split.ensures.unique source 1 b.apdu b.wraps in search rules;
  memory = tt;
}
