use Rattle.std.proofs.Common.{◌<◌, ◌^◌, subst}
use Rattle.fw_keys.proofs.Written.{number_back}
use Rattle.fw_keys.proofs.names.MeterIdEndName.to_text.Goals as goal

pub returns-clause-back : goal.returns-clause-back
returns-clause-back c = λ shown. number_back c.args.self.now (subst (λ n. n < 2 ^ 32) c.number-number.ensures c.number-number.type_inv)
