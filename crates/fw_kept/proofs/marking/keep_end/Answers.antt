use Rattle.std.proofs.Common.{subst}
use Rattle.fw_head.specs.declared.news.News.{News}
use Rattle.fw_kept.specs.Private.{NewsMake}
use Rattle.fw_kept.proofs.marking.keep_end.Goals as goal

pub returns-in-Done-clause-waits : goal.returns-in-Done-clause-waits
returns-in-Done-clause-waits g c = λ head synced before next noted keeps makes.
    c.keep_row.ensures.waits head synced before next noted keeps (subst (λ (told : News). NewsMake told before next) c.in-Done.is makes)

pub returns-in-Failed-clause-waits : goal.returns-in-Failed-clause-waits
returns-in-Failed-clause-waits g c = λ head synced before next noted keeps makes.
    c.keep_row-in-Failed.ensures.waits head synced before next noted keeps (subst (λ (told : News). NewsMake told before next) c.in-Failed.is makes)
