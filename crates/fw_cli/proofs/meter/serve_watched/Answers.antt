use Rattle.std.proofs.Common.{[], refl}
use Rattle.fw_cli.proofs.Sayings.{said_none}
use Rattle.fw_cli.proofs.meter.serve_watched.Goals as goal

pub returns-clause-lines : goal.returns-clause-lines
returns-clause-lines g c = (c.serve_noted.ensures.watched.told c.args.teller.now [] (refl, refl, said_none _ _)).0

pub returns-clause-writer : goal.returns-clause-writer
returns-clause-writer g c = (c.serve_noted.ensures.watched.told c.args.teller.now [] (refl, refl, said_none _ _)).1

pub returns-clause-told : goal.returns-clause-told
returns-clause-told g c =
    let watched = c.serve_noted.ensures.watched in
    record { rounds = watched.rounds; made = watched.made; said = (watched.told c.args.teller.now [] (refl, refl, said_none _ _)).2 }
