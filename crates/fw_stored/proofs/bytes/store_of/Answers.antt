use Rattle.std.proofs.Common.{refl}
use Rattle.fw_store.specs.Versions.{bytes_of}
use Rattle.fw_stored.proofs.Reading.{read_from}
use Rattle.fw_stored.proofs.bytes.store_of.Goals as goal

pub returns-in-Ok-clause-read : goal.returns-in-Ok-clause-read
returns-in-Ok-clause-read c =
    let found = c.in-Some.found in
    read_from c.args.bytes.now found.capacity c.in-Ok.store (bytes_of found.head) _ _ c.in-Some.ensures.store c.in-Ok.ensures.size c.in-Ok.ensures.device c.in-Ok.ensures.unfused
    c.in-Some.ensures.head refl refl

pub returns-in-Err-clause-memory : goal.returns-in-Err-clause-memory
returns-in-Err-clause-memory c is = (c.in-Some.found.capacity, c.in-Some.ensures.store)
