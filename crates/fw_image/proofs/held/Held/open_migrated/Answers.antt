use Rattle.std.proofs.Common.{◌+◌, ◌≤◌, IsTrue, Err, false, arith, ◌∙◌}
use Rattle.fw_verify.specs.Slices.{slice_count}
use Rattle.fw_image.specs.Calls.{verified_size, opening_calls, restart_calls}
use Rattle.fw_image.specs.Moves.{migrating_writes}
use Rattle.fw_image.specs.Stored.{phase_of}
use Rattle.fw_image.proofs.Moves.{keeps_twice, counted_after}
use Rattle.fw_image.proofs.Openings.{not_refused, refused_fault}
use Rattle.fw_image.proofs.Migrating.{Reads, held_migrated, opens, opened_migrated, restart_of_header}
use Rattle.fw_image.proofs.held.Held.open_migrated.Goals as goal

pub of-requires : goal.of-requires
of-requires g c =
    let told = c.in-Ok-migrate.ensures in
    rw told.done
    (held_migrated (g.S.ImageStore.known c.examine.new.store) (g.S.ImageStore.known c.migrate.new.store) c.in-Ok.header c.migrated_is_header.ensures (g.met.S.ImageStore.sized c.examine.new.store) told.kept told.written c.in-Ok.ensures.held)

pub returns-in-Ok-migrate-clause-opened : goal.returns-in-Ok-migrate-clause-opened
returns-in-Ok-migrate-clause-opened g c =
    let known = g.S.ImageStore.known in
    let store = known c.args.store in
    let between = c.examine.new.store in
    let header = c.in-Ok.header in
    let read = c.in-Ok.ensures in
    let told = c.in-Ok-migrate.ensures in
    let reads : Reads store (known between) header = record { kept = read.kept; same = read.same; held = read.held; spends = read.spends } in
    rw (c.of.ensures, told.done)
    (opens store (known between) (known c.migrate.new.store) header c.migrated_is_header.ensures c.calls_add.ensures (g.met.S.ImageStore.sized c.args.store) reads told.kept told.written told.spends)

pub returns-in-Ok-migrate-clause-again : goal.returns-in-Ok-migrate-clause-again
returns-in-Ok-migrate-clause-again g c = λ meter is trusted honest sound.
    opened_migrated (g.S.ImageStore.known c.args.store) c.of.result meter c.one_header.ensures (returns-in-Ok-migrate-clause-opened g c) is honest

pub returns-in-Err-migrate-clause-refused : goal.returns-in-Err-migrate-clause-refused
returns-in-Err-migrate-clause-refused g c =
    let known = g.S.ImageStore.known in
    let store = known c.args.store in
    let between = c.examine.new.store in
    let header = c.in-Ok.header in
    let read = c.in-Ok.ensures in
    let told = c.in-Err-migrate.ensures in
    let still : IsTrue store.honest → IsTrue (known between).honest = λ honest. read.kept.honesty ∙ honest in
    let calls = 1 + slice_count header.running_size + slice_count (verified_size (phase_of header.status header.goal)) in
    refused_fault {T = Unit {0}} store (known c.migrate.new.store) (Err c.from.result) c.from.ensures (keeps_twice store (known between) (known c.migrate.new.store) read.kept told.kept) (λ honest. told.same (still honest) ∙ read.same honest)
    (counted_after false _ _ _ read.faultless told.cause.counted) (λ sound. told.cause.never (read.kept.soundness sound))
    (calls + migrating_writes header) (c.calls_add.ensures calls (migrating_writes header) _ _ _ false read.spends told.spends)

pub returns-in-Err-migrate-clause-cut : goal.returns-in-Err-migrate-clause-cut
returns-in-Err-migrate-clause-cut g c = λ meter is trusted honest.
    let known = g.S.ImageStore.known in
    let store = known c.args.store in
    let between = c.examine.new.store in
    let header = c.in-Ok.header in
    let read = c.in-Ok.ensures in
    let reads : Reads store (known between) header = record { kept = read.kept; same = read.same; held = read.held; spends = read.spends } in
    let calls = 1 + slice_count header.running_size + slice_count (verified_size (phase_of header.status header.goal)) in
    rw (restart_of_header store (known between) header meter c.one_header.ensures (g.met.S.ImageStore.sized c.args.store) reads is honest)
    (c.calls_add.ensures calls (migrating_writes header) _ _ _ false read.spends c.in-Err-migrate.ensures.spends)

pub returns-in-Err-clause-again : goal.returns-in-Err-clause-again
returns-in-Err-clause-again g c = λ meter is trusted honest sound.
    not_refused (g.S.ImageStore.known c.args.store) (g.S.ImageStore.known c.examine.new.store) c.in-Err.error meter c.one_header.ensures c.in-Err.ensures.refused is trusted honest sound

pub returns-in-Err-clause-cut : goal.returns-in-Err-clause-cut
returns-in-Err-clause-cut g c = λ meter is trusted honest.
    let more : opening_calls meter ≤ restart_calls meter = omega arith in
    c.calls_end.ensures (opening_calls meter) (restart_calls meter) _ _ more (c.in-Err.ensures.cut meter is trusted honest)
