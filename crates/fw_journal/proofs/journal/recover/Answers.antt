use Rattle.std.proofs.Common.{◌∙◌, refl}
use Rattle.fw_journal.specs.Book.{contents_of}
use Rattle.fw_journal.proofs.Blocks.{held_rest, none_dropped, held_first, refused_first}
use Rattle.fw_journal.proofs.Mends.{recovered_leaves}
use Rattle.fw_journal.proofs.journal.recover.Goals as goal

pub returns-in_err-shut-clause-any_moment : goal.returns-in_err-shut-clause-any_moment
returns-in_err-shut-clause-any_moment g c = λ honest.
    recovered_leaves g.D.JournalDevice.moment g.D.JournalDevice.left_since g.D.JournalDevice.honest g.D.JournalDevice.contents g.D.JournalDevice.may_leave c.args.device.now c.read_synced.new.device c.shut.new.device c.as_slice-bytes.result.now
    (contents_of c.in_ok-records.records.items) c.in_ok-records.end honest c.read_synced.ensures.kept.honesty (c.read_synced.ensures.same honest) (c.in_ok-bytes.ensures.synced honest) (c.as_slice-bytes.ensures.value ∙ c.in_ok-bytes.ensures.bytes honest)
    c.in_ok-records.ensures.records c.in_ok-records.ensures.end (c.read_synced.ensures.moments honest) (c.shut.ensures.any_moment (contents_of c.in_ok-records.records.items))

pub returns-clause-any_moment : goal.returns-clause-any_moment
returns-clause-any_moment g c = λ honest.
    recovered_leaves g.D.JournalDevice.moment g.D.JournalDevice.left_since g.D.JournalDevice.honest g.D.JournalDevice.contents g.D.JournalDevice.may_leave c.args.device.now c.read_synced.new.device c.shut.new.device c.as_slice-bytes.result.now
    (contents_of c.in_ok-records.records.items) c.in_ok-records.end honest c.read_synced.ensures.kept.honesty (c.read_synced.ensures.same honest) (c.in_ok-bytes.ensures.synced honest) (c.as_slice-bytes.ensures.value ∙ c.in_ok-bytes.ensures.bytes honest)
    c.in_ok-records.ensures.records c.in_ok-records.ensures.end (c.read_synced.ensures.moments honest) (c.shut.ensures.any_moment (contents_of c.in_ok-records.records.items))

-- one shut gate is all that follows
pub returns-then-is_whole-clause-dropped : goal.returns-then-is_whole-clause-dropped
returns-then-is_whole-clause-dropped g c = λ honest rest count drops some.
    absurd
    (none_dropped g.D.JournalDevice g.K.Keeper c.args.device.now c.read_synced.new.device c.args.keeper.now c.args.keeper.now c.as_slice-bytes.result.now (contents_of c.in_ok-records.records.items) c.in_ok-records.end
    (c.as_slice-bytes.ensures.value ∙ c.in_ok-bytes.ensures.bytes honest) c.in_ok-records.ensures.records c.in_ok-records.ensures.end (λ none. refl) (c.if-is_whole.ensures refl) rest count drops some)

-- if the keeper refuses, the device is only read
pub returns-in_err-keep_rest-clause-kept_first : goal.returns-in_err-keep_rest-clause-kept_first
returns-in_err-keep_rest-clause-kept_first g c = λ honest.
    refused_first g.D.JournalDevice g.K.Keeper c.args.device.now c.read_synced.new.device c.args.keeper.now c.keep_rest.new.keeper c.as_slice-bytes.result.now (contents_of c.in_ok-records.records.items) c.in_ok-records.end
    (c.as_slice-bytes.ensures.value ∙ c.in_ok-bytes.ensures.bytes honest) c.in_ok-records.ensures.records c.in_ok-records.ensures.end (λ none. (c.keep_rest.ensures.idle none).1) (record { same = c.read_synced.ensures.same honest; moments = c.read_synced.ensures.moments honest })

pub returns-in_err-shut-clause-kept_first : goal.returns-in_err-shut-clause-kept_first
returns-in_err-shut-clause-kept_first g c = λ honest.
    held_first g.D.JournalDevice g.K.Keeper c.args.device.now c.shut.new.device c.args.keeper.now c.keep_rest.new.keeper c.as_slice-bytes.result.now (contents_of c.in_ok-records.records.items) c.in_ok-records.end
    (c.as_slice-bytes.ensures.value ∙ c.in_ok-bytes.ensures.bytes honest) c.in_ok-records.ensures.records c.in_ok-records.ensures.end (λ none. (c.keep_rest.ensures.idle none).1) c.in_ok-keep_rest.ensures.held

pub returns-clause-dropped : goal.returns-clause-dropped
returns-clause-dropped g c = λ honest rest count drops some.
    held_rest g.D.JournalDevice g.K.Keeper c.args.device.now c.shut.new.device c.args.keeper.now c.keep_rest.new.keeper c.as_slice-bytes.result.now (contents_of c.in_ok-records.records.items) c.in_ok-records.end
    (c.as_slice-bytes.ensures.value ∙ c.in_ok-bytes.ensures.bytes honest) c.in_ok-records.ensures.records c.in_ok-records.ensures.end (λ none. (c.keep_rest.ensures.idle none).1) c.in_ok-keep_rest.ensures.held rest count drops some

pub returns-clause-kept_first : goal.returns-clause-kept_first
returns-clause-kept_first g c = λ honest.
    held_first g.D.JournalDevice g.K.Keeper c.args.device.now c.shut.new.device c.args.keeper.now c.keep_rest.new.keeper c.as_slice-bytes.result.now (contents_of c.in_ok-records.records.items) c.in_ok-records.end
    (c.as_slice-bytes.ensures.value ∙ c.in_ok-bytes.ensures.bytes honest) c.in_ok-records.ensures.records c.in_ok-records.ensures.end (λ none. (c.keep_rest.ensures.idle none).1) c.in_ok-keep_rest.ensures.held
