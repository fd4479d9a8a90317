use Rattle.std.proofs.Common.{◌≡◌, ℕ, []}
use Rattle.fw_cuts.specs.Cuts.{IsSynced, NoneLost, LosesNoMore}
use Rattle.fw_cuts.specs.Rest.{IsAtRest}
use Rattle.fw_cuts.specs.declared.files.Part.TheVariants.{Store, Journal}
use Rattle.fw_cuts.proofs.Goings.{store_synced, on_ok_4}
use Rattle.fw_cuts.proofs.Resting.{all_rests}
use Rattle.fw_cuts.proofs.recovery.settle.Goals as goal

pub returns-clause-at_rest : goal.returns-clause-at_rest
returns-clause-at_rest g c = λ honest.
    let b = g.F.StoreFiles.seen c.write_again.new.files in
    let e = g.F.StoreFiles.seen c.empty_journal.new.files in
    let again = c.in_ok-write_again.ensures.written honest in
    on_ok_4 c.empty_journal.result (e.held.journal ≡ []) (IsSynced Journal e) (NoneLost Journal e) (LosesNoMore b e) ((from to : ℕ) → IsAtRest from to e)
    (λ none journaled found lost. λ from to.
    all_rests from to e (λ i is. again.found i (lost Store i is)) found (store_synced b e (c.empty_journal.ensures.goes honest) again.synced) journaled none)
    (c.empty_journal.ensures.done honest) (c.empty_journal.ensures.synced honest) (c.empty_journal.ensures.found honest) (c.empty_journal.ensures.lost honest)
