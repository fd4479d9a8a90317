use Rattle.std.proofs.Common.{◌≡◌, ◌<◌, ◌≤◌, ◌⊎◌, IsTrue, length, inl, inr, sym, subst, ◌∙◌, ap, List, ℕ}
use Rattle.fw_cuts.specs.Write.{max_journal}
use Rattle.fw_cuts.specs.Sectors.{Mends}
use Rattle.fw_cuts.specs.Both.{Both}
use Rattle.fw_cuts.specs.Rest.{IsRecovered}
use Rattle.fw_cuts.proofs.Goings.{if_ok, on_err, on_ok}
use Rattle.fw_cuts.proofs.recovery.recover.Goals as goal

pub returns-in-Some-clause-recovered : goal.returns-in-Some-clause-recovered
returns-in-Some-clause-recovered g c = λ honest.
    let a = g.F.StoreFiles.seen c.args.files.now in
    let b = g.F.StoreFiles.seen c.read_journal.new.files in
    let e = g.F.StoreFiles.seen c.mend.new.files in
    let same : b.held.store ≡ a.held.store = ap (λ (d : Both). d.store) (c.read_journal.ensures.goes honest).reads in
    on_ok c.mend.result (Mends c.in-Some.write b.held.store e.held.store) (IsRecovered a.held.journal a.held.store e.held.store)
    (λ mends. inl (
      c.in-Some.write,
      c.in-Some.ensures.fits,
      sym (c.in_ok-bytes.ensures.bytes honest) ∙ c.in-Some.ensures.some,
      subst (λ (l : List ℕ). Mends c.in-Some.write l e.held.store) same mends,
    ))
    (c.mend.ensures.mended honest)

pub returns-in-None-clause-recovered : goal.returns-in-None-clause-recovered
returns-in-None-clause-recovered g c = λ honest.
    let same = ap (λ (d : Both). d.store) (c.read_journal.ensures.goes honest).reads in
    inr (λ w is e. c.in-None.ensures.none w is (c.in_ok-bytes.ensures.bytes honest ∙ e), same)

-- what was read of the journal is no more than one has, whatever comes of the rest
pub returns-in-Some-clause-few : goal.returns-in-Some-clause-few
returns-in-Some-clause-few g c = λ honest.
    if_ok c.mend.result (length (g.F.StoreFiles.seen c.args.files.now).held.journal ≤ max_journal) (c.in_ok-bytes.ensures.few honest)

pub returns-in-Some-clause-refused : goal.returns-in-Some-clause-refused
returns-in-Some-clause-refused g c = λ honest.
    let long : Type 0 = max_journal < length (g.F.StoreFiles.seen c.args.files.now).held.journal in
    on_err c.mend.result (IsTrue g.F.StoreFiles.may_fail) (IsTrue g.F.StoreFiles.may_fail ⊎ long) (λ fails. inl fails) (c.mend.ensures.works honest)
