-- A header write, call after call, and what a cut at a moment of it leaves.
use Rattle.std.proofs.Common.{◌≡◌, inl, ℕ, List, refl, sym, subst, ◌∙◌, ap}
use Rattle.fw_cuts.specs.Write.{Write, IsWrite}
use Rattle.fw_cuts.specs.Sectors.{IsOn}
use Rattle.fw_cuts.specs.Laws.{OneWrite, EachCutIsMended, OneSectorIsWhole}
use Rattle.fw_cuts.specs.Both.{Both}
use Rattle.fw_cuts.specs.Cuts.{Seen, Goes, Stays, IsSynced}
use Rattle.fw_cuts.specs.Rest.{IsReadyFor, IsRecovered, SameOutside, IsAtRest, IsOldOrNew}
use Rattle.fw_cuts.specs.Private.{SameStore, Lays}
use Rattle.fw_cuts.specs.declared.files.Part.TheVariants.{Journal}
use Rattle.fw_cuts.proofs.Goings.{follow, widen, widen_from}
use Rattle.fw_cuts.proofs.Found.{same_as, readying, writing}

module _ (from to : ℕ) (a : Seen) (rest : IsAtRest from to a) (w : Write) where
  abbrev IsLeft : Both → Type 0
  IsLeft x = SameOutside from to a.held.store x.store × (x.journal ≡ a.held.journal)

  -- nothing is written yet
  abbrev Rests : Both → Both → Type 0
  Rests x y = (y ≡ x) × IsLeft x

  rests : (b : Seen) → Goes Stays a b → Goes Rests a b
  rests b goes = widen_from Stays Rests IsLeft a b goes (same_as from to a.held.store a.held.store refl, refl)
      (λ left may. (rest.outside left may, rest.journal left may)) (λ x y q is. (is, q))

  as_before : (x y : Both) → Rests x y → IsOldOrNew a.held w x y
  as_before x y r made found =
      inl (rest.quiet x.store made r.1.0
      (subst (λ (l : List ℕ). IsRecovered l x.store made) r.1.1 (subst (λ (d : Both). IsRecovered d.journal d.store made) r.0 found)))

  -- FILE is synced, and read
  pub in_reading : (b : Seen) → Goes Stays a b → Goes (IsOldOrNew a.held w) a b
  in_reading b goes = widen Rests (IsOldOrNew a.held w) a b (rests b goes) as_before

  module _ (fits : IsWrite w) (on : IsOn w a.held.store) (one : OneWrite) (mended : EachCutIsMended) (b : Seen) (reads : Goes Stays a b)
      (stored : (left : Both) → b.may_leave left → left.store ≡ a.held.store) (d : Seen) (readies : Goes SameStore b d) where
    -- FILE is as it was
    abbrev Keeps : Both → Both → Type 0
    Keeps x y = IsOldOrNew a.held w x y × (y.store ≡ x.store)

    ready_step : (x y z : Both) → Rests x y → y.store ≡ a.held.store → SameStore y z → Keeps x z
    ready_step x y z r is step =
        let same : y.store ≡ x.store = ap (λ (d : Both). d.store) r.0 in
        (readying a.held w one mended fits on from to rest.quiet x z (sym same ∙ is) (step ∙ is), step ∙ same)

    preparing : Goes Keeps a d
    preparing = follow Rests SameStore Keeps (λ y. y.store ≡ a.held.store) a b d (rests b reads)
        (ap (λ (d : Both). d.store) reads.reads) stored readies
        (λ x y r. (as_before x y r, ap (λ (d : Both). d.store) r.0)) ready_step

    -- the journal is made ready
    pub in_preparing : Goes (IsOldOrNew a.held w) a d
    in_preparing = widen Keeps (IsOldOrNew a.held w) a d preparing (λ x y k. k.0)

    -- the parts are written
    pub in_writing : IsReadyFor d.held.journal w → IsSynced Journal d → OneSectorIsWhole → (e : Seen) → Goes (Lays w a.held.store) d e → Goes (IsOldOrNew a.held w) a e
    in_writing ready journaled sector e lays =
        follow Keeps (Lays w a.held.store) (IsOldOrNew a.held w) (λ y. (y.store ≡ a.held.store) × IsReadyFor y.journal w) a d e preparing
        (readies.reads ∙ ap (λ (x : Both). x.store) reads.reads, ready)
        (λ left may.
        let y = readies.leaves left may in
        (y.2 ∙ stored y.0 y.1, subst (λ (l : List ℕ). IsReadyFor l w) (sym (journaled left may)) ready))
        lays (λ x y k. k.0)
        (λ x y z k q l. writing a.held w one mended fits on sector x y z (sym k.1 ∙ q.0) q.1 l.rest (l.lays q.0))
