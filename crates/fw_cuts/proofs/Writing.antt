-- A header write, as its code has it: what it is of what FILE had at first.
use Rattle.std.proofs.Common.{◌≡◌, ℕ, ◌+◌, ◌≤◌, List, length, sym, subst, ◌∙◌, ap, Option, None, Some, IfSome, IfNone, refl, arith}
use Rattle.fw_cuts.specs.Write.{Write, IsWrite, journal_bytes}
use Rattle.fw_cuts.specs.Sectors.{IsOn, Leaves, replaced, before_of, after_of}
use Rattle.fw_cuts.specs.Laws.{OneWrite, EachCutIsMended, OneSectorIsWhole}
use Rattle.fw_cuts.specs.Both.{Both}
use Rattle.fw_cuts.specs.Cuts.{Seen, Goes, Stays, IsSynced, NoneLost}
use Rattle.fw_cuts.specs.Rest.{write_on, IsReadyFor, IsAtRest, IsOldOrNew, IsTakenBack}
use Rattle.fw_cuts.specs.Private.{SameStore, SameJournal, Lays}
use Rattle.fw_cuts.specs.declared.files.Part.{Part}
use Rattle.fw_cuts.specs.declared.files.Part.TheVariants.{Store, Journal}
use Rattle.fw_cuts.proofs.Goings.{stays, store_stays, store_synced, journal_synced}
use Rattle.fw_cuts.proofs.Splices.{replaced_again, replaced_same}
use Rattle.fw_cuts.proofs.Found.{on_written}
use Rattle.fw_cuts.proofs.Cutting.{in_preparing, in_writing}
use Rattle.fw_cuts.proofs.Resting.{header_written}

-- FILE is synced, from a to b, and read, from b to m; the code has the write u
module _ (a b m : Seen) (at : ℕ) (bytes : List ℕ) (last_at : ℕ) (last : List ℕ) (syncs : Goes Stays a b) (asks : Goes Stays b m)
    (u : Write) (u_is : u ≡ write_on b.held.store at bytes last_at last) (fits : IsWrite u) (begins : last_at ≤ length a.held.store) where
  abbrev w : Write
  w = write_on a.held.store at bytes last_at last

  u_same : u ≡ w
  u_same = u_is ∙ ap (λ (x : Both). write_on x.store at bytes last_at last) syncs.reads

  w_fits : IsWrite w
  w_fits = subst (λ (v : Write). IsWrite v) u_same fits

  w_on : IsOn w a.held.store
  w_on = on_written a.held.store at bytes last_at last w_fits begins

  reads : Goes Stays a m
  reads = stays a b m syncs asks

  read_same : m.held.store ≡ a.held.store
  read_same = ap (λ (x : Both). x.store) reads.reads

  stored : IsSynced Store b → (left : Both) → m.may_leave left → left.store ≡ a.held.store
  stored synced left may = store_synced b m (store_stays b m asks) synced left may ∙ read_same

  -- the journal is made ready
  module _ (d : Seen) (readies : Goes SameStore m d) where
    ready_same : d.held.store ≡ a.held.store
    ready_same = readies.reads ∙ read_same

    pub ready_synced : IsSynced Store b → IsSynced Store d
    ready_synced synced = store_synced m d readies (store_synced b m (store_stays b m asks) synced)

    pub on_ready : IsOn u d.held.store
    on_ready = subst (λ (v : Write). IsOn v d.held.store) (sym u_same) (subst (λ (l : List ℕ). IsOn w l) (sym ready_same) w_on)

    pub done_so : (e : Seen) → e.held.store ≡ after_of u d.held.store → e.held.store ≡ after_of w a.held.store
    done_so e done = done ∙ ap (λ (v : Write). after_of v d.held.store) u_same ∙ ap (λ (l : List ℕ). after_of w l) ready_same

    module _ (from to : ℕ) (rest : IsAtRest from to a) (synced : IsSynced Store b) (one : OneWrite) (mended : EachCutIsMended) where
      pub while_preparing : Goes (IsOldOrNew a.held w) a d
      while_preparing = in_preparing from to a rest w w_fits w_on one mended m reads (stored synced) d readies

      pub while_writing : OneSectorIsWhole → IsReadyFor d.held.journal u → IsSynced Journal d → (e : Seen) → Goes (Lays u d.held.store) d e → Goes (IsOldOrNew a.held w) a e
      while_writing sector ready journaled e lays =
          in_writing from to a rest w w_fits w_on one mended m reads (stored synced) d readies
          (subst (λ (v : Write). IsReadyFor d.held.journal v) u_same ready) journaled sector e
          (subst (λ (l : List ℕ). Goes (Lays w l) d e) ready_same (subst (λ (v : Write). Goes (Lays v d.held.store) d e) u_same lays))

    pub at_rest_after : (from to : ℕ) → OneWrite → at + length bytes ≤ from → to ≤ last_at → IsReadyFor d.held.journal u → IsSynced Journal d
        → (e : Seen) → Goes SameJournal d e → ((part : Part) → NoneLost part e) → IsSynced Store e → e.held.store ≡ after_of u d.held.store → IsAtRest from to e
    at_rest_after from to one before behind ready journaled e goes found written done =
        header_written from to w a.held.store e one w_fits w_on before behind found written (journal_synced d e goes journaled) (done_so e done)
        (subst (λ (l : List ℕ). IsReadyFor l w) (sym goes.reads) (subst (λ (v : Write). IsReadyFor d.held.journal v) u_same ready))

    -- a taking back makes FILE as it was
    put_back_all : (left : List ℕ) → Leaves u d.held.store left → before_of u left ≡ d.held.store
    put_back_all left l =
        let order : u.at + length l.front ≤ u.last_at = omega (arith, l.size, fits.order) in
        ap (λ (bytes : List ℕ). replaced bytes u.at u.before u.last_at u.last_before) l.stands
        ∙ replaced_again d.held.store u.at l.front u.before u.last_at l.last u.last_before (sym l.size) order on_ready.within
        ∙ replaced_same d.held.store u.at u.before u.last_at u.last_before on_ready.front on_ready.last

    pub failed_so : (kept : Option (List ℕ)) → IfSome kept (λ bytes. bytes ≡ journal_bytes u) → IfNone kept (¬ IsWrite u) → OneWrite
        → (e : Seen) → Goes (Lays u d.held.store) d e → (made : List ℕ) → IsTakenBack kept e.held.store made → made ≡ a.held.store
    failed_so None some none one e lays made back = absurd (none fits)
    failed_so (Some journal) some none one e lays made back =
        let v : Write = back.0 in
        let same : v ≡ u = one v u back.1 fits (sym back.2 ∙ some) in
        back.3 ∙ ap (λ (x : Write). before_of x e.held.store) same ∙ put_back_all e.held.store (lays.reads.lays refl) ∙ ready_same

-- what a taking back makes of FILE is there, if the journal of the write was kept
pub taken_so : (kept : Option (List ℕ)) (w : Write) (store : List ℕ) → IfSome kept (λ bytes. bytes ≡ journal_bytes w) → IfNone kept (¬ IsWrite w) → IsWrite w
    → (made : List ℕ) × IsTakenBack kept store made
taken_so None w store some none is = absurd (none is)
taken_so (Some journal) w store some none is = (before_of w store, (w, is, some, refl))

-- or if none was to be kept
pub none_kept : (kept : Option (List ℕ)) (store : List ℕ) → kept ≡ None → (made : List ℕ) × IsTakenBack kept store made
none_kept None store none = (store, refl)
none_kept (Some journal) store none = let wrong : Some journal ≡ None = none in cc

-- a header write that failed before it wrote to FILE
pub unbegun : (kept : Option (List ℕ)) (a e : Seen) → kept ≡ None → e.held.store ≡ a.held.store → (made : List ℕ) → IsTakenBack kept e.held.store made → made ≡ a.held.store
unbegun None a e none same made back = back ∙ same
unbegun (Some journal) a e none same made back = let wrong : Some journal ≡ None = none in cc
