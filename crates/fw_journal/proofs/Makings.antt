-- What a power cut leaves of bytes that are written and synced, and of a journal that is made.
use Rattle.std.proofs.Common.{⊎_elim, inl, inr, ℕ, List, arith}
use Rattle.fw_journal.specs.Device.{IsTorn, Elapses, LeavesNoMore, LeavesBy, LeavesOnly}
use Rattle.fw_journal.specs.Making.{IsTornOf, LeavesMaking}
use Rattle.fw_journal.specs.declared.device.JournalDevice
use Rattle.fw_journal.proofs.Moments.{weaker, follow}
use Rattle.fw_journal.proofs.Splices.{torn_refl}

module _ {D : Type 0} (J : JournalDevice.Ghosts D) (only : (device : D) (left : List ℕ) → J.left_since device (J.moment device) left → J.may_leave device left) where
  -- a call, where this holds of what may be left before it and after it
  in_call : (old new : D) (P : List ℕ → Type 0) → Elapses J.moment J.left_since J.may_leave old new → ((left : List ℕ) → J.may_leave old left → P left) → ((left : List ℕ) → J.may_leave new left → P left)
      → LeavesOnly J.moment J.left_since old new P
  in_call old new P time before after = record {
    later = time.later;
    each = λ left some. ⊎_elim (λ had. before left (only old left had)) (λ is. after left is) (time.nothing_else (J.moment old) left (omega arith) some);
    before = λ since left le some. ⊎_elim (λ had. inl had) (λ is. inr (after left is)) (time.nothing_else since left le some);
  }

  module _ (at count : ℕ) (old new : D) (time : Elapses J.moment J.left_since J.may_leave old new) (by : LeavesBy J.may_leave (IsTorn at count) old new) where
    pub written : LeavesOnly J.moment J.left_since old new (IsTornOf J at count old)
    written = in_call old new (IsTornOf J at count old) time (λ left may. (left, may, torn_refl at count left)) by

    pub then_synced : (done : D) → Elapses J.moment J.left_since J.may_leave new done → LeavesNoMore J.may_leave new done → LeavesOnly J.moment J.left_since old done (IsTornOf J at count old)
    then_synced done later less =
        follow J.moment J.left_since old new done (IsTornOf J at count old) written (in_call new done (IsTornOf J at count old) later by (λ left may. by left (less left may)))

  module _ (old read : D) (no_more : LeavesNoMore J.may_leave old read) where
    pub asked : Elapses J.moment J.left_since J.may_leave old read → LeavesMaking J old read
    asked time = in_call old read (IsTornOf J 0 5 old) time (λ left may. (left, may, torn_refl 0 5 left)) (λ left may. (left, no_more left may, torn_refl 0 5 left))

    -- and then five bytes are written, and synced
    pub laid : (new : D) → Elapses J.moment J.left_since J.may_leave old read → LeavesOnly J.moment J.left_since read new (IsTornOf J 0 5 read) → LeavesMaking J old new
    laid new time writes =
        follow J.moment J.left_since old read new (IsTornOf J 0 5 old) (asked time)
        (weaker J.moment J.left_since read new (IsTornOf J 0 5 read) (IsTornOf J 0 5 old) writes (λ left torn. (torn.0, no_more torn.0 torn.1, torn.2)))
