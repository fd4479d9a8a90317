-- What a power cut leaves of counters, in calls and after them.
use Rattle.std.proofs.Common.{◌≡◌, ◌⊎◌, inl, inr, ⊎_elim, ℕ, ◌<◌, ◌≤◌, ◌^◌, List, [], ◌∷◌, ◌++◌, length, IsTrue, sym, ◌∙◌, ap, subst, arith}
use Rattle.std.specs.Prelude.{Result, Ok, Err, OnOk, OnErr}
use Rattle.std.specs.Int.{w32, to_be_bytes}
use Rattle.fw_journal.specs.Book.{Stands}
use Rattle.fw_journal.specs.Device.{LeavesOnly}
use Rattle.fw_journal.specs.Journal as journal
use Rattle.fw_journal.specs.declared.device.JournalDevice
use Rattle.fw_journal.specs.declared.journal.Journal.{Journal}
use Rattle.fw_counter.specs.Reserved.{reserved_by, Reserves, HasReserved}
use Rattle.fw_counter.specs.Counters.{device_of, is_broken, Holds, IsKept}
use Rattle.fw_counter.specs.declared.counters.KeptCounters.{KeptCounters}
use Rattle.fw_counter.proofs.Records.{fit_push, reserved_more}

module _ {D : Type 0} (J : JournalDevice.Ghosts D) where
  pub weaker : (old new : D) (P Q : List ℕ → Type 0) → LeavesOnly J.moment J.left_since old new P → ((left : List ℕ) → P left → Q left) → LeavesOnly J.moment J.left_since old new Q
  weaker old new P Q leaves implies = record {
    later = leaves.later;
    each = λ left now. implies left (leaves.each left now);
    before = λ since left le now. ⊎_elim (λ had. inl had) (λ has. inr (implies left has)) (leaves.before since left le now);
  }

  -- ---- between two calls

  pub holds_leaves : (counters : KeptCounters D) → Holds J counters → (left : List ℕ) → J.may_leave (device_of counters) left → Reserves left counters.reserved
  holds_leaves counters holds left now = record {
    records = holds.done;
    stands = record { fit = holds.has.done_fit; end = 0 ∷ []; split = holds.has.synced left now ∙ holds.has.bytes; shut = tt };
    fit = holds.fit;
    bound_is = holds.reserved_is;
  }

  pub kept_leaves : (counters : KeptCounters D) → IsKept J counters → (left : List ℕ) → J.may_leave (device_of counters) left → HasReserved left counters.reserved
  kept_leaves counters kept left now =
      ⊎_elim (λ holds. record { all = counters.reserved; reserves = holds_leaves counters holds left now; enough = omega arith }) (λ failed. failed.leaves left now) kept

  module _ (counts : (device : D) (since : ℕ) (left : List ℕ) → since ≤ J.moment device → J.may_leave device left → J.left_since device since left)
      (only : (device : D) (left : List ℕ) → J.left_since device (J.moment device) left → J.may_leave device left) where
    -- no call of the device is made
    pub still : (device : D) (P : List ℕ → Type 0) → ((left : List ℕ) → J.may_leave device left → P left) → LeavesOnly J.moment J.left_since device device P
    still device P holds = record {
      later = omega arith;
      each = λ left now. holds left (only device left now);
      before = λ since left le now. inl now;
    }

    -- ---- a commit of a record of a greater number, over the counters before it and the journal after it

    module _ (old : KeptCounters D) (after : Journal D) (bound : ℕ) (entry : List ℕ) (spelled : entry ≡ to_be_bytes w32 bound) (fits : bound < 2 ^ 32) (more : old.reserved ≤ bound) where
      abbrev IsEither : List ℕ → Type 0
      IsEither left = Reserves left old.reserved ⊎ Reserves left bound

      either_enough : (left : List ℕ) → IsEither left → HasReserved left old.reserved
      either_enough left is =
          ⊎_elim (λ before. record { all = old.reserved; reserves = before; enough = omega arith }) (λ later. record { all = bound; reserves = later; enough = more }) is

      module _ (holds : Holds J old) where
        four : length entry ≡ 4
        four = ap (λ (l : List ℕ). length l) spelled

        grown : bound ≡ reserved_by (holds.done ++ entry ∷ [])
        grown = reserved_more holds.done entry bound spelled fits (omega (arith, holds.reserved_is, more))

        either : (left : List ℕ) → Stands left holds.done ⊎ Stands left (holds.done ++ entry ∷ []) → IsEither left
        either left stands =
            ⊎_elim (λ before. inl (record { records = holds.done; stands = before; fit = holds.fit; bound_is = holds.reserved_is }))
            (λ later. inr (record { records = holds.done ++ entry ∷ []; stands = later; fit = fit_push holds.done entry holds.fit four; bound_is = grown })) stands

        pub commit_moments : LeavesOnly J.moment J.left_since (device_of old) (journal.device_of after) (λ left. Stands left holds.done ⊎ Stands left (holds.done ++ entry ∷ []))
            → LeavesOnly J.moment J.left_since (device_of old) (journal.device_of after) (λ left. Reserves left old.reserved ⊎ Reserves left bound)
        commit_moments leaves =
            weaker (device_of old) (journal.device_of after) (λ left. Stands left holds.done ⊎ Stands left (holds.done ++ entry ∷ [])) IsEither leaves either

        pub commit_holds : old.next ≤ bound → journal.Has J.honest J.contents J.may_leave after (holds.done ++ entry ∷ []) [] → Holds J (record old { journal = after; reserved = bound })
        commit_holds within has = record {
          done = holds.done ++ entry ∷ [];
          has = has;
          fit = fit_push holds.done entry holds.fit four;
          reserved_is = grown;
          within = within;
        }

        pub commit_fails : journal.Has J.honest J.contents J.may_leave after holds.done [] ⊎ IsTrue (journal.is_broken after)
            → LeavesOnly J.moment J.left_since (device_of old) (journal.device_of after) (λ left. Stands left holds.done ⊎ Stands left (holds.done ++ entry ∷ []))
            → IsKept J (record old { journal = after })
        commit_fails unchanged leaves =
            let moments = commit_moments leaves in
            ⊎_elim (λ back. inl (record { done = holds.done; has = back; fit = holds.fit; reserved_is = holds.reserved_is; within = holds.within }))
            (λ broken. inr (record {
              broken = broken;
              leaves = λ left now. either_enough left (moments.each left (counts (journal.device_of after) (J.moment (device_of old)) left moments.later now));
              within = holds.within;
            })) unchanged

      -- at any moment what was reserved is left, also if no more are reserved
      pub commit_leaves : IsKept J old → (Holds J old → LeavesOnly J.moment J.left_since (device_of old) (journal.device_of after) (λ left. Reserves left old.reserved ⊎ Reserves left bound))
          → (IsTrue (is_broken old) → after ≡ old.journal) → LeavesOnly J.moment J.left_since (device_of old) (journal.device_of after) (λ left. HasReserved left old.reserved)
      commit_leaves kept moments same =
          ⊎_elim (λ holds. weaker (device_of old) (journal.device_of after) IsEither (λ left. HasReserved left old.reserved) (moments holds) either_enough)
          (λ failed. subst (λ (j : Journal D). LeavesOnly J.moment J.left_since (device_of old) (journal.device_of j) (λ left. HasReserved left old.reserved)) (sym (same failed.broken))
          (still (device_of old) (λ left. HasReserved left old.reserved) failed.leaves)) kept

    -- ---- what is reserved is written anew, as one record

    module _ (old : KeptCounters D) (after : Journal D) (entry : List ℕ) (spelled : entry ≡ to_be_bytes w32 old.reserved) (fits : old.reserved < 2 ^ 32) where
      one_size : length entry ≡ 4
      one_size = ap (λ (l : List ℕ). length l) spelled

      one_reserves : (left : List ℕ) → Stands left (entry ∷ []) → Reserves left old.reserved
      one_reserves left stands = record {
        records = entry ∷ [];
        stands = stands;
        fit = (one_size, tt);
        bound_is = reserved_more [] entry old.reserved spelled fits (omega arith);
      }

      module _ (holds : Holds J old) where
        pub anew_moments : LeavesOnly J.moment J.left_since (device_of old) (journal.device_of after) (λ left. Stands left holds.done ⊎ Stands left (entry ∷ []))
            → LeavesOnly J.moment J.left_since (device_of old) (journal.device_of after) (λ left. Reserves left old.reserved)
        anew_moments leaves =
            weaker (device_of old) (journal.device_of after) (λ left. Stands left holds.done ⊎ Stands left (entry ∷ [])) (λ left. Reserves left old.reserved) leaves
            (λ left stands. ⊎_elim (λ before. record { records = holds.done; stands = before; fit = holds.fit; bound_is = holds.reserved_is }) (λ later. one_reserves left later) stands)

        pub anew_holds : journal.Has J.honest J.contents J.may_leave after (entry ∷ []) [] → Holds J (record old { journal = after })
        anew_holds has = record {
          done = entry ∷ [];
          has = has;
          fit = (one_size, tt);
          reserved_is = reserved_more [] entry old.reserved spelled fits (omega arith);
          within = holds.within;
        }

        pub anew_fails : journal.Has J.honest J.contents J.may_leave after holds.done [] ⊎ IsTrue (journal.is_broken after)
            → LeavesOnly J.moment J.left_since (device_of old) (journal.device_of after) (λ left. Stands left holds.done ⊎ Stands left (entry ∷ []))
            → IsKept J (record old { journal = after })
        anew_fails unchanged leaves =
            let moments = anew_moments leaves in
            ⊎_elim (λ back. inl (record { done = holds.done; has = back; fit = holds.fit; reserved_is = holds.reserved_is; within = holds.within }))
            (λ broken. inr (record {
              broken = broken;
              leaves = λ left now.
                  let is = moments.each left (counts (journal.device_of after) (J.moment (device_of old)) left moments.later now) in
                  record { all = old.reserved; reserves = is; enough = omega arith };
              within = holds.within;
            })) unchanged

        pub anew_stays : {X E : Type 0} (result : Result X E) → OnOk result (journal.Has J.honest J.contents J.may_leave after (entry ∷ []) [])
            → OnErr result (journal.Has J.honest J.contents J.may_leave after holds.done [] ⊎ IsTrue (journal.is_broken after))
            → LeavesOnly J.moment J.left_since (device_of old) (journal.device_of after) (λ left. Stands left holds.done ⊎ Stands left (entry ∷ []))
            → IsKept J (record old { journal = after })
        anew_stays (Ok v) has unchanged leaves = inl (anew_holds has)
        anew_stays (Err e) has unchanged leaves = anew_fails unchanged leaves
