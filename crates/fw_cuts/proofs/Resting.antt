-- The files between two header writes.
use Rattle.std.proofs.Common.{◌≡◌, ℕ, ◌+◌, ◌≤◌, List, [], length, take, drop, refl, subst, ◌∙◌, ap, arith}
use Rattle.fw_cuts.specs.Write.{Write, IsWrite}
use Rattle.fw_cuts.specs.Sectors.{IsOn, after_of}
use Rattle.fw_cuts.specs.Laws.{OneWrite}
use Rattle.fw_cuts.specs.Both.{On}
use Rattle.fw_cuts.specs.Cuts.{Seen, Goes, Cuts, IsSynced, NoneLost, LosesNoMore}
use Rattle.fw_cuts.specs.Rest.{IsReadyFor, IsRecovered, SameOutside, IsAtRest}
use Rattle.fw_cuts.specs.declared.files.Part.{Part}
use Rattle.fw_cuts.specs.declared.files.Part.TheVariants.{Store, Journal}
use Rattle.fw_cuts.proofs.Splices.{length-splice, take-splice, drop-splice}
use Rattle.fw_cuts.proofs.Goings.{journal_kept, journal_synced}
use Rattle.fw_cuts.proofs.Found.{same_as, same_after, same_back, finished, empty_quiet}

-- ---- a slot is written

written_between : (from to at : ℕ) (bytes a b c : List ℕ) → SameOutside from to a b → Cuts at bytes b c → from ≤ at → at + length bytes ≤ to → at + length bytes ≤ length a
    → SameOutside from to a c
written_between from to at bytes a b c same cut begins ends within =
    let size : length cut.part ≡ length bytes = omega (arith, cut.size, same.size, within) in
    let fits : at + length cut.part ≤ length b = omega (arith, size, same.size, within) in
    let before : at ≤ length b = omega (arith, fits) in
    let behind : at + length cut.part ≤ to = omega (arith, size, ends) in
    record {
      size = ap length cut.stands ∙ length-splice b at cut.part fits ∙ same.size;
      front = ap (take from) cut.stands ∙ take-splice b at cut.part from begins before ∙ same.front;
      back = ap (drop to) cut.stands ∙ drop-splice b at cut.part to behind fits ∙ same.back;
    }

pub slot_written : (from to at : ℕ) (bytes : List ℕ) (a b : Seen) → IsAtRest from to a → Goes (On Store (Cuts at bytes)) a b → LosesNoMore a b
    → from ≤ at → at + length bytes ≤ to → at + length bytes ≤ length a.held.store → IsAtRest from to b
slot_written from to at bytes a b rest goes lost begins ends within =
    let here : SameOutside from to a.held.store b.held.store =
    written_between from to at bytes a.held.store a.held.store b.held.store (same_as from to a.held.store a.held.store refl) goes.reads.0 begins ends within in
    record {
      found = λ part i is. rest.found part i (lost part i is);
      journal = journal_synced a b (journal_kept (Cuts at bytes) a b goes) rest.journal;
      outside = λ left may.
          let x = goes.leaves left may in
          same_after from to b.held.store a.held.store left.store (same_back from to a.held.store b.held.store here)
          (written_between from to at bytes a.held.store x.0.store left.store (rest.outside x.0 x.1) x.2.0 begins ends within);
      quiet = λ store made_of same found.
          rest.quiet store made_of (same_after from to a.held.store b.held.store store here same)
          (subst (λ (l : List ℕ). IsRecovered l store made_of) goes.reads.1 found);
    }

-- ---- a header is written

pub header_written : (from to : ℕ) (w : Write) (c : List ℕ) (e : Seen) → OneWrite → IsWrite w → IsOn w c → w.at + length w.after ≤ from → to ≤ w.last_at
    → ((part : Part) → NoneLost part e) → IsSynced Store e → IsSynced Journal e → e.held.store ≡ after_of w c → IsReadyFor e.held.journal w → IsAtRest from to e
header_written from to w c e one is on before behind found stored journaled done ready = record {
  found = found;
  journal = journaled;
  outside = λ left may. same_as from to e.held.store left.store (stored left may);
  quiet = λ store made same. finished from to w c one is on before behind e.held.journal ready store made (subst (λ (l : List ℕ). SameOutside from to l store) done same);
}

-- ---- all is written again, and the journal is empty

pub all_rests : (from to : ℕ) (e : Seen) → NoneLost Store e → NoneLost Journal e → IsSynced Store e → IsSynced Journal e → e.held.journal ≡ [] → IsAtRest from to e
all_rests from to e found found_journal stored journaled none = record {
  found = each;
  journal = journaled;
  outside = λ left may. same_as from to e.held.store left.store (stored left may);
  quiet = λ store made same found_so. empty_quiet store made (subst (λ (l : List ℕ). IsRecovered l store made) none found_so);
}
  where
    each : (part : Part) → NoneLost part e
    each Store = found
    each Journal = found_journal
