use Rattle.std.proofs.Common.{rules, ◌≡◌, ◌⊎◌, ℕ, List, [], Vec, IsTrue, sym, subst}
use Rattle.std.specs.declared.alloc.Global.{Global}
use Rattle.fw_journal.specs.Book.{contents_of, AreRecords, Stands}
use Rattle.fw_journal.specs.Device.{LeavesOnly}
use Rattle.fw_journal.specs.Journal as journal
use Rattle.fw_journal.specs.declared.error.RewriteError.TheVariants.{BookFault, OutOfMemory}
use Rattle.fw_kept.specs.Kept.{Keeps}
use Rattle.fw_kept.proofs.Compacts.{short_fit, kept_made, kept_known, anew_keeps, back_keeps, anew_leaves, on_ok, on_err}
use Rattle.fw_kept.proofs.Puts.{unput}
use Rattle.fw_kept.proofs.compacting.write_anew.Goals as goal

pub rewrite-requires : goal.rewrite-requires
rewrite-requires g c =
    let vs = c.in-Ok.records.items in
    let here : c.deref.result.now ≡ vs = search rules in
    record { fit = subst (λ (l : List (Vec ℕ Global)). AreRecords (contents_of l)) (sym here) (short_fit vs c.in-Ok.ensures.short) }

pub returns-clause-puts : goal.returns-clause-puts
returns-clause-puts g c =
    let J = g.D.JournalDevice in
    let book = c.args.book.now in
    let known = c.args.notes.now in
    let old = c.args.journal.now in
    let new = c.rewrite.new.self in
    let vs = c.in-Ok.records.items in
    let here : c.deref.result.now ≡ vs = search rules in
    record {
      acknowledged = λ head synced noted keeps.
          let made = c.in-Ok.ensures.made (kept_made J.honest J.contents J.may_leave head old synced book noted known keeps) in
          let are = c.in-Ok.ensures.noted (kept_known J.honest J.contents J.may_leave head old synced book noted known keeps c.books_have_notes.ensures) in
          on_ok c.rewrite.result (journal.Has J.honest J.contents J.may_leave new (contents_of c.deref.result.now) []) (Keeps J.honest J.contents J.may_leave head new book book known known)
          (λ has. anew_keeps J.honest J.contents J.may_leave head old synced book noted known keeps vs new made are (subst (λ (l : List (Vec ℕ Global)). journal.Has J.honest J.contents J.may_leave new (contents_of l) []) here has))
          (c.rewrite.ensures.acknowledged keeps.has.honesty);
      unchanged = λ head synced noted keeps.
          on_err c.rewrite.result (journal.Has J.honest J.contents J.may_leave new keeps.done keeps.waiting ⊎ IsTrue (journal.is_broken new)) (Keeps J.honest J.contents J.may_leave head new synced book noted known ⊎ IsTrue (journal.is_broken new))
          (λ back. back_keeps J.honest J.contents J.may_leave head old synced book noted known keeps new back) (c.rewrite.ensures.unchanged keeps.done keeps.waiting keeps.has);
      any_moment = λ head synced noted keeps.
          let made = c.in-Ok.ensures.made (kept_made J.honest J.contents J.may_leave head old synced book noted known keeps) in
          let are = c.in-Ok.ensures.noted (kept_known J.honest J.contents J.may_leave head old synced book noted known keeps c.books_have_notes.ensures) in
          anew_leaves J.honest J.contents J.may_leave head old synced book noted known keeps J.moment J.left_since (journal.device_of new) vs made are
          (subst (λ (l : List (Vec ℕ Global)). LeavesOnly J.moment J.left_since (journal.device_of old) (journal.device_of new) (λ left. Stands left keeps.done ⊎ Stands left (contents_of l))) here
          (c.rewrite.ensures.any_moment keeps.done keeps.waiting keeps.has));
      breaks = c.rewrite.ensures.breaks;
      never = c.rewrite.ensures.never;
      kept = c.rewrite.ensures.kept;
    }

pub returns-in_default-clause-puts : goal.returns-in_default-clause-puts
returns-in_default-clause-puts g c =
    unput g.D.JournalDevice BookFault c.args.journal.now c.args.book.now c.args.book.now c.args.notes.now c.args.notes.now OutOfMemory g.met.D.JournalDevice.only_now (λ is. cc is)
