use Rattle.std.proofs.Common.{rules, ◌≡◌, ◌≤◌, ◌+◌, ℕ, List, [], ◌∷◌, ◌++◌, length, sym, ◌∙◌, ap, subst, arith, refl, length-append, IsTrue}
use Rattle.std.proofs.lemmas.List.{append-nil}
use Rattle.fw_journal.specs.Book.{blocks, book_front}
use Rattle.fw_journal.specs.Group.{Takes}
use Rattle.fw_journal.specs.Journal.{Has}
use Rattle.fw_journal.proofs.BookLemmas.{front-append, are-append}
use Rattle.fw_journal.proofs.Cuts.{rest_stands, nothing_waits, is_none}
use Rattle.fw_journal.proofs.journal.Journal.commit.Goals as goal

-- nothing waits
pub returns-then-is_empty-clause-acknowledged : goal.returns-then-is_empty-clause-acknowledged
returns-then-is_empty-clause-acknowledged g c = λ done waiting has.
    let zero_long : length c.args.self.now.waiting.items ≡ 0 = search rules in
    let none = is_none c.args.self.now.waiting.items zero_long in
    let empty : waiting ≡ [] = nothing_waits waiting (sym has.waits ∙ none) in
    let all : done ++ waiting ≡ done = ap (λ (l : List (List ℕ)). done ++ l) empty ∙ append-nil done in
    subst (λ (l : List (List ℕ)). Has g.D.JournalDevice.honest g.D.JournalDevice.contents g.D.JournalDevice.may_leave c.args.self.now l []) (sym all)
    (record { honesty = has.honesty; done_fit = has.done_fit; waiting_fit = tt; bytes = has.bytes; ends = has.ends; waits = none; works = has.works; synced = has.synced })

pub returns-then-is_empty-clause-each_cut : goal.returns-then-is_empty-clause-each_cut
returns-then-is_empty-clause-each_cut g c = λ done waiting has.
    let after = returns-then-is_empty-clause-acknowledged g c done waiting has in
    λ f now. rest_stands (done ++ waiting) _ after.ends after.done_fit f (after.synced f now ∙ after.bytes)

-- and then all of it is on the device
pub returns-clause-acknowledged : goal.returns-clause-acknowledged
returns-clause-acknowledged g c = λ done waiting has.
    let some : 1 ≤ length c.args.self.now.waiting.items = search rules in
    let takes : Takes g.D.JournalDevice.honest g.D.JournalDevice.contents g.D.JournalDevice.may_leave c.args.self.now.device c.args.self.now.end c.deref.result.now done waiting = record {
      honesty = has.honesty;
      done_fit = has.done_fit;
      waiting_fit = has.waiting_fit;
      bytes = has.bytes;
      ends = has.ends;
      group_is = c.deref.ensures.value ∙ c.in_ok-push.ensures.items ∙ ap (λ (l : List ℕ). l ++ 0 ∷ []) has.waits;
      some = subst (λ (l : List ℕ). 1 ≤ length l) has.waits some;
      synced = has.synced;
    } in
    let total : c.len-2.result ≡ length c.args.self.now.waiting.items + 1 = search rules in
    record {
      honesty = subst (λ b. IsTrue b) (sym c.write_group.ensures.kept.honesty) has.honesty;
      done_fit = are-append done waiting has.done_fit has.waiting_fit;
      waiting_fit = tt;
      bytes = c.in_ok-write_group.ensures.done done waiting takes;
      ends = omega (arith, total, has.ends, ap length has.waits, ap length (front-append done waiting), length-append (book_front done) (blocks waiting));
      waits = c.clear.ensures.items;
      works = refl;
      synced = c.in_ok-write_group.ensures.synced has.honesty;
    }

pub returns-clause-each_cut : goal.returns-clause-each_cut
returns-clause-each_cut g c = λ done waiting has.
    let after = returns-clause-acknowledged g c done waiting has in
    λ f now. rest_stands (done ++ waiting) _ after.ends after.done_fit f (after.synced f now ∙ after.bytes)
