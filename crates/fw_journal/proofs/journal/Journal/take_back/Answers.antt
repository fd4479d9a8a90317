use Rattle.std.proofs.Common.{rules, ◌≡◌, ℕ, List, length, take, refl, ◌∙◌, ap}
use Rattle.std.proofs.lemmas.List.{take_at}
use Rattle.fw_journal.specs.Book.{blocks}
use Rattle.fw_journal.proofs.BookLemmas.{blocks-append, are-front}
use Rattle.fw_journal.proofs.journal.Journal.take_back.Goals as goal

pub returns-clause-back : goal.returns-clause-back
returns-clause-back g c = λ done waiting added has size.
    let kept : c.truncate.new.self.items ≡ take c.args.size c.args.self.now.waiting.items = search rules in
    record {
      honesty = has.honesty;
      done_fit = has.done_fit;
      waiting_fit = are-front waiting added has.waiting_fit;
      bytes = has.bytes;
      ends = has.ends;
      waits = kept ∙ ap (λ (n : ℕ). take n c.args.self.now.waiting.items) size ∙ ap (λ (l : List ℕ). take (length (blocks waiting)) l) (has.waits ∙ blocks-append waiting added) ∙ take_at (blocks waiting) (blocks added) (length (blocks waiting)) refl;
      works = has.works;
      synced = has.synced;
    }
