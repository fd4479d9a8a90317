use Rattle.std.proofs.Common.{rules, ◌≡◌, [], ◌∷◌, ◌++◌, List, ℕ, ◌<◌, ◌^◌, length, sym, ◌∙◌, ap}
use Rattle.fw_journal.specs.Book.{blocks}
use Rattle.fw_journal.proofs.BookLemmas.{blocks-append, are-append}
use Rattle.fw_journal.proofs.journal.Journal.append.Goals as goal

pub returns-clause-waits : goal.returns-clause-waits
returns-clause-waits g c = λ done waiting has.
    let size : length c.args.entry.now < 2 ^ 32 = search rules in
    let block : c.in_ok-block.block.items ≡ blocks (c.args.entry.now ∷ []) = search rules in
    let added : c.extend_from_slice.new.self.items ≡ c.args.self.now.waiting.items ++ c.in_ok-block.block.items = search rules in
    record {
      honesty = has.honesty;
      done_fit = has.done_fit;
      waiting_fit = are-append waiting (c.args.entry.now ∷ []) has.waiting_fit (size, tt);
      bytes = has.bytes;
      ends = has.ends;
      waits = added ∙ ap (λ (l : List ℕ). l ++ c.in_ok-block.block.items) has.waits ∙ ap (λ (l : List ℕ). blocks waiting ++ l) block ∙ sym (blocks-append waiting (c.args.entry.now ∷ []));
      works = has.works;
      synced = has.synced;
    }
