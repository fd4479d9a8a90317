use Rattle.std.proofs.Common.{rules, ◌≡◌, ◌++◌, [], ◌∷◌, List, ℕ, ◌∙◌, ap}
use Rattle.fw_journal.specs.Book.{body, contents_of}
use Rattle.fw_journal.proofs.BookLemmas.{read_push, fit_push, first_record}
use Rattle.fw_journal.proofs.reading.read_book.Goals as goal

pub loop-behind-preserved : goal.loop-behind-preserved
loop-behind-preserved c =
    let next : c.loop-behind.rest.now ≡ 1 ∷ (body c.in-Some-body_at.record.now ++ c.in-Some-body_at.after.now) = c.in-Some-after_gate.ensures.open ∙ ap (λ (l : List ℕ). 1 ∷ l) c.in-Some-body_at.ensures.found in
    let same : c.in_ok-to_vec.field-0.items ≡ c.in-Some-body_at.record.now = search rules in
    let pushed : c.push.new.self.items ≡ c.loop-behind.records.items ++ c.in_ok-to_vec.field-0 ∷ [] = search rules in
    record {
      read = read_push c.args.bytes.now c.loop-behind.rest.now c.in-Some-body_at.record.now c.in-Some-body_at.after.now c.loop-behind.records.items c.push.new.self.items c.in_ok-to_vec.field-0 c.loop-behind.invariant.read next pushed same;
      fit = fit_push c.in-Some-body_at.record.now c.loop-behind.records.items c.push.new.self.items c.in_ok-to_vec.field-0 c.loop-behind.invariant.fit c.in-Some-body_at.ensures.fits pushed same;
    }

-- memory is taken for a record alone
pub returns-in_err-to_vec-clause-memory : goal.returns-in_err-to_vec-clause-memory
returns-in_err-to_vec-clause-memory c = λ is.
    let next : c.loop-behind.rest.now ≡ 1 ∷ (body c.in-Some-body_at.record.now ++ c.in-Some-body_at.after.now) = c.in-Some-after_gate.ensures.open ∙ ap (λ (l : List ℕ). 1 ∷ l) c.in-Some-body_at.ensures.found in
    first_record c.args.bytes.now c.loop-behind.rest.now c.in-Some-body_at.record.now c.in-Some-body_at.after.now (contents_of c.loop-behind.records.items) c.loop-behind.invariant.fit c.in-Some-body_at.ensures.fits c.loop-behind.invariant.read next

pub returns-in_err-push-clause-memory : goal.returns-in_err-push-clause-memory
returns-in_err-push-clause-memory c = λ is.
    let next : c.loop-behind.rest.now ≡ 1 ∷ (body c.in-Some-body_at.record.now ++ c.in-Some-body_at.after.now) = c.in-Some-after_gate.ensures.open ∙ ap (λ (l : List ℕ). 1 ∷ l) c.in-Some-body_at.ensures.found in
    first_record c.args.bytes.now c.loop-behind.rest.now c.in-Some-body_at.record.now c.in-Some-body_at.after.now (contents_of c.loop-behind.records.items) c.loop-behind.invariant.fit c.in-Some-body_at.ensures.fits c.loop-behind.invariant.read next
