use Rattle.std.proofs.Common.{rules, ◌≡◌, ◌∙◌, Bool, IsTrue, ℕ, List, sym, subst}
use Rattle.fw_counter.specs.Reserved.{HasNoCounter}
use Rattle.fw_counter.specs.Told.{Tells}
use Rattle.fw_counter.specs.declared.error.CounterError.TheVariants.{NoCounter}
use Rattle.fw_counter.specs.declared.error.OpeningError.TheVariants.{Counter}
use Rattle.fw_counter.proofs.Telling.{all_anew, read_then_replaced, same_error, told_as}
use Rattle.fw_counter.proofs.gathering.gather.Goals as goal

pub returns-in_err-reserved-clause-none : goal.returns-in_err-reserved-clause-none
returns-in_err-reserved-clause-none g c = λ honest is.
    let here : c.as_slice.result.now ≡ g.D.JournalDevice.contents c.args.device.now = search (rules, honest) in
    let error = same_error _ _ (told_as c.from_residual-in_err-reserved.result _ (Counter NoCounter) c.from_residual-in_err-reserved.ensures.1 is) in
    subst (λ (l : List ℕ). HasNoCounter l) here (c.in_err-reserved.ensures.none (cc error))

pub returns-in_err-replace-clause-any_moment : goal.returns-in_err-replace-clause-any_moment
returns-in_err-replace-clause-any_moment g c = λ honest.
    let J = g.D.JournalDevice in
    let there : IsTrue (J.honest c.read_all.new.device) = subst (λ (b : Bool). IsTrue b) (sym c.read_all.ensures.kept.honesty) honest in
    let here : c.as_slice.result.now ≡ J.contents c.args.device.now = search (rules, honest) in
    let told = subst (λ (l : List ℕ). Tells l c.in_ok-reserved.told) here c.in_ok-reserved.ensures.told in
    let anew : c.deref.result.now ≡ c.in-Ok.anew.items = search rules in
    read_then_replaced J g.met.D.JournalDevice.counts_now c.args.device.now c.read_all.new.device c.replace.new.device c.deref.result.now (c.read_all.ensures.moments honest) (c.replace.ensures.any_moment there)
    (λ left is. all_anew c.book_stands.ensures (J.contents c.args.device.now) left c.in_ok-reserved.told told c.in-Ok.ensures.fits (is ∙ anew ∙ c.in-Ok.ensures.bytes))

pub returns-clause-gathered : goal.returns-clause-gathered
returns-clause-gathered g c = λ honest.
    let J = g.D.JournalDevice in
    let there : IsTrue (J.honest c.read_all.new.device) = subst (λ (b : Bool). IsTrue b) (sym c.read_all.ensures.kept.honesty) honest in
    let here : c.as_slice.result.now ≡ J.contents c.args.device.now = search (rules, honest) in
    let told = subst (λ (l : List ℕ). Tells l c.in_ok-reserved.told) here c.in_ok-reserved.ensures.told in
    let anew : c.deref.result.now ≡ c.in-Ok.anew.items = search rules in
    all_anew c.book_stands.ensures (J.contents c.args.device.now) (J.contents c.replace.new.device) c.in_ok-reserved.told told c.in-Ok.ensures.fits (c.in_ok-replace.ensures.done there ∙ anew ∙ c.in-Ok.ensures.bytes)

pub returns-clause-any_moment : goal.returns-clause-any_moment
returns-clause-any_moment g c = λ honest.
    let J = g.D.JournalDevice in
    let there : IsTrue (J.honest c.read_all.new.device) = subst (λ (b : Bool). IsTrue b) (sym c.read_all.ensures.kept.honesty) honest in
    let here : c.as_slice.result.now ≡ J.contents c.args.device.now = search (rules, honest) in
    let told = subst (λ (l : List ℕ). Tells l c.in_ok-reserved.told) here c.in_ok-reserved.ensures.told in
    let anew : c.deref.result.now ≡ c.in-Ok.anew.items = search rules in
    read_then_replaced J g.met.D.JournalDevice.counts_now c.args.device.now c.read_all.new.device c.replace.new.device c.deref.result.now (c.read_all.ensures.moments honest) (c.replace.ensures.any_moment there)
    (λ left is. all_anew c.book_stands.ensures (J.contents c.args.device.now) left c.in_ok-reserved.told told c.in-Ok.ensures.fits (is ∙ anew ∙ c.in-Ok.ensures.bytes))
