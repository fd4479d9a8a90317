use Rattle.std.proofs.Common.{◌≡◌, ℕ, inl, inr, Option, Some, None, refl, sym, ap, ◌∙◌, subst}
use Rattle.fw_client.specs.State.{State}
use Rattle.fw_head.specs.Phase.{Leads, TakesMemory}
use Rattle.fw_head.specs.Private.{IsOwn}
use Rattle.fw_book.specs.declared.notes.Answer.{Answer}
use Rattle.fw_book.specs.declared.notes.Reason.{Reason}
use Rattle.fw_head.specs.Row.{Row, RowTakes, TakesList, RowMayWant, news_in, stepped}
use Rattle.fw_head.proofs.Heard.{no_answer, some_answer, strange_to, taken, taken_by, of_asked, kept_meter}
use Rattle.fw_head.proofs.OwnClaims.{own_step, own_news}
use Rattle.fw_head.proofs.Asking.{asking_step}
use Rattle.fw_head.proofs.LiveRows.{told_err}
use Rattle.fw_head.proofs.SameRows.{goal_heard}
use Rattle.fw_head.proofs.row.RowCore.hear.Goals as goal

-- what is no answer in any way is none
none_kept : (o : Option Answer) → ((answer : Answer) → o ≡ Some answer → ⊥) → o ≡ None
none_kept None h = refl
none_kept (Some answer) h = absurd (h answer refl)

pub returns-in_default-clause-heard : goal.returns-in_default-clause-heard
returns-in_default-clause-heard c =
    let same : c.duplicate-client.result ≡ c.args.self.now.client = c.duplicate-client.ensures ∙ ap (λ (r : Row). r.client) c.self.view_is in
    let stranger = no_answer c.in_ok-heard.heard (sym c.answer_of.ensures ∙ none_kept c.answer_of.result c.in_default.not-Some) in
    inr (strange_to c.duplicate-client.result c.args.self.now.client c.hear.new.self c.args.datagram.now c.in_ok-heard.heard same stranger c.in_ok-heard.ensures.hears, refl, refl)

pub take-requires : goal.take-requires
take-requires c =
    let takes = taken c.duplicate-client.result c.hear.new.self c.args.datagram.now c.in_ok-heard.heard (some_answer c.in_ok-heard.heard c.in-Some.answer (sym c.answer_of.ensures ∙ c.in-Some.is)) c.in_ok-heard.ensures.hears in
    let of = of_asked c.duplicate-client.result c.hear.new.self c.args.datagram.now c.in_ok-heard.heard (λ claim e. (c.in_ok-heard.ensures.claims claim).0 e) takes in
    let meter : c.self.inside.client.meter ≡ c.hear.new.self.meter = sym (ap (λ (s : State). s.meter) c.duplicate-client.ensures) ∙ sym (kept_meter c.duplicate-client.result c.hear.new.self c.args.datagram.now c.in_ok-heard.heard takes) in
    let P : ℕ → Type 0 = λ m. IsOwn m c.self.inside.name c.self.inside.size c.self.inside.stage in
    record {
      own = own_step c.hear.new.self.meter c.self.inside.name c.self.inside.size c.self.inside.stage c.in_ok-heard.heard c.in_ok-step.step (subst P meter c.self.invariant.own) of c.in_ok-step.ensures.leads;
      asking = λ asks. asking_step c.self.inside.name c.self.inside.size c.self.inside.stage c.in_ok-heard.heard c.in_ok-step.step (c.self.invariant.asking asks) c.in_ok-step.ensures.leads;
    }

pub returns : goal.returns
returns c =
    let same : c.duplicate-client.result ≡ c.args.self.now.client = c.duplicate-client.ensures ∙ ap (λ (r : Row). r.client) c.self.view_is in
    let takes = taken_by c.duplicate-client.result c.args.self.now.client c.hear.new.self c.args.datagram.now c.in_ok-heard.heard same (some_answer c.in_ok-heard.heard c.in-Some.answer (sym c.answer_of.ensures ∙ c.in-Some.is)) c.in_ok-heard.ensures.hears in
    let view = c.self.view_is in
    let P : Row → Type 0 = λ r. Leads r.name r.size r.stage c.in_ok-heard.heard c.in_ok-step.step in
    let answer = c.in-Some.answer in
    let reason : Reason = record { phase = c.phase.result; answer = answer } in
    let went =
    ap (λ (r : Row). stepped (record r { client = c.hear.new.self }) c.in_ok-step.step reason) view
    ∙ ap (λ p. stepped (record c.args.self.now { client = c.hear.new.self }) c.in_ok-step.step (let r : Reason = record { phase = p; answer = answer } in r)) c.phase.ensures in
    let told = ap (λ (r : Row). news_in r.stage) c.self-2.view_is in
    let takes_all : RowTakes c.args.self.now c.args.datagram.now c.news.result c.take.new.self = record {
      heard = c.in_ok-heard.heard;
      client = c.hear.new.self;
      answer = answer;
      step = c.in_ok-step.step;
      takes = takes;
      answered = sym c.answer_of.ensures ∙ c.in-Some.is;
      leads = subst P view c.in_ok-step.ensures.leads;
      new_is = c.take.ensures ∙ went;
      told_is = c.news.ensures ∙ told;
    } in
    let at_view = c.self-2.view_is in
    let kept = goal_heard c.args.self.now c.take.new.self c.args.datagram.now c.news.result (inl takes_all) in
    let meter : c.self-2.inside.client.meter ≡ c.args.self.now.client.meter = ap (λ (r : Row). r.client.meter) at_view ∙ kept.meter in
    let name : c.self-2.inside.name ≡ c.args.self.now.name = ap (λ (r : Row). r.name) at_view ∙ kept.name in
    let own = own_news c.self-2.inside.client.meter c.args.self.now.client.meter c.self-2.inside.name c.args.self.now.name c.self-2.inside.size c.self-2.inside.stage c.news.result meter name c.news.ensures c.self-2.invariant.own in
    record { heard = inl takes_all; claimed = own; same = tt; memory = tt }

pub returns-in_err-step-clause-memory : goal.returns-in_err-step-clause-memory
returns-in_err-step-clause-memory c =
    let same : c.duplicate-client.result ≡ c.args.self.now.client = c.duplicate-client.ensures ∙ ap (λ (r : Row). r.client) c.self.view_is in
    let P : Row → Type 0 = λ r. TakesMemory r.stage c.in_ok-heard.heard in
    let takes : TakesList c.args.self.now c.args.datagram.now = record {
      heard = c.in_ok-heard.heard;
      client = c.hear.new.self;
      takes = taken_by c.duplicate-client.result c.args.self.now.client c.hear.new.self c.args.datagram.now c.in_ok-heard.heard same (some_answer c.in_ok-heard.heard c.in-Some.answer (sym c.answer_of.ensures ∙ c.in-Some.is)) c.in_ok-heard.ensures.hears;
      wants = subst P c.self.view_is c.in_err-step.ensures.memory;
    } in
    told_err c.from_residual-in_err-step.result (RowMayWant c.args.self.now c.args.datagram.now) (inr takes)
