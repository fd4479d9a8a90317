use Rattle.std.proofs.Common.{List, ap, refl, subst, ◌∙◌}
use Rattle.fw_evidence.specs.Sealed.{IsSealedLogOf, items_in, marks_in}
use Rattle.fw_evidence.specs.declared.site.Side.TheVariants as sides
use Rattle.fw_evidence.specs.declared.site.Site.{Site}
use Rattle.fw_sealport.specs.declared.window.Order.TheVariants.{Strict}
use Rattle.fw_auditor.specs.Keyed.{AreLinksBy, HasNoLink, as_it_is, turned}
use Rattle.fw_auditor.specs.Private.{IsSiteOf, others_of}
use Rattle.fw_auditor.specs.declared.keys.KeyedHead.{KeyedHead}
use Rattle.fw_auditor.specs.declared.list.Subject.{Subject}
use Rattle.fw_auditor.proofs.readings.reading_of.Goals as goal

pub returns-then-not-has_link : goal.returns-then-not-has_link
returns-then-not-has_link c =
    subst (λ (heads : List KeyedHead). HasNoLink heads c.args.subject.now.meter) c.deref.ensures.value (c.has_link.ensures.none c.if-not-has_link.true)

pub returns-in-Ok : goal.returns-in-Ok
returns-in-Ok c =
    let given = c.args.given.now in
    let subject = c.args.subject.now in
    let log = c.in-Ok.log in
    let whole = c.whole_part.result.now in
    let site : Site = record { side = sides.Meter; at = subject.address; others = c.deref-3.result; heads = c.deref-4.result } in
    let others = c.deref-3.ensures.value ∙ c.in_ok-others.ensures ∙ ap (λ (subjects : List Subject). others_of subjects subject) c.deref-2.ensures.value in
    let own : IsSiteOf given subject site = record { side = refl; at = refl; heads = c.deref-4.ensures.value; others = others } in
    record {
      site = site;
      whole = whole;
      own = own;
      part = c.whole_part.ensures;
      reads = subst (λ (heads : List KeyedHead). IsSealedLogOf (AreLinksBy turned given.options.now.order heads subject.meter) (AreLinksBy as_it_is Strict heads subject.meter)
          site whole (items_in log) (marks_in log)) c.deref-5.ensures.value c.in-Ok.ensures.log;
    }
