use Rattle.std.proofs.Common.{List, sym, subst, ◌∙◌, inl, inr}
use Rattle.std.specs.List.{AllZip}
use Rattle.std.proofs.lemmas.Bool.{false≢true}
use Rattle.fw_head.specs.Head.{Head}
use Rattle.fw_air.specs.Audits.{IsSameHead}
use Rattle.fw_air.proofs.Alike.{behind, in_front}
use Rattle.fw_air.proofs.sameness.are_same_parts.Goals.{then-are_same_heads, else-are_same_heads}
use Rattle.fw_air.proofs.sameness.are_same_parts.Goals as goal

pub returns-then-are_same_meters-clause-heads : goal.returns-then-are_same_meters-clause-heads
returns-then-are_same_meters-clause-heads c =
    λ sent. elim c.if-are_same_heads.branch [
      | then-are_same_heads w ↦
          behind c.args.parts.now.heads.items c.args.heads.now (subst (λ (ones : List Head). AllZip IsSameHead ones c.args.heads.now) c.deref.ensures.value (c.are_same_heads.ensures.0 w.if-are_same_heads.true))
      | else-are_same_heads w ↦ absurd (false≢true (sym w.if-are_same_heads.false ∙ sym w.value-is ∙ c.if-are_same_meters.true))
    ]

pub returns-else-are_same_meters-clause-other : goal.returns-else-are_same_meters-clause-other
returns-else-are_same_meters-clause-other c =
    λ differ. elim c.if-are_same_heads.branch [
      | then-are_same_heads w ↦
          inr (inl (λ same. false≢true (sym differ ∙ w.value-is ∙ w.are_same_meters.ensures.1 (w.deref-then-are_same_heads.ensures.value ∙ same))))
      | else-are_same_heads w ↦
          inl (λ same. false≢true (sym w.if-are_same_heads.false ∙ c.are_same_heads.ensures.1 (subst (λ (ones : List Head). AllZip IsSameHead ones c.args.heads.now) (sym c.deref.ensures.value) (in_front c.args.parts.now.heads.items c.args.heads.now same))))
    ]
