use Rattle.std.proofs.Common.{ℕ, nat_eq, List, map, sym, ap, ◌∙◌, inl, inr}
use Rattle.std.specs.Map.{lookup}
use Rattle.fw_head.specs.Head.{Head}
use Rattle.fw_world.specs.Parts.{head_behind}
use Rattle.fw_world.specs.Private.{set_entry}
use Rattle.fw_world.proofs.Finding.{at_place, no_place, looked_up, head_place, head_element, head_put}
use Rattle.fw_world.proofs.heads.Heads.get_mut.Goals as goal

pub returns-in-Some : goal.returns-in-Some
returns-in-Some c =
    let heads = c.self.inside.items.items in
    let number = c.args.number in
    let entries = map head_behind heads in
    let is = at_place number entries c.in-Some.at (head_place number heads _ _ _ c.deref.ensures.value c.place.ensures c.in-Some.is) in (
      (λ i. inl (c.index_mut.result.ghost_name, λ w. (head_put number heads c.in-Some.at w is ∙ ap (λ (es : List (ℕ × Head)). set_entry (nat_eq number) es (head_behind w)) c.self.view_is) i)),
      record {
        writes_back = tt;
        value = looked_up number entries c.in-Some.at (head_behind c.index_mut.result.now) is (head_element heads c.in-Some.at c.index_mut.result.now is.within c.index_mut.ensures.value)
            ∙ ap (λ (es : List (ℕ × Head)). lookup (nat_eq number) es) c.self.view_is;
      },
    )

pub returns-in-None : goal.returns-in-None
returns-in-None c =
    let heads = c.self.inside.items.items in (
      (λ i. inr (c.self.view_is i)),
      record {
        writes_back = tt;
        value = sym (ap (λ (es : List (ℕ × Head)). lookup (nat_eq c.args.number) es) (sym c.self.view_is)
            ∙ no_place c.args.number (map head_behind heads) (head_place c.args.number heads _ _ _ c.deref.ensures.value c.place.ensures c.in-None.is));
      },
    )
