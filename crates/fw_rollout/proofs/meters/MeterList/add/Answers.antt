use Rattle.std.proofs.Common.{◌≡◌, ◌++◌, ◌∷◌, [], true, not, map, refl, sym, ap, subst, List, ◌∙◌, rules}
use Rattle.std.specs.Result.{is_ok}
use Rattle.std.specs.Cmp.{nat_eq_equiv}
use Rattle.std.proofs.lemmas.List.{map-append}
use Rattle.std.proofs.lemmas.Map.Views.{exact_unsigned_eq}
use Rattle.fw_rollout.specs.Daemon.{IsList}
use Rattle.fw_rollout.specs.declared.link.Listed.{Listed}
use Rattle.fw_rollout.proofs.Listings.{HasKeys, address_is_new, key_is_known, key_is_new, keys_more, keys_moved, list_more, number_is_new}
use Rattle.fw_rollout.proofs.Placing.{equal_sockets, exact_socket}
use Rattle.fw_rollout.proofs.meters.MeterList.add.Goals.{then-contains-via-then-contains, then-contains-via-else-contains+then-contains-2}
use Rattle.fw_rollout.proofs.meters.MeterList.add.Goals as goal

pub returns-then-contains-clause-added : goal.returns-then-contains-clause-added
returns-then-contains-clause-added c = (
  refl,
  subst (λ (l : List Listed). ¬ IsList (l ++ c.args.at ∷ [])) c.self.view_is (λ is_list. elim c.then-contains.branch [
    | then-contains-via-then-contains w ↦ number_is_new _ _ is_list
        (key_is_known nat_eq_equiv exact_unsigned_eq c.self.inside.numbers _ _ _ c.self.invariant.numbered (sym c.contains.ensures ∙ w.if-contains.true) c.number-number.ensures)
    | then-contains-via-else-contains+then-contains-2 w ↦ address_is_new _ _ is_list
        (key_is_known equal_sockets exact_socket c.self.inside.addresses _ _ _ c.self.invariant.addressed (sym w.contains-else-contains.ensures ∙ w.if-contains-2.true) refl)
  ]),
)

pub invariant_of-self-in_err-reserve-2 : goal.invariant_of-self-in_err-reserve-2
invariant_of-self-in_err-reserve-2 c = record {
  once = rw c.reserve.ensures.items c.self.invariant.once;
  numbered = rw c.reserve.ensures.items (keys_moved c.self.inside.numbers c.reserve-2.new.self _ c.self.invariant.numbered c.reserve-2.ensures.keys.0);
  addressed = rw c.reserve.ensures.items c.self.invariant.addressed;
}

pub invariant_of-self-in_err-reserve-3 : goal.invariant_of-self-in_err-reserve-3
invariant_of-self-in_err-reserve-3 c = record {
  once = rw c.reserve.ensures.items c.self.invariant.once;
  numbered = rw c.reserve.ensures.items (keys_moved c.self.inside.numbers c.reserve-2.new.self _ c.self.invariant.numbered c.reserve-2.ensures.keys.0);
  addressed = rw c.reserve.ensures.items (keys_moved c.self.inside.addresses c.reserve-3.new.self _ c.self.invariant.addressed c.reserve-3.ensures.keys.0);
}

pub invariant_of-self-2 : goal.invariant_of-self-2
invariant_of-self-2 c =
    let at = c.args.at in
    let was = c.self.inside.list.items in
    let good : is_ok c.push.result ≡ true = search rules in
    let items : c.push.new.self.items ≡ was ++ at ∷ [] = rw good at c.push.ensures.items ∙ ap (λ (l : List Listed). l ++ at ∷ []) c.reserve.ensures.items in
    let new_number = key_is_new nat_eq_equiv exact_unsigned_eq c.self.inside.numbers _ _ _ c.self.invariant.numbered (sym c.contains.ensures ∙ c.if-contains.false) c.number-number.ensures in
    let new_address = key_is_new equal_sockets exact_socket c.self.inside.addresses _ _ _ c.self.invariant.addressed (sym c.contains-else-contains.ensures ∙ c.if-contains-2.false) refl in
    let numbers : HasKeys c.insert.new.self (map (λ (other : Listed). other.meter) was ++ at.meter ∷ []) =
    keys_more c.reserve-2.new.self c.insert.new.self _ _ _ _ (keys_moved c.self.inside.numbers c.reserve-2.new.self _ c.self.invariant.numbered c.reserve-2.ensures.keys.0)
    (c.in_ok-insert.ensures.added ∙ ap not (c.reserve-2.ensures.keys.2 _ ∙ sym c.contains.ensures ∙ c.if-contains.false)) c.in_ok-insert.ensures.keys c.number-number.ensures in
    let addresses : HasKeys c.insert-2.new.self (map (λ (other : Listed). other.address) was ++ at.address ∷ []) =
    keys_more c.reserve-3.new.self c.insert-2.new.self _ _ _ _ (keys_moved c.self.inside.addresses c.reserve-3.new.self _ c.self.invariant.addressed c.reserve-3.ensures.keys.0)
    (c.in_ok-insert-2.ensures.added ∙ ap not (c.reserve-3.ensures.keys.2 _ ∙ sym c.contains-else-contains.ensures ∙ c.if-contains-2.false)) c.in_ok-insert-2.ensures.keys refl in
    record {
      once = rw items (list_more was at c.self.invariant.once (record { number = new_number; address = new_address }));
      numbered = rw (items, map-append (λ (other : Listed). other.meter) was (at ∷ [])) numbers;
      addressed = rw (items, map-append (λ (other : Listed). other.address) was (at ∷ [])) addresses;
    }
