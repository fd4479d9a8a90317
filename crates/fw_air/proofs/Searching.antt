-- The last datagram of which something holds, in lists that are joined.
use Rattle.std.proofs.Common.{◌≡◌, ℕ, ◌+◌, ◌-◌, ◌<◌, ◌≤◌, ◌^◌, List, ◌∷◌, ◌++◌, length, All, ap, sym, ◌∙◌, subst, append_assoc, length-append, arith}
use Rattle.std.proofs.lemmas.List.Elements.{All-append}
use Rattle.fw_world.specs.World.{Datagram}
use Rattle.fw_air.specs.Logs.{IsLast, capped}

-- what stands in the newer parts begins after the others
pub starts_behind : (older newer all : List Datagram) (end : ℕ) → older ++ newer ≡ all → end ≡ capped (length (older ++ newer)) → length all < 2 ^ 64 - 1 → end ≡ length older + length newer
starts_behind older newer all end is capped_is few =
    let long = length-append older newer in
    let whole = ap (λ (ds : List Datagram). length ds) is in
    omega arith

module _ (P : Datagram → Type 0) where
  -- it stands in the second list
  pub last_of_newer : (older newer : List Datagram) (number : ℕ) → length older ≤ number → IsLast newer P (number - length older) → IsLast (older ++ newer) P number
  last_of_newer older newer number le l =
      let long = length-append older l.before in
      let is = l.number_is in record {
        before = older ++ l.before;
        found = l.found;
        later = l.later;
        all_are = ap (λ (rest : List Datagram). older ++ rest) l.all_are ∙ sym (append_assoc older l.before (l.found ∷ l.later));
        number_is = omega arith;
        holds = l.holds;
        none_later = l.none_later;
      }

  -- it stands in the first list, and none in the second
  pub last_of_older : (older newer : List Datagram) (number : ℕ) → IsLast older P number → All (λ e. ¬ P e) newer → IsLast (older ++ newer) P number
  last_of_older older newer number l none = record {
    before = l.before;
    found = l.found;
    later = l.later ++ newer;
    all_are = ap (λ (rest : List Datagram). rest ++ newer) l.all_are ∙ append_assoc l.before (l.found ∷ l.later) newer;
    number_is = l.number_is;
    holds = l.holds;
    none_later = All-append (λ e. ¬ P e) l.later newer l.none_later none;
  }

  -- it stands in the second of three lists, and none in the third: the number of the first element is known, and so is what stands after the
  -- second list
  pub last_between : (all older here newer : List Datagram) (first end start at : ℕ) → all ≡ (older ++ here) ++ newer → end ≡ first + length (older ++ here)
      → start ≡ end - length here → IsLast here P at → All (λ e. ¬ P e) newer → (first ≤ start + at) × IsLast all P (start + at - first)
  last_between all older here newer first end start at is e s last none =
      let long = length-append older here in
      let same : start + at - first - length older ≡ at = omega arith in
      let there : IsLast (older ++ here) P (start + at - first) = last_of_newer older here (start + at - first) (omega arith) (subst (IsLast here P) (sym same) last) in
      (omega arith, subst (λ (ds : List Datagram). IsLast ds P (start + at - first)) (sym is) (last_of_older (older ++ here) newer (start + at - first) there none))
