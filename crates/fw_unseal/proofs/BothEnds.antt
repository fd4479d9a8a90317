-- The links of a key file, as both of their ends have them.
use Rattle.std.proofs.Common.{◌≡◌, ◌≢◌, ℕ, zero, suc, ◌+◌, ◌<◌, ◌⊎◌, inl, inr, List, [], ◌∷◌, ◌++◌, length, get_or, take, flat_map, Contains, refl, sym, ap, subst, ◌∙◌, arith, append-nil}
use Rattle.std.proofs.lemmas.List.{get_or_default, take_more}
use Rattle.std.proofs.lemmas.List.Concat.{flat_map-append}
use Rattle.std.proofs.lemmas.List.Elements.{All-contains}
use Rattle.std.specs.declared.net.socket_addr.SocketAddr.{SocketAddr}
use Rattle.fw_seal.specs.Sealing.{Ends}
use Rattle.fw_keys.specs.declared.entry.Entry.{Entry}
use Rattle.fw_keys.specs.Links.{AreLinks, HasNoEnd, Links, ends_of}
use Rattle.fw_keys.specs.Making.{other_file}
use Rattle.fw_unseal.specs.Unsealing.{both_ends, turned}

-- ---- a loop over the links of a file

abbrev pub pair_of : {N : Type 0} → List ℕ → Entry N → List Ends
pair_of {N} own entry = ends_of own entry.keys ∷ turned (ends_of own entry.keys) ∷ []

-- those of one link more
pub ends_more : {N : Type 0} (own : List ℕ) (entries : List (Entry N)) (i : ℕ) (entry : Entry N) (now next : List Ends) → i < length entries → entry ≡ get_or entries i entry
    → now ≡ both_ends own (take i entries) → next ≡ now ++ pair_of own entry → next ≡ both_ends own (take (i + 1) entries)
ends_more {N} own entries i entry now next inside is so_far more =
    let pair : Entry N → List Ends = λ e. pair_of own e in
    let last : both_ends own (take (i + 1) entries) ≡ both_ends own (take i entries) ++ pair_of own entry =
    ap (λ (es : List (Entry N)). flat_map pair es) (take_more entries i entry inside ∙ ap (λ (e : Entry N). take i entries ++ e ∷ []) (sym is))
    ∙ flat_map-append pair (take i entries) (entry ∷ [])
    ∙ ap (λ (l : List Ends). both_ends own (take i entries) ++ l) (append-nil (pair_of own entry)) in
    more ∙ ap (λ (l : List Ends). l ++ pair_of own entry) so_far ∙ sym last

-- ---- a link of a file is the one with its end

earlier_or_later : (i j : ℕ) → (i ≡ j) ⊎ ((i < j) ⊎ (j < i))
earlier_or_later zero zero = inl refl
earlier_or_later zero (suc j) = inr (inl (omega arith))
earlier_or_later (suc i) zero = inr (inr (omega arith))
earlier_or_later (suc i) (suc j) = later (earlier_or_later i j)
  where
    later : (i ≡ j) ⊎ ((i < j) ⊎ (j < i)) → (suc i ≡ suc j) ⊎ ((suc i < suc j) ⊎ (suc j < suc i))
    later (inl same) = inl (ap suc same)
    later (inr (inl less)) = inr (inl (omega arith))
    later (inr (inr less)) = inr (inr (omega arith))

module _ {N : Type 0} (own : List ℕ) (entries : List (Entry N)) (are : AreLinks own entries) (entry : Entry N) (within : Contains entries entry) where
  pub has_end : HasNoEnd entries entry.end → ⊥
  has_end none = All-contains (λ (e : Entry N). e.end ≢ entry.end) entries entry none within refl

  -- one with the same end is the same
  pub same_entry : (other : Entry N) → Contains entries other → other.end ≡ entry.end → other ≡ entry
  same_entry other there same = by_place (earlier_or_later there.0 within.0)
    where
      at_other : get_or entries there.0 entry ≡ other
      at_other = get_or_default entries there.0 entry other there.1 ∙ there.2

      by_place : (there.0 ≡ within.0) ⊎ ((there.0 < within.0) ⊎ (within.0 < there.0)) → other ≡ entry
      by_place (inl one) = sym at_other ∙ ap (λ (i : ℕ). get_or entries i entry) one ∙ within.2
      by_place (inr (inl before)) = absurd ((are.apart there.0 within.0 entry before within.1).ends (ap (λ (e : Entry N). e.end) at_other ∙ same ∙ sym (ap (λ (e : Entry N). e.end) within.2)))
      by_place (inr (inr behind)) = absurd ((are.apart within.0 there.0 entry behind there.1).ends (ap (λ (e : Entry N). e.end) within.2 ∙ sym same ∙ sym (ap (λ (e : Entry N). e.end) at_other)))

  -- the link with its end, as the end has it that has the file
  pub link_is : (link : Ends) (other : Entry N) → Contains entries other → other.end ≡ entry.end → link ≡ ends_of own other.keys → link ≡ ends_of own entry.keys
  link_is link other there same is = is ∙ ap (λ (e : Entry N). ends_of own e.keys) (same_entry other there same)

-- ---- the file of a meter has one link

only_one : {X : Type 0} (x y : X) → Contains (x ∷ []) y → y ≡ x
only_one x y (zero, inside, is) = sym is
only_one x y (suc i, inside, is) = absurd (omega (arith, inside))

pub has_name : (own : List ℕ) (entry : Entry ℕ) (name : SocketAddr) (file : Links SocketAddr) → file ≡ other_file own entry name → HasNoEnd file.entries name → ⊥
has_name own entry name file is none =
    subst (λ (f : Links SocketAddr). HasNoEnd f.entries name) is none 0 (record { end = name; keys = entry.keys }) (omega arith) refl

-- it is the other end's
pub turned_is : (own : List ℕ) (entry other : Entry ℕ) (name : SocketAddr) (file : Links SocketAddr) (link : Ends) (there : Entry SocketAddr) → other ≡ entry
    → file ≡ other_file own other name → Contains file.entries there → link ≡ ends_of file.own there.keys → link ≡ turned (ends_of own entry.keys)
turned_is own entry other name file link there same is within linked =
    let only = only_one _ there (subst (λ (f : Links SocketAddr). Contains f.entries there) is within) in
    linked ∙ ap (λ (f : Links SocketAddr). ends_of f.own there.keys) is ∙ ap (λ (e : Entry SocketAddr). ends_of other.keys.title e.keys) only
    ∙ ap (λ (e : Entry ℕ). turned (ends_of own e.keys)) same
