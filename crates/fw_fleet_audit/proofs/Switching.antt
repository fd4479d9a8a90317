-- A meter's switches, one after the other.
use Rattle.std.proofs.Common.{◌≡◌, ◌+◌, ◌<◌, ◌≤◌, ◌⊎◌, ◌++◌, ℕ, List, [], ◌∷◌, Some, None, length, take, slice_get, slice_index_or, inl, inr, refl, sym, ap, subst, ◌∙◌, arith}
use Rattle.std.specs.Prelude.{All, AllPairs, Contains}
use Rattle.std.proofs.lemmas.List.{take_all, take_more}
use Rattle.std.proofs.lemmas.List.Elements.{All-nil, All-push, Contains-push}
use Rattle.std.proofs.lemmas.List.Quantifiers.{all_pairs_push}
use Rattle.fw_names.specs.Name.{Name, name_of}
use Rattle.fw_image.specs.Meter.{Image}
use Rattle.fw_book.specs.Contents.{Contents, Offered}
use Rattle.fw_fleet_audit.specs.Switches.{AreOffered, Breaks, IsOffered, IsSwitchDeparture, NeverFalls, offer_in}
use Rattle.fw_fleet_audit.specs.declared.error.SwitchRule.{SwitchRule}
use Rattle.fw_fleet_audit.specs.declared.error.SwitchRule.TheVariants as broken
use Rattle.fw_fleet_audit.proofs.Lists.{read_at}

-- The switches before this place are as they should be, and this is the release of the last of them, or 0.
pub record Past (books : List Contents) (images : List Image) (at last : ℕ) : Type 0 where
  pub are : AreOffered books (take at images)
  pub below : All (λ (image : Image). image.name.release ≤ last) (take at images)
  pub some : (last ≡ 0) ⊎ ((image : Image) × Contains (take at images) image × (image.name.release ≡ last))

no_pairs : AllPairs NeverFalls []
no_pairs i j d order inside = absurd (omega arith)

pub past_none : (books : List Contents) (images : List Image) → Past books images 0 0
past_none books images = record {
  are = record { offered = All-nil (IsOffered books); risen = no_pairs };
  below = All-nil (λ (image : Image). image.name.release ≤ 0);
  some = inl refl;
}

one_more : (images : List Image) (at : ℕ) (image : Image) → at < length images → image ≡ slice_index_or images at image → take (at + 1) images ≡ take at images ++ image ∷ []
one_more images at image inside is = take_more images at image inside ∙ ap (λ (i : Image). take at images ++ i ∷ []) (sym is)

pub past_more : (books : List Contents) (images : List Image) (at last release : ℕ) (image : Image) → at < length images → image ≡ slice_index_or images at image → Past books images at last
    → IsOffered books image → release ≡ image.name.release → last ≤ release → Past books images (at + 1) release
past_more books images at last release image inside is past offered own order =
    let more = one_more images at image inside is in
    record {
      are = subst (AreOffered books) (sym more) (record {
        offered = All-push (IsOffered books) (take at images) image past.are.offered offered;
        risen = all_pairs_push NeverFalls (take at images) image past.are.risen (λ k d there. omega (arith, past.below k d there));
      });
      below = subst (All (λ (i : Image). i.name.release ≤ release)) (sym more)
          (All-push (λ (i : Image). i.name.release ≤ release) (take at images) image (λ k d there. omega (arith, past.below k d there)) (omega arith));
      some = inr (image, subst (λ (l : List Image). Contains l image) (sym more) (Contains-push (take at images) image), sym own);
    }

pub past_all : (books : List Contents) (images : List Image) (at last : ℕ) → length images ≤ at → Past books images at last → AreOffered books images
past_all books images at last all past = subst (AreOffered books) (take_all at images all) past.are

there_is : (images : List Image) (at : ℕ) (image : Image) → at < length images → image ≡ slice_index_or images at image → slice_get images at ≡ Some image
there_is images at image inside is = read_at images at image inside ∙ ap (λ (i : Image). Some i) (sym is)

pub departs_at : (books : List Contents) (images : List Image) (at last : ℕ) (image : Image) (rule : SwitchRule) → at < length images → image ≡ slice_index_or images at image
    → Past books images at last → ((before : List Image) → Breaks books before image rule) → IsSwitchDeparture books images (record { at = at; rule = rule })
departs_at books images at last image rule inside is past breaks = record {
  before = past.are;
  image = image;
  there = there_is images at image inside is;
  breaks = breaks (take at images);
}

pub falls_at : (books : List Contents) (images : List Image) (at last release : ℕ) (image : Image) → at < length images → image ≡ slice_index_or images at image
    → Past books images at last → IsOffered books image → release ≡ image.name.release → release < last
    → IsSwitchDeparture books images (record { at = at; rule = broken.ReleaseFell })
falls_at books images at last release image inside is past offered own fell = record {
  before = past.are;
  image = image;
  there = there_is images at image inside is;
  breaks = (offered, by_last past.some);
}
  where
    by_last : (last ≡ 0) ⊎ ((earlier : Image) × Contains (take at images) earlier × (earlier.name.release ≡ last))
        → (earlier : Image) × Contains (take at images) earlier × (image.name.release < earlier.name.release)
    by_last (inl none) = absurd (omega arith)
    by_last (inr (earlier, there, same)) = (earlier, there, omega arith)

-- ---- one image, by the name that was read of it

module _ (books : List Contents) (image : Image) (name : Name) (own : name ≡ image.name) where
  pub not_offered : offer_in books name.campaign ≡ None → (before : List Image) → Breaks books before image broken.NotOffered
  not_offered none before = ap (λ (n : Name). offer_in books n.campaign) (sym own) ∙ none

  module _ (offer : Offered) (offers : offer_in books name.campaign ≡ Some offer) where
    offers_it : offer_in books image.name.campaign ≡ Some offer
    offers_it = ap (λ (n : Name). offer_in books n.campaign) (sym own) ∙ offers

    pub other_bytes : (offer.image ≡ image.bytes → ⊥) → (before : List Image) → Breaks books before image broken.OtherBytes
    other_bytes other before = (offer, offers_it, λ e. other (sym e))

    pub other_name : offer.image ≡ image.bytes → (name_of name.campaign offer.release offer.image ≡ name → ⊥) → (before : List Image) → Breaks books before image broken.OtherName
    other_name equal other before =
        (offer, offers_it, sym equal, λ e. other (ap (λ (n : Name). name_of n.campaign offer.release offer.image) own ∙ sym e ∙ sym own))

    pub is_offered : offer.image ≡ image.bytes → name_of name.campaign offer.release offer.image ≡ name → IsOffered books image
    is_offered equal named = record {
      offer = offer;
      offers = offers_it;
      equal = sym equal;
      named = sym own ∙ sym named ∙ ap (λ (n : Name). name_of n.campaign offer.release offer.image) own;
    }
