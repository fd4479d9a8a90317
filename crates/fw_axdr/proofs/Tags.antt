-- The code's tags beside the table of tags.
use Rattle.std.proofs.Common.{◌≡◌, ℕ, eqb, Option, Some, None, refl, subst}
use Rattle.std.specs.Prelude.{MatchOption}
use Rattle.std.proofs.lemmas.Bool.{eqb-true, cond_both}
use Rattle.fw_axdr.specs.declared.tag.Tag.{Tag}
use Rattle.fw_axdr.specs.declared.tag.Tag.TheVariants as tag
use Rattle.fw_axdr.specs.Private.{tag_at, code}
use Rattle.fw_axdr.specs.Fault.{Contents, fixed, counted_bytes, counted_bits, counted_data, tags, contents_in}

-- what follows a tag
abbrev pub shape : Tag → Contents
shape tag.Null = fixed 0
shape tag.Array = counted_data
shape tag.Structure = counted_data
shape tag.Boolean = fixed 1
shape tag.BitString = counted_bits
shape tag.DoubleLong = fixed 4
shape tag.DoubleLongUnsigned = fixed 4
shape tag.OctetString = counted_bytes
shape tag.VisibleString = counted_bytes
shape tag.Integer = fixed 1
shape tag.Long = fixed 2
shape tag.Unsigned = fixed 1
shape tag.LongUnsigned = fixed 2
shape tag.Long64 = fixed 8
shape tag.Long64Unsigned = fixed 8
shape tag.Enumerated = fixed 1

-- the row of a tag
pub contents_in-code : (k : Tag) → contents_in tags (code k) ≡ Some (shape k)
contents_in-code tag.Null = refl
contents_in-code tag.Array = refl
contents_in-code tag.Structure = refl
contents_in-code tag.Boolean = refl
contents_in-code tag.BitString = refl
contents_in-code tag.DoubleLong = refl
contents_in-code tag.DoubleLongUnsigned = refl
contents_in-code tag.OctetString = refl
contents_in-code tag.VisibleString = refl
contents_in-code tag.Integer = refl
contents_in-code tag.Long = refl
contents_in-code tag.Unsigned = refl
contents_in-code tag.LongUnsigned = refl
contents_in-code tag.Long64 = refl
contents_in-code tag.Long64Unsigned = refl
contents_in-code tag.Enumerated = refl

abbrev HasCode : ℕ → Option Tag → Type 0
HasCode t o = MatchOption o (contents_in tags t ≡ None) (λ k. t ≡ code k)

has_code : (t : ℕ) → HasCode t (tag_at t)
has_code t =
    cond_both (eqb t 0) _ _ (HasCode t) (λ e. eqb-true t 0 e) (λ n0.
    cond_both (eqb t 1) _ _ (HasCode t) (λ e. eqb-true t 1 e) (λ n1.
    cond_both (eqb t 2) _ _ (HasCode t) (λ e. eqb-true t 2 e) (λ n2.
    cond_both (eqb t 3) _ _ (HasCode t) (λ e. eqb-true t 3 e) (λ n3.
    cond_both (eqb t 4) _ _ (HasCode t) (λ e. eqb-true t 4 e) (λ n4.
    cond_both (eqb t 5) _ _ (HasCode t) (λ e. eqb-true t 5 e) (λ n5.
    cond_both (eqb t 6) _ _ (HasCode t) (λ e. eqb-true t 6 e) (λ n6.
    cond_both (eqb t 9) _ _ (HasCode t) (λ e. eqb-true t 9 e) (λ n9.
    cond_both (eqb t 10) _ _ (HasCode t) (λ e. eqb-true t 10 e) (λ n10.
    cond_both (eqb t 15) _ _ (HasCode t) (λ e. eqb-true t 15 e) (λ n15.
    cond_both (eqb t 16) _ _ (HasCode t) (λ e. eqb-true t 16 e) (λ n16.
    cond_both (eqb t 17) _ _ (HasCode t) (λ e. eqb-true t 17 e) (λ n17.
    cond_both (eqb t 18) _ _ (HasCode t) (λ e. eqb-true t 18 e) (λ n18.
    cond_both (eqb t 20) _ _ (HasCode t) (λ e. eqb-true t 20 e) (λ n20.
    cond_both (eqb t 21) _ _ (HasCode t) (λ e. eqb-true t 21 e) (λ n21.
    cond_both (eqb t 22) _ _ (HasCode t) (λ e. eqb-true t 22 e) (λ n22.
    rw (n0, n1, n2, n3, n4, n5, n6, n9, n10, n15, n16, n17, n18, n20, n21, n22) refl))))))))))))))))

-- a byte with a tag, and one without
pub tag_code : (t : ℕ) (k : Tag) → tag_at t ≡ Some k → t ≡ code k
tag_code t k e = subst (HasCode t) e (has_code t)

pub tag_none : (t : ℕ) → tag_at t ≡ None → contents_in tags t ≡ None
tag_none t e = subst (HasCode t) e (has_code t)
