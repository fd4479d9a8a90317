-- What writes of both parts of a header leave, in whatever order, is what a power cut in the header write may leave.
use Rattle.std.proofs.Common.{◌≡◌, inl, inr, ⊎_elim, ℕ, ◌+◌, ◌-◌, ◌≤◌, List, ◌++◌, length, take, drop, slice_range, refl, sym, subst, ◌∙◌, ap, arith}
use Rattle.std.proofs.lemmas.List.{length-take-le, take_all, take_at, take-append-drop}
use Rattle.fw_cuts.specs.Write.{Write, IsWrite}
use Rattle.fw_cuts.specs.Sectors.{in_sector, IsEither, IsCut, IsOn, Leaves, replaced, resized}
use Rattle.fw_cuts.specs.Cuts.{splice, MayResize, Cuts}
use Rattle.fw_cuts.proofs.Splices.{length-replaced, replaced_last, replaced_front, replaced_again, replaced_same, front_size, splice_same, splice_replaced, splice_last, resized_cut, resized_same, resized_last, length-resized}

-- a sector that is one of two, of which the first is one of before or of after and the second is that of after, is one of these
both : (at k : ℕ) (now was before after after_now : List ℕ) → IsEither at was before after k → after_now ≡ after → IsEither at now was after_now k → IsEither at now before after k
both at k now was before after after_now earlier e (inl stays) =
    ⊎_elim (λ (is : in_sector at k was ≡ in_sector at k before). inl (stays ∙ is)) (λ (is : in_sector at k was ≡ in_sector at k after). inr (stays ∙ is)) earlier
both at k now was before after after_now earlier e (inr written) = inr (written ∙ ap (λ (l : List ℕ). in_sector at k l) e)

module _ (w : Write) (file : List ℕ) (is : IsWrite w) (on : IsOn w file) where
  -- nothing of it
  pub before : Leaves w file file
  before = record {
    front = w.before;
    last = w.last_before;
    size = refl;
    front_cut = λ k. inl refl;
    last_cut = record {
      size = inl refl;
      cut = λ k. inl (ap (λ (l : List ℕ). in_sector w.last_at k l) (sym (resized_same w.last_before (length w.last_before) refl)));
    };
    stands = sym (replaced_same file w.at w.before w.last_at w.last_before on.front on.last);
  }

  -- its length
  resized_file : resized file (w.last_at + length w.last_after) ≡ replaced file w.at w.before w.last_at (resized w.last_before (length w.last_after))
  resized_file =
      let A : List ℕ = take w.last_at file in
      let size : length A ≡ w.last_at = length-take-le w.last_at file on.within in
      ap (λ (l : List ℕ). resized l (w.last_at + length w.last_after)) (sym (take-append-drop w.last_at file) ∙ ap (λ (l : List ℕ). A ++ l) on.last)
      ∙ ap (λ (n : ℕ). resized (A ++ w.last_before) (n + length w.last_after)) (sym size)
      ∙ resized_last A w.last_before (length w.last_after)
      ∙ ap (λ (l : List ℕ). take w.last_at l ++ resized w.last_before (length w.last_after)) (sym (splice_same file w.at w.before on.front))

  pub resizes : (left : List ℕ) → MayResize (w.last_at + length w.last_after) file left → Leaves w file left
  resizes left (inl same) = subst (λ (l : List ℕ). Leaves w file l) (sym same) before
  resizes left (inr other) =
      let size : length (resized w.last_before (length w.last_after)) ≡ length w.last_after = length-resized w.last_before (length w.last_after) in
      record {
        front = w.before;
        last = resized w.last_before (length w.last_after);
        size = refl;
        front_cut = λ k. inl refl;
        last_cut = record {
          size = inr size;
          cut = λ k. inl (ap (λ (n : ℕ). in_sector w.last_at k (resized w.last_before n)) (sym size));
        };
        stands = other ∙ resized_file;
      }

  module _ (left : List ℕ) (l : Leaves w file left) where
    order : w.at + length l.front ≤ w.last_at
    order = omega (arith, l.size, is.order)

    length-left : length left ≡ w.last_at + length l.last
    length-left = ap length l.stands ∙ length-replaced file w.at l.front w.last_at l.last order on.within

    last_of_left : drop w.last_at left ≡ l.last
    last_of_left = ap (drop w.last_at) l.stands ∙ replaced_last file w.at l.front w.last_at l.last order on.within

    -- its first part
    pub front : (new : List ℕ) → Cuts w.at w.after left new → Leaves w file new
    front new cut =
        let size : length cut.part ≡ length w.after = omega (arith, cut.size, length-left, order, is.same, l.size) in
        let same : length cut.part ≡ length l.front = omega (arith, size, is.same, l.size) in
        let there : slice_range left w.at (w.at + length cut.part) ≡ l.front =
        ap (λ (bytes : List ℕ). slice_range bytes w.at (w.at + length cut.part)) l.stands
        ∙ replaced_front file w.at l.front w.last_at l.last (w.at + length cut.part) order on.within (ap (λ (n : ℕ). w.at + n) same) in
        let all : take (length cut.part) w.after ≡ w.after = take_all (length cut.part) w.after (omega (arith, size)) in
        let stays : (k : ℕ) → IsEither w.at cut.part l.front (take (length cut.part) w.after) k =
        λ k. subst (λ (was : List ℕ). IsEither w.at cut.part was (take (length cut.part) w.after) k) there (cut.cut k) in
        let fits : w.at + length cut.part ≤ w.last_at = omega (arith, same, order) in
        record {
          front = cut.part;
          last = l.last;
          size = same ∙ l.size;
          front_cut = λ k. both w.at k cut.part l.front w.before w.after (take (length cut.part) w.after) (l.front_cut k) all (stays k);
          last_cut = l.last_cut;
          stands = cut.stands
              ∙ splice_replaced left w.at cut.part w.last_at fits (omega (arith, length-left))
              ∙ ap (λ (bytes : List ℕ). replaced left w.at cut.part w.last_at bytes) last_of_left
              ∙ ap (λ (bytes : List ℕ). replaced bytes w.at cut.part w.last_at l.last) l.stands
              ∙ replaced_again file w.at l.front cut.part w.last_at l.last l.last same order on.within;
        }

    -- its last one
    pub last : (new : List ℕ) → length left ≤ w.last_at + length w.last_after → Cuts w.last_at w.last_after left new → Leaves w file new
    last new short cut =
        let few : length l.last ≤ length w.last_after = omega (arith, length-left, short) in
        let size : length cut.part ≡ length l.last = omega (arith, cut.size, length-left, few) in
        let count : w.last_at + length cut.part - w.last_at ≡ length cut.part = omega arith in
        let there : slice_range left w.last_at (w.last_at + length cut.part) ≡ l.last =
        ap (λ (n : ℕ). take n (drop w.last_at left)) count
        ∙ ap (take (length cut.part)) last_of_left
        ∙ take_all (length cut.part) l.last (omega (arith, size)) in
        let all : take (length cut.part) w.last_after ≡ resized w.last_after (length l.last) =
        ap (λ (n : ℕ). take n w.last_after) size ∙ sym (resized_cut w.last_after (length l.last) few) in
        let stays : (k : ℕ) → IsEither w.last_at cut.part l.last (take (length cut.part) w.last_after) k =
        λ k. subst (λ (was : List ℕ). IsEither w.last_at cut.part was (take (length cut.part) w.last_after) k) there (cut.cut k) in
        let each : IsCut w.last_at cut.part (resized w.last_before (length l.last)) (resized w.last_after (length l.last)) =
        λ k. both w.last_at k cut.part l.last (resized w.last_before (length l.last)) (resized w.last_after (length l.last)) (take (length cut.part) w.last_after) (l.last_cut.cut k) all (stays k) in
        record {
          front = l.front;
          last = cut.part;
          size = l.size;
          front_cut = l.front_cut;
          last_cut = record {
            size = ⊎_elim (λ (e : length l.last ≡ length w.last_before). inl (size ∙ e)) (λ (e : length l.last ≡ length w.last_after). inr (size ∙ e)) l.last_cut.size;
            cut = subst (λ (n : ℕ). IsCut w.last_at cut.part (resized w.last_before n) (resized w.last_after n)) (sym size) each;
          };
          stands = cut.stands
              ∙ splice_last left w.last_at cut.part (omega (arith, length-left, size))
              ∙ ap (λ (bytes : List ℕ). take w.last_at bytes ++ cut.part) l.stands
              ∙ ap (λ (bytes : List ℕ). bytes ++ cut.part)
              (take_at (take w.last_at (splice file w.at l.front)) l.last w.last_at (front_size file w.at l.front w.last_at order on.within));
        }
