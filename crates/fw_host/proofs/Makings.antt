-- What the making of a capture makes of the disk, and how its files are told.
use Rattle.std.proofs.Common.{◌≡◌, ◌⊎◌, inl, inr, ⊎_elim, ℕ, min, List, length, take, sym, ◌∙◌, ap, subst, arith}
use Rattle.std.proofs.lemmas.Bool.{cases_lt}
use Rattle.std.proofs.lemmas.List.{take_all, length-take}
use Rattle.std.specs.Prelude.{⊤}
use Rattle.fw_disk.specs.declared.name.Name.TheVariants.{Main, New}
use Rattle.fw_disk.specs.Disk.{Disk}
use Rattle.fw_disk.specs.Calls.{NoName, NoFile, MayRemove}
use Rattle.fw_disk.specs.Ours.{Takes, Fills, Names}
use Rattle.fw_disk.proofs.Steps.{only_more, only_trans, not_new}
use Rattle.fw_host.specs.BegunCapture.{MakesFile}

-- the front of a file and a form of its length, compared as far as the front goes
module _ (all front form : List ℕ) (count : ℕ) (front_is : front ≡ take 16 all) (sixteen : length form ≡ 16) (count_is : count ≡ min (length front) 16) where
  count-front : count ≡ min 16 (length all)
  count-front = omega (arith, count_is, ap length front_is, length-take 16 all)

  pub front_part : take count front ≡ take 16 all
  front_part = take_all count front (omega (arith, count_is, ap length front_is, length-take 16 all)) ∙ front_is

  pub form_part : take count form ≡ take (length all) form
  form_part = elim (cases_lt (length all) 16) [
    | inl less ↦ ap (λ (k : ℕ). take k form) (omega (arith, count-front))
    | inr more ↦ take_all count form (omega (arith, count-front, sixteen)) ∙ sym (take_all (length all) form (omega (arith, sixteen)))
  ]

module _ (bytes : List ℕ) (may : ℕ → Type 0) where
  -- FILE.new is begun
  pub makes_begun : (ours : List ℕ → Type 0) (x y : Disk) → Takes ours ⊤ New may x y → MakesFile bytes may x y
  makes_begun ours x y t = record {
    main = inl (t.only.entries Main (λ is. not_new is));
    only = only_more (λ k. k ≡ New) (λ k. (k ≡ Main) ⊎ (k ≡ New)) may may x y (λ k is. inr is) (λ n is. is) t.only;
  }

  -- it is begun, and then made of a file that may be taken
  pub makes_then : (ours : List ℕ → Type 0) (n : ℕ) → may n → (x y z : Disk) → Takes ours ⊤ New may x y → MakesFile bytes (λ m. m ≡ n) y z → MakesFile bytes may x z
  makes_then ours n taken x y z t m = record {
    main = ⊎_elim (λ same. inl (same ∙ t.only.entries Main (λ is. not_new is))) (λ named. inr named) m.main;
    only = only_trans (λ k. (k ≡ Main) ⊎ (k ≡ New)) may x y z
        (only_more (λ k. k ≡ New) (λ k. (k ≡ Main) ⊎ (k ≡ New)) may may x y (λ k is. inr is) (λ k is. is) t.only)
        (only_more (λ k. (k ≡ Main) ⊎ (k ≡ New)) (λ k. (k ≡ Main) ⊎ (k ≡ New)) (λ k. k ≡ n) may y z (λ k is. is) (λ k is. subst (λ (j : ℕ). may j) (sym is) taken) m.only);
  }

  -- and FILE.new is taken away
  pub makes_removed : (x y z : Disk) → MakesFile bytes may x y → MayRemove New y z → MakesFile bytes may x z
  makes_removed x y z m r =
      let main : z.entry Main ≡ y.entry Main = r.rest.entries Main (λ is. not_new is) in
      record {
        main = ⊎_elim (λ same. inl (main ∙ same))
            (λ it. inr (it.0, record { named = main ∙ it.1.named; contents = r.rest.contents it.0 (λ no. no) ∙ it.1.contents })) m.main;
        only = only_trans (λ k. (k ≡ Main) ⊎ (k ≡ New)) may x y z m.only
            (only_more (λ k. k ≡ New) (λ k. (k ≡ Main) ⊎ (k ≡ New)) NoFile may y z (λ k is. inr is) (λ k no. absurd no) r.rest);
      }

module _ (bytes : List ℕ) (n : ℕ) where
  -- a file gets its bytes
  pub makes_filled : (ours : List ℕ → Type 0) (first : ℕ) (x y : Disk) → Fills ours first n bytes x y → MakesFile bytes (λ m. m ≡ n) x y
  makes_filled ours first x y f = record {
    main = inl (f.only.entries Main (λ no. no));
    only = only_more NoName (λ k. (k ≡ Main) ⊎ (k ≡ New)) (λ m. m ≡ n) (λ m. m ≡ n) x y (λ k no. absurd no) (λ m is. is) f.only;
  }

  -- and then the name FILE
  pub makes_named : (ours : List ℕ → Type 0) (first : ℕ) (named : List ℕ) → named ≡ bytes → (x y z : Disk) → Fills ours first n bytes x y → Names n named y z → MakesFile bytes (λ m. m ≡ n) x z
  makes_named ours first named is x y z f m = record {
    main = ⊎_elim (λ same. inl (same ∙ f.only.entries Main (λ no. no))) (λ it. inr (n, record { named = it.named; contents = it.contents ∙ is })) m.main;
    only = only_trans (λ k. (k ≡ Main) ⊎ (k ≡ New)) (λ m. m ≡ n) x y z
        (only_more NoName (λ k. (k ≡ Main) ⊎ (k ≡ New)) (λ m. m ≡ n) (λ m. m ≡ n) x y (λ k no. absurd no) (λ m is. is) f.only)
        (only_more (λ k. (k ≡ Main) ⊎ (k ≡ New)) (λ k. (k ≡ Main) ⊎ (k ≡ New)) NoFile (λ m. m ≡ n) y z (λ k is. is) (λ m no. absurd no) m.only);
  }
