-- How steps of a disk follow on each other.
use Rattle.std.proofs.Common.{◌≡◌, ◌⊎◌, inl, inr, ⊎_elim, ℕ, List, [], take, refl, sym, ◌∙◌, ap, subst}
use Rattle.std.specs.Prelude.{⊤}
use Rattle.std.proofs.lemmas.Bool.Decides.{eqb_tells}
use Rattle.fw_disk.specs.declared.name.Name.{Name}
use Rattle.fw_disk.specs.Disk.{Entry, absent, plain, other, Disk, ChangesOnly, IsNameless}
use Rattle.fw_disk.specs.declared.name.Name.TheVariants.{Main, New}
use Rattle.fw_disk.specs.Calls.{NoName, NoFile, Shortens, MayCreate, MayMake, MayRename, MayRemove}
use Rattle.fw_disk.specs.Ours.{IsLeftOver, Takes, Starts, Fills, Names, Replaces, MayTakeBeside}

pub only_refl : (N : Name → Type 0) (M : ℕ → Type 0) (x : Disk) → ChangesOnly N M x x
only_refl N M x = record { entries = λ name no. refl; contents = λ n no. refl; others = λ n. refl }

pub only_trans : (N : Name → Type 0) (M : ℕ → Type 0) (x y z : Disk) → ChangesOnly N M x y → ChangesOnly N M y z → ChangesOnly N M x z
only_trans N M x y z f s = record {
  entries = λ name no. s.entries name no ∙ f.entries name no;
  contents = λ n no. s.contents n no ∙ f.contents n no;
  others = λ n. s.others n ∙ f.others n;
}

pub only_more : (N N' : Name → Type 0) (M M' : ℕ → Type 0) (x y : Disk) → ((m : Name) → N m → N' m) → ((n : ℕ) → M n → M' n) → ChangesOnly N M x y → ChangesOnly N' M' x y
only_more N N' M M' x y names files c = record {
  entries = λ name no. c.entries name (λ is. no (names name is));
  contents = λ n no. c.contents n (λ is. no (files n is));
  others = c.others;
}

pub remove_same : (name : Name) (x : Disk) → MayRemove name x x
remove_same name x = record { gone = inl refl; rest = only_refl (λ m. m ≡ name) NoFile x }

-- an entry is one thing
pub same_plain : (a b : ℕ) → plain a ≡ plain b → a ≡ b
same_plain a b is = cc

pub not_absent : (n : ℕ) → absent ≡ plain n → ⊥
not_absent n is = cc

pub not_other : (n : ℕ) → other ≡ plain n → ⊥
not_other n is = cc

pub not_new : Main ≡ New → ⊥
not_new is = cc

pub other_absent : other ≡ absent → ⊥
other_absent is = cc

-- of one file that changes, what was left stays ours if its bytes do
pub left_over_keeps : (ours : List ℕ → Type 0) (name : Name) (n : ℕ) (x y : Disk) → y.entry name ≡ x.entry name
    → ((m : ℕ) → ¬ (m ≡ n) → y.bytes m ≡ x.bytes m) → (ours (x.bytes n) → ours (y.bytes n)) → IsLeftOver ours name x → IsLeftOver ours name y
left_over_keeps ours name n x y entry others one had = λ m is.
    ⊎_elim
    (λ same. subst (λ (k : ℕ). ours (y.bytes k)) (sym same.1) (one (subst (λ (k : ℕ). ours (x.bytes k)) same.1 (had m (sym entry ∙ is)))))
    (λ differ. subst (λ (l : List ℕ). ours l) (sym (others m differ.1)) (had m (sym entry ∙ is)))
    (eqb_tells m n)

module _ (ours : List ℕ → Type 0) (fits : Type 0) (name : Name) (may : ℕ → Type 0) where
  pub takes_refl : (x : Disk) → Takes ours fits name may x x
  takes_refl x = record { only = only_refl (λ m. m ≡ name) may x; left_over = λ fit had. had }

  pub takes_trans : (x y z : Disk) → Takes ours fits name may x y → Takes ours fits name may y z → Takes ours fits name may x z
  takes_trans x y z f s = record { only = only_trans (λ m. m ≡ name) may x y z f.only s.only; left_over = λ fit had. s.left_over fit (f.left_over fit had) }

  pub takes_more : (more : ℕ → Type 0) (x y : Disk) → ((n : ℕ) → may n → more n) → Takes ours fits name may x y → Takes ours fits name more x y
  takes_more more x y wide t = record { only = only_more (λ m. m ≡ name) (λ m. m ≡ name) may more x y (λ m is. is) wide t.only; left_over = t.left_over }

  -- a making that always fits
  pub takes_begun : (fewer : ℕ → Type 0) (x y : Disk) → ((n : ℕ) → fewer n → may n) → Takes ours ⊤ name fewer x y → Takes ours fits name may x y
  takes_begun fewer x y wide t = record { only = only_more (λ m. m ≡ name) (λ m. m ≡ name) fewer may x y (λ m is. is) wide t.only; left_over = λ fit. t.left_over tt }

  -- what is ours is emptied, or some of it
  pub takes_shortened : (n : ℕ) → may n → ((count : ℕ) (bytes : List ℕ) → ours bytes → ours (take count bytes)) → (x y : Disk) → Shortens n x y → Takes ours fits name may x y
  takes_shortened n taken fronts x y s = record {
    only = only_more NoName (λ m. m ≡ name) (λ m. m ≡ n) may x y (λ m no. absurd no) (λ m is. subst (λ (k : ℕ). may k) (sym is) taken) s.rest;
    left_over = λ fit. left_over_keeps ours name n x y (s.rest.entries name (λ no. no)) (λ m differ. s.rest.contents m differ)
        (λ had. subst (λ (l : List ℕ). ours l) (sym s.front) (fronts s.count (x.bytes n) had));
  }

  -- a file is filled that may be taken
  pub takes_filled : (n first : ℕ) (bytes : List ℕ) → may n → (fits → Starts ours first bytes) → (x y : Disk) → Fills ours first n bytes x y → Takes ours fits name may x y
  takes_filled n first bytes taken starts x y f = record {
    only = only_more NoName (λ m. m ≡ name) (λ m. m ≡ n) may x y (λ m no. absurd no) (λ m is. subst (λ (k : ℕ). may k) (sym is) taken) f.only;
    left_over = λ fit. left_over_keeps ours name n x y (f.only.entries name (λ no. no)) (λ m differ. f.only.contents m differ)
        (λ had. f.left_over (starts fit));
  }

  -- a file without bytes is made, or none
  pub takes_created : (n : ℕ) → may n → ours [] → (x y : Disk) → MayCreate name n x y → Takes ours fits name may x y
  takes_created n taken small x y created = ⊎_elim
      (λ same. subst (λ (d : Disk). Takes ours fits name may x d) (sym same) (takes_refl x))
      (λ c. record {
        only = only_more (λ m. m ≡ name) (λ m. m ≡ name) (λ m. m ≡ n) may x y (λ m is. is) (λ m is. subst (λ (k : ℕ). may k) (sym is) taken) c.rest;
        left_over = λ fit had m is.
            let this : n ≡ m = same_plain n m (sym c.named ∙ is) in
            subst (λ (k : ℕ). ours (y.bytes k)) this (subst (λ (l : List ℕ). ours l) (sym c.empty) small);
      })
      created

  -- the name is taken away
  pub takes_removed : (x y : Disk) → MayRemove name x y → Takes ours fits name may x y
  takes_removed x y r = record {
    only = only_more (λ m. m ≡ name) (λ m. m ≡ name) NoFile may x y (λ m is. is) (λ m no. absurd no) r.rest;
    left_over = λ fit had n is. ⊎_elim
        (λ same. subst (λ (l : List ℕ). ours l) (sym (r.rest.contents n (λ no. no))) (had n (sym same ∙ is)))
        (λ gone. absurd (not_absent n (sym gone ∙ is)))
        r.gone;
  }

  pub takes_made : (n : ℕ) → may n → ours [] → (x y : Disk) → MayMake name n x y → Takes ours fits name may x y
  takes_made n taken small x y made = takes_trans x made.0 y (takes_created n taken small x made.0 made.1) (takes_removed made.0 y made.2)

main_kept : (y z : Disk) → MayRemove New y z → z.entry Main ≡ y.entry Main
main_kept y z r = r.rest.entries Main (λ is. not_new is)

-- FILE.new gets the name FILE, or loses its own
pub renamed_or_removed : (e : Entry) (x y z : Disk) → MayRename New Main e x y → MayRemove New y z → MayRename New Main e x z
renamed_or_removed e x y z m r = record {
  named = ⊎_elim (λ same. inl (main_kept y z r ∙ same)) (λ is. inr (main_kept y z r ∙ is)) m.named;
  gone = ⊎_elim (λ same. ⊎_elim (λ was. inl (same ∙ was)) (λ is. inr (same ∙ is)) m.gone) (λ gone. inr gone) r.gone;
  rest = only_trans (λ k. (k ≡ New) ⊎ (k ≡ Main)) NoFile x y z m.rest
      (only_more (λ k. k ≡ New) (λ k. (k ≡ New) ⊎ (k ≡ Main)) NoFile NoFile y z (λ k is. inl is) (λ k no. no) r.rest);
}

-- a file that has its bytes, and the name FILE.new, gets the name FILE
pub names_refl : (n : ℕ) (bytes : List ℕ) (x y : Disk) → y ≡ x → Names n bytes x y
names_refl n bytes x y is = subst (λ (d : Disk). Names n bytes x d) (sym is) (record { main = inl refl; beside = inl refl; only = only_refl (λ k. (k ≡ Main) ⊎ (k ≡ New)) NoFile x })

pub names_renamed : (n : ℕ) (bytes : List ℕ) (e : Entry) → e ≡ plain n → (x y z : Disk) → y ≡ x → y.bytes n ≡ bytes → MayRename New Main e y z → Names n bytes x z
names_renamed n bytes e is_file x y z same has m = subst (λ (d : Disk). Names n bytes d z) same (record {
  main = ⊎_elim (λ was. inl was) (λ is. inr (record { named = is ∙ is_file; contents = m.rest.contents n (λ no. no) ∙ has })) m.named;
  beside = m.gone;
  only = only_more (λ k. (k ≡ New) ⊎ (k ≡ Main)) (λ k. (k ≡ Main) ⊎ (k ≡ New)) NoFile NoFile y z (λ k is. ⊎_elim (λ a. inr a) (λ b. inl b) is) (λ k no. no) m.rest;
})

-- a file is made beside FILE, and gets its name
module _ (ours : List ℕ → Type 0) (first o : ℕ) (bytes : List ℕ) (may more : ℕ → Type 0) (wide : (n : ℕ) → may n → more n) (apart : ¬ may o) where
  pub replaces_beside : (x y : Disk) → Takes ours (Starts ours first bytes) New may x y → Replaces ours first o bytes more x y
  replaces_beside x y t = record {
    whole = λ main. inl (record { named = t.only.entries Main (λ is. not_new is) ∙ main; contents = t.only.contents o apart });
    only = only_more (λ k. k ≡ New) (λ k. (k ≡ Main) ⊎ (k ≡ New)) may more x y (λ k is. inr is) wide t.only;
    left_over = t.left_over;
  }

  pub replaces_renamed : (n : ℕ) (e : Entry) → e ≡ plain n → (x y z : Disk) → Takes ours (Starts ours first bytes) New may x y → y.bytes n ≡ bytes → MayRename New Main e y z → Replaces ours first o bytes more x z
  replaces_renamed n e is_file x y z t has m = record {
    whole = λ main. ⊎_elim
        (λ was. inl (record { named = was ∙ t.only.entries Main (λ is. not_new is) ∙ main; contents = m.rest.contents o (λ no. no) ∙ t.only.contents o apart }))
        (λ is. inr (n, record { named = is ∙ is_file; contents = m.rest.contents n (λ no. no) ∙ has }))
        m.named;
    only = only_trans (λ k. (k ≡ Main) ⊎ (k ≡ New)) more x y z
        (only_more (λ k. k ≡ New) (λ k. (k ≡ Main) ⊎ (k ≡ New)) may more x y (λ k is. inr is) wide t.only)
        (only_more (λ k. (k ≡ New) ⊎ (k ≡ Main)) (λ k. (k ≡ Main) ⊎ (k ≡ New)) NoFile more y z (λ k is. ⊎_elim (λ a. inr a) (λ b. inl b) is) (λ k no. absurd no) m.rest);
    left_over = λ fit had k is. ⊎_elim
        (λ same. subst (λ (l : List ℕ). ours l) (sym (m.rest.contents k (λ no. no))) (t.left_over fit had k (sym same ∙ is)))
        (λ gone. absurd (not_absent k (sym gone ∙ is)))
        m.gone;
  }

-- what may be taken beside FILE is another file
pub apart : (ours : List ℕ → Type 0) (disk : Disk) (o : ℕ) → IsNameless disk disk.next → ¬ MayTakeBeside ours disk o o
apart ours disk o fresh both = ⊎_elim
    (λ new. fresh.here Main (both.main.named ∙ ap (λ k. plain k) new.1))
    (λ own. not_new (sym (both.main.here New own.alone.named)))
    both.takes
