-- What workers leave, in the order in which they were started.
use Rattle.std.specs.declared.thread.Promise as Promise
use Rattle.std.specs.declared.thread.PromisedHandle.{PromisedHandle}
use Rattle.std.specs.PromisedHandle.{KeepsEach}
use Rattle.std.specs.List.{AllZip, remove}
use Rattle.std.proofs.Common.{◌≡◌, ℕ, suc, ◌<◌, List, [], ◌∷◌, ◌++◌, length, map, All, refl, ap, sym, subst, ◌∙◌, append-nil, append_assoc, slice_index_or, arith}
use Rattle.std.proofs.lemmas.List.{map_push}
use Rattle.std.proofs.lemmas.List.Elements.{All-tail}

-- if each result is as its promise says of it, so are all, place by place
module _ {T P A B : Type 0} (g : Promise.Ghosts P T) (of : P → A) (part : T → B) (R : A → B → Type 0)
    (says : (promise : P) (result : T) → g.kept_by promise result → R (of promise) (part result)) where
  pub all_kept : (n : ℕ) (handles : List (PromisedHandle T P)) (left : List T) → n ≡ length handles → length left ≡ length handles
      → KeepsEach g n handles left → AllZip R (map (λ (handle : PromisedHandle T P). of handle.promise) handles) (map part left)
  all_kept n [] [] many same each = tt
  all_kept n [] (result ∷ left) many same each = absurd (omega arith)
  all_kept n (handle ∷ handles) [] many same each = absurd (omega arith)
  all_kept n (handle ∷ handles) (result ∷ left) many same each =
      let first = (each 0 result (omega arith)).1 in
      let later : KeepsEach g (length handles) handles left =
      λ i d lt. (refl, (let at = (each (suc i) d (omega arith)).1 in record { handle = at.handle; handle_is = at.handle_is; kept = at.kept })) in (
        subst (λ (h : PromisedHandle T P). R (of h.promise) (part result)) first.handle_is (says first.handle.promise result first.kept),
        all_kept (length handles) handles left refl (omega arith) later,
      )

-- if none is left to start, all were started
pub all_started : {J A B : Type 0} (R : A → B → Type 0) (of : J → A) (started all : List A) (rest : List J) (ends : List B)
    → length rest ≡ 0 → started ++ map of rest ≡ all → AllZip R started ends → AllZip R all ends
all_started R of started all [] ends none was each = subst (λ xs. AllZip R xs ends) (sym (append-nil started) ∙ was) each
all_started R of started all (job ∷ rest) ends none was each = absurd (omega arith)

-- the first of those that are left is started
pub started_next : {C J A : Type 0} (held : C → A) (of : J → A) (started : List C) (rest : List J) (child : C) (job : J) (all : List A)
    → 0 < length rest → job ≡ slice_index_or rest 0 job → held child ≡ of job
    → map held started ++ map of rest ≡ all → map held (started ++ child ∷ []) ++ map of (remove rest 0) ≡ all
started_next held of started [] child job all some first same was = absurd (omega arith)
started_next held of started (next ∷ later) child job all some first same was =
    ap (λ xs. xs ++ map of later) (map_push held started child)
    ∙ append_assoc (map held started) (held child ∷ []) (map of later)
    ∙ ap (λ x. map held started ++ x ∷ map of later) (same ∙ ap of first)
    ∙ was

-- what holds of all that are left holds without the first
pub rest_are : {J : Type 0} (P : J → Type 0) (rest : List J) → All P rest → All P (remove rest 0)
rest_are P [] each = each
rest_are P (next ∷ later) each = All-tail P next later each
