use Rattle.std.proofs.Common.{◌≡◌, ◌∙◌, ◌+◌, ◌++◌, ℕ, List, length, take, ap, sym, refl, append_assoc, length-append}
use Rattle.std.proofs.lemmas.List.{take_at}
use Rattle.fw_disk.proofs.place.Beside.of.Goals as goal

-- one list behind the other, over what stood there
beside : (path ending zs rest : List ℕ) → take (length path + length ending) (take (length path) (path ++ zs) ++ (ending ++ rest)) ≡ path ++ ending
beside path ending zs rest =
    ap (λ (l : List ℕ). take (length path + length ending) (l ++ (ending ++ rest))) (take_at path zs (length path) refl)
    ∙ ap (λ (l : List ℕ). take (length path + length ending) l) (sym (append_assoc path ending rest))
    ∙ take_at (path ++ ending) rest (length path + length ending) (length-append path ending)

pub returns-clause-path : goal.returns-clause-path
returns-clause-path c =
    rw (c.copy_from_slice.ensures.after, c.copy_from_slice-2.ensures.after, c.as_bytes-path.ensures.value, c.as_bytes-ending.ensures.value)
    (beside c.args.path.now c.args.ending.now _ _)
