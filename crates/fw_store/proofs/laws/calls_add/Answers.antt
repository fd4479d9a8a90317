use Rattle.std.proofs.Common.{◌≡◌, ℕ, ◌+◌, ◌-◌, ◌≤◌, ◌↔◌, IsTrue, Some, refl, ap, ◌∙◌, arith}
use Rattle.fw_store.specs.StoreLaws.{CallsAdd}
use Rattle.fw_store.specs.declared.fuse.Fuse.{Fuse}
use Rattle.fw_store.proofs.laws.calls_add.Goals as goal

-- the fuse after the first calls
abbrev after : ℕ → Fuse → Fuse
after calls fuse = record fuse { calls = fuse.calls - calls }

add : CallsAdd
add calls more old between new faultless first then =
    let told : (fuse : Fuse) → old ≡ Some fuse → IsTrue faultless ↔ (calls + more ≤ fuse.calls) = λ fuse e.
    let here : calls ≤ fuse.calls = (first.told fuse e).0 refl in
    let rest = then.told (after calls fuse) (first.used fuse e) in
    (λ t. let few = rest.0 t in omega arith, λ few. rest.1 (omega arith)) in
    let used : (fuse : Fuse) → old ≡ Some fuse → new ≡ Some (after (calls + more) fuse) = λ fuse e.
    let same : fuse.calls - calls - more ≡ fuse.calls - (calls + more) = omega arith in
    then.used (after calls fuse) (first.used fuse e) ∙ ap (λ (n : ℕ). Some (record fuse { calls = n })) same in
    record { told = told; used = used }

pub returns : goal.returns
returns c = add
