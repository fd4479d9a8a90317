use Rattle.std.proofs.Common.{◌≡◌, ℕ, ◌-◌, ◌≤◌, Some, ap, ◌∙◌, arith}
use Rattle.fw_store.specs.StoreLaws.{CallsEnd}
use Rattle.fw_store.specs.declared.fuse.Fuse.{Fuse}
use Rattle.fw_store.proofs.laws.calls_end.Goals as goal

end : CallsEnd
end calls all old new within is =
    let over : (fuse : Fuse) → old ≡ Some fuse → calls ≤ fuse.calls → ⊥ = λ fuse e few. let bad = (is.told fuse e).1 few in cc in
    record {
      told = λ fuse e. (λ t. absurd cc, λ few. let bad : calls ≤ fuse.calls = omega arith in absurd (over fuse e bad));
      used = λ fuse e.
          let spent : fuse.calls - calls ≡ fuse.calls - all = let beyond = over fuse e in omega arith in
          is.used fuse e ∙ ap (λ (n : ℕ). Some (record fuse { calls = n })) spent;
    }

pub returns : goal.returns
returns c = end
