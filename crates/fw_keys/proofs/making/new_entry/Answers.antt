use Rattle.std.proofs.Common.{◌≡◌, ◌≤◌, take, drop, length, ◌∙◌, arith, refl, length-drop}
use Rattle.std.proofs.lemmas.List.{take_all}
use Rattle.fw_keys.proofs.making.new_entry.Goals as goal

pub returns : goal.returns
returns c =
    let random = c.args.random.now in
    let rest : length (drop 16 random) ≤ 16 = omega (arith, length-drop 16 random, c.told-random) in
    let second : c.copy_from_slice-2.new.self ≡ drop 16 random = c.copy_from_slice-2.ensures.after ∙ take_all 16 (drop 16 random) rest in
    rw (c.copy_from_slice.ensures.after, second, c.meter_title.ensures) refl
