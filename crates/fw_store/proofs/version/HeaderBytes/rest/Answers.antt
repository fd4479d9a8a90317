use Rattle.std.proofs.Common.{◌-◌, drop, length, ap, ◌∙◌, arith, length-drop}
use Rattle.std.proofs.lemmas.List.{take_all}
use Rattle.fw_store.proofs.version.HeaderBytes.rest.Goals as goal

pub returns-clause-value : goal.returns-clause-value
returns-clause-value c =
    let bytes = c.as_slice.result.now in
    take_all (length bytes - 622) (drop 622 bytes) (omega (arith, length-drop 622 bytes)) ∙ ap (drop 622) c.as_slice.ensures.value
