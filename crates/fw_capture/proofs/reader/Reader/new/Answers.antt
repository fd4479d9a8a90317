use Rattle.std.proofs.Common.{refl, sym}
use Rattle.std.proofs.lemmas.List.{take_rest}
use Rattle.fw_capture.proofs.reader.Reader.new.Goals as goal

pub returns-in-Ok : goal.returns-in-Ok
returns-in-Ok c = (sym c.in-Ok.ensures.exact, take_rest c.args.capture.now 24, refl)
