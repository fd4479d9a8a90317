use Rattle.fw_whole.proofs.Finding.{each_cut}
use Rattle.fw_whole.proofs.laws.each_cut_is_whole.Goals as goal

pub returns : goal.returns
returns g c = λ version capacity header old new left made size is goes since found.
    each_cut version capacity header (g.F.StoreFiles.seen old) (g.F.StoreFiles.seen new) left made size is (g.met.F.StoreFiles.only_now old) goes since found
