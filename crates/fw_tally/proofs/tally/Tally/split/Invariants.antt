use Rattle.fw_tally.proofs.tally.Tally.split.Given as goal

abbrev pub ghosts-part : goal.ghosts-part
ghosts-part a = record { portion = a.marks }
