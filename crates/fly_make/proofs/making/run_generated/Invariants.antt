use Rattle.fly_make.proofs.making.run_generated.Given as goal

abbrev pub ghosts-drive : goal.ghosts-drive
ghosts-drive g a = record { name = a.blank.name; parts = a.blank.parts }
