use Rattle.fly_desk.proofs.pass.Pass.split.Given as goal

abbrev pub ghosts-cut : goal.ghosts-cut
ghosts-cut g a = record { amount = a.calls }
