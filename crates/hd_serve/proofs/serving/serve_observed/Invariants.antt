use Rattle.hd_serve.proofs.serving.serve_observed.Given as goal

abbrev pub ghosts-serve_in-H-House : goal.ghosts-serve_in-H-House
ghosts-serve_in-H-House g a = record { opening = g.K.Turns.opening a.keeper }

abbrev pub ghosts-serve_in-H-Ledger : goal.ghosts-serve_in-H-Ledger
ghosts-serve_in-H-Ledger g a = record { name = a.blank.name; parts = a.blank.parts }
