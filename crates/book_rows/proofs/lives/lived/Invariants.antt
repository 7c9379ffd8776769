use Rattle.book_rows.proofs.lives.lived.Given as goal

abbrev pub ghosts-keyed : goal.ghosts-keyed
ghosts-keyed g a = record { name = a.blank.name; parts = a.blank.parts }
