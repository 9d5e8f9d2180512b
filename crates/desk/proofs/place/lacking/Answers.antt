use Rattle.desk.proofs.place.lacking.Goals as goal

pub returns-in-Some : goal.returns-in-Some
returns-in-Some c = rw (← c.in-Some.ensures, ← c.if-not-is_in_range.ensures)
