use Rattle.book_sqlite.proofs.statements.make.Goals as goal

pub returns-in-Put-clause-made : goal.returns-in-Put-clause-made
returns-in-Put-clause-made g c = rw c.in-Put.is (rw c.as_slice.ensures at c.put_row.ensures.made)
