use Rattle.book_reports.proofs.lots_report.add_header.Goals as goal

pub returns : goal.returns
returns c = c.add_fields.ensures
