use Rattle.book_app.proofs.program.run_program.Goals as goal

-- what the streams report is what this run was over
pub returns-clause-run : goal.returns-clause-run
returns-clause-run g c = record {
  input_before = _;
  input_after = _;
  output_before = _;
  output_after = _;
  is_unknown = _;
  run = c.run_words.ensures.run;
}
