use Rattle.book_files.proofs.FileLemmas.{from_rows}
use Rattle.bookshow.proofs.show_in.Goals as goal

-- the keeper held the rows of the file as the run began
pub returns : goal.returns
returns g c = record {
  rows = λ still.
      from_rows _ _ _ (c.show-answer.ensures.rows still) (c.at-keeper.ensures.found (c.show-answer.ensures.sure still))
      (c.at-keeper.ensures.empty (c.show-answer.ensures.sure still));
  shown = λ still.
      from_rows _ _ _ (c.show-answer.ensures.shown still) (c.at-keeper.ensures.found (c.show-answer.ensures.sure still))
      (c.at-keeper.ensures.empty (c.show-answer.ensures.sure still));
  path = c.show-answer.ensures.path;
  output_faults = c.show-answer.ensures.output_faults;
}
