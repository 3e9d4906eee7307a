use Rattle.book_files.proofs.FileLemmas.{from_rows}
use Rattle.book_files.proofs.copying.copy_in.Goals as goal

-- the keeper held the rows of the file as the copy began
pub returns-in-Err-clause-rows : goal.returns-in-Err-clause-rows
returns-in-Err-clause-rows g c = λ still.
    let begun = c.open.ensures.sure still in
    from_rows _ _ _ (c.open.ensures.rows still) (c.at-source.ensures.found begun) (c.at-source.ensures.empty begun)

pub returns-in-Err-copy_rows-clause-rows : goal.returns-in-Err-copy_rows-clause-rows
returns-in-Err-copy_rows-clause-rows g c = λ still.
    let opened = c.copy_rows.ensures.sure still in
    let begun = c.open.ensures.sure opened in
    from_rows _ _ _ (λ rows held. c.copy_rows.ensures.rows still rows (c.open.ensures.rows opened rows held))
    (c.at-source.ensures.found begun) (c.at-source.ensures.empty begun)

-- and the other held none
pub returns-in-Ok : goal.returns-in-Ok
returns-in-Ok g c = record {
  rows = λ still.
      let opened = c.copy_rows.ensures.sure still in
      let begun = c.open.ensures.sure opened in
      from_rows _ _ _ (λ rows held. c.copy_rows.ensures.rows still rows (c.open.ensures.rows opened rows held))
      (c.at-source.ensures.found begun) (c.at-source.ensures.empty begun);
  copied = λ still known rows begins none.
      let opened = c.copy_rows.ensures.sure still in
      let begun = c.open.ensures.sure opened in
      from_rows _ _ _
      (λ rows held. c.in-Ok.ensures.copied still known rows (c.open.ensures.rows opened rows held)
      (c.at-target.ensures.empty (c.copy_rows.ensures.target_sure known) none))
      (c.at-source.ensures.found begun) (c.at-source.ensures.empty begun) rows begins;
}
