use Rattle.sqlite.specs.Files.{over_files}
use Rattle.book_sqlite.specs.KeeperInSqlite.{HoldsRows}
use Rattle.book_sqlite.specs.KnownRows.{only_rows, trusted_store}
use Rattle.book_app.proofs.StatusClauseLemmas.{serve_seen, stream_run_seen}
use Rattle.book.specs.FileRun.{AreBegun, BeginsWith}
use Rattle.book.proofs.FileLemmas.{of_rows, rose_from_none}
use Rattle.book.proofs.run_in.Goals as goal

-- the keeper held the rows of the file as the run began, and had counted no fault
pub returns : goal.returns
returns g c = record {
  run =
      stream_run_seen _ (BeginsWith _) (AreBegun _) 0 _ _ c.at-keeper.ensures.faults
      (λ still.
      let sure = c.at-keeper.ensures.known (c.run_program-ended.ensures.honest still) in
      of_rows _ _ (c.at-keeper.ensures.found sure) (c.at-keeper.ensures.empty sure))
      (λ still rows left begun begins.
      let sure = c.at-keeper.ensures.known (c.run_program-ended.ensures.honest still) in
      only_rows over_files c.at-keeper.result rows begun ((c.at-keeper.ensures.settled sure rows).0 left)
      (of_rows _ (HoldsRows over_files c.at-keeper.result) (c.at-keeper.ensures.found sure)
      (c.at-keeper.ensures.empty sure) begun begins))
      (trusted_store over_files c.run_program-ended.new.keeper)
      c.run_program-ended.ensures.run;
  causes = record {
    usage = c.run_program-ended.ensures.causes.usage;
    keeper_fault = λ fault.
        rose_from_none _ _ c.at-keeper.ensures.faults (c.run_program-ended.ensures.causes.keeper_fault fault);
    port_faults = c.run_program-ended.ensures.causes.port_faults;
  };
  path = c.run_program-ended.ensures.path;
  memory = c.run_program-ended.ensures.memory;
  serve =
      serve_seen _ (BeginsWith _) (AreBegun _) 0 _ _ _ _ c.at-keeper.ensures.faults
      (λ still.
      let sure = c.at-keeper.ensures.known (c.run_program-ended.ensures.honest still) in
      of_rows _ _ (c.at-keeper.ensures.found sure) (c.at-keeper.ensures.empty sure))
      (λ still rows left begun begins.
      let sure = c.at-keeper.ensures.known (c.run_program-ended.ensures.honest still) in
      only_rows over_files c.at-keeper.result rows begun ((c.at-keeper.ensures.settled sure rows).0 left)
      (of_rows _ (HoldsRows over_files c.at-keeper.result) (c.at-keeper.ensures.found sure)
      (c.at-keeper.ensures.empty sure) begun begins))
      (trusted_store over_files c.run_program-ended.new.keeper)
      c.run_program-ended.ensures.serve;
  other_words = c.run_program-ended.ensures.other_words;
  open_links = c.run_program-ended.ensures.open_links;
}
