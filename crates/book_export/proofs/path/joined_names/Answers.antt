use Rattle.std.proofs.Common.{ℕ}
use Rattle.book_accounts.specs.Path.{name_at}
use Rattle.book_export.specs.Names.{journal_name}
use Rattle.book_export.proofs.PathLemmas.{join_more}
use Rattle.book_export.proofs.path.joined_names.Goals as goal

pub loop-place-preserved : goal.loop-place-preserved
loop-place-preserved c =
    join_more (λ (n : ℕ). journal_name (name_at c.args.accounts.now.entries n)) c.args.numbers.now c.loop-place.place
    c.loop-place.names.items c.push_colon_behind.new.names.items c.push_name_at.new.names.items
    c.loop-place-test.true c.loop-place.invariant c.in_ok-push_colon_behind.ensures c.in_ok-push_name_at.ensures
