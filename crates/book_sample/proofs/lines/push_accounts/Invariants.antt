-- The lines so far, with those that are still to come, are all of them.
use Rattle.std.proofs.Common.{◌≡◌, ◌-◌, ◌++◌, string_bytes}
use Rattle.book_sample.specs.Sample.{account_line, texts_from}
use Rattle.book_sample.proofs.lines.push_accounts.Given as goal

abbrev pub invariant-loop-place : goal.invariant-loop-place
invariant-loop-place l =
    string_bytes l.text ++ texts_from account_line l.place (8 - l.place)
    ≡ string_bytes l.fn.text ++ texts_from account_line 0 8
