use Rattle.book_command.specs.declared.word.Word.TheVariants.{Status}
use Rattle.book_texts.proofs.history.status.Given as goal
use Rattle.book_texts.specs.Fields.{answered, members_of, with_all}
use Rattle.book_texts.specs.Shown.{number_data}
use Rattle.std.proofs.Common.{◌≡◌, drop, map}

-- the counts that are left, put to the members so far, make the answer
abbrev pub invariant-loop-count : goal.invariant-loop-count
invariant-loop-count l =
    with_all (members_of l.fields) (map (λ count. (count.0.now, number_data count.1)) (drop l.count-index l.counts))
    ≡ answered Status (map (λ count. (count.0.now, number_data count.1)) l.counts) l.fn.version
