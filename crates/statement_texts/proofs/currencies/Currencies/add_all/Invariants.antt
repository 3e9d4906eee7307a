use Rattle.std.proofs.Common.{take, map, ◌≡◌}
use Rattle.statement_texts.specs.Usual.{with_codes}
use Rattle.statement_texts.proofs.currencies.Currencies.add_all.Given as goal

-- those of the codes so far were added
abbrev pub invariant-loop-code : goal.invariant-loop-code
invariant-loop-code l =
    l.self ≡ with_codes l.fraction (map (λ code. code.now) (take l.code-index l.codes)) l.fn.self
