-- A statement whose account is there is kept where its key was not seen.
use Rattle.std.proofs.Common.{refl}
use Rattle.book_sound.specs.StatementRules.{statement_rules}
use Rattle.book_check.specs.Keys.{statement_keys}
use Rattle.book_check.proofs.KeyLemmas.{statement_ties}
use Rattle.book_check.proofs.OnceLemmas.{statement_asked}
use Rattle.book_check.proofs.SeenLemmas.{once}
use Rattle.book_check.proofs.statements.StatementWalkChecked.keeps.Goals as goal

pub returns : goal.returns
returns c =
    let accounts = c.args.self.now.accounts.now.entries in
    let statements = c.args.self.now.statements.now.entries in
    let statement = c.value_at-statement.result.now in
    let kept = once statement_keys statement_ties (statement_rules accounts statements) statements c.args.place
    statement c.key_of.result c.args.self.now.keys c.insert.new.self c.is_there.result c.in_ok-is_taken.is_taken
    c.requires.rises c.value_at-statement.ensures c.key_of.ensures c.requires.known c.if-not-is_there.false
    (λ n there. statement_asked accounts statements n statement c.is_there.result c.is_there.ensures)
    c.in_ok-is_taken.ensures.before c.in_ok-is_taken.ensures.adds in
    record { kept = kept.0; known = kept.1; same_entries = refl; same_rules = refl }
