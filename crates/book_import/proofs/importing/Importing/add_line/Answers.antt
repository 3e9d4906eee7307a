-- The line is new: it is added, and its key is known.
use Rattle.std.proofs.Common.{◌≡◌, ◌++◌, true, arith, ap}
use Rattle.std.proofs.lemmas.Bool.Decides.{nat_tests}
use Rattle.book_sound.specs.LineRules.{key_of_line}
use Rattle.book_import.proofs.StepLemmas.{line-added, line-known}
use Rattle.book_import.proofs.importing.Importing.add_line.Goals as goal

pub returns : goal.returns
returns c =
    let new : c.in_ok-insert.field-0
    ≡ true = (let test = c.if-not-branch.false in grind (arith, nat_tests, test)) in
    λ lines has. (
      line-added lines c.args.statement c.args.key.now c.args.body.now c.args.self.now.added c.in_ok-insert.field-0
          c.in_ok-line.line c.push.new.self c.in_ok-self-2.field-0 c.requires new
          (c.in_ok-insert.ensures.new (lines ++ c.args.self.now.added.lines) has) c.in_ok-line.ensures
          c.in_ok-push.ensures.added c.in_ok-self-2.ensures,
      line-known c.insert.new.self lines c.args.self.now.added.lines c.push.new.self c.args.self.now.added.next
          c.in_ok-line.line
          (c.in_ok-insert.ensures.grows (lines ++ c.args.self.now.added.lines) c.args.self.now.added.next
          c.in_ok-line.line (ap key_of_line c.in_ok-line.ensures) has) c.in_ok-push.ensures.added,
    )
