-- What is added is that of the definition, and the laws of every import hold of it.
use Rattle.std.proofs.Common.{◌≡◌, refl}
use Rattle.book_import.specs.Import.{imported}
use Rattle.book_import.proofs.DrawnLaws.{drawn-by}
use Rattle.book_import.proofs.ImportLaws.{keys-by, nothing-by}
use Rattle.book_import.proofs.NameLemmas.{named-by}
use Rattle.book_import.proofs.NewLaws.{new-by}
use Rattle.book_import.proofs.StepLemmas.{import-done}
use Rattle.book_import.proofs.importing.import_statements.Goals as goal

pub returns : goal.returns
returns c =
    let statements = c.args.statements.now.entries in
    let lines = c.args.lines.now.entries in
    let file = c.args.file.now in
    let is : c.add_statements.new.self.added ≡ imported statements lines file c.args.next =
    import-done statements c.as_slice.result.now lines file c.args.next c.new.result c.new-2.result _
    c.add_statements.new.self refl c.new.ensures c.new-2.ensures c.as_slice.ensures c.in_ok-known.ensures
    c.in_ok-add_statements.ensures in
    record {
      added = is;
      drawn = drawn-by statements lines file c.args.next c.add_statements.new.self.added is;
      new = new-by statements lines file c.args.next c.add_statements.new.self.added is;
      named = named-by statements lines file c.args.next c.add_statements.new.self.added is;
      keys = keys-by statements lines file c.args.next c.add_statements.new.self.added is;
      nothing = nothing-by statements lines file c.args.next c.add_statements.new.self.added is;
    }
