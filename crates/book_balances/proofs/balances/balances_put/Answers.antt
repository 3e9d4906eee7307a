use Rattle.std.proofs.Common.{◌≡◌, Option, Some, refl, ap, ◌∙◌, sym, subst}
use Rattle.std.specs.Option.{option_copied, option_or}
use Rattle.std.proofs.lemmas.Result.{IfOk-weaker}
use Rattle.book_commodity.specs.Table.{value_of}
use Rattle.book_commodity.proofs.DrawnLemmas.{value_here}
use Rattle.book_sound.proofs.SoundFacts.{tables_rise, transactions_balance}
use Rattle.book_splits.specs.Check as transaction
use Rattle.book_splits.specs.declared.transaction.Txn.{Txn}
use Rattle.book_undo.specs.Book.{book_of}
use Rattle.book_undo.specs.Edit.{edited, leaves}
use Rattle.book_balances.specs.Balances.{put_at}
use Rattle.book_balances.proofs.BalanceLemmas.{copied_or, stands_after, summed_after}
use Rattle.book_balances.proofs.balances.balances_put.Goals as goal

pub unreachable-requires : goal.unreachable-requires
unreachable-requires c =
    let book = book_of c.args.plain.now in
    let stands = stands_after book c.args.edit.now c.args.number c.requires.puts.0
    (tables_rise book c.requires.sound) c.requires.allowed
    c.requires.puts.1 in
    let one : option_copied c.or.result ≡ Some c.requires.puts.0 =
    ap option_copied c.or.ensures ∙ copied_or c.put.result c.find.result
    ∙ ap (λ (o : Option Txn). option_or o (option_copied c.find.result)) c.put.ensures
    ∙ ap (λ (o : Option Txn). option_or (put_at (leaves c.args.edit.now) c.args.number) o) c.find.ensures ∙ stands in
    absurd (let none = ap option_copied c.in_default.is in cc)

pub balances_after-requires : goal.balances_after-requires
balances_after-requires c =
    let book = book_of c.args.plain.now in
    let stands = stands_after book c.args.edit.now c.args.number c.requires.puts.0
    (tables_rise book c.requires.sound) c.requires.allowed
    c.requires.puts.1 in
    let one : option_copied c.or.result ≡ Some c.requires.puts.0 =
    ap option_copied c.or.ensures ∙ copied_or c.put.result c.find.result
    ∙ ap (λ (o : Option Txn). option_or o (option_copied c.find.result)) c.put.ensures
    ∙ ap (λ (o : Option Txn). option_or (put_at (leaves c.args.edit.now) c.args.number) o) c.find.ensures ∙ stands in
    let same : c.in-Some.transaction.now ≡ c.requires.puts.0 =
    (let here = ap option_copied c.in-Some.is in let both = sym here ∙ one in cc) in
    let after = edited c.args.edit.now book in
    let there = ap (value_of c.args.number) c.requires.puts.1
    ∙ value_here c.args.number c.args.number c.requires.puts.0 book.transactions refl in
    record {
      kept = c.requires.kept;
      sound = c.requires.sound;
      form = subst (λ (t : Txn). transaction.IsSound t.splits) (sym same)
          (transactions_balance after c.args.number c.requires.puts.0 c.requires.after there);
    }

pub returns : goal.returns
returns c =
    let book = book_of c.args.plain.now in
    let stands = stands_after book c.args.edit.now c.args.number c.requires.puts.0
    (tables_rise book c.requires.sound) c.requires.allowed
    c.requires.puts.1 in
    let one : option_copied c.or.result ≡ Some c.requires.puts.0 =
    ap option_copied c.or.ensures ∙ copied_or c.put.result c.find.result
    ∙ ap (λ (o : Option Txn). option_or o (option_copied c.find.result)) c.put.ensures
    ∙ ap (λ (o : Option Txn). option_or (put_at (leaves c.args.edit.now) c.args.number) o) c.find.ensures ∙ stands in
    let same : c.in-Some.transaction.now ≡ c.requires.puts.0 =
    (let here = ap option_copied c.in-Some.is in let both = sym here ∙ one in cc) in
    IfOk-weaker c.balances_after.result _ _
    (λ balances summed. summed_after book.transactions (edited c.args.edit.now book).transactions c.args.number
    c.in-Some.transaction.now c.requires.puts.0 balances same c.requires.puts.1 summed)
    c.balances_after.ensures
