-- The reader's own: what it keeps of the messages that it has read, and how one message more changes that. No public
-- clause rests on this; the statements of a file stand in Statements.
use Rattle.std.specs.Prelude.{
  ℕ,
  Bool,
  true,
  false,
  ◌&&◌,
  ◌||◌,
  List,
  [],
  ◌∷◌,
  ◌++◌,
  Option,
  Some,
  None,
  unwrap_or,
  if◌then◌else◌,
  ℤ,
  pos,
}
use Rattle.std.specs.Ordering.{int_eq}
use Rattle.book_statement.specs.declared.statement.Statement.{Statement}
use Rattle.book_statement.specs.declared.statement_line.StatementLine.{StatementLine}
use Rattle.book_statement.specs.Keys.{same_text}
use Rattle.book_statement.specs.Lists.{on_last}
use Rattle.mt940_read.specs.declared.message.Message.{Message}
use Rattle.mt940_read.specs.declared.page.Page.{Page}

-- What the next message has to know of one.
abbrev pub page_of : Message → Page
page_of m = record {
  account = m.account;
  currency = m.currency;
  closing = unwrap_or m.closing (pos 0);
  closes_page =
      m.closes_page;
}

-- A message belongs to the statement of the message before: they have one account, and the first closes or the second
-- opens a page in the middle of a statement.
abbrev pub joins_page : Option Page → List ℕ → Bool → Bool
joins_page None account opens = false
joins_page (Some page) account opens = same_text page.account account && (page.closes_page || opens)

-- A page continues the one before: both are in the middle of a statement, and the balances agree.
abbrev pub agrees : Option Page → List ℕ → ℤ → Bool → Bool
agrees None currency opening opens = true
agrees (Some page) currency opening opens =
    page.closes_page && opens && int_eq page.closing opening && same_text page.currency currency

-- The statement of a message alone.
abbrev pub statement_alone : Message → Statement
statement_alone m = record {
  account_text = m.account;
  number = m.number;
  currency = m.currency;
  opening = m.opening;
  closing = m.closing;
  day = m.day;
  ties = Some true;
  lines = m.lines;
}

-- A statement with another closing balance and day, and more lines.
abbrev pub with_end : Option ℤ → ℤ → List StatementLine → Statement → Statement
with_end closing day lines statement = record statement
    { closing = closing; day = day; lines = statement.lines ++ lines }

-- A page behind a statement.
abbrev pub with_last_page : Statement → Message → Statement
with_last_page statement m = with_end m.closing m.day m.lines statement

-- What the messages before a message are to it.
pub record Past : Type 0 where
  pub page : Option Page
  pub statements : ℕ
  pub lines : ℕ

-- The statements with one message more.
abbrev pub with_message : Option Page → Message → List Statement → List Statement
with_message page m done =
    if joins_page page m.account m.opens_page then on_last (λ s. with_last_page s m) done else done ++
    statement_alone m ∷ []
