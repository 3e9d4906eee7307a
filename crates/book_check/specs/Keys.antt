-- By what things are known of which one may stand once in a book.
use Rattle.std.specs.Prelude.{ℕ, ℤ, ◌==◌, nat_eq, Bool, ◌&&◌, List, Option}
use Rattle.std.specs.Borrow.{Bor}
use Rattle.std.specs.Cmp.Lexicographic.{slice_cmp}
use Rattle.std.specs.Option.{option_cmp, option_eq}
use Rattle.std.specs.Ordering.{bool_cmp, int_cmp, int_eq, nat_cmp, ordering_then}
use Rattle.std.specs.declared.cmp.Ordering.{Ordering}
use lib.Pointwise.{pointwise}
use Rattle.book_commodity.specs.declared.commodity.Commodity.{Commodity}
use Rattle.book_accounts.specs.declared.account.Account.{Account}
use Rattle.book_prices.specs.declared.price.Price.{Price}
use Rattle.book_statement.specs.declared.binding.Binding.{Binding}
use Rattle.book_statement.specs.declared.held.Held.{Held}
use Rattle.book_statement.specs.declared.line.Line.{Line}
use Rattle.book_statement.specs.declared.line_key.LineKey.{LineKey}
use Rattle.book_sound.specs.LineRules.{is_same_key, key_of_line}
use Rattle.book_sound.specs.StatementRules.{is_same_statement}
use Rattle.book_check.specs.Walk.{Keying}

abbrev pub text_cmp : Bor (List ℕ) → Bor (List ℕ) → Ordering
text_cmp one other = slice_cmp nat_cmp one.now other.now

-- A commodity is known by its space and its name.
abbrev pub commodity_keys : Keying (Bor (List ℕ) × Bor (List ℕ)) (List ℕ × List ℕ) Commodity
commodity_keys = record {
  cmp = λ one other. ordering_then (text_cmp one.0 other.0) (text_cmp one.1 other.1);
  shown = λ key. (key.0.now, key.1.now);
  parts = λ commodity. (commodity.space, commodity.name);
  same = λ one other. pointwise nat_eq one.0 other.0 && pointwise nat_eq one.1 other.1;
}

-- An account is known by its parent and its name.
abbrev pub account_keys : Keying (Option ℕ × Bor (List ℕ)) (Option ℕ × List ℕ) Account
account_keys = record {
  cmp = λ one other. ordering_then (option_cmp nat_cmp one.0 other.0) (text_cmp one.1 other.1);
  shown = λ key. (key.0, key.1.now);
  parts = λ account. (account.parent, account.name);
  same = λ one other. option_eq nat_eq one.0 other.0 && pointwise nat_eq one.1 other.1;
}

-- A price is known by its commodity, its currency and its day.
abbrev pub price_keys : Keying (ℕ × ℕ × ℤ) (ℕ × ℕ × ℤ) Price
price_keys = record {
  cmp = λ one other. ordering_then (ordering_then (nat_cmp one.0 other.0) (nat_cmp one.1 other.1))
      (int_cmp one.2 other.2);
  shown = λ key. key;
  parts = λ price. (price.commodity, price.currency, price.day);
  same = λ one other. (other.0 == one.0) && ((other.1 == one.1) && int_eq other.2 one.2);
}

-- A binding is known by its text.
abbrev pub binding_keys : Keying (Bor (List ℕ)) (List ℕ) Binding
binding_keys = record {
  cmp = text_cmp;
  shown = λ key. key.now;
  parts = λ binding. binding.text;
  same = pointwise nat_eq;
}

abbrev pub StatementKey : Type 0
StatementKey = ℕ × Bor (List ℕ) × Bor (List ℕ) × Option ℤ × Option ℤ × ℤ × Option Bool

-- A statement is known by all its fields.
abbrev pub statement_keys : Keying StatementKey Held Held
statement_keys = record {
  cmp = λ one other. ordering_then (ordering_then (ordering_then (ordering_then (ordering_then (ordering_then
      (nat_cmp one.0 other.0) (text_cmp one.1 other.1)) (text_cmp one.2 other.2))
      (option_cmp int_cmp one.3 other.3)) (option_cmp int_cmp one.4 other.4)) (int_cmp one.5 other.5))
      (option_cmp bool_cmp one.6 other.6);
  shown = λ key. record {
    account = key.0;
    account_text = key.1.now;
    number = key.2.now;
    opening = key.3;
    closing = key.4;
    day = key.5;
    ties = key.6;
  };
  parts = λ statement. statement;
  same = λ one other. is_same_statement other one;
}

-- The key of a line: its account, day and amount; its type, its references and its text; its ordinal.
abbrev pub LineParts : Type 0
LineParts = (ℕ × ℤ × ℤ) × (Bor (List ℕ) × Bor (List ℕ) × Bor (List ℕ) × Bor (List ℕ)) × ℕ

-- A line is known by its key.
abbrev pub line_keys : Keying LineParts LineKey Line
line_keys = record {
  cmp = λ one other. ordering_then (ordering_then
      (ordering_then (ordering_then (nat_cmp one.0.0 other.0.0) (int_cmp one.0.1 other.0.1))
      (int_cmp one.0.2 other.0.2))
      (ordering_then (ordering_then (ordering_then (text_cmp one.1.0 other.1.0) (text_cmp one.1.1 other.1.1))
      (text_cmp one.1.2 other.1.2)) (text_cmp one.1.3 other.1.3))) (nat_cmp one.2 other.2);
  shown = λ key. record {
    account = key.0.0;
    day = key.0.1;
    amount = key.0.2;
    kind = key.1.0.now;
    ref_own = key.1.1.now;
    ref_bank = key.1.2.now;
    text = key.1.3.now;
    ordinal = key.2;
  };
  parts = key_of_line;
  same = λ one other. is_same_key other one;
}
