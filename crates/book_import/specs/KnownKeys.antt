-- The keys of lines that are known while a file is imported, as a set in an order.
use Rattle.std.specs.Prelude.{◌≡◌, ℕ, ℤ, ◌==◌, Bool, ◌&&◌, List}
use Rattle.std.specs.Borrow.{Bor}
use Rattle.std.specs.Cmp.Lexicographic.{slice_cmp}
use Rattle.std.specs.List.{list_any}
use Rattle.std.specs.Ordering.{is_eq, int_cmp, nat_cmp, ordering_then}
use Rattle.std.specs.declared.cmp.Ordering.{Ordering}
use Rattle.book_statement.specs.Keys.{has_parts}
use Rattle.book_statement.specs.declared.line.Line.{Line}

-- The parts of a key: the account; day, amount, type, references and text; the ordinal.
abbrev pub Parts : Type 0
Parts = ℕ × (ℤ × ℤ × Bor (List ℕ) × Bor (List ℕ) × Bor (List ℕ) × Bor (List ℕ)) × ℕ

-- The order of keys by their parts.
abbrev pub parts_cmp : Parts → Parts → Ordering
parts_cmp x y =
    ordering_then (ordering_then (nat_cmp x.0 y.0)
    (ordering_then (ordering_then (ordering_then (ordering_then
    (ordering_then (int_cmp x.1.0 y.1.0) (int_cmp x.1.1 y.1.1))
    (slice_cmp nat_cmp x.1.2.now y.1.2.now)) (slice_cmp nat_cmp x.1.3.now y.1.3.now))
    (slice_cmp nat_cmp x.1.4.now y.1.4.now)) (slice_cmp nat_cmp x.1.5.now y.1.5.now))) (nat_cmp x.2 y.2)

-- Whether a line has the key of these parts.
abbrev pub has_key_parts : Parts → Line → Bool
has_key_parts parts line =
    (line.account == parts.0)
    && (has_parts parts.1.0 parts.1.1 parts.1.2.now parts.1.3.now parts.1.4.now parts.1.5.now line.body
    && (line.ordinal == parts.2))

-- Whether a key is among those that are known.
abbrev pub is_known : List Parts → Parts → Bool
is_known known parts = list_any (λ other. is_eq (parts_cmp parts other)) known

-- The keys that are known are those of the lines.
abbrev pub HasKeys : List Parts → List (ℕ × Line) → Type 0
HasKeys known lines = (parts : Parts) → is_known known parts ≡ list_any (λ entry. has_key_parts parts entry.1) lines
