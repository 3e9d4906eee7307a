-- What is said of the row at which a book is damaged. The kinds of rows are those of docs/FORMATS.md.
use Rattle.std.specs.Prelude.{ℕ, ◌==◌, ◌&&◌, ◌||◌, nat_lt, not, if◌then◌else◌, List, ◌++◌, codes}
use Rattle.std.specs.Fmt.{decimal}

-- What the rows of a kind are.
unfoldable pub kind_word : ℕ → List ℕ
kind_word kind =
    if kind == 1 then codes "the head"
    else if kind == 2 then codes "a commodity"
    else if kind == 3 then codes "an account"
    else if kind == 4 then codes "a transaction"
    else if kind == 5 then codes "a price"
    else if kind == 6 then codes "a schedule"
    else if kind == 7 then codes "a statement"
    else if kind == 8 then codes "a line of a statement"
    else if kind == 9 then codes "a binding"
    else if kind == 10 then codes "a reconciliation"
    else if kind == 11 then codes "a step back"
    else if kind == 12 then codes "a step forth"
    else codes "no kind of a book"

-- What is wrong with a row of a kind that can't be opened. The head may be missing, a step too, and a step may be one
-- that the head doesn't count; of other things no row is needed.
unfoldable pub why_unread : ℕ → List ℕ
why_unread kind =
    if kind == 1 then codes "is missing, or can't be read."
    else if (kind == 11) || (kind == 12)
    then codes "is missing, can't be read, or is one too many: the head counts the steps, back and forth."
    else if not (nat_lt kind 2) && not (nat_lt 10 kind) then codes "can't be read."
    else codes "is one too many: a book has no rows of this kind."

-- The line that says it of the row of a kind and an id.
unfoldable pub unread_line : ℕ → ℕ → List ℕ
unread_line kind id =
    codes "The row of kind "
    ++ (decimal kind
    ++ (codes " and id "
    ++ (decimal id ++ (codes " (" ++ (kind_word kind ++ (codes ") " ++ (why_unread kind ++ codes "\n")))))))

-- A row that is missing, can't be read, or is one too many.
unfoldable pub unread_row_text : ℕ → ℕ → List ℕ
unread_row_text kind id =
    unread_line kind id
    ++ (codes "Rows were changed by other means than `book`. Use your last copy. To see the row:\n"
    ++ (codes "  sqlite3 BOOK 'SELECT hex(body) FROM bk_rows WHERE kind = "
    ++ (decimal kind ++ (codes " AND id = " ++ (decimal id ++ codes "'\n")))))

-- The line that says which rule the row of a kind and an id breaks: the words on it end by a line feed.
unfoldable pub unsound_line : ℕ → ℕ → List ℕ → List ℕ
unsound_line kind id rule =
    codes "The row of kind "
    ++ (decimal kind
    ++ (codes " and id "
    ++ (decimal id
    ++ (codes " (" ++ (kind_word kind ++ (codes ") is the first that breaks a rule of its kind: " ++ rule))))))

-- The first row that breaks a rule of its kind, with the words on this rule.
unfoldable pub unsound_row_text : ℕ → ℕ → List ℕ → List ℕ
unsound_row_text kind id rule =
    unsound_line kind id rule
    ++ (codes "Rows were changed by other means than `book`. Use your last copy."
    ++ (codes " `docs/FORMATS.md` lists these rules.\nTo see the row:\n"
    ++ (codes "  sqlite3 BOOK 'SELECT hex(body) FROM bk_rows WHERE kind = "
    ++ (decimal kind ++ (codes " AND id = " ++ (decimal id ++ codes "'\n"))))))
