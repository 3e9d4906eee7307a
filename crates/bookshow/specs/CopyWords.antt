-- The words that ask for a copy: a book, the word `copy`, and the path of the copy.
use Rattle.std.specs.Prelude.{ℕ, ◌&&◌, if◌then◌else◌, List, [], ◌∷◌, codes, Option, Some, None}
use Rattle.std.specs.Str.{bytes_eq}
use Rattle.book_show.specs.Words.{is_book}

-- The book and the path of its copy.
abbrev pub copy_of : List (List ℕ) → Option (List ℕ × List ℕ)
copy_of (book ∷ word ∷ to ∷ []) =
    if bytes_eq word (codes "copy") && (is_book book && is_book to) then Some (book, to) else None
copy_of words = None
