-- The tree of a QIF file: lists under their headers, of entries, of lines. The tree is read from the end of the file:
-- what some lines mean does not depend on the lines before them.
use Rattle.std.specs.Prelude.{ℕ, ◌+◌, Bool, true, false, List, [], ◌∷◌, ◌++◌}
use Rattle.qif_read.specs.Kinds.{kind_of, behind_code}
use Rattle.qif_read.specs.declared.kind.Code.{Code}
use Rattle.qif_read.specs.declared.kind.Topic.{Topic}
use Rattle.qif_read.specs.declared.kind.Topic.TheVariants.{Passed}
use Rattle.qif_read.specs.declared.kind.LineKind.{LineKind}
use Rattle.qif_read.specs.declared.kind.LineKind.TheVariants.{Header, Switch, End, Empty, Field}

-- A line of an entry: its number in the file from 1, its code, and what stands behind the code.
pub record Line : Type 0 where
  pub line : ℕ
  pub code : Code
  pub text : List ℕ

-- An entry: its lines, whether a line ^ ends it, and the number of that line, or else of the last line before the
-- header or the end of the file that breaks it off.
pub record Entry : Type 0 where
  pub fields : List Line
  pub whole : Bool
  pub last : ℕ

-- A list: what its header begins, and its entries.
pub record Listing : Type 0 where
  pub topic : Topic
  pub entries : List Entry

-- What a part of a file means, whatever stands before it: the lines that go on with an entry before them, whether and
-- where that entry ends, the entries that go on with a list before them, and the lists that begin in the part.
pub record Rest : Type 0 where
  pub loose : List Line
  pub whole : Bool
  pub last : ℕ
  pub entries : List Entry
  pub listings : List Listing

-- The entry of some lines; no lines are no entry.
abbrev pub entry_of : List Line → Bool → ℕ → List Entry
entry_of [] whole last = []
entry_of (f ∷ fs) whole last = record { fields = f ∷ fs; whole = whole; last = last } ∷ []

-- The entries of a part in front of which an entry ends.
abbrev pub entries_behind : Rest → List Entry
entries_behind rest = entry_of rest.loose rest.whole rest.last ++ rest.entries

-- A line of an entry behind n lines.
abbrev pub line_of : ℕ → List ℕ → Code → Line
line_of n text code = record { line = n + 1; code = code; text = behind_code text }

-- A part with one line more in front, behind n lines.
abbrev pub in_front : ℕ → List ℕ → LineKind → Rest → Rest
in_front n text (Header topic) rest = record {
  loose = [];
  whole = false;
  last = n;
  entries = [];
  listings = record { topic = topic; entries = entries_behind rest } ∷ rest.listings;
}
in_front n text Switch rest =
    record { loose = []; whole = false; last = n; entries = entries_behind rest; listings = rest.listings }
in_front n text End rest =
    record { loose = []; whole = true; last = n + 1; entries = entries_behind rest; listings = rest.listings }
in_front n text Empty rest = rest
in_front n text (Field code) rest = record {
  loose = line_of n text code ∷ rest.loose;
  whole = rest.whole;
  last = rest.last;
  entries = rest.entries;
  listings = rest.listings;
}

-- What the lines behind n lines mean.
abbrev pub rest_after : ℕ → List (List ℕ) → Rest
rest_after n [] = record { loose = []; whole = false; last = n; entries = []; listings = [] }
rest_after n (text ∷ texts) = in_front n text (kind_of text) (rest_after (n + 1) texts)

-- The lists of a file; what stands before the first header is a list that is passed over.
abbrev pub listings_of : List (List ℕ) → List Listing
listings_of lines =
    let rest = rest_after 0 lines in record { topic = Passed; entries = entries_behind rest } ∷ rest.listings
