-- What was read of a file is a tree that the rest of the file fills: a line moves from the rest to that tree, and the
-- whole tree stays the same.
use Rattle.std.proofs.Common.{◌≡◌, ℕ, ◌+◌, Bool, true, false, List, [], ◌∷◌, ◌++◌, append_assoc, refl}
use Rattle.std.proofs.lemmas.List.{append-nil}
use Rattle.qif_read.specs.Tree.{Line, Entry, Listing, Rest, entry_of, line_of, in_front, rest_after}
use Rattle.qif_read.specs.declared.kind.Topic.{Topic}
use Rattle.qif_read.specs.declared.kind.LineKind.{LineKind}
use Rattle.qif_read.specs.declared.kind.LineKind.TheVariants.{Header, Switch, End, Empty, Field}

-- the lists before the last header, what that header began, its entries that have ended, and the lines of one that
-- has not
pub record Begun : Type 0 where
  pub listings : List Listing
  pub topic : Topic
  pub entries : List Entry
  pub fields : List Line

abbrev pub begun : List Listing → Topic → List Entry → List Line → Begun
begun listings topic entries fields =
    record { listings = listings; topic = topic; entries = entries; fields = fields }

-- the tree of a file whose rest means this
abbrev pub fill : Begun → Rest → List Listing
fill b rest =
    b.listings
    ++ record {
      topic = b.topic;
      entries = b.entries ++
          (entry_of (b.fields ++ rest.loose) rest.whole rest.last ++ rest.entries);
    }
    ∷ rest.listings

-- the open entry has ended
abbrev pub closed : Begun → Bool → ℕ → Begun
closed b whole last = begun b.listings b.topic (b.entries ++ entry_of b.fields whole last) []

-- a list has begun behind entries that have ended
abbrev pub turned : Begun → Topic → Begun
turned b topic = begun (b.listings ++ record { topic = b.topic; entries = b.entries } ∷ []) topic [] []

-- one line more was read, behind n lines
abbrev pub grown : ℕ → List ℕ → LineKind → Begun → Begun
grown n text (Header topic) b = turned (closed b false n) topic
grown n text Switch b = closed b false n
grown n text End b = closed b true (n + 1)
grown n text Empty b = b
grown n text (Field code) b = begun b.listings b.topic b.entries (b.fields ++ line_of n text code ∷ [])

pub fill-grown : (n : ℕ) (text : List ℕ) (kind : LineKind) (b : Begun) (rest : Rest)
    → fill b (in_front n text kind rest) ≡ fill (grown n text kind b) rest
fill-grown n text (Header topic) b rest = simp (append_assoc, append-nil)
fill-grown n text Switch b rest = simp (append_assoc, append-nil)
fill-grown n text End b rest = simp (append_assoc, append-nil)
fill-grown n text Empty b rest = refl
fill-grown n text (Field code) b rest = simp append_assoc

-- behind a header or the end of the file the open entry has ended
pub fill-closed : (n : ℕ) (text : List ℕ) (topic : Topic) (b : Begun) (rest : Rest)
    → fill b (in_front n text (Header topic) rest) ≡ fill (closed b false n) (in_front n text (Header topic) rest)
fill-closed n text topic b rest = simp (append_assoc, append-nil)

-- at the end of the file the last list has ended
pub fill-end : (n : ℕ) (topic : Topic) (b : Begun)
    → fill b (rest_after n []) ≡ (turned (closed b false n) topic).listings
fill-end n topic b = simp (append_assoc, append-nil)
