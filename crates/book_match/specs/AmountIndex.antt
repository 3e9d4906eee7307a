-- The splits that may be matched, kept so that those of one account and amount stand together.
use Rattle.std.specs.Prelude.{◌≡◌, ⊤, ℕ, ◌==◌, nat_lt, int_lt, ℤ, Bool, true, false, ◌&&◌, if◌then◌else◌}
use Rattle.std.specs.Prelude.{List, [], ◌∷◌, filter}
use Rattle.std.specs.List.{list_any}
use Rattle.std.specs.Ordering.{int_eq}
use Rattle.book_match.specs.Proposal.{in_turn}
use Rattle.book_match.specs.declared.free.Free.{Free}

-- What contracts see of an index: its splits, how many more it has room for, and how often it was changed.
pub record Index : Type 0 where
  pub entries : List Free
  pub spare : ℕ
  pub changes : ℕ

-- One split comes before another: by account, by amount, by day and by number.
abbrev pub precedes : Free → Free → Bool
precedes one other =
    in_turn (nat_lt one.account other.account) (nat_lt other.account one.account)
    (in_turn (int_lt one.amount other.amount) (int_lt other.amount one.amount)
    (in_turn (int_lt one.day other.day) (int_lt other.day one.day) (nat_lt one.split other.split)))

-- A split comes before all of these.
abbrev pub PrecedesAll : Free → List Free → Type 0
PrecedesAll free [] = ⊤
PrecedesAll free (entry ∷ more) = (precedes free entry ≡ true) × PrecedesAll free more

-- The splits rise: each comes before all behind it, so that none stands twice.
abbrev pub Rises : List Free → Type 0
Rises [] = ⊤
Rises (entry ∷ more) = PrecedesAll entry more × Rises more

-- Whether two splits are the same in account, amount, day and number.
abbrev pub is_same : Free → Free → Bool
is_same one other =
    (one.account == other.account) && (int_eq one.amount other.amount && (int_eq one.day other.day
    && (one.split == other.split)))

-- Whether a split is one of these.
abbrev pub is_there : Free → List Free → Bool
is_there free entries = list_any (is_same free) entries

-- The splits with one more, which stands in front of the first that doesn't come before it.
abbrev pub with_free : Free → List Free → List Free
with_free free [] = free ∷ []
with_free free (entry ∷ more) = if precedes entry free then entry ∷ with_free free more else free ∷ entry ∷ more

-- These splits in the order of the index, each put in where it stands.
abbrev pub ordered : List Free → List Free
ordered [] = []
ordered (free ∷ more) = with_free free (ordered more)

-- None of these splits is there twice.
abbrev pub AreApart : List Free → Type 0
AreApart [] = ⊤
AreApart (free ∷ more) = (is_there free more ≡ false) × AreApart more

-- The splits without this one.
abbrev pub without_free : Free → List Free → List Free
without_free free [] = []
without_free free (entry ∷ more) = if is_same free entry then more else entry ∷ without_free free more

-- The splits with all of these more, each put in where it stands.
abbrev pub with_all : List Free → List Free → List Free
with_all [] entries = entries
with_all (free ∷ more) entries = with_all more (with_free free entries)

-- The splits without any of these.
abbrev pub without_all : List Free → List Free → List Free
without_all [] entries = entries
without_all (free ∷ more) entries = without_all more (without_free free entries)

-- Each of these is one of the splits.
abbrev pub AreThere : List Free → List Free → Type 0
AreThere [] entries = ⊤
AreThere (free ∷ more) entries = (is_there free entries ≡ true) × AreThere more entries

-- None of these is one of the splits.
abbrev pub AreAbsent : List Free → List Free → Type 0
AreAbsent [] entries = ⊤
AreAbsent (free ∷ more) entries = (is_there free entries ≡ false) × AreAbsent more entries

-- Whether a split is one of an account with an amount.
abbrev pub is_of_amount : ℕ → ℤ → Free → Bool
is_of_amount account amount entry = (entry.account == account) && int_eq entry.amount amount

-- The splits of an account with an amount.
abbrev pub of_amount : ℕ → ℤ → List Free → List Free
of_amount account amount entries = filter (is_of_amount account amount) entries
