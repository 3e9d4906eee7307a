-- What a walk over things of one kind has seen of their keys.
use Rattle.std.specs.Prelude.{◌≡◌, ℕ, Bool, List}
use Rattle.std.specs.List.{list_any}
use Rattle.std.specs.declared.cmp.Ordering.{Ordering}
use Rattle.std.specs.Ordering.{is_eq}
use Rattle.book_check.specs.Seen.{is_seen}

-- How keys stand for things: the order of keys; what a key shows, and the parts of a thing that its key shows; and
-- whether the parts of two things are the same.
pub record Keying (K P T : Type 0) : Type 0 where
  pub cmp : K → K → Ordering
  pub shown : K → P
  pub parts : T → P
  pub same : P → P → Bool

-- Two keys are the same in their order where the parts are that they show.
abbrev pub Ties : {K P T : Type 0} → Keying K P T → Type 0
Ties {K} keying = (one other : K) → is_eq (keying.cmp one other) ≡ keying.same (keying.shown one) (keying.shown other)

-- The keys seen are those of the entries.
abbrev pub HasKeys : {K P T : Type 0} → Keying K P T → List K → List (ℕ × T) → Type 0
HasKeys {K} keying keys entries =
    (key : K) → is_seen keying.cmp keys key
    ≡ list_any (λ entry. keying.same (keying.parts entry.1) (keying.shown key)) entries
