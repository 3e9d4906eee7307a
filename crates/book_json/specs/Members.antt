-- Reading an object by its members: each is taken away by its name, one after another, and none may be left at the
-- end.
use Rattle.std.specs.Prelude.{ℕ, List, [], Bool, false, bytes_eq, if◌then◌else◌, Option, Some, None, unwrap_or}
use Rattle.std.specs.Prelude.{option_map, option_and_then, ok_or, Result, Ok, Err}
use Rattle.serde_json.specs.Data.{Data, Members, no_members, member}
use Rattle.serde_json.specs.Find.{get_member, as_str, as_bool}

-- A form says what data of JSON stands for: a value, or none where the data is of another form.
abbrev pub Form : Type 0 → Type 0
Form X = Data → Option X

-- A reader takes members away: it gives a value and the members left, or the name of the first member that fails.
abbrev pub Reader : Type 0 → Type 0
Reader X = Members → Result (X × Members) (List ℕ)

-- The members without the one of that name.
abbrev pub without : List ℕ → Members → Members
without name no_members = no_members
without name (member other d ms) = if bytes_eq name other then ms else member other d (without name ms)

-- A member that must stand: it fails where it is absent, and where its data is of another form.
unfoldable pub needed : {X : Type 0} → Form X → List ℕ → Reader X
needed form name ms =
    ok_or (option_map (λ x. (x, without name ms)) (option_and_then form (get_member name ms))) name

-- What a member that may be absent stands for; `null` is data like any other, and not an absent member.
abbrev pub if_given : {X : Type 0} → Form X → Option Data → Option (Option X)
if_given form None = Some None
if_given form (Some d) = option_map Some (form d)

-- A member that may be absent, and has no value then: it fails only where its data is of another form.
unfoldable pub optional : {X : Type 0} → Form X → List ℕ → Reader (Option X)
optional form name ms =
    ok_or (option_map (λ x. (x, without name ms)) (if_given form (get_member name ms))) name

-- The form of no data.
abbrev pub never : {X : Type 0} → Form X
never d = None

-- A member that may not stand: it fails wherever it is given.
unfoldable pub absent : {X : Type 0} → List ℕ → Reader (Option X)
absent name = optional never name

-- What is read next is read of the members that the reader before it left.
abbrev pub then_read : {X Y : Type 0} → Result (X × Members) (List ℕ) → (X → Reader Y) → Result (Y × Members) (List ℕ)
then_read (Ok read) next = next read.0 read.1
then_read (Err name) next = Err name

infixl 1 ◌>>=◌
-- One reader after another; so a table of members is a `do` block of one line a member, in their order.
abbrev pub ◌>>=◌ : {X Y : Type 0} → Reader X → (X → Reader Y) → Reader Y
◌>>=◌ reader next ms = then_read (reader ms) next

-- A value that takes no member.
abbrev pub gives : {X : Type 0} → X → Reader X
gives x ms = Ok (x, ms)

-- The member of that name fails, whatever it is.
abbrev pub refuses : {X : Type 0} → List ℕ → Reader X
refuses name ms = Err name

-- A text that may be absent, and is empty then.
unfoldable pub text : List ℕ → Reader (List ℕ)
text name = do
  given ← optional as_str name
  gives (unwrap_or given [])

-- A truth that may be absent, and is false then.
unfoldable pub flag : List ℕ → Reader Bool
flag name = do
  given ← optional as_bool name
  gives (unwrap_or given false)

-- The end of an object: no member may be left, and the least of those left, in the order of their names' bytes, fails.
unfoldable pub ends : {X : Type 0} → X → Reader X
ends x no_members = Ok (x, no_members)
ends x (member name d ms) = Err name

-- The value alone, of what a reader gave.
abbrev pub value_read : {X : Type 0} → Result (X × Members) (List ℕ) → Result X (List ℕ)
value_read (Ok read) = Ok read.0
value_read (Err name) = Err name

-- An object read to its end: the value, or the name of the first member that fails.
abbrev pub complete : {X : Type 0} → Reader X → Members → Result X (List ℕ)
complete reader ms = value_read ((reader >>= ends) ms)
