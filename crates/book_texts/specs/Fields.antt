-- The members of an answer, in the byte order of their names, as serde_json's own map keeps them.
use Rattle.std.specs.Prelude.{ℕ, List, [], ◌∷◌, codes}
use Rattle.serde_json.specs.Data.{Data, Members, no_members, object, put, string}
use Rattle.serde_json.specs.View.{members_view}
use Rattle.serde_json.specs.Written.{compact_text}
use Rattle.book_command.specs.declared.word.Word.{Word}
use Rattle.book_texts.specs.Shown.{number_data}
use Rattle.book_texts.specs.Words.{word_text}
use Rattle.book_texts.specs.declared.fields.Fields.{Fields}

-- Members with further ones, each put at its place in the byte order of the names.
abbrev pub with_all : Members → List (List ℕ × Data) → Members
with_all members [] = members
with_all members (field ∷ fields) = with_all (put field.0 field.1 members) fields

-- What an accepted command is answered: its word under "ok", the version after it, and its own fields.
abbrev pub answered : Word → List (List ℕ × Data) → ℕ → Members
answered word own version =
    with_all no_members ((codes "ok", string (word_text word)) ∷ (codes "version", number_data version) ∷ own)

-- What a command that would break a rule is answered: the rule's name under "broken", the version, which stays, and
-- the rule's own fields.
abbrev pub broken : List ℕ → List (List ℕ × Data) → ℕ → Members
broken name own version =
    with_all no_members ((codes "broken", string name) ∷ (codes "version", number_data version) ∷ own)

-- What a line that is no command is answered: the cause under "refused", and its own fields.
abbrev pub refused : List ℕ → List (List ℕ × Data) → Members
refused cause own = with_all no_members ((codes "refused", string cause) ∷ own)

-- The line of members: one object, with no blank.
abbrev pub line_of : Members → List ℕ
line_of members = compact_text (object members)

-- The members that fields hold.
abbrev pub members_of : Fields → Members
members_of fields = members_view fields.members.entries
