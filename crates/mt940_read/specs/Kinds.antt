-- What the lines of a message are (SWIFT, MT940: fields are a colon, a tag, a colon and a text).
use Rattle.std.specs.Prelude.{
  ℕ,
  ◌-◌,
  ◌==◌,
  nat_eq,
  Bool,
  true,
  false,
  ◌&&◌,
  ◌||◌,
  List,
  take,
  drop,
  slice_index,
  Option,
  Some,
  None,
  if◌then◌else◌,
  codes,
}
use Rattle.std.specs.Char.{is_ascii_digit, is_ascii_uppercase}
use Rattle.std.specs.List.{starts_with}
use lib.Pointwise.{pointwise}
use Rattle.mt940_read.specs.declared.tag.Tag.{Tag}
use Rattle.mt940_read.specs.declared.tag.Tag.TheVariants as tag
use Rattle.mt940_read.specs.declared.tag.Kind.{Kind}
use Rattle.mt940_read.specs.declared.tag.Kind.TheVariants as kind

-- A colon at a place of a line.
abbrev pub has_colon : List ℕ → ℕ → Bool
has_colon line place = slice_index line place == 58

-- A line begins a field by a colon, two digits, perhaps a capital letter, and a colon (SWIFT, the tags of fields).
abbrev pub has_tag : List ℕ → Bool
has_tag line =
    has_colon line 0 && is_ascii_digit (slice_index line 1) && is_ascii_digit (slice_index line 2)
    && (has_colon line 3 || (is_ascii_uppercase (slice_index line 3) && has_colon line 4))

-- How many bytes the tag takes with its colons.
abbrev pub tag_width : List ℕ → ℕ
tag_width line = if has_colon line 3 then 4 else 5

-- What stands behind the tag.
unfoldable pub field_text : List ℕ → List ℕ
field_text line = drop (tag_width line) line

-- A tag that is one of the names.
abbrev pub is_named : List ℕ → List ℕ → Bool
is_named name text = pointwise nat_eq text name

-- The tags that say something (SWIFT, MT940); 20 is no name here, since it begins a message.
unfoldable pub tag_of : List ℕ → Option Tag
tag_of name =
    if is_named (codes "21") name then Some tag.Related
    else (if is_named (codes "25") name || is_named (codes "25P") name then Some tag.Account
    else (if is_named (codes "28") name || is_named (codes "28C") name then Some tag.Number
    else (if is_named (codes "60F") name then Some (tag.Opening false)
    else (if is_named (codes "60M") name then Some (tag.Opening true)
    else (if is_named (codes "61") name then Some tag.Line
    else (if is_named (codes "86") name then Some tag.Text
    else (if is_named (codes "62F") name then Some (tag.Closing false)
    else (if is_named (codes "62M") name then Some (tag.Closing true)
    else (if is_named (codes "64") name then Some tag.Available
    else (if is_named (codes "65") name then Some tag.Forward
    else None))))))))))

-- The kind of a line with a tag of this name.
abbrev pub field_kind : Option Tag → Kind
field_kind (Some t) = kind.Field t
field_kind None = kind.Passed

-- The kind of a line: `:20:` begins a message; other tags begin fields; `-` alone or `-}` in front ends a message; any
-- other line continues the field before.
unfoldable pub kind_of : List ℕ → Kind
kind_of line =
    if starts_with nat_eq line (codes ":20:") then kind.Begins
    else (if has_tag line then field_kind (tag_of (take (tag_width line - 2) (drop 1 line)))
    else (if pointwise nat_eq line (codes "-") || starts_with nat_eq line (codes "-}") then kind.Ends
    else kind.More))
