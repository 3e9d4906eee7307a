-- The order of fields in a message (SWIFT, MT940): 20, [21], 25, 28, 60, any number of 61 each with an [86], 62, [64],
-- any number of 65, [86].
use Rattle.std.specs.Prelude.{Bool, true, false, ◌||◌, not, ◌&&◌, Option, Some, None}
use Rattle.mt940_read.specs.declared.tag.Tag.{Tag}
use Rattle.mt940_read.specs.declared.tag.Tag.TheVariants.{
  Reference,
  Related,
  Account,
  Number,
  Opening,
  Line,
  Text,
  Closing,
  Available,
  Forward,
}

-- Fields 25 and 25P.
abbrev pub is_account : Tag → Bool
is_account Account = true
is_account _ = false

-- Field 21.
abbrev pub is_related : Tag → Bool
is_related Related = true
is_related _ = false

-- Fields 28 and 28C.
abbrev pub is_number : Tag → Bool
is_number Number = true
is_number _ = false

-- Fields 60F and 60M.
abbrev pub is_opening : Tag → Bool
is_opening (Opening goes_on) = true
is_opening _ = false

-- Field 61.
abbrev pub is_line : Tag → Bool
is_line Line = true
is_line _ = false

-- Field 86.
abbrev pub is_text : Tag → Bool
is_text Text = true
is_text _ = false

-- Fields 62F and 62M.
abbrev pub is_closing : Tag → Bool
is_closing (Closing goes_on) = true
is_closing _ = false

-- Field 64.
abbrev pub is_available : Tag → Bool
is_available Available = true
is_available _ = false

-- Field 65.
abbrev pub is_forward : Tag → Bool
is_forward Forward = true
is_forward _ = false

-- Which field may stand behind the last one, in a message that has its closing balance or not.
abbrev pub may_follow : Option Tag → Bool → Tag → Bool
may_follow None closed tag = true
may_follow (Some Reference) closed tag = is_related tag || is_account tag
may_follow (Some Related) closed tag = is_account tag
may_follow (Some Account) closed tag = is_number tag
may_follow (Some Number) closed tag = is_opening tag
may_follow (Some (Opening goes_on)) closed tag = is_line tag || is_closing tag
may_follow (Some Line) closed tag = is_line tag || (is_text tag || is_closing tag)
may_follow (Some Text) closed tag = not closed && (is_line tag || is_closing tag)
may_follow (Some (Closing goes_on)) closed tag = is_available tag || (is_forward tag || is_text tag)
may_follow (Some Available) closed tag = is_forward tag || is_text tag
may_follow (Some Forward) closed tag = is_forward tag || is_text tag
