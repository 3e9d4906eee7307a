-- What each line of a QIF file is, by itself (Quicken's description of QIF: headers, codes of a register).
use Rattle.std.specs.Prelude.{ℕ, ◌==◌, nat_lt, Bool, ◌||◌, List, [], ◌∷◌, codes, if◌then◌else◌}
use Rattle.std.specs.Str.{str_eq_ignore_ascii_case}
use Rattle.qif_read.specs.declared.kind.Topic.TheVariants.{Register, Accounts, Passed}
use Rattle.qif_read.specs.declared.kind.Code.{Code}
use Rattle.qif_read.specs.declared.kind.Code.TheVariants.{Date, Total, OtherTotal, Number, Payee, Memo, Category, Split}
use Rattle.qif_read.specs.declared.kind.Code.TheVariants.{SplitMemo, SplitAmount, Other}
use Rattle.qif_read.specs.declared.kind.LineKind.{LineKind}
use Rattle.qif_read.specs.declared.kind.LineKind.TheVariants.{Header, Switch, End, Empty, Field}

-- Headers are compared without regard to the case of A to Z.
unfoldable pub is_header : List ℕ → List ℕ → Bool
is_header line name = str_eq_ignore_ascii_case line name

-- The headers of the transactions of an account.
abbrev pub is_register : List ℕ → Bool
is_register line =
    is_header line (codes "!Type:Bank") || (is_header line (codes "!Type:Cash") || (is_header line (codes "!Type:CCard")
    || (is_header line (codes "!Type:Oth A") || is_header line (codes "!Type:Oth L"))))

-- The headers that switch how a program goes through a list of accounts.
abbrev pub is_switch : List ℕ → Bool
is_switch line = is_header line (codes "!Option:AutoSwitch") || is_header line (codes "!Clear:AutoSwitch")

-- What a header begins.
abbrev pub header_kind : List ℕ → LineKind
header_kind line =
    if is_register line then Header Register
    else (if is_header line (codes "!Account") then Header Accounts
    else (if is_switch line then Switch else Header Passed))

-- What a line gives whose first character this is: D T U N P M L, and S E $ for the parts.
abbrev pub code_of : ℕ → Code
code_of first =
    if first == 68 then Date else (if first == 84 then Total else (if first == 85 then OtherTotal
    else (if first == 78 then Number else (if first == 80 then Payee else (if first == 77 then Memo
    else (if first == 76 then Category else (if first == 83 then Split else (if first == 69 then SplitMemo
    else (if first == 36 then SplitAmount else Other)))))))))

-- A header begins with an exclamation mark, and a line that begins with ^ ends an entry.
unfoldable pub kind_of : List ℕ → LineKind
kind_of [] = Empty
kind_of (b ∷ bs) = if b == 33 then header_kind (b ∷ bs) else (if b == 94 then End else Field (code_of b))

-- What stands behind the code; nothing behind a first character beyond ASCII, which is no code.
abbrev pub behind_code : List ℕ → List ℕ
behind_code [] = []
behind_code (b ∷ bs) = if nat_lt b 128 then bs else []
