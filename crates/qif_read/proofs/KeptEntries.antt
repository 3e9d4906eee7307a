-- What the reader keeps of the lines of an entry, and of the entries of a register.
use Rattle.std.proofs.Common.{ℕ, List, [], ◌∷◌, ◌++◌, map, Option, Some, None, option_map, unwrap_or, ℤ, pos}
use Rattle.std.specs.Prelude.{if◌then◌else◌}
use Rattle.qif_read.specs.QifDate.{day_read}
use Rattle.qif_read.specs.QifAmount.{amount}
use Rattle.qif_read.specs.Tree.{Line, Entry}
use Rattle.qif_read.specs.Entries.{first_of}
use Rattle.qif_read.specs.Registers.{latest}
use Rattle.qif_read.specs.Kept.{amount_said, day_said, line_said, account_said, opens_with}
use Rattle.qif_read.specs.Sections.{no_entries}
use Rattle.qif_read.specs.declared.form.Form.{Form}
use Rattle.qif_read.specs.declared.kind.Code.{Code}
use Rattle.qif_read.specs.declared.kind.Code.TheVariants.{Date, Total, OtherTotal, Number, Payee, Memo, Category, Split}
use Rattle.qif_read.specs.declared.kind.Code.TheVariants.{SplitMemo, SplitAmount}
use Rattle.qif_read.specs.declared.said.Said.{Said}
use Rattle.qif_read.specs.declared.section.Section.{Section}
use Rattle.qif_read.specs.declared.split.SplitSaid.{SplitSaid}

-- The parts of some lines: the first memo and the first amount that continue a part before them, and the parts that
-- begin among them.
pub record SplitsKept : Type 0 where
  pub memo : Option (List ℕ)
  pub amount : Option ℤ
  pub splits : List SplitSaid

-- The parts with a line more in front.
abbrev pub split_in_front : ℕ → Code → List ℕ → SplitsKept → SplitsKept
split_in_front fraction Split text rest = record {
  memo = None;
  amount = None;
  splits = record { category = text; memo = rest.memo; amount = rest.amount } ∷ rest.splits;
}
split_in_front fraction SplitMemo text rest = record rest { memo = Some text }
split_in_front fraction SplitAmount text rest = record rest { amount = Some (amount fraction text) }
split_in_front fraction _ text rest = rest

-- What the lines of an entry say of parts, in smallest units of a commodity with this fraction: each S begins one.
abbrev pub splits_rest : ℕ → List Line → SplitsKept
splits_rest fraction [] = record { memo = None; amount = None; splits = [] }
splits_rest fraction (f ∷ fs) = split_in_front fraction f.code f.text (splits_rest fraction fs)

-- The parts of an entry.
abbrev pub splits_of : ℕ → List Line → List SplitSaid
splits_of fraction fields = (splits_rest fraction fields).splits

-- What the lines of an entry say: the first line of each code counts.
unfoldable pub said : Form → List Line → Said
said form fields = record {
  day = option_map (day_read form.order) (first_of Date fields);
  total = option_map (amount form.fraction) (first_of Total fields);
  other_total = option_map (amount form.fraction) (first_of OtherTotal fields);
  number = first_of Number fields;
  payee = first_of Payee fields;
  memo = first_of Memo fields;
  category = first_of Category fields;
  splits = splits_of form.fraction fields;
}

-- What each entry of a register says.
abbrev pub all_said : Form → List Entry → List Said
all_said form entries = map (λ entry. said form entry.fields) entries

-- A register whose first entry gives its opening balance and, where it had none, its name; it gives no line.
abbrev pub opened_by : Said → Section
opened_by said = record {
  account = account_said said;
  opening = Some (amount_said said);
  day = Some (day_said said);
  lines = [];
}

-- A register whose first entry is one like the others.
abbrev pub begun_by : List ℕ → Said → Section
begun_by name said = record {
  account = name;
  opening = None;
  day = Some (day_said said);
  lines = line_said said ∷ [];
}

-- A register with its first entry.
abbrev pub after_first : List ℕ → Said → Section
after_first name said = if opens_with name said then opened_by said else begun_by name said

-- A register with the later entries: their lines follow, and its day is the latest of all.
abbrev pub with_later : Section → List Said → Section
with_later section later = record section {
  day = Some (latest (unwrap_or section.day (pos 0)) (map day_said later));
  lines = section.lines ++ map line_said later;
}

-- What the entries of a register with this name give.
abbrev pub section_of : Form → List ℕ → List Entry → Section
section_of form name [] = no_entries name
section_of form name (e ∷ es) =
    with_later (after_first name (said form e.fields)) (map (λ entry. said form entry.fields) es)
