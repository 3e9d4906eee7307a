-- The checks of each record against the rules of the tree: they hold of the same records.
use Rattle.std.proofs.Common.{◌≡◌, ℕ, ◌+◌, ◌<◌, ◌≤◌, ◌==◌, true, ◌||◌, not, List, length}
use Rattle.std.proofs.Common.{Option, Some, None, refl, sym, ap, ◌∙◌, arith}
use Rattle.std.specs.Prelude.{ℤ, nat_lt, is_none, is_some}
use Rattle.std.specs.Ordering.{int_eq}
use Rattle.std.specs.List.{list_all}
use Rattle.std.proofs.lemmas.Bool.{and_from, and_parts, eq-eqb, eqb-false, eqb-true, lt-ltb, ltb-true, ne_eqb}
use Rattle.std.proofs.lemmas.Bool.{not-true, not_from_false}
use Rattle.std.proofs.lemmas.Bool.Decides.{Decides-int_eq}
use Rattle.std.proofs.lemmas.List.Sums.{AllPass-from_list_all, list_all-from_AllPass}
use Rattle.book_statement.specs.Currencies.{fraction_of}
use Rattle.book_statement.specs.declared.level.Level.TheVariants.{Account, Group, File}
use Rattle.bai2_read.specs.Amounts.{total}
use Rattle.bai2_read.specs.Statements.{currency_in, currency_with}
use Rattle.bai2_read.specs.Details.{detail_amount, funds_part, is_type, lines_of_detail, lines_with}
use Rattle.bai2_read.specs.Fields.{count, field, funds_form, is_count}
use Rattle.bai2_read.specs.Reading.{Known, account_checks, detail_checks, file_checks, group_checks, trailer_checks}
use Rattle.bai2_read.specs.Records.{Record}
use Rattle.bai2_read.specs.Summaries.{has_amount, has_date, has_form, items}
use Rattle.bai2_read.specs.TreeRules.{AccountHeaderRules, DetailRules, FileHeaderRules, GroupHeaderRules, SaysCount}
use Rattle.bai2_read.specs.TreeRules.{SaysTotal}
use Rattle.bai2_read.specs.Said.{Said}
use Rattle.bai2_read.specs.declared.kind.Kind.TheVariants.{FileHeader, GroupHeader, AccountHeader, Detail}
use Rattle.bai2_read.specs.Said.{Sums}
use Rattle.bai2_read.proofs.CheckedLemmas.{AllHold}

-- a detail has room for its line, where it gives one
room_for : (given : Option ℤ) (n : ℕ) (day : ℤ) (body more : List ℕ)
    → n + length (lines_with day body more given) ≤ 10_000 → (is_none given || nat_lt n 10_000) ≡ true
room_for None n day body more few = refl
room_for (Some z) n day body more few = lt-ltb n 10_000 (omega arith)

room_left : (given : Option ℤ) (n : ℕ) (day : ℤ) (body more : List ℕ)
    → (is_none given || nat_lt n 10_000) ≡ true → n ≤ 10_000 → n + length (lines_with day body more given) ≤ 10_000
room_left None n day body more room few = omega arith
room_left (Some z) n day body more room few = let below : n < 10_000 = ltb-true n 10_000 room in omega arith

pub detail_holds : (c : Said) (d : Record) (day : ℤ) → DetailRules d
    → length c.lines + length (lines_of_detail day d.body d.text) ≤ 10_000 → AllHold (detail_checks c d.body)
unfolding detail_checks
detail_holds c d day rules few = (
  and_from (is_type (field 0 d.body)) (funds_form (funds_part d.body)) rules.type_form rules.funds,
  (rules.value_date, (rules.amount, (room_for (detail_amount d.body) (length c.lines) day d.body d.text few, tt))),
)

pub detail_tells : (c : Said) (d : Record) → d.kind ≡ Detail → AllHold (detail_checks c d.body) → DetailRules d
unfolding detail_checks
detail_tells c d kind h =
    let forms = and_parts (is_type (field 0 d.body)) (funds_form (funds_part d.body)) h.0 in
    record { kind = kind; type_form = forms.0; funds = forms.1; value_date = h.1.0; amount = h.1.1.0 }

pub detail_room : (c : Said) (d : Record) (day : ℤ) → AllHold (detail_checks c d.body) → length c.lines ≤ 10_000
    → length c.lines + length (lines_of_detail day d.body d.text) ≤ 10_000
unfolding detail_checks
detail_room c d day h few = room_left (detail_amount d.body) (length c.lines) day d.body d.text h.1.1.1.0 few

some_bytes : (text : List ℕ) → 0 < length text → not (length text == 0) ≡ true
some_bytes text some = not_from_false (length text == 0) (ne_eqb (length text) 0 (λ e. absurd (omega arith)))

bytes_some : (text : List ℕ) → not (length text == 0) ≡ true → 0 < length text
bytes_some text some = let other = eqb-false (length text) 0 (not-true (length text == 0) some) in omega arith

pub account_holds : (known : Known) (c : Said) (group h : Record) → AccountHeaderRules known group h
    → c.currency ≡ currency_in group.body → length c.statements < 1000 → AllHold (account_checks known c h.body)
unfolding account_checks
account_holds known c group h rules currency few =
    let form = list_all-from_AllPass has_form (items h.body) rules.forms in (
      and_from (not (length (field 0 h.body) == 0)) (list_all has_form (items h.body))
          (some_bytes (field 0 h.body) rules.account) form,
      (
        list_all-from_AllPass has_date (items h.body) rules.dates,
        (
          list_all-from_AllPass has_amount (items h.body) rules.amounts,
          (
            ap (λ (l : List ℕ). is_some (fraction_of (currency_with l h.body) known)) currency ∙ rules.currency,
            (lt-ltb (length c.statements) 1000 few, tt),
          ),
        ),
      ),
    )

pub account_tells : (known : Known) (c : Said) (group h : Record) → h.kind ≡ AccountHeader
    → c.currency ≡ currency_in group.body → AllHold (account_checks known c h.body) → AccountHeaderRules known group h
unfolding account_checks
account_tells known c group h kind currency holds =
    let p = and_parts (not (length (field 0 h.body) == 0)) (list_all has_form (items h.body)) holds.0 in
    record {
      kind = kind;
      account = bytes_some (field 0 h.body) p.0;
      forms = AllPass-from_list_all has_form (items h.body) p.1;
      dates = AllPass-from_list_all has_date (items h.body) holds.1.0;
      amounts = AllPass-from_list_all has_amount (items h.body) holds.1.1.0;
      currency =
          sym (ap (λ (l : List ℕ). is_some (fraction_of (currency_with l h.body) known)) currency)
          ∙ holds.1.1.1.0;
    }

pub account_room : (known : Known) (c : Said) (body : List ℕ) → AllHold (account_checks known c body)
    → length c.statements < 1000
unfolding account_checks
account_room known c body h = ltb-true (length c.statements) 1000 h.1.1.1.1.0

pub group_holds : (h : Record) → GroupHeaderRules h → AllHold (group_checks h.body)
unfolding group_checks
group_holds h rules = (rules.status, (rules.as_of, tt))

pub group_tells : (h : Record) → h.kind ≡ GroupHeader → AllHold (group_checks h.body) → GroupHeaderRules h
unfolding group_checks
group_tells h kind holds = record { kind = kind; status = holds.0; as_of = holds.1.0 }

pub file_holds : (h : Record) → FileHeaderRules h → AllHold (file_checks h.body)
unfolding file_checks
file_holds h rules = (rules.version, tt)

pub file_tells : (h : Record) → h.kind ≡ FileHeader → AllHold (file_checks h.body) → FileHeaderRules h
unfolding file_checks
file_tells h kind holds = record { kind = kind; version = holds.0 }

-- what a trailer of an account says of its sums
pub record OneCount (sums : Sums) (own : ℕ) (body : List ℕ) : Type 0 where
  pub total : SaysTotal (field 0 body) sums.total
  pub records : SaysCount (field 1 body) (sums.records + own)

-- and a trailer of a group or a file
pub record TwoCounts (sums : Sums) (own : ℕ) (body : List ℕ) : Type 0 where
  pub total : SaysTotal (field 0 body) sums.total
  pub parts : SaysCount (field 1 body) sums.parts
  pub records : SaysCount (field 2 body) (sums.records + own)

same_total : (a b : ℤ) → a ≡ b → int_eq a b ≡ true
same_total a b e = let d = Decides-int_eq a b in d.1 e

total_same : (a b : ℤ) → int_eq a b ≡ true → a ≡ b
total_same a b e = let d = Decides-int_eq a b in d.0 e

pub account_trailer_holds : (sums : Sums) (own : ℕ) (body : List ℕ) → OneCount sums own body
    → AllHold (trailer_checks Account sums own body)
unfolding trailer_checks
account_trailer_holds sums own body says = (
  says.records.form,
  (
    says.total.form,
    (
      same_total (total (field 0 body)) sums.total says.total.value,
      (eq-eqb (count (field 1 body)) (sums.records + own) says.records.value, tt),
    ),
  ),
)

pub account_trailer_tells : (sums : Sums) (own : ℕ) (body : List ℕ)
    → AllHold (trailer_checks Account sums own body) → OneCount sums own body
unfolding trailer_checks
account_trailer_tells sums own body h = record {
  total = record { form = h.1.0; value = total_same (total (field 0 body)) sums.total h.1.1.0 };
  records = record { form = h.0; value = eqb-true (count (field 1 body)) (sums.records + own) h.1.1.1.0 };
}

pub group_trailer_holds : (sums : Sums) (own : ℕ) (body : List ℕ) → TwoCounts sums own body
    → AllHold (trailer_checks Group sums own body)
unfolding trailer_checks
group_trailer_holds sums own body says = (
  and_from (is_count (field 1 body)) (is_count (field 2 body)) says.parts.form says.records.form,
  (
    says.total.form,
    (
      same_total (total (field 0 body)) sums.total says.total.value,
      (
        eq-eqb (count (field 1 body)) sums.parts says.parts.value,
        (eq-eqb (count (field 2 body)) (sums.records + own) says.records.value, tt),
      ),
    ),
  ),
)

pub file_trailer_holds : (sums : Sums) (own : ℕ) (body : List ℕ) → TwoCounts sums own body
    → AllHold (trailer_checks File sums own body)
unfolding trailer_checks
file_trailer_holds sums own body says = (
  and_from (is_count (field 1 body)) (is_count (field 2 body)) says.parts.form says.records.form,
  (
    says.total.form,
    (
      same_total (total (field 0 body)) sums.total says.total.value,
      (
        eq-eqb (count (field 1 body)) sums.parts says.parts.value,
        (eq-eqb (count (field 2 body)) (sums.records + own) says.records.value, tt),
      ),
    ),
  ),
)

pub group_trailer_tells : (sums : Sums) (own : ℕ) (body : List ℕ)
    → AllHold (trailer_checks Group sums own body) → TwoCounts sums own body
unfolding trailer_checks
group_trailer_tells sums own body h =
    let forms = and_parts (is_count (field 1 body)) (is_count (field 2 body)) h.0 in
    record {
      total = record { form = h.1.0; value = total_same (total (field 0 body)) sums.total h.1.1.0 };
      parts = record { form = forms.0; value = eqb-true (count (field 1 body)) sums.parts h.1.1.1.0 };
      records = record { form = forms.1; value = eqb-true (count (field 2 body)) (sums.records + own) h.1.1.1.1.0 };
    }

pub file_trailer_tells : (sums : Sums) (own : ℕ) (body : List ℕ)
    → AllHold (trailer_checks File sums own body) → TwoCounts sums own body
unfolding trailer_checks
file_trailer_tells sums own body h =
    let forms = and_parts (is_count (field 1 body)) (is_count (field 2 body)) h.0 in
    record {
      total = record { form = h.1.0; value = total_same (total (field 0 body)) sums.total h.1.1.0 };
      parts = record { form = forms.0; value = eqb-true (count (field 1 body)) sums.parts h.1.1.1.0 };
      records = record { form = forms.1; value = eqb-true (count (field 2 body)) (sums.records + own) h.1.1.1.1.0 };
    }
