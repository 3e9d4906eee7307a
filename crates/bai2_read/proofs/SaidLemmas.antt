-- What the records say with one record more.
use Rattle.std.proofs.Common.{◌≡◌, ℕ, Bool, true, false, cond, List, [], ◌∷◌, ◌++◌, reverse, Option, Some}
use Rattle.std.proofs.Common.{refl, sym, ap, ◌∙◌, append_assoc, pos, ◌||◌, inl, inr}
use Rattle.std.specs.Prelude.{ℤ}
use Rattle.std.specs.List.{find, flat_map, list_any}
use Rattle.std.specs.Option.{option_map_or}
use Rattle.std.proofs.lemmas.Bool.{cases_Bool}
use Rattle.std.proofs.lemmas.List.{append-nil, reverse-append}
use Rattle.std.proofs.lemmas.List.Sums.{sum_by_push}
use Rattle.book_statement.specs.declared.level.Level.{Level}
use Rattle.book_statement.specs.declared.level.Level.TheVariants.{Account, Group, File}
use Rattle.book_statement.proofs.ListLemmas.{each_after-push}
use Rattle.bai2_read.specs.Kinds.{counts_anew, is_account_header, is_file_header, is_group_header}
use Rattle.bai2_read.specs.Records.{Record}
use Rattle.bai2_read.specs.Said.{account_of, amount_in, currency_of, day_of, from_last, last_kind, last_said, lines_in}
use Rattle.bai2_read.specs.Said.{lines_of, lines_on, number_of, part_in, said_by, section, statements_at}
use Rattle.bai2_read.specs.Said.{statements_of, sums_of, sums_over}
use Rattle.bai2_read.specs.Statements.{currency_in, day_in, number_in}
use Rattle.bai2_read.specs.declared.kind.Kind.{Kind}
use Rattle.bai2_read.specs.declared.kind.Kind.TheVariants.{Blank, GroupHeader, Detail}
use Rattle.bai2_read.proofs.After.{added, after, next_lines, next_sums, no_sums}
use Rattle.bai2_read.proofs.TotalLemmas.{total_over_push}

any_push :
    {X : Type 0} (test : X → Bool) (xs : List X) (y : X) → list_any test (xs ++ y ∷ []) ≡ (list_any test xs || test y)
any_push test [] y = elim (test y) as (λ t. (t || false) ≡ t) [ true ↦ refl | false ↦ refl ]
any_push test (x ∷ xs) y =
    elim (test x) as (λ t. (t || list_any test (xs ++ y ∷ [])) ≡ (t || list_any test xs || test y))
    [ true ↦ refl | false ↦ any_push test xs y ]

one_more : {X : Type 0} (any last : Bool) (rest all : List X) (y : X)
    → cond (any || last) (cond last (y ∷ []) (rest ++ y ∷ [])) (all ++ y ∷ []) ≡ cond last (y ∷ [])
    (cond any rest all ++ y ∷ [])
one_more true true rest all y = refl
one_more true false rest all y = refl
one_more false true rest all y = refl
one_more false false rest all y = refl

-- a list from its last item on that passes, with one item more
pub from_last_push : {X : Type 0} (test : X → Bool) (xs : List X) (y : X)
    → from_last test (xs ++ y ∷ []) ≡ cond (test y) (y ∷ []) (from_last test xs ++ y ∷ [])
from_last_push test [] y = elim (test y) as (λ t. y ∷ [] ≡ cond t (y ∷ []) (y ∷ [])) [ true ↦ refl | false ↦ refl ]
from_last_push test (x ∷ xs) y =
    ap (λ (b : Bool). cond b (from_last test (xs ++ y ∷ [])) (x ∷ (xs ++ y ∷ []))) (any_push test xs y)
    ∙ ap (λ l. cond (list_any test xs || test y) l (x ∷ (xs ++ y ∷ []))) (from_last_push test xs y)
    ∙ one_more (list_any test xs) (test y) (from_last test xs) (x ∷ xs) y

sums_push : (level : Level) (records : List Record) (r : Record) (anew : Bool)
    → sums_over level (cond anew (r ∷ []) (records ++ r ∷ []))
    ≡ added (cond anew no_sums (sums_over level records)) (amount_in level r.kind r.body) (part_in level r.kind) r.lines
sums_push level records r true =
    let total = total_over_push (λ (s : Record). amount_in level s.kind s.body) [] r in cc total
sums_push level records r false =
    let total = total_over_push (λ (s : Record). amount_in level s.kind s.body) records r in
    let parts = sum_by_push (λ (s : Record). part_in level s.kind) records r in
    let lines = sum_by_push (λ (s : Record). s.lines) records r in
    cc (total, parts, lines)

-- the sums of a level
pub sums_of_push : (level : Level) (records : List Record) (r : Record)
    → sums_of level (records ++ r ∷ []) ≡ next_sums level (sums_of level records) r
sums_of_push level records r =
    ap (sums_over level) (from_last_push (λ s. counts_anew level s.kind) records r)
    ∙ sums_push level (section level records) r (counts_anew level r.kind)

-- what the last record says that passes the test
picked : {X : Type 0} (passes : Bool) (said : Record → X) (none : X) (r : Record) (others : Option Record)
    → option_map_or said (cond passes (Some r) others) none ≡ cond passes (said r) (option_map_or said others none)
picked true said none r others = refl
picked false said none r others = refl

last_said_push :
    {X : Type 0} (test : Kind → Bool) (said : Record → X) (none : X) (records : List Record) (r : Record)
    → last_said test said none (records ++ r ∷ []) ≡ cond (test r.kind) (said r) (last_said test said none records)
last_said_push test said none records r =
    ap (λ (l : List Record). option_map_or said (find (λ (s : Record). test s.kind) l) none)
    (reverse-append records (r ∷ []))
    ∙ picked (test r.kind) said none r (find (λ (s : Record). test s.kind) (reverse records))

-- a record with which an account begins or ends gives no line
no_line : (kind : Kind) (day : ℤ) (body text : List ℕ) → counts_anew Account kind ≡ true
    → lines_in day kind body text ≡ []
no_line Detail day body text anew = absurd cc
no_line _ day body text anew = refl

-- and the day changes only with such a record
same_day : (kind : Kind) → counts_anew Account kind ≡ false → is_group_header kind ≡ false
same_day GroupHeader goes = absurd cc
same_day _ goes = refl

pub flat_push : {X Y : Type 0} (f : X → List Y) (xs : List X) (x : X) → flat_map f (xs ++ x ∷ []) ≡ flat_map f xs ++ f x
flat_push f [] x = append-nil (f x)
flat_push f (y ∷ ys) x = ap (λ l. f y ++ l) (flat_push f ys x) ∙ sym (append_assoc (f y) (flat_map f ys) (f x))

lines_push : (records : List Record) (r : Record) → lines_of (records ++ r ∷ []) ≡ next_lines (said_by records) r
lines_push records r =
    let part = from_last_push (λ (s : Record). counts_anew Account s.kind) records r in
    let day : day_of (records ++ r ∷ []) ≡ cond (is_group_header r.kind) (day_in r.body) (day_of records) =
    last_said_push is_group_header (λ (s : Record). day_in s.body) (pos 0) records r in
    ap (lines_on (day_of (records ++ r ∷ []))) part
    ∙ elim (cases_Bool (counts_anew Account r.kind)) [
      | inl anew ↦ rw anew (append-nil (lines_in (day_of (records ++ r ∷ [])) r.kind r.body r.text)
          ∙ no_line r.kind (day_of (records ++ r ∷ [])) r.body r.text anew)
      | inr goes ↦ rw goes
          (flat_push (λ (s : Record). lines_in (day_of (records ++ r ∷ [])) s.kind s.body s.text)
          (section Account records) r
          ∙ ap (λ (z : ℤ). lines_on z (section Account records) ++ lines_in z r.kind r.body r.text)
          (day ∙ ap (λ (b : Bool). cond b (day_in r.body) (day_of records)) (same_day r.kind goes)))
    ]

-- what the records say with one record more
pub said_push : (records : List Record) (r : Record) → said_by (records ++ r ∷ []) ≡ after (said_by records) r
said_push records r =
    let last : last_kind (records ++ r ∷ []) ≡ r.kind =
    last_said_push (λ (_ : Kind). true) (λ (s : Record). s.kind) Blank records r in
    let number : number_of (records ++ r ∷ []) ≡ (after (said_by records) r).number =
    last_said_push is_file_header (λ (s : Record). number_in s.body) [] records r in
    let day : day_of (records ++ r ∷ []) ≡ (after (said_by records) r).day =
    last_said_push is_group_header (λ (s : Record). day_in s.body) (pos 0) records r in
    let currency : currency_of (records ++ r ∷ []) ≡ (after (said_by records) r).currency =
    last_said_push is_group_header (λ (s : Record). currency_in s.body) [] records r in
    let account : account_of (records ++ r ∷ []) ≡ (after (said_by records) r).account =
    last_said_push is_account_header (λ (s : Record). s.body) [] records r in
    let lines = lines_push records r in
    let of_account = sums_of_push Account records r in
    let of_group = sums_of_push Group records r in
    let of_file = sums_of_push File records r in
    let statements : statements_of (records ++ r ∷ []) ≡ (after (said_by records) r).statements =
    each_after-push statements_at records r in
    cc
