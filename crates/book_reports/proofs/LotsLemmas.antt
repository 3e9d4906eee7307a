-- Rows of lots one after another, and the sum of gains.
use Rattle.std.proofs.Common.{◌≡◌, ℕ, zero, suc, ◌+◌, ◌*◌, ◌<◌, ℤ, pos, ◌+ℤ◌, List, [], ◌∷◌, ◌++◌, length, take}
use Rattle.std.proofs.Common.{get_or, sym, ap, ◌∙◌, arith, append_assoc, codes}
use Rattle.std.specs.List.{All, flat_map}
use Rattle.std.proofs.lemmas.Int.{ints}
use Rattle.std.proofs.lemmas.List.{take_more, append-nil}
use Rattle.std.proofs.lemmas.Grind.{flat_map-append}
use Rattle.book_register.specs.declared.entry.Entry.{Entry}
use Rattle.book_lots.specs.Lots.{IsSmall, gain_of, pairs_of}
use Rattle.book_lots.specs.declared.pair.Pair.{Pair}
use Rattle.book_lots.proofs.BoundLemmas.{AreGains, IsUpTo, gains_small}
use Rattle.book_lots.proofs.ShareLemmas.{gain_of-append}
use Rattle.book_lots.specs.Lots.{adjustments_of, all_gains, cost_of, lots_of}
use Rattle.book_ledger.specs.Ledger.{register_of}
use Rattle.book_undo.specs.Book.{Book}
use Rattle.book_limits.specs.Limits.{largest_split_amount}
use Rattle.book_reports.specs.LotsText.{Fields, heading, lot_row, lots_text, pair_row, row_text, rows_text}
use Rattle.book_reports.specs.LotsText.{style_of, sum_row, word}
use Rattle.book_reports.specs.declared.form.Form.{Form}
use Rattle.book_reports.specs.declared.form.Form.TheVariants.{Plain}
use Rattle.book_reports.specs.declared.lots_report.Style.{Style}

-- one more row behind those of the first so many items
pub one_more :
    {X : Type 0} (row : X → List ℕ) (items : List X) (i : ℕ) (d : X) (start before after : List ℕ) → i < length items
    → before ≡ start ++ flat_map row (take i items) → after ≡ before ++ row (get_or items i d)
    → after ≡ start ++ flat_map row (take (i + 1) items)
one_more row items i d start before after lt b a =
    a ∙ ap (λ l. l ++ row (get_or items i d)) b
    ∙ append_assoc start (flat_map row (take i items)) (row (get_or items i d))
    ∙ ap (λ l. start ++ l)
    (ap (λ l. flat_map row (take i items) ++ l) (sym (append-nil (row (get_or items i d))))
    ∙ sym (flat_map-append row (take i items) (get_or items i d ∷ []))
    ∙ ap (flat_map row) (sym (take_more items i d lt)))

-- rows of the same texts
pub same_fields :
    (one other : Fields) → one.what ≡ other.what → one.plus ≡ other.plus → one.minus ≡ other.minus
    → one.units ≡ other.units → one.day ≡ other.day → one.amount ≡ other.amount → one ≡ other
same_fields one other what plus minus units day amount =
    ap (λ x. made x one.plus one.minus one.units one.day one.amount) what
    ∙ ap (λ x. made other.what x one.minus one.units one.day one.amount) plus
    ∙ ap (λ x. made other.what other.plus x one.units one.day one.amount) minus
    ∙ ap (λ x. made other.what other.plus other.minus x one.day one.amount) units
    ∙ ap (λ x. made other.what other.plus other.minus other.units x one.amount) day
    ∙ ap (λ x. made other.what other.plus other.minus other.units other.day x) amount
  where
    made : List ℕ → List ℕ → List ℕ → List ℕ → List ℕ → List ℕ → Fields
    made a b c d e f = record { what = a; plus = b; minus = c; units = d; day = e; amount = f }

-- one more gain
pub gain_more :
    (pairs : List Pair) (i : ℕ) (d : Pair) → i < length pairs
    → gain_of (take (i + 1) pairs) ≡ gain_of (take i pairs) +ℤ (get_or pairs i d).gain
gain_more pairs i d lt =
    ap gain_of (take_more pairs i d lt) ∙ gain_of-append (take i pairs) (get_or pairs i d ∷ [])
    ∙ ap (λ z. gain_of (take i pairs) +ℤ z) (plain (get_or pairs i d).gain)
  where
    plain : (z : ℤ) → (z +ℤ pos 0) ≡ z
    plain z = omega (arith, ints)

-- the gains of the first so many pairs aren't larger than so many times the greatest gain
gains_up_to :
    (all : List Pair) (i : ℕ) → AreGains all → IsUpTo (4 * largest_split_amount * i) (gain_of (take i all))
gains_up_to all zero gains = (omega (arith, ints), omega (arith, ints))
gains_up_to [] (suc i) gains = (omega (arith, ints), omega (arith, ints))
gains_up_to (pair ∷ more) (suc i) gains =
    let rest = gains_up_to more i gains.1 in
    let first = gains.0 in
    (omega (arith, ints, rest.0, rest.1, first.0, first.1), omega (arith, ints, rest.0, rest.1, first.0, first.1))

pub gains_fit :
    (entries : List Entry) (i : ℕ) → All IsSmall entries
    → IsUpTo (4 * largest_split_amount * i) (gain_of (take i (pairs_of entries)))
gains_fit entries i small = gains_up_to (pairs_of entries) i (gains_small entries small)

-- a row for a person, word by word
words_in : (row : Fields) (start : List ℕ)
    → (((((((start ++ row.what) ++ word row.plus) ++ word row.minus) ++ word row.units) ++ word row.day)
    ++ word row.amount) ++ (10 ∷ [])) ≡ start ++ row_text Plain row
unfolding row_text
words_in row start = simp append_assoc

pub words_made :
    (row : Fields) (start what plus minus units day amount all : List ℕ) → what ≡ start ++ row.what
    → plus ≡ what ++ word row.plus → minus ≡ plus ++ word row.minus → units ≡ minus ++ word row.units
    → day ≡ units ++ word row.day → amount ≡ day ++ word row.amount → all ≡ amount ++ (10 ∷ [])
    → all ≡ start ++ row_text Plain row
words_made row start what plus minus units day amount all a b c d e f g =
    g ∙ ap (λ l. l ++ (10 ∷ [])) (f ∙ ap (λ l. l ++ word row.amount) (e ∙ ap (λ l. l ++ word row.day)
    (d ∙ ap (λ l. l ++ word row.units) (c ∙ ap (λ l. l ++ word row.minus) (b ∙ ap (λ l. l ++ word row.plus) a)))))
    ∙ words_in row start

-- the whole text, part by part
abbrev parts : Style → List Entry → List ℕ → ℤ → ℤ → ℤ → List ℕ
parts style entries head adjusted gained cost =
    ((((head ++ flat_map (pair_row style) (pairs_of entries)) ++ flat_map (lot_row style) (lots_of entries))
    ++ sum_row style (codes "Adjustments") adjusted) ++ sum_row style (codes "Gains") gained)
    ++ sum_row style (codes "Open cost") cost

parts_in : (style : Style) (entries : List Entry) (head : List ℕ)
    → parts style entries head (adjustments_of entries) (all_gains entries) (cost_of (lots_of entries))
    ≡ head ++ rows_text style entries
unfolding rows_text
parts_in style entries head = simp append_assoc

pub text_made :
    (book : Book) (account : ℕ) (form : Form) (style : Style) (entries : List Entry) (adjusted gained cost : ℤ)
    (none headed paired opened one two three : List ℕ) → style ≡ style_of book account form
    → entries ≡ register_of account book.transactions → adjusted ≡ adjustments_of entries → gained ≡ all_gains entries
    → cost ≡ cost_of (lots_of entries) → none ≡ [] → headed ≡ none ++ heading form book account
    → paired ≡ headed ++ flat_map (pair_row style) (pairs_of entries)
    → opened ≡ paired ++ flat_map (lot_row style) (lots_of entries)
    → one ≡ opened ++ sum_row style (codes "Adjustments") adjusted → two ≡ one ++ sum_row style (codes "Gains") gained
    → three ≡ two ++ sum_row style (codes "Open cost") cost → three ≡ lots_text book account form
unfolding lots_text
text_made book account form style entries adjusted gained cost none headed paired opened one two three
    a b c d e f g h i j k l =
    let head = heading form book account in
    l ∙ ap (λ z. z ++ sum_row style (codes "Open cost") cost) (k ∙ ap (λ z. z ++ sum_row style (codes "Gains") gained)
    (j ∙ ap (λ z. z ++ sum_row style (codes "Adjustments") adjusted)
    (i ∙ ap (λ z. z ++ flat_map (lot_row style) (lots_of entries))
    (h ∙ ap (λ z. z ++ flat_map (pair_row style) (pairs_of entries)) (g ∙ ap (λ z. z ++ head) f)))))
    ∙ ap (λ z. parts style entries head z gained cost) c
    ∙ ap (λ z. parts style entries head (adjustments_of entries) z cost) d
    ∙ ap (λ z. parts style entries head (adjustments_of entries) (all_gains entries) z) e
    ∙ parts_in style entries head
    ∙ ap (λ (s : Style). head ++ rows_text s entries) a
    ∙ ap (λ (es : List Entry). head ++ rows_text (style_of book account form) es) b
