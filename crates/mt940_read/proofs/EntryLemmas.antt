-- What fields give, with one field or one further line more.
use Rattle.std.proofs.Common.{
  ◌≡◌,
  ℕ,
  List,
  [],
  ◌∷◌,
  ◌++◌,
  Option,
  Some,
  None,
  Bool,
  true,
  false,
  cond,
  refl,
  sym,
  ap,
  ◌∙◌,
  append_assoc,
}
use Rattle.std.specs.Option.{option_or}
use Rattle.std.specs.Prelude.{◌&&◌}
use Rattle.std.proofs.lemmas.List.{append-nil}
use Rattle.book_commodity.specs.declared.commodity.Commodity.{Commodity}
use Rattle.book_statement.specs.declared.statement_line.StatementLine.{StatementLine}
use Rattle.book_statement.specs.Lists.{on_last}
use Rattle.book_statement.proofs.TextLemmas.{joined-push}
use Rattle.mt940_read.specs.declared.tag.Tag.{Tag}
use Rattle.mt940_read.specs.declared.tag.Tag.TheVariants.{
  Reference,
  Related,
  Account,
  Number,
  Opening,
  Line,
  Text,
  Closing,
  Available,
  Forward,
}
use Rattle.mt940_read.specs.Entries.{last_given, last_tag, fraction_behind, text_behind, entry, entries}
use Rattle.mt940_read.specs.LineField.{line, add_text}
use Rattle.mt940_read.specs.Order.{is_line, is_text}
use Rattle.mt940_read.specs.Tree.{FieldLines}
use Rattle.mt940_read.specs.Values.{ends_in_line}
use Rattle.mt940_read.proofs.TotalLemmas.{on_last-push}

or-none : {X : Type 0} (o : Option X) → option_or o None ≡ o
or-none None = refl
or-none (Some x) = refl

or-assoc : {X : Type 0} (a b c : Option X) → option_or (option_or a b) c ≡ option_or a (option_or b c)
or-assoc None b c = refl
or-assoc (Some x) b c = refl

-- what the last field gives goes before what those before it give
pub last_given-push : {X : Type 0} (gives : List FieldLines → Tag → List ℕ
    → Option X) (before fs : List FieldLines) (f : FieldLines)
    → last_given gives before (fs ++ f ∷ []) ≡ option_or (gives (before ++ fs) f.tag f.first)
    (last_given gives before fs)
last_given-push gives before [] f =
    ap (λ b. gives b f.tag f.first) (sym (append-nil before)) ∙ sym (or-none (gives (before ++ []) f.tag f.first))
last_given-push gives before (g ∷ gs) f =
    ap (λ o. option_or o (gives before g.tag g.first)) (last_given-push gives (before ++ g ∷ []) gs f)
    ∙ or-assoc (gives ((before ++ g ∷ []) ++ gs) f.tag f.first) (last_given gives (before ++ g ∷ []) gs)
    (gives before g.tag g.first)
    ∙ ap (λ b. option_or (gives b f.tag f.first) (last_given gives before (g ∷ gs))) (append_assoc before (g ∷ []) gs)

pub last_tag-push : (fs : List FieldLines) (f : FieldLines) → last_tag (fs ++ f ∷ []) ≡ Some f.tag
last_tag-push [] f = refl
last_tag-push (g ∷ []) f = refl
last_tag-push (g ∷ h ∷ hs) f = last_tag-push (h ∷ hs) f

-- a list is empty or has a last item
pub data Snoc {X : Type 0} (xs : List X) : Type 0 where
  IsEmpty : xs ≡ [] → Snoc xs
  HasLast : (init : List X) (last : X) → xs ≡ init ++ last ∷ [] → Snoc xs

pub snoc : {X : Type 0} (xs : List X) → Snoc xs
snoc [] = IsEmpty refl
snoc (x ∷ xs) = elim (snoc xs) [
  | IsEmpty e ↦ HasLast [] x (ap (λ l. x ∷ l) e)
  | HasLast init last e ↦ HasLast (x ∷ init) last (ap (λ l. x ∷ l) e)
]

line_no_text : (t : Tag) → is_line t ≡ true → is_text t ≡ false
line_no_text Text e = absurd cc
line_no_text Line e = refl
line_no_text Reference e = refl
line_no_text Related e = refl
line_no_text Account e = refl
line_no_text Number e = refl
line_no_text (Opening g) e = refl
line_no_text (Closing g) e = refl
line_no_text Available e = refl
line_no_text Forward e = refl

text_no_line : (t : Tag) → is_text t ≡ true → is_line t ≡ false
text_no_line Text e = refl
text_no_line Line e = absurd cc
text_no_line Reference e = refl
text_no_line Related e = refl
text_no_line Account e = refl
text_no_line Number e = refl
text_no_line (Opening g) e = refl
text_no_line (Closing g) e = refl
text_no_line Available e = refl
text_no_line Forward e = refl

pub entry-line : (known : List (ℕ × Commodity)) (before : List FieldLines) (f : FieldLines)
    (behind : List FieldLines) → is_line f.tag ≡ true
    → entry known before f behind ≡ line (fraction_behind known before) f.first (f.more ++ text_behind behind) ∷ []
entry-line known before f behind e = ap
    (λ t. cond t (line (fraction_behind known before) f.first (f.more ++ text_behind behind) ∷ []) []) e

pub entry-other : (known : List (ℕ × Commodity)) (before : List FieldLines) (f : FieldLines)
    (behind : List FieldLines) → is_line f.tag ≡ false
    → entry known before f behind ≡ []
entry-other known before f behind e = ap
    (λ t. cond t (line (fraction_behind known before) f.first (f.more ++ text_behind behind) ∷ []) []) e

-- a field that isn't the text of the 61 before it changes no entry before it
apart : (known : List (ℕ × Commodity)) (before : List FieldLines) (f y : FieldLines) (ys : List FieldLines)
    → (is_line f.tag && is_text y.tag) ≡ false
    → entry known before f (y ∷ ys) ≡ entry known before f []
apart known before f y ys e =
    elim (is_line f.tag) as (λ t. (t && is_text y.tag) ≡ false
    → cond t (line (fraction_behind known before) f.first (f.more ++ text_behind (y ∷ ys)) ∷ []) []
    ≡ cond t (line (fraction_behind known before) f.first (f.more ++ []) ∷ []) []) [
      | true ↦ λ k. ap (λ t. line (fraction_behind known before) f.first (f.more ++ cond t (y.first ∷ y.more) []) ∷
          []) k
      | false ↦ λ k. refl
    ] e

pub entries-append : (known : List (ℕ × Commodity)) (before xs : List FieldLines) (y : FieldLines)
    (ys : List FieldLines)
    → (ends_in_line (last_tag xs) && is_text y.tag) ≡ false
    → entries known before (xs ++ y ∷ ys) ≡ entries known before xs ++ entries known (before ++ xs) (y ∷ ys)
entries-append known before [] y ys e = ap (λ b. entries known b (y ∷ ys)) (sym (append-nil before))
entries-append known before (f ∷ []) y ys e =
    ap (λ l. l ++ entries known (before ++ f ∷ []) (y ∷ ys)) (apart known before f y ys e
    ∙ sym (append-nil (entry known before f [])))
entries-append known before (f ∷ g ∷ gs) y ys e =
    ap (λ l. entry known before f (g ∷ gs) ++ l) (entries-append known (before ++ f ∷ []) (g ∷ gs) y ys e)
    ∙ sym (append_assoc (entry known before f (g ∷ gs)) (entries known (before ++ f ∷ []) (g ∷ gs))
    (entries known ((before ++ f ∷ []) ++ g ∷ gs) (y ∷ ys)))
    ∙ ap (λ b. (entry known before f (g ∷ gs) ++ entries known (before ++ f ∷ []) (g ∷ gs)) ++ entries known b
    (y ∷ ys)) (append_assoc before (f ∷ []) (g ∷ gs))

-- one field more, which isn't the text of the 61 before it
pub entries-push : (known : List (ℕ × Commodity)) (fs : List FieldLines) (y : FieldLines)
    → (ends_in_line (last_tag fs) && is_text y.tag) ≡ false
    → entries known [] (fs ++ y ∷ []) ≡ entries known [] fs ++ entry known fs y []
entries-push known fs y e = entries-append known [] fs y [] e
    ∙ ap (λ l. entries known [] fs ++ l) (append-nil (entry known fs y []))

-- a piece of text more
pub line-more : (fraction : ℕ) (text : List ℕ) (pieces : List (List ℕ)) (piece : List ℕ)
    → line fraction text (pieces ++ piece ∷ []) ≡ add_text piece (line fraction text pieces)
unfolding line
line-more fraction text pieces piece =
    let bare : StatementLine = line fraction text pieces in
    ap (λ t. with_text t bare) (joined-push pieces piece)
  where
    with_text : List ℕ → StatementLine → StatementLine
    with_text t given = record given { text = t }

-- a line that another field or further lines have given text
text_of : (known : List (ℕ × Commodity)) (init : List FieldLines) (e y : FieldLines) → is_line e.tag ≡ true
    → is_text y.tag ≡ true
    → entries known [] ((init ++ e ∷ []) ++ y ∷ []) ≡ entries known [] init ++ line (fraction_behind known init)
    e.first (e.more ++ (y.first ∷ y.more)) ∷ []
text_of known init e y is_e is_y =
    ap (entries known []) (append_assoc init (e ∷ []) (y ∷ []))
    ∙ entries-append known [] init e (y ∷ []) (ap (λ t. ends_in_line (last_tag init) && t) (line_no_text e.tag is_e)
    ∙ and-false (ends_in_line (last_tag init)))
    ∙ ap (λ l. entries known [] init ++ (l ++ (entry known (init ++ e ∷ []) y [] ++ [])))
    (entry-line known init e (y ∷ []) is_e)
    ∙ ap (λ l. entries known [] init ++
    (line (fraction_behind known init) e.first (e.more ++ text_behind (y ∷ [])) ∷ (l ++ [])))
    (entry-other known (init ++ e ∷ []) y [] (text_no_line y.tag is_y))
    ∙ ap (λ t. entries known [] init ++ line (fraction_behind known init) e.first
    (e.more ++ cond t (y.first ∷ y.more) []) ∷ []) is_y
  where
    and-false : (t : Bool) → (t && false) ≡ false
    and-false true = refl
    and-false false = refl

alone_of : (known : List (ℕ × Commodity)) (init : List FieldLines) (e : FieldLines) → is_line e.tag ≡ true
    → entries known [] (init ++ e ∷ []) ≡ entries known [] init ++ line (fraction_behind known init) e.first
    (e.more ++ []) ∷ []
alone_of known init e is_e =
    entries-push known init e (ap (λ t. ends_in_line (last_tag init) && t) (line_no_text e.tag is_e)
    ∙ and-false (ends_in_line (last_tag init)))
    ∙ ap (λ l. entries known [] init ++ l) (entry-line known init e [] is_e)
  where
    and-false : (t : Bool) → (t && false) ≡ false
    and-false true = refl
    and-false false = refl

-- the last field is a 61
pub last_line : (fs : List FieldLines) → ends_in_line (last_tag fs) ≡ true
    → (init : List FieldLines) × (e : FieldLines) × (fs ≡ init ++ e ∷ []) × (is_line e.tag ≡ true)
last_line fs is = elim (snoc fs) [
  | IsEmpty e ↦ absurd (false_true (sym (ap (λ l. ends_in_line (last_tag l)) e) ∙ is))
  | HasLast init last e ↦ (init, last, e, sym (ap ends_in_line (ap last_tag e ∙ last_tag-push init last)) ∙ is)
]
  where
    false_true : false ≡ true → ⊥
    false_true p = absurd cc

-- the text of the 61 before it
pub entries-text : (known : List (ℕ × Commodity)) (fs : List FieldLines) (y : FieldLines)
    → ends_in_line (last_tag fs) ≡ true → is_text y.tag ≡ true → y.more ≡ []
    → entries known [] (fs ++ y ∷ []) ≡ on_last (add_text y.first) (entries known [] fs)
entries-text known fs y is is_y none =
    let r = last_line fs is in
    let init : List FieldLines = r.0 in
    let e : FieldLines = r.1 in
    let at = fraction_behind known init in
    ap (λ l. entries known [] (l ++ y ∷ [])) r.2
    ∙ text_of known init e y r.3 is_y
    ∙ ap (λ m. entries known [] init ++ line at e.first (e.more ++ (y.first ∷ m)) ∷ []) none
    ∙ ap (λ m. entries known [] init ++ line at e.first (m ++ y.first ∷ []) ∷ []) (sym (append-nil e.more))
    ∙ ap (λ l. entries known [] init ++ l ∷ []) (line-more at e.first (e.more ++ []) y.first)
    ∙ sym (on_last-push (add_text y.first) (entries known [] init) (line at e.first (e.more ++ [])))
    ∙ sym (ap (λ l. on_last (add_text y.first) (entries known [] l)) r.2
    ∙ ap (on_last (add_text y.first)) (alone_of known init e r.3))

-- a field with a further line more
abbrev pub longer : FieldLines → List ℕ → FieldLines
longer f piece = record f { more = f.more ++ piece ∷ [] }

-- further lines of a 61
pub entries-longer_line : (known : List (ℕ × Commodity)) (fs : List FieldLines) (f : FieldLines) (piece : List ℕ)
    → is_line f.tag ≡ true
    → entries known [] (fs ++ longer f piece ∷ []) ≡ on_last (add_text piece) (entries known [] (fs ++ f ∷ []))
entries-longer_line known fs f piece is =
    let at = fraction_behind known fs in
    alone_of known fs (longer f piece) is
    ∙ ap (λ m. entries known [] fs ++ line at f.first m ∷ []) (append-nil (f.more ++ piece ∷ [])
    ∙ ap (λ m. m ++ piece ∷ []) (sym (append-nil f.more)))
    ∙ ap (λ l. entries known [] fs ++ l ∷ []) (line-more at f.first (f.more ++ []) piece)
    ∙ sym (on_last-push (add_text piece) (entries known [] fs) (line at f.first (f.more ++ [])))
    ∙ ap (on_last (add_text piece)) (sym (alone_of known fs f is))

-- further lines of the text of a 61
pub entries-longer_text : (known : List (ℕ × Commodity)) (fs : List FieldLines) (f : FieldLines) (piece : List ℕ)
    → is_text f.tag ≡ true → ends_in_line (last_tag fs) ≡ true
    → entries known [] (fs ++ longer f piece ∷ []) ≡ on_last (add_text piece) (entries known [] (fs ++ f ∷ []))
entries-longer_text known fs f piece is_f is =
    let r = last_line fs is in
    let init : List FieldLines = r.0 in
    let e : FieldLines = r.1 in
    let at = fraction_behind known init in
    ap (λ l. entries known [] (l ++ longer f piece ∷ [])) r.2
    ∙ text_of known init e (longer f piece) r.3 is_f
    ∙ ap (λ m. entries known [] init ++ line at e.first m ∷ [])
    (sym (append_assoc e.more (f.first ∷ f.more) (piece ∷ [])))
    ∙ ap (λ l. entries known [] init ++ l ∷ []) (line-more at e.first (e.more ++ (f.first ∷ f.more)) piece)
    ∙ sym (on_last-push (add_text piece) (entries known [] init) (line at e.first (e.more ++ (f.first ∷ f.more))))
    ∙ ap (on_last (add_text piece)) (sym (text_of known init e f r.3 is_f))
    ∙ ap (λ l. on_last (add_text piece) (entries known [] (l ++ f ∷ []))) (sym r.2)
