-- The one binding of an account text, as the command that binds asks for it.
use Rattle.std.proofs.Common.{◌≡◌, ℕ, ◌+◌, Bool, true, false, if◌then◌else◌, List, [], ◌∷◌, drop, find}
use Rattle.std.proofs.Common.{Some, option_map, slice_get, refl, sym, ap, subst, ◌∙◌, arith}
use Rattle.std.proofs.lemmas.Bool.Decides.{nat_tests}
use Rattle.std.specs.Cmp.Lexicographic as texts
use Rattle.book_commodity.specs.Table.{Rises, value_of}
use Rattle.book_commodity.proofs.ListLemmas.{drop_at, drop_by, mapped_some}
use Rattle.book_statement.specs.Keys.{same_text}
use Rattle.book_statement.specs.declared.binding.Binding.{Binding}
use Rattle.book_sound.proofs.SplitFrames.{above_there}
use Rattle.book_step.specs.Bindings.{binding_of, binding_to}

-- what is found stands under its number
pub found_there :
    {T : Type 0} (test : ℕ × T → Bool) (es : List (ℕ × T)) (x : ℕ × T) → Rises es → find test es ≡ Some x
    → (value_of x.0 es ≡ Some x.1) × (test x ≡ true)
found_there test [] x r e = absurd cc
found_there {T} test (first ∷ es) x r e =
    let At : Bool → Type 0 = λ t. test first ≡ t → (if t then Some first else find test es) ≡ Some x
    → (value_of x.0 (first ∷ es) ≡ Some x.1) × (test x ≡ true) in
    elim (test first) as At [
      | true ↦ λ passes here.
          let one : first ≡ x = cc in
          subst (λ (y : ℕ × T). (value_of y.0 (first ∷ es) ≡ Some y.1) × (test y ≡ true)) one
          (grind (arith, nat_tests), passes)
      | false ↦ λ other behind.
          let more = found_there test es x r.1 behind in
          let past = above_there first.0 x.0 x.1 es r.0 more.0 in
          let there = more.0 in
          (grind (arith, nat_tests, past, there), more.1)
    ] refl e

-- ---- the walk through the bindings

some_is : {X : Type 0} (one other : X) → Some one ≡ Some other → one ≡ other
some_is one other e = cc

-- A number with the account of the binding under it.
abbrev pub said_of : ℕ × Binding → ℕ × ℕ
said_of entry = (entry.0, entry.1.account)

abbrev said_as : ℕ → ℕ → ℕ × ℕ
said_as n account = (n, account)

abbrev bound_under : ℕ → Binding → ℕ × Binding
bound_under n binding = (n, binding)

-- the binding at a place has the text, and none before it has
pub bound_here :
    (text : List ℕ) (bindings : List (ℕ × Binding)) (i n : ℕ) (x : Binding)
    → binding_of text (drop i bindings) ≡ binding_of text bindings
    → option_map (λ e. e.1) (slice_get bindings i) ≡ Some x → same_text x.text text ≡ true
    → option_map (λ e. e.0) (slice_get bindings i) ≡ Some n
    → Some (said_as n x.account) ≡ option_map said_of (binding_of text bindings)
bound_here text bindings i n x still value has number =
    let r = mapped_some (λ (e : ℕ × Binding). e.1) (slice_get bindings i) x value in
    let under = some_is r.0.0 n (sym (ap (option_map (λ (e : ℕ × Binding). e.0)) r.1) ∙ number) in
    let rest = binding_of text (drop (i + 1) bindings) in
    let found : binding_of text (drop i bindings) ≡ Some r.0 =
    ap (binding_of text) (drop_at bindings i r.0 r.1)
    ∙ ap (λ (t : Bool). if t then Some r.0 else rest) (ap (λ (b : Binding). same_text b.text text) r.2 ∙ has) in
    sym (ap (option_map said_of) (sym still ∙ found)
    ∙ ap (λ (k : ℕ). Some (said_as k r.0.1.account)) under ∙ ap (λ (b : Binding). Some (said_as n b.account)) r.2)

-- it has another text
pub bound_past :
    (text : List ℕ) (bindings : List (ℕ × Binding)) (i : ℕ) (x : Binding)
    → binding_of text (drop i bindings) ≡ binding_of text bindings
    → option_map (λ e. e.1) (slice_get bindings i) ≡ Some x → same_text x.text text ≡ false
    → binding_of text (drop (i + 1) bindings) ≡ binding_of text bindings
bound_past text bindings i x still value other =
    let r = drop_by (λ (e : ℕ × Binding). e.1) bindings i x value in
    let rest = binding_of text (drop (i + 1) bindings) in
    sym (ap (binding_of text) r.1
    ∙ ap (λ (t : Bool). if t then Some r.0 else rest) (ap (λ (b : Binding). same_text b.text text) r.2 ∙ other))
    ∙ still

-- ---- the binding that is found

entry_is :
    (text : List ℕ) (n account : ℕ) (e : ℕ × Binding) → same_text e.1.text text ≡ true
    → said_of e ≡ said_as n account → e ≡ bound_under n (binding_to text account)
entry_is text n account e passes parts =
    let number : e.0 ≡ n = ap (λ (p : ℕ × ℕ). p.0) parts in
    let stands : e.1.account ≡ account = ap (λ (p : ℕ × ℕ). p.1) parts in
    ap (λ (k : ℕ). bound_under k e.1) number
    ∙ ap (λ (t : List ℕ). bound_under n (binding_to t e.1.account)) (texts.same_text e.1.text text (sym passes))
    ∙ ap (λ (a : ℕ). bound_under n (binding_to text a)) stands

-- it binds the text to the account that is said, under the number that is said
pub bound_as :
    (text : List ℕ) (bindings : List (ℕ × Binding)) (n account : ℕ) → Rises bindings
    → Some (said_as n account) ≡ option_map said_of (binding_of text bindings)
    → (binding_of text bindings ≡ Some (bound_under n (binding_to text account)))
    × (value_of n bindings ≡ Some (binding_to text account))
bound_as text bindings n account r said =
    let m = mapped_some said_of (binding_of text bindings) (said_as n account) (sym said) in
    let there = found_there (λ (e : ℕ × Binding). same_text e.1.text text) bindings m.0 r m.1 in
    let same = entry_is text n account m.0 there.1 m.2 in (
      m.1 ∙ ap (λ (e : ℕ × Binding). Some e) same,
      subst (λ (e : ℕ × Binding). value_of e.0 bindings ≡ Some e.1) same there.0,
    )
