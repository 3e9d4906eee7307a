-- A map's removal beside the members that it stands for, and what readers give of a member.
use Rattle.std.proofs.Common.{◌≡◌, ℕ, List, [], ◌∷◌, Option, Some, None, option_map, Result, Ok, Err, String}
use Rattle.std.proofs.Common.{Global, Bool, true, false, cond, string_bytes, nat_cmp, refl, sym, ap, ◌∙◌}
use Rattle.std.proofs.Common.{true≢false, ◌<◌, length, arith}
use Rattle.std.specs.Prelude.{◌↔◌, slice_get, unwrap_or}
use Rattle.serde_json.specs.declared.value.Value.{Value}
use Rattle.std.proofs.lemmas.Map.Text.{is_eq-slice_cmp}
use Rattle.std.specs.Cmp.Lexicographic.{slice_cmp}
use Rattle.std.specs.Map.{lookup, remove_entry}
use Rattle.std.specs.BTreeMap.{is_at}
use Rattle.serde_json.specs.Data.{Data, Members}
use Rattle.serde_json.specs.Find.{get_member}
use Rattle.serde_json.specs.View.{view, members_view}
use Rattle.serde_json.proofs.Views.{Entry, view-lookup}
use Rattle.book_json.specs.Members.{Form, without, needed, optional, absent, ends}
use Rattle.book_json.specs.Reads.{Gives, IsFaultOf}
use Rattle.book_json.specs.declared.fault.Fault.{Fault}
use Rattle.book_json.specs.declared.fault.Fault.TheVariants.{Member, OutOfMemory}

-- what a map has at a name is what its members have there
pub member_of : (name : List ℕ) (es : List Entry) (found : Option _)
    → found ≡ lookup (is_at (λ k. slice_cmp nat_cmp name (string_bytes k))) es
    → get_member name (members_view es) ≡ option_map view found
member_of name es found e = sym (ap (option_map view) e ∙ view-lookup name es)

members_view-cond : (b : Bool) (xs ys : List Entry)
    → members_view (cond b xs ys) ≡ cond b (members_view xs) (members_view ys)
members_view-cond true xs ys = refl
members_view-cond false xs ys = refl

-- a map without a name stands for the members without it
pub members_view-remove_entry : (name : List ℕ) (es : List Entry)
    → members_view (remove_entry (is_at (λ k. slice_cmp nat_cmp name (string_bytes k))) es)
    ≡ without name (members_view es)
members_view-remove_entry name [] = refl
members_view-remove_entry name (e ∷ es) =
    members_view-cond _ es (e ∷ remove_entry (is_at (λ k. slice_cmp nat_cmp name (string_bytes k))) es)
    ∙ rw (is_eq-slice_cmp name (string_bytes e.0), members_view-remove_entry name es) refl

-- a reader that fails gives the fault of the member
pub fails : {X : Type 0} (read : Result (X × Members) (List ℕ)) (name : List ℕ) (fault : Fault) (left : Members)
    → read ≡ Err name → IsFaultOf name fault → Gives read (Err fault) left
fails read name (Member found) left is of = is ∙ ap Err (sym of)
fails read name OutOfMemory left is of = tt

pub needed-absent : {X : Type 0} (form : Form X) (name : List ℕ) (ms : Members) → get_member name ms ≡ None
    → needed form name ms ≡ Err name
unfolding needed
needed-absent form name ms e = rw e refl

pub needed-other : {X : Type 0} (form : Form X) (name : List ℕ) (ms : Members) (d : Data)
    → get_member name ms ≡ Some d → form d ≡ None → needed form name ms ≡ Err name
unfolding needed
needed-other form name ms d e f = rw (e, f) refl

pub needed-found : {X : Type 0} (form : Form X) (name : List ℕ) (ms left : Members) (d : Data) (x : X)
    → get_member name ms ≡ Some d → form d ≡ Some x → left ≡ without name ms → needed form name ms ≡ Ok (x, left)
unfolding needed
needed-found form name ms left d x e f w = rw (e, f, w) refl

pub optional-absent : {X : Type 0} (form : Form X) (name : List ℕ) (ms left : Members) → get_member name ms ≡ None
    → left ≡ without name ms → optional form name ms ≡ Ok (None, left)
unfolding optional
optional-absent form name ms left e w = rw (e, w) refl

pub optional-other : {X : Type 0} (form : Form X) (name : List ℕ) (ms : Members) (d : Data)
    → get_member name ms ≡ Some d → form d ≡ None → optional form name ms ≡ Err name
unfolding optional
optional-other form name ms d e f = rw (e, f) refl

pub optional-found : {X : Type 0} (form : Form X) (name : List ℕ) (ms left : Members) (d : Data) (x : X)
    → get_member name ms ≡ Some d → form d ≡ Some x → left ≡ without name ms
    → optional form name ms ≡ Ok (Some x, left)
unfolding optional
optional-found form name ms left d x e f w = rw (e, f, w) refl

pub absent-absent : {X : Type 0} (name : List ℕ) (ms left : Members) → get_member name ms ≡ None
    → left ≡ without name ms → absent {X = X} name ms ≡ Ok (None, left)
unfolding absent optional
absent-absent name ms left e w = rw (e, w) refl

pub absent-given : {X : Type 0} (name : List ℕ) (ms : Members) (d : Data) → get_member name ms ≡ Some d
    → absent {X = X} name ms ≡ Err name
unfolding absent optional
absent-given name ms d e = rw e refl

-- with no entry nothing is left
pub ends-none : {X : Type 0} (x : X) (es : List Entry) → ((false ≡ true) ↔ (0 < length es))
    → ends x (members_view es) ≡ Ok (x, members_view es)
unfolding ends
ends-none x [] h = refl
ends-none x (e ∷ es) h = absurd (true≢false (sym (h.1 (omega arith))))

-- the first entry is the least that is left
pub ends-first : {X : Type 0} (x : X) (es : List Entry) (name : String Global) (value : Value)
    → slice_get es 0 ≡ Some (name, value) → ends x (members_view es) ≡ Err (string_bytes name)
unfolding ends
ends-first x [] name value e = absurd cc
ends-first x (first ∷ es) name value e = ap (λ key. Err (string_bytes key))
    (ap (λ found. unwrap_or (option_map (λ p. p.0) found) name) e)
