-- Records that are read without a fault up to the trailer of a file have a tree, which keeps the rules.
use Rattle.std.proofs.Common.{◌≡◌, ◌<◌, ◌≤◌, ◌⊎◌, inl, inr, true, false, List, [], ◌∷◌, ◌++◌, length, None, refl}
use Rattle.std.proofs.Common.{sym, ap, subst, ◌∙◌, arith, append_assoc, ◌&&◌, not}
use Rattle.std.specs.List.{All, flat_map}
use Rattle.book_statement.specs.Checks.{first_fault}
use Rattle.book_statement.specs.declared.statement.Statement.{Statement}
use Rattle.bai2_read.proofs.After.{after}
use Rattle.bai2_read.specs.Said.{said_by}
use Rattle.bai2_read.specs.Kinds.{ends_account, is_blank, is_file_header, is_in_account}
use Rattle.bai2_read.specs.Kinds.{may_follow}
use Rattle.bai2_read.specs.Reading.{Known, record_place}
use Rattle.bai2_read.specs.Records.{Record}
use Rattle.bai2_read.specs.Tree.{AccountTree, FileTree, GroupTree, records_of_account}
use Rattle.bai2_read.specs.Tree.{records_of_group}
use Rattle.bai2_read.specs.TreeRules.{FileHeaderRules, FileRules}
use Rattle.bai2_read.specs.TreeRules.{GroupRules, HasTree}
use Rattle.bai2_read.specs.Said.{Said}
use Rattle.bai2_read.specs.declared.kind.Kind.{Kind}
use Rattle.bai2_read.specs.declared.kind.Kind.TheVariants.{Blank, GroupHeader, AccountHeader, Detail}
use Rattle.bai2_read.specs.declared.kind.Kind.TheVariants.{AccountTrailer, GroupTrailer, FileTrailer, NoRecord}
use Rattle.bai2_read.proofs.CheckedLemmas.{Checked, checked, first_is_header}
use Rattle.bai2_read.proofs.SaidLemmas.{flat_push}
use Rattle.bai2_read.proofs.RuleLemmas.{TwoCounts}
use Rattle.bai2_read.proofs.RuleLemmas.{file_trailer_tells}
use Rattle.bai2_read.proofs.StepLemmas.{AtEnd, InFile, account_with, group_with, place_behind}
use Rattle.bai2_read.proofs.StepLemmas.{step_file_end}
use Rattle.bai2_read.proofs.WalkLemmas.{Reaches}
use Rattle.bai2_read.proofs.PartLemmas.{AccountSoFar, FileSoFar, GroupSoFar, begin_account, begin_file, begin_group}
use Rattle.bai2_read.proofs.PartLemmas.{end_account, end_group, own_as, with_detail}

-- which records may stand at a place
next_in_account : (place kind : Kind) → is_in_account place ≡ true → may_follow place kind ≡ true
    → (kind ≡ Detail) ⊎ ((kind ≡ AccountTrailer) ⊎ (kind ≡ NoRecord))
next_in_account place Detail p e = inl refl
next_in_account place AccountTrailer p e = inr (inl refl)
next_in_account place NoRecord p e = inr (inr refl)
next_in_account AccountHeader _ p e = absurd cc
next_in_account Detail _ p e = absurd cc
next_in_account _ _ p e = absurd cc

next_in_group : (place kind : Kind) → ends_account place ≡ true → may_follow place kind ≡ true
    → (kind ≡ AccountHeader) ⊎ ((kind ≡ GroupTrailer) ⊎ (kind ≡ NoRecord))
next_in_group place AccountHeader p e = inl refl
next_in_group place GroupTrailer p e = inr (inl refl)
next_in_group place NoRecord p e = inr (inr refl)
next_in_group GroupHeader _ p e = absurd cc
next_in_group AccountTrailer _ p e = absurd cc
next_in_group _ _ p e = absurd cc

next_in_file : (gs : List GroupTree) (kind : Kind) → may_follow (place_behind gs) kind ≡ true
    → (kind ≡ GroupHeader) ⊎ (((kind ≡ FileTrailer) × (0 < length gs)) ⊎ (kind ≡ NoRecord))
next_in_file gs GroupHeader e = inl refl
next_in_file gs NoRecord e = inr (inr refl)
next_in_file [] FileTrailer e = absurd cc
next_in_file (g ∷ gs) FileTrailer e = inr (inl (refl, omega arith))
next_in_file [] _ e = absurd cc
next_in_file (g ∷ gs) _ e = absurd cc

next_at_end : (kind : Kind) → may_follow FileTrailer kind ≡ true → kind ≡ NoRecord
next_at_end NoRecord e = refl
next_at_end _ e = absurd cc

-- places within a file are not its end
inside_account : (place : Kind) → is_in_account place ≡ true → (is_blank place ≡ false) × (place ≡ FileTrailer → ⊥)
inside_account AccountHeader p = (refl, λ e. absurd cc)
inside_account Detail p = (refl, λ e. absurd cc)
inside_account _ p = absurd cc

inside_group : (place : Kind) → ends_account place ≡ true → (is_blank place ≡ false) × (place ≡ FileTrailer → ⊥)
inside_group GroupHeader p = (refl, λ e. absurd cc)
inside_group AccountTrailer p = (refl, λ e. absurd cc)
inside_group _ p = absurd cc

inside_file : (gs : List GroupTree) → (is_blank (place_behind gs) ≡ false) × (place_behind gs ≡ FileTrailer → ⊥)
inside_file [] = (refl, λ e. absurd cc)
inside_file (g ∷ gs) = (refl, λ e. absurd cc)

-- what is known of the next record
checked_here : (known : Known) (c : Said) (r : Record) → is_blank c.last ≡ false
    → first_fault (record_place known c r ∷ []) ≡ None → Checked known c r
checked_here known c r started none = checked known c r (rw started refl) none

no_record : (known : Known) (c : Said) (r : Record) → Checked known c r → r.kind ≡ NoRecord → ⊥
no_record known c r h is = let own = own_as known c r NoRecord h is in let e : false ≡ true = own.0 in absurd cc

abbrev file_with : Record → List GroupTree → Record → FileTree
file_with file gs trailer = record { header = file; groups = gs; trailer = trailer }

-- a file that is whole
whole_file : (known : Known) (file : Record) (gs : List GroupTree) (c : Said) (r : Record)
    → InFile file gs c → FileHeaderRules file → All (GroupRules known) gs → length c.statements ≤ 1000
    → 0 < length gs → r.kind ≡ FileTrailer → TwoCounts c.of_file r.lines r.body
    → FileRules known (file_with file gs r)
whole_file known file gs c r k head rules few some kind says = record {
  header = head;
  some_group = some;
  groups = rules;
  few_statements = omega (arith, ap (λ (l : List Statement). length l) k.statements);
  trailer = kind;
  total = record { form = says.total.form; value = says.total.value ∙ k.of_file.total };
  parts = record { form = says.parts.form; value = says.parts.value ∙ k.of_file.parts };
  records = record { form = says.records.form; value = says.records.value ∙ omega arith };
}

-- the records of whole parts, with those behind them
account_laid : (accounts : List AccountTree) (header : Record) (ds : List Record) (r : Record) (rs : List Record)
    → flat_map records_of_account (accounts ++ account_with header ds r ∷ []) ++ rs
    ≡ flat_map records_of_account accounts ++ (header ∷ (ds ++ r ∷ rs))
account_laid accounts header ds r rs =
    let a = account_with header ds r in
    ap (λ (l : List Record). l ++ rs) (flat_push records_of_account accounts a)
    ∙ append_assoc (flat_map records_of_account accounts) (records_of_account a) rs
    ∙ ap (λ (l : List Record). flat_map records_of_account accounts ++ (header ∷ l)) (append_assoc ds (r ∷ []) rs)

group_laid : (gs : List GroupTree) (group : Record) (accounts : List AccountTree) (r : Record) (rs : List Record)
    → flat_map records_of_group (gs ++ group_with group accounts r ∷ []) ++ rs
    ≡ flat_map records_of_group gs ++ (group ∷ (flat_map records_of_account accounts ++ r ∷ rs))
group_laid gs group accounts r rs =
    let g = group_with group accounts r in
    ap (λ (l : List Record). l ++ rs) (flat_push records_of_group gs g)
    ∙ append_assoc (flat_map records_of_group gs) (records_of_group g) rs
    ∙ ap (λ (l : List Record). flat_map records_of_group gs ++ (group ∷ l))
    (append_assoc (flat_map records_of_account accounts) (r ∷ []) rs)

-- nothing stands behind the trailer of a file
none_behind : (known : Known) (c : Said) (rs : List Record) (statements : List Statement) → c.last ≡ FileTrailer
    → Reaches known c rs (AtEnd statements) → (rs ≡ []) × (c.statements ≡ statements)
none_behind known c [] statements place reach = (refl, reach.statements)
none_behind known c (r ∷ rs) statements place reach =
    let h = checked_here known c r (ap (λ (p : Kind). is_blank p) place) reach.0 in
    absurd (no_record known c r h (next_at_end r.kind (ap (λ (p : Kind). may_follow p r.kind) (sym place) ∙ h.order)))

end_file : (known : Known) (file : Record) (gs : List GroupTree) (c : Said) (r : Record) (rs : List Record)
    (statements : List Statement)
    → FileSoFar known file gs c → r.kind ≡ FileTrailer → 0 < length gs → Checked known c r
    → Reaches known (after c r) rs (AtEnd statements)
    → HasTree known (file ∷ (flat_map records_of_group gs ++ r ∷ rs)) statements
end_file known file gs c r rs statements so kind some h reach =
    let end = step_file_end c r kind in
    let behind = none_behind known (after c r) rs statements end.place reach in
    let says = file_trailer_tells c.of_file r.lines r.body (own_as known c r FileTrailer h kind) in (
      file_with file gs r,
      record {
        layout = ap (λ (l : List Record). file ∷ (flat_map records_of_group gs ++ r ∷ l)) (sym behind.0);
        rules = whole_file known file gs c r so.at so.head so.groups so.few some kind says;
        statements = sym so.at.statements ∙ sym end.statements ∙ behind.1;
      },
    )

-- the tree of the records from here on, with the parts read so far
mutual
  in_file : (known : Known) (rs : List Record) (statements : List Statement) (file : Record) (gs : List GroupTree)
      (c : Said) → FileSoFar known file gs c → Reaches known c rs (AtEnd statements)
      → HasTree known (file ∷ (flat_map records_of_group gs ++ rs)) statements
  in_file known [] statements file gs c so reach =
      let inside = inside_file gs in absurd (inside.1 (sym so.at.place ∙ reach.place))
  in_file known (r ∷ rs) statements file gs c so reach =
      let inside = inside_file gs in
      let h = checked_here known c r (ap (λ (p : Kind). is_blank p) so.at.place ∙ inside.0) reach.0 in
      elim (next_in_file gs r.kind (ap (λ (p : Kind). may_follow p r.kind) (sym so.at.place) ∙ h.order)) [
        | inl kind ↦ in_group known rs statements file gs r [] (after c r)
            (begin_group known file gs c r so kind h) reach.1
        | inr (inl end) ↦ end_file known file gs c r rs statements so end.0 end.1 h reach.1
        | inr (inr kind) ↦ absurd (no_record known c r h kind)
      ]

  in_group : (known : Known) (rs : List Record) (statements : List Statement) (file : Record) (gs : List GroupTree)
      (group : Record) (accounts : List AccountTree) (c : Said) → GroupSoFar known file gs group accounts c
      → Reaches known c rs (AtEnd statements)
      → HasTree known
      (file ∷ (flat_map records_of_group gs ++ (group ∷ (flat_map records_of_account accounts ++ rs)))) statements
  in_group known [] statements file gs group accounts c so reach =
      let inside = inside_group c.last so.at.place in absurd (inside.1 reach.place)
  in_group known (r ∷ rs) statements file gs group accounts c so reach =
      let inside = inside_group c.last so.at.place in
      let h = checked_here known c r inside.0 reach.0 in
      elim (next_in_group c.last r.kind so.at.place h.order) [
        | inl kind ↦ in_account known rs statements file gs group accounts r [] (after c r)
            (begin_account known file gs group accounts c r so kind h) reach.1
        | inr (inl kind) ↦
            subst (λ (l : List Record). HasTree known (file ∷ l) statements) (group_laid gs group accounts r rs)
            (in_file known rs statements file (gs ++ group_with group accounts r ∷ []) (after c r)
            (end_group known file gs group accounts c r so kind h) reach.1)
        | inr (inr kind) ↦ absurd (no_record known c r h kind)
      ]

  in_account : (known : Known) (rs : List Record) (statements : List Statement) (file : Record) (gs : List GroupTree)
      (group : Record) (accounts : List AccountTree) (header : Record) (ds : List Record) (c : Said)
      → AccountSoFar known file gs group accounts header ds c → Reaches known c rs (AtEnd statements)
      → HasTree known
      (file ∷ (flat_map records_of_group gs
      ++ (group ∷ (flat_map records_of_account accounts ++ (header ∷ (ds ++ rs)))))) statements
  in_account known [] statements file gs group accounts header ds c so reach =
      let inside = inside_account c.last so.at.place in absurd (inside.1 reach.place)
  in_account known (r ∷ rs) statements file gs group accounts header ds c so reach =
      let inside = inside_account c.last so.at.place in
      let h = checked_here known c r inside.0 reach.0 in
      let front = flat_map records_of_group gs in
      elim (next_in_account c.last r.kind so.at.place h.order) [
        | inl kind ↦
            subst (λ (l : List Record). HasTree known
            (file ∷ (front ++ (group ∷ (flat_map records_of_account accounts ++ (header ∷ l))))) statements)
            (append_assoc ds (r ∷ []) rs)
            (in_account known rs statements file gs group accounts header (ds ++ r ∷ []) (after c r)
            (with_detail known file gs group accounts header ds c r so kind h) reach.1)
        | inr (inl kind) ↦
            subst (λ (l : List Record). HasTree known (file ∷ (front ++ (group ∷ l))) statements)
            (account_laid accounts header ds r rs)
            (in_group known rs statements file gs group (accounts ++ account_with header ds r ∷ []) (after c r)
            (end_account known file gs group accounts header ds c r so kind h) reach.1)
        | inr (inr kind) ↦ absurd (no_record known c r h kind)
      ]

-- the tree of a file
pub parse_file : (known : Known) (rs : List Record) (statements : List Statement)
    → Reaches known (said_by []) rs (AtEnd statements) → HasTree known rs statements
parse_file known [] statements reach = let place : Blank ≡ FileTrailer = reach.place in absurd cc
parse_file known (r ∷ rs) statements reach =
    let kind = first_is_header known r reach.0 in
    let h = checked known (said_by []) r (ap (λ (k : Kind). is_blank Blank && not (is_file_header k)) kind) reach.0 in
    in_file known rs statements r [] (after (said_by []) r) (begin_file known r kind h) reach.1
