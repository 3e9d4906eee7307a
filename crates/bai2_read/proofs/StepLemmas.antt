-- What the records say in the middle of a file, an account of which is partly read, in terms of the parts of its tree;
-- and the same with one record more.
use Rattle.std.proofs.Common.{◌≡◌, ℕ, ◌+◌, true, List, [], ◌∷◌, ◌++◌, length, refl, sym, ap, ◌∙◌, arith}
use Rattle.std.proofs.Common.{append_assoc, subst}
use Rattle.std.specs.Prelude.{map, sum_by, ℤ, ◌+ℤ◌}
use Rattle.std.specs.List.{flat_map}
use Rattle.std.proofs.lemmas.Int.{ints}
use Rattle.std.proofs.lemmas.List.{append-nil, length_push, map_push}
use Rattle.std.proofs.lemmas.List.Sums.{sum_by_push}
use Rattle.book_statement.specs.declared.statement.Statement.{Statement}
use Rattle.book_statement.specs.declared.statement_line.StatementLine.{StatementLine}
use Rattle.bai2_read.proofs.After.{after}
use Rattle.bai2_read.specs.Said.{said_by}
use Rattle.bai2_read.specs.Statements.{currency_in, day_in, number_in, statement_with}
use Rattle.bai2_read.specs.Details.{lines_of_detail}
use Rattle.bai2_read.specs.Kinds.{ends_account, is_in_account}
use Rattle.bai2_read.specs.Records.{Record}
use Rattle.bai2_read.specs.Summaries.{items, sum_of_items}
use Rattle.bai2_read.specs.Tree.{AccountTree, GroupTree, amount_said, lines_of_details, size_of_account, size_of_group}
use Rattle.bai2_read.specs.Tree.{statement_of_account, statements_of_group, total_said}
use Rattle.bai2_read.specs.Totals.{total_over}
use Rattle.bai2_read.specs.Said.{Said}
use Rattle.bai2_read.specs.declared.kind.Kind.{Kind}
use Rattle.bai2_read.specs.declared.kind.Kind.TheVariants.{FileHeader, GroupHeader, AccountHeader, Detail}
use Rattle.bai2_read.specs.declared.kind.Kind.TheVariants.{AccountTrailer, GroupTrailer, FileTrailer}
use Rattle.bai2_read.specs.Said.{Sums}
use Rattle.bai2_read.proofs.SaidLemmas.{flat_push}
use Rattle.bai2_read.proofs.TotalLemmas.{total_over_push}

-- sums of a level with these values
pub record SumsAre (sums : Sums) (value : ℤ) (count size : ℕ) : Type 0 where
  pub total : sums.total ≡ value
  pub parts : sums.parts ≡ count
  pub records : sums.records ≡ size

abbrev pub total_of_groups : List GroupTree → ℤ
total_of_groups gs = total_over (λ (g : GroupTree). total_said g.trailer) gs

abbrev pub total_of_accounts : List AccountTree → ℤ
total_of_accounts accounts = total_over (λ (a : AccountTree). total_said a.trailer) accounts

abbrev pub lines_of_records : List Record → ℕ
lines_of_records ds = sum_by (λ (d : Record). d.lines) ds

abbrev pub place_behind : List GroupTree → Kind
place_behind [] = FileHeader
place_behind (g ∷ gs) = GroupTrailer

-- behind these groups of a file
pub record InFile (file : Record) (gs : List GroupTree) (c : Said) : Type 0 where
  pub place : c.last ≡ place_behind gs
  pub number : c.number ≡ number_in file.body
  pub of_file : SumsAre c.of_file (total_of_groups gs) (length gs) (file.lines + sum_by size_of_group gs)
  pub statements : c.statements ≡ flat_map (statements_of_group file) gs

-- behind these accounts of a group
pub record InGroup (file : Record) (gs : List GroupTree) (group : Record) (accounts : List AccountTree)
    (c : Said) : Type 0 where
  pub place : ends_account c.last ≡ true
  pub number : c.number ≡ number_in file.body
  pub day : c.day ≡ day_in group.body
  pub currency : c.currency ≡ currency_in group.body
  pub of_group : SumsAre c.of_group (total_of_accounts accounts) (length accounts)
      (group.lines + sum_by size_of_account accounts)
  pub of_file : SumsAre c.of_file (total_of_groups gs) (length gs + 1)
      (file.lines + sum_by size_of_group gs + (group.lines + sum_by size_of_account accounts))
  pub statements :
      c.statements ≡ flat_map (statements_of_group file) gs ++ map (statement_of_account file group) accounts

-- behind these details of an account
pub record InAccount (file : Record) (gs : List GroupTree) (group : Record) (accounts : List AccountTree)
    (header : Record) (ds : List Record) (c : Said) : Type 0 where
  pub place : is_in_account c.last ≡ true
  pub number : c.number ≡ number_in file.body
  pub day : c.day ≡ day_in group.body
  pub currency : c.currency ≡ currency_in group.body
  pub account : c.account ≡ header.body
  pub lines : c.lines ≡ lines_of_details (day_in group.body) ds
  pub of_account : SumsAre c.of_account (sum_of_items (items header.body) +ℤ total_over amount_said ds) 0
      (header.lines + lines_of_records ds)
  pub of_group : SumsAre c.of_group (total_of_accounts accounts) (length accounts + 1)
      (group.lines + sum_by size_of_account accounts + (header.lines + lines_of_records ds))
  pub of_file : SumsAre c.of_file (total_of_groups gs) (length gs + 1)
      (file.lines + sum_by size_of_group gs
      + (group.lines + sum_by size_of_account accounts + (header.lines + lines_of_records ds)))
  pub statements :
      c.statements ≡ flat_map (statements_of_group file) gs ++ map (statement_of_account file group) accounts

-- a record of this kind, once its kind is known
abbrev of_kind : Record → Kind → Record
of_kind r is = record r { kind = is }

as_kind : (c : Said) (r : Record) (is : Kind) → r.kind ≡ is → after c (of_kind r is) ≡ after c r
as_kind c r is e = ap (λ (k : Kind). after c (of_kind r k)) (sym e)

-- the header of a file
pub step_file : (r : Record) → r.kind ≡ FileHeader → InFile r [] (after (said_by []) r)
step_file r kind = subst (λ (d : Said). InFile r [] d) (as_kind (said_by []) r FileHeader kind) (record {
  place = refl;
  number = refl;
  of_file = record { total = refl; parts = refl; records = omega arith };
  statements = refl;
})

-- the header of a group
pub step_group : (file : Record) (gs : List GroupTree) (c : Said) (r : Record) → InFile file gs c
    → r.kind ≡ GroupHeader → InGroup file gs r [] (after c r)
step_group file gs c r k kind = subst (λ (d : Said). InGroup file gs r [] d) (as_kind c r GroupHeader kind) (record {
  place = refl;
  number = k.number;
  day = refl;
  currency = refl;
  of_group = record { total = refl; parts = refl; records = omega arith };
  of_file = record { total = omega (arith, ints); parts = omega arith; records = omega arith };
  statements = ap (λ (l : List Statement). l ++ []) k.statements;
})

-- the header of an account
pub step_account : (file : Record) (gs : List GroupTree) (group : Record) (accounts : List AccountTree) (c : Said)
    (r : Record) → InGroup file gs group accounts c → r.kind ≡ AccountHeader
    → InAccount file gs group accounts r [] (after c r)
step_account file gs group accounts c r k kind =
    subst (λ (d : Said). InAccount file gs group accounts r [] d)
    (as_kind c r AccountHeader kind) (record {
      place = refl;
      number = k.number;
      day = k.day;
      currency = k.currency;
      account = refl;
      lines = refl;
      of_account = record { total = omega (arith, ints); parts = refl; records = omega arith };
      of_group = record { total = omega (arith, ints); parts = omega arith; records = omega arith };
      of_file = record { total = omega (arith, ints); parts = omega arith; records = omega arith };
      statements = append-nil c.statements ∙ k.statements;
    })

-- a detail
pub step_detail : (file : Record) (gs : List GroupTree) (group : Record) (accounts : List AccountTree)
    (header : Record) (ds : List Record) (c : Said) (r : Record)
    → InAccount file gs group accounts header ds c → r.kind ≡ Detail
    → InAccount file gs group accounts header (ds ++ r ∷ []) (after c r)
step_detail file gs group accounts header ds c r k kind =
    let total = total_over_push amount_said ds r in
    let size = sum_by_push (λ (d : Record). d.lines) ds r in
    subst (λ (d : Said). InAccount file gs group accounts header (ds ++ r ∷ []) d)
    (as_kind c r Detail kind) (record {
      place = refl;
      number = k.number;
      day = k.day;
      currency = k.currency;
      account = k.account;
      lines =
          ap (λ (l : List StatementLine). l ++ lines_of_detail c.day r.body r.text) k.lines
          ∙ ap (λ (z : ℤ). lines_of_details (day_in group.body) ds ++ lines_of_detail z r.body r.text) k.day
          ∙ sym (flat_push (λ (d : Record). lines_of_detail (day_in group.body) d.body d.text) ds r);
      of_account = record { total = omega (arith, ints); parts = omega arith; records = omega arith };
      of_group = record { total = omega (arith, ints); parts = omega arith; records = omega arith };
      of_file = record { total = omega (arith, ints); parts = omega arith; records = omega arith };
      statements = append-nil c.statements ∙ k.statements;
    })

-- an account with its trailer
abbrev pub account_with : Record → List Record → Record → AccountTree
account_with header ds trailer = record { header = header; details = ds; trailer = trailer }

-- the trailer of an account
pub step_account_end : (file : Record) (gs : List GroupTree) (group : Record) (accounts : List AccountTree)
    (header : Record) (ds : List Record) (c : Said) (r : Record)
    → InAccount file gs group accounts header ds c → r.kind ≡ AccountTrailer
    → InGroup file gs group (accounts ++ account_with header ds r ∷ []) (after c r)
step_account_end file gs group accounts header ds c r k kind =
    let a = account_with header ds r in
    let total = total_over_push (λ (a : AccountTree). total_said a.trailer) accounts a in
    let size = sum_by_push size_of_account accounts a in
    let count = length_push accounts a in
    let front = flat_map (statements_of_group file) gs in
    let said : statement_with c.number c.day c.currency c.account c.lines ≡ statement_of_account file group a = cc in
    subst (λ (d : Said). InGroup file gs group (accounts ++ account_with header ds r ∷ []) d)
    (as_kind c r AccountTrailer kind) (record {
      place = refl;
      number = k.number;
      day = k.day;
      currency = k.currency;
      of_group = record { total = omega (arith, ints); parts = omega arith; records = omega arith };
      of_file = record { total = omega (arith, ints); parts = omega arith; records = omega arith };
      statements =
          ap (λ (s : Statement). c.statements ++ s ∷ []) said
          ∙ ap (λ (l : List Statement). l ++ statement_of_account file group a ∷ []) k.statements
          ∙ append_assoc front (map (statement_of_account file group) accounts)
          (statement_of_account file group a ∷ [])
          ∙ ap (λ (l : List Statement). front ++ l) (sym (map_push (statement_of_account file group) accounts a));
    })

-- a group with its trailer
abbrev pub group_with : Record → List AccountTree → Record → GroupTree
group_with header accounts trailer = record { header = header; accounts = accounts; trailer = trailer }

behind_more : (gs : List GroupTree) (g : GroupTree) → GroupTrailer ≡ place_behind (gs ++ g ∷ [])
behind_more [] g = refl
behind_more (h ∷ gs) g = refl

-- the trailer of a group
pub step_group_end : (file : Record) (gs : List GroupTree) (group : Record) (accounts : List AccountTree)
    (c : Said) (r : Record) → InGroup file gs group accounts c → r.kind ≡ GroupTrailer
    → InFile file (gs ++ group_with group accounts r ∷ []) (after c r)
step_group_end file gs group accounts c r k kind =
    let g = group_with group accounts r in
    let total = total_over_push (λ (g : GroupTree). total_said g.trailer) gs g in
    let size = sum_by_push size_of_group gs g in
    let count = length_push gs g in
    subst (λ (d : Said). InFile file (gs ++ group_with group accounts r ∷ []) d)
    (as_kind c r GroupTrailer kind) (record {
      place = behind_more gs g;
      number = k.number;
      of_file = record { total = omega (arith, ints); parts = omega arith; records = omega arith };
      statements =
          append-nil c.statements ∙ k.statements
          ∙ sym (flat_push (statements_of_group file) gs g);
    })

-- the trailer of a file
pub record AtEnd (said : List Statement) (c : Said) : Type 0 where
  pub place : c.last ≡ FileTrailer
  pub statements : c.statements ≡ said

pub step_file_end : (c : Said) (r : Record) → r.kind ≡ FileTrailer → AtEnd c.statements (after c r)
step_file_end c r kind =
    subst (λ (d : Said). AtEnd c.statements d) (as_kind c r FileTrailer kind) (record {
      place = refl;
      statements = append-nil c.statements;
    })
