-- The parts of a tree that were read so far keep the rules; and the same with one record more.
use Rattle.std.proofs.Common.{◌≡◌, ◌+◌, ◌<◌, ◌≤◌, false, List, [], ◌∷◌, ◌++◌, length, refl}
use Rattle.std.proofs.Common.{sym, ap, subst, ◌∙◌, arith}
use Rattle.std.specs.List.{All}
use Rattle.std.proofs.lemmas.List.{append-nil, length-append, length_push}
use Rattle.std.proofs.lemmas.List.Elements.{All-nil, All-push}
use Rattle.book_statement.specs.declared.statement.Statement.{Statement}
use Rattle.book_statement.specs.declared.statement_line.StatementLine.{StatementLine}
use Rattle.bai2_read.proofs.After.{after}
use Rattle.bai2_read.specs.Said.{said_by}
use Rattle.bai2_read.specs.Statements.{day_in, statement_with}
use Rattle.bai2_read.specs.Details.{lines_of_detail}
use Rattle.bai2_read.specs.Kinds.{is_account_trailer}
use Rattle.bai2_read.specs.Reading.{Known, own_checks}
use Rattle.bai2_read.specs.Records.{Record}
use Rattle.bai2_read.specs.Tree.{AccountTree, GroupTree}
use Rattle.bai2_read.specs.TreeRules.{AccountHeaderRules, AccountRules, DetailRules, FileHeaderRules}
use Rattle.bai2_read.specs.TreeRules.{GroupHeaderRules, GroupRules}
use Rattle.bai2_read.specs.Said.{Said}
use Rattle.bai2_read.specs.declared.kind.Kind.{Kind}
use Rattle.bai2_read.specs.declared.kind.Kind.TheVariants.{FileHeader, GroupHeader, AccountHeader, Detail}
use Rattle.bai2_read.specs.declared.kind.Kind.TheVariants.{AccountTrailer, GroupTrailer}
use Rattle.bai2_read.proofs.CheckedLemmas.{AllHold, Checked}
use Rattle.bai2_read.proofs.SaidLemmas.{flat_push}
use Rattle.bai2_read.proofs.RuleLemmas.{OneCount, TwoCounts, account_room, account_tells, account_trailer_tells}
use Rattle.bai2_read.proofs.RuleLemmas.{detail_room, detail_tells, file_tells, group_tells}
use Rattle.bai2_read.proofs.RuleLemmas.{group_trailer_tells}
use Rattle.bai2_read.proofs.StepLemmas.{InAccount, InFile, InGroup, account_with, group_with}
use Rattle.bai2_read.proofs.StepLemmas.{step_account, step_account_end, step_detail, step_file}
use Rattle.bai2_read.proofs.StepLemmas.{step_group}
use Rattle.bai2_read.proofs.StepLemmas.{step_group_end}

-- what the checks of a record of this kind say
pub own_as : (known : Known) (c : Said) (r : Record) (kind : Kind) → Checked known c r → r.kind ≡ kind
    → AllHold (own_checks known c kind r.lines r.body)
own_as known c r kind h is = subst (λ (k : Kind). AllHold (own_checks known c k r.lines r.body)) is h.own

-- an account that is whole
whole_account : (known : Known) (file : Record) (gs : List GroupTree) (group : Record) (accounts : List AccountTree)
    (header : Record) (ds : List Record) (c : Said) (r : Record)
    → InAccount file gs group accounts header ds c → AccountHeaderRules known group header → All DetailRules ds
    → length c.lines ≤ 10_000 → r.kind ≡ AccountTrailer → OneCount c.of_account r.lines r.body
    → AccountRules known group (account_with header ds r)
whole_account known file gs group accounts header ds c r k head rules few kind says = record {
  header = head;
  details = rules;
  few_lines = omega (arith, ap (λ (l : List StatementLine). length l) k.lines);
  trailer = kind;
  total = record { form = says.total.form; value = says.total.value ∙ k.of_account.total };
  records = record { form = says.records.form; value = says.records.value ∙ omega arith };
}

-- a group that is whole
whole_group : (known : Known) (file : Record) (gs : List GroupTree) (group : Record) (accounts : List AccountTree)
    (c : Said) (r : Record)
    → InGroup file gs group accounts c → GroupHeaderRules group → All (AccountRules known group) accounts
    → r.kind ≡ GroupTrailer → TwoCounts c.of_group r.lines r.body
    → GroupRules known (group_with group accounts r)
whole_group known file gs group accounts c r k head rules kind says = record {
  header = head;
  accounts = rules;
  trailer = kind;
  total = record { form = says.total.form; value = says.total.value ∙ k.of_group.total };
  parts = record { form = says.parts.form; value = says.parts.value ∙ k.of_group.parts };
  records = record { form = says.records.form; value = says.records.value ∙ omega arith };
}

-- the parts read so far keep the rules
pub record FileSoFar (known : Known) (file : Record) (gs : List GroupTree) (c : Said) : Type 0 where
  pub at : InFile file gs c
  pub head : FileHeaderRules file
  pub groups : All (GroupRules known) gs
  pub few : length c.statements ≤ 1000

pub record GroupSoFar (known : Known) (file : Record) (gs : List GroupTree) (group : Record)
    (accounts : List AccountTree) (c : Said) : Type 0 where
  pub at : InGroup file gs group accounts c
  pub file_head : FileHeaderRules file
  pub groups : All (GroupRules known) gs
  pub head : GroupHeaderRules group
  pub accounts_hold : All (AccountRules known group) accounts
  pub few : length c.statements ≤ 1000

pub record AccountSoFar (known : Known) (file : Record) (gs : List GroupTree) (group : Record)
    (accounts : List AccountTree) (header : Record) (ds : List Record) (c : Said) : Type 0 where
  pub at : InAccount file gs group accounts header ds c
  pub file_head : FileHeaderRules file
  pub groups : All (GroupRules known) gs
  pub group_head : GroupHeaderRules group
  pub accounts_hold : All (AccountRules known group) accounts
  pub head : AccountHeaderRules known group header
  pub details : All DetailRules ds
  pub few_lines : length c.lines ≤ 10_000
  pub few : length c.statements < 1000

-- the statements stay with a record that ends no account
pub same_count : (c : Said) (r : Record) (kind : Kind) → r.kind ≡ kind → is_account_trailer kind ≡ false
    → length (after c r).statements ≡ length c.statements
same_count c r kind is other =
    let plain : is_account_trailer r.kind ≡ false = ap (λ (k : Kind). is_account_trailer k) is ∙ other in
    rw plain (ap (λ (l : List Statement). length l) (append-nil c.statements))

pub one_count : (c : Said) (r : Record) → r.kind ≡ AccountTrailer
    → length (after c r).statements ≡ length c.statements + 1
one_count c r is =
    rw is (length_push c.statements (statement_with c.number c.day c.currency c.account c.lines))

pub begin_file : (known : Known) (r : Record) → r.kind ≡ FileHeader → Checked known (said_by []) r
    → FileSoFar known r [] (after (said_by []) r)
begin_file known r kind h = record {
  at = step_file r kind;
  head = file_tells r kind (own_as known (said_by []) r FileHeader h kind);
  groups = All-nil (GroupRules known);
  few = omega (arith, same_count (said_by []) r FileHeader kind refl);
}

pub begin_group : (known : Known) (file : Record) (gs : List GroupTree) (c : Said) (r : Record)
    → FileSoFar known file gs c → r.kind ≡ GroupHeader → Checked known c r
    → GroupSoFar known file gs r [] (after c r)
begin_group known file gs c r so kind h = record {
  at = step_group file gs c r so.at kind;
  file_head = so.head;
  groups = so.groups;
  head = group_tells r kind (own_as known c r GroupHeader h kind);
  accounts_hold = All-nil (AccountRules known r);
  few = omega (arith, so.few, same_count c r GroupHeader kind refl);
}

pub begin_account : (known : Known) (file : Record) (gs : List GroupTree) (group : Record) (accounts : List AccountTree)
    (c : Said) (r : Record)
    → GroupSoFar known file gs group accounts c → r.kind ≡ AccountHeader → Checked known c r
    → AccountSoFar known file gs group accounts r [] (after c r)
begin_account known file gs group accounts c r so kind h =
    let own = own_as known c r AccountHeader h kind in
    let at : InAccount file gs group accounts r [] (after c r) =
    step_account file gs group accounts c r so.at kind in
    record {
      at = at;
      file_head = so.file_head;
      groups = so.groups;
      group_head = so.head;
      accounts_hold = so.accounts_hold;
      head = account_tells known c group r kind so.at.currency own;
      details = All-nil DetailRules;
      few_lines = omega (arith, ap (λ (l : List StatementLine). length l) at.lines);
      few = omega (arith, account_room known c r.body own, same_count c r AccountHeader kind refl);
    }

pub with_detail : (known : Known) (file : Record) (gs : List GroupTree) (group : Record) (accounts : List AccountTree)
    (header : Record) (ds : List Record) (c : Said) (r : Record)
    → AccountSoFar known file gs group accounts header ds c → r.kind ≡ Detail → Checked known c r
    → AccountSoFar known file gs group accounts header (ds ++ r ∷ []) (after c r)
with_detail known file gs group accounts header ds c r so kind h =
    let own = own_as known c r Detail h kind in
    let at : InAccount file gs group accounts header (ds ++ r ∷ []) (after c r) =
    step_detail file gs group accounts header ds c r so.at kind in
    let more = lines_of_detail (day_in group.body) r.body r.text in
    let grown : (after c r).lines ≡ c.lines ++ more =
    at.lines ∙ flat_push (λ (d : Record). lines_of_detail (day_in group.body) d.body d.text) ds r
    ∙ ap (λ (l : List StatementLine). l ++ more) (sym so.at.lines) in
    record {
      at = at;
      file_head = so.file_head;
      groups = so.groups;
      group_head = so.group_head;
      accounts_hold = so.accounts_hold;
      head = so.head;
      details = All-push DetailRules ds r so.details (detail_tells c r kind own);
      few_lines =
          omega (
            arith,
            ap (λ (l : List StatementLine). length l) grown,
            length-append c.lines more,
            detail_room c r (day_in group.body) own so.few_lines,
          );
      few = omega (arith, so.few, same_count c r Detail kind refl);
    }

pub end_account : (known : Known) (file : Record) (gs : List GroupTree) (group : Record) (accounts : List AccountTree)
    (header : Record) (ds : List Record) (c : Said) (r : Record)
    → AccountSoFar known file gs group accounts header ds c → r.kind ≡ AccountTrailer → Checked known c r
    → GroupSoFar known file gs group (accounts ++ account_with header ds r ∷ []) (after c r)
end_account known file gs group accounts header ds c r so kind h =
    let says = account_trailer_tells c.of_account r.lines r.body (own_as known c r AccountTrailer h kind) in
    record {
      at = step_account_end file gs group accounts header ds c r so.at kind;
      file_head = so.file_head;
      groups = so.groups;
      head = so.group_head;
      accounts_hold =
          All-push (AccountRules known group) accounts (account_with header ds r) so.accounts_hold
          (whole_account known file gs group accounts header ds c r so.at so.head so.details so.few_lines kind says);
      few = omega (arith, so.few, one_count c r kind);
    }

pub end_group : (known : Known) (file : Record) (gs : List GroupTree) (group : Record) (accounts : List AccountTree)
    (c : Said) (r : Record)
    → GroupSoFar known file gs group accounts c → r.kind ≡ GroupTrailer → Checked known c r
    → FileSoFar known file (gs ++ group_with group accounts r ∷ []) (after c r)
end_group known file gs group accounts c r so kind h =
    let says = group_trailer_tells c.of_group r.lines r.body (own_as known c r GroupTrailer h kind) in
    record {
      at = step_group_end file gs group accounts c r so.at kind;
      head = so.file_head;
      groups =
          All-push (GroupRules known) gs (group_with group accounts r) so.groups
          (whole_group known file gs group accounts c r so.at so.head so.accounts_hold kind says);
      few = omega (arith, so.few, same_count c r GroupTrailer kind refl);
    }
