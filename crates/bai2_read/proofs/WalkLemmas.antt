-- The records of a tree that keeps the rules are read without a fault, and give its statements.
use Rattle.std.proofs.Common.{◌≡◌, ◌+◌, ◌<◌, ◌≤◌, true, false, List, [], ◌∷◌, ◌++◌, length, None, refl, sym, ap, subst}
use Rattle.std.proofs.Common.{◌∙◌, arith, append_assoc, ◌&&◌, not}
use Rattle.std.specs.Prelude.{map}
use Rattle.std.specs.List.{All, flat_map}
use Rattle.std.proofs.lemmas.List.{append-nil, length-append, length-map, length_push}
use Rattle.std.proofs.lemmas.List.Elements.{All-head, All-tail}
use Rattle.book_statement.specs.Checks.{first_fault}
use Rattle.book_statement.specs.declared.statement.Statement.{Statement}
use Rattle.book_statement.specs.declared.statement_line.StatementLine.{StatementLine}
use Rattle.bai2_read.proofs.After.{after}
use Rattle.bai2_read.specs.Said.{said_by}
use Rattle.bai2_read.specs.Statements.{day_in}
use Rattle.bai2_read.specs.Details.{lines_of_detail}
use Rattle.bai2_read.specs.Kinds.{ends_account, is_blank, is_file_header, is_in_account, may_follow}
use Rattle.bai2_read.specs.Reading.{Known, own_checks, record_place}
use Rattle.bai2_read.specs.Records.{Record}
use Rattle.bai2_read.specs.Tree.{AccountTree, FileTree, GroupTree, lines_of_details, records_of_account}
use Rattle.bai2_read.specs.Tree.{records_of_file}
use Rattle.bai2_read.specs.Tree.{records_of_group, statement_of_account, statements_of_file, statements_of_group}
use Rattle.bai2_read.specs.TreeRules.{AccountRules, DetailRules, FileRules, GroupRules}
use Rattle.bai2_read.specs.Said.{Said}
use Rattle.bai2_read.specs.declared.kind.Kind.{Kind}
use Rattle.bai2_read.specs.declared.kind.Kind.TheVariants.{GroupHeader, AccountHeader, Detail}
use Rattle.bai2_read.specs.declared.kind.Kind.TheVariants.{AccountTrailer, GroupTrailer, FileTrailer}
use Rattle.bai2_read.proofs.CheckedLemmas.{AllHold, passes}
use Rattle.bai2_read.proofs.SaidLemmas.{flat_push}
use Rattle.bai2_read.proofs.RuleLemmas.{account_holds, account_trailer_holds, detail_holds, file_holds}
use Rattle.bai2_read.proofs.RuleLemmas.{file_trailer_holds}
use Rattle.bai2_read.proofs.RuleLemmas.{group_holds, group_trailer_holds}
use Rattle.bai2_read.proofs.StepLemmas.{AtEnd, InAccount, InFile, InGroup, place_behind, step_account}
use Rattle.bai2_read.proofs.StepLemmas.{step_account_end, step_detail, step_file, step_file_end, step_group}
use Rattle.bai2_read.proofs.StepLemmas.{step_group_end}

-- records are read without a fault, and what they say then is so
abbrev pub Reaches : Known → Said → List Record → (Said → Type 0) → Type 0
Reaches known c [] P = P c
Reaches known c (r ∷ rs) P = (first_fault (record_place known c r ∷ []) ≡ None) × Reaches known (after c r) rs P

reach_append : (known : Known) (xs ys : List Record) (P : Said → Type 0) (c : Said)
    → Reaches known c xs (λ d. Reaches known d ys P) → Reaches known c (xs ++ ys) P
reach_append known [] ys P c h = h
reach_append known (x ∷ xs) ys P c h = (h.0, reach_append known xs ys P (after c x) h.1)

pub reach_more : (known : Known) (xs : List Record) (P Q : Said → Type 0) (c : Said)
    → Reaches known c xs P → ((d : Said) → P d → Q d) → Reaches known c xs Q
reach_more known [] P Q c h then_ = then_ c h
reach_more known (x ∷ xs) P Q c h then_ = (h.0, reach_more known xs P Q (after c x) h.1 then_)

-- the order of the records
follows_in_account : (place : Kind) → is_in_account place ≡ true
    → (is_blank place ≡ false) × (may_follow place Detail ≡ true) × (may_follow place AccountTrailer ≡ true)
follows_in_account AccountHeader p = (refl, refl, refl)
follows_in_account Detail p = (refl, refl, refl)
follows_in_account _ p = absurd cc

follows_in_group : (place : Kind) → ends_account place ≡ true
    → (is_blank place ≡ false) × (may_follow place AccountHeader ≡ true) × (may_follow place GroupTrailer ≡ true)
follows_in_group GroupHeader p = (refl, refl, refl)
follows_in_group AccountTrailer p = (refl, refl, refl)
follows_in_group _ p = absurd cc

follows_in_file : (gs : List GroupTree) → (is_blank (place_behind gs) ≡ false)
    × (may_follow (place_behind gs) GroupHeader ≡ true)
follows_in_file [] = (refl, refl)
follows_in_file (g ∷ gs) = (refl, refl)

ends_file : (gs : List GroupTree) → 0 < length gs → may_follow (place_behind gs) FileTrailer ≡ true
ends_file [] some = absurd (omega arith)
ends_file (g ∷ gs) some = refl

-- a record of this kind whose own checks hold has no fault
passes_as : (known : Known) (c : Said) (r : Record) (kind : Kind) → r.kind ≡ kind → is_blank c.last ≡ false
    → may_follow c.last kind ≡ true → AllHold (own_checks known c kind r.lines r.body)
    → first_fault (record_place known c r ∷ []) ≡ None
passes_as known c r kind is started order own =
    passes known c r (rw started refl) (record {
      order = ap (λ (k : Kind). may_follow c.last k) is ∙ order;
      own = subst (λ (k : Kind). AllHold (own_checks known c k r.lines r.body)) (sym is) own;
    })

walk_details : (known : Known) (file : Record) (gs : List GroupTree) (group : Record) (accounts : List AccountTree)
    (header : Record) (ds rest : List Record) (c : Said)
    → InAccount file gs group accounts header ds c → All DetailRules rest
    → length (lines_of_details (day_in group.body) ds) + length (lines_of_details (day_in group.body) rest) ≤ 10_000
    → Reaches known c rest (InAccount file gs group accounts header (ds ++ rest))
walk_details known file gs group accounts header ds [] c k rules few =
    subst (λ (l : List Record). InAccount file gs group accounts header l c) (sym (append-nil ds)) k
walk_details known file gs group accounts header ds (d ∷ rest) c k rules few =
    let day = day_in group.body in
    let rule : DetailRules d = All-head DetailRules d rest rules in
    let order = follows_in_account c.last k.place in
    let lines = ap (λ (l : List StatementLine). length l) k.lines in
    let own = length-append (lines_of_detail day d.body d.text) (lines_of_details day rest) in
    let room : length c.lines + length (lines_of_detail day d.body d.text) ≤ 10_000 = omega (arith, lines, own, few) in
    let more : lines_of_details day (ds ++ d ∷ []) ≡ lines_of_details day ds ++ lines_of_detail day d.body d.text =
    flat_push (λ (r : Record). lines_of_detail day r.body r.text) ds d in
    let after_more = ap (λ (l : List StatementLine). length l) more
    ∙ length-append (lines_of_details day ds) (lines_of_detail day d.body d.text) in (
      passes_as known c d Detail rule.kind order.0 order.1 (detail_holds c d day rule room),
      subst (λ (l : List Record). Reaches known (after c d) rest (InAccount file gs group accounts header l))
          (append_assoc ds (d ∷ []) rest)
          (walk_details known file gs group accounts header (ds ++ d ∷ []) rest (after c d)
          (step_detail file gs group accounts header ds c d k rule.kind) (All-tail DetailRules d rest rules)
          (omega (arith, after_more, own, few))),
    )

account_end : (known : Known) (file : Record) (gs : List GroupTree) (group : Record) (accounts : List AccountTree)
    (a : AccountTree) (c : Said)
    → InAccount file gs group accounts a.header a.details c → AccountRules known group a
    → Reaches known c (a.trailer ∷ []) (InGroup file gs group (accounts ++ a ∷ []))
account_end known file gs group accounts a c k rules =
    let order = follows_in_account c.last k.place in (
      passes_as known c a.trailer AccountTrailer rules.trailer order.0 order.2
          (account_trailer_holds c.of_account a.trailer.lines a.trailer.body (record {
            total = record { form = rules.total.form; value = rules.total.value ∙ sym k.of_account.total };
            records = record { form = rules.records.form; value = rules.records.value ∙ omega arith };
          })),
      step_account_end file gs group accounts a.header a.details c a.trailer k rules.trailer,
    )

walk_account : (known : Known) (file : Record) (gs : List GroupTree) (group : Record) (accounts : List AccountTree)
    (a : AccountTree) (c : Said)
    → InGroup file gs group accounts c → AccountRules known group a → length c.statements < 1000
    → Reaches known c (records_of_account a) (InGroup file gs group (accounts ++ a ∷ []))
walk_account known file gs group accounts a c k rules few =
    let order = follows_in_group c.last k.place in
    let P = λ (d : Said). InGroup file gs group (accounts ++ a ∷ []) d in (
      passes_as known c a.header AccountHeader rules.header.kind order.0 order.1
          (account_holds known c group a.header rules.header k.currency few),
      reach_append known a.details (a.trailer ∷ []) P (after c a.header)
          (reach_more known a.details (InAccount file gs group accounts a.header a.details)
          (λ d. Reaches known d (a.trailer ∷ []) P) (after c a.header)
          (walk_details known file gs group accounts a.header [] a.details (after c a.header)
          (step_account file gs group accounts c a.header k rules.header.kind) rules.details
          (omega (arith, rules.few_lines)))
          (λ d h. account_end known file gs group accounts a d h rules)),
    )

-- how many statements there are behind some groups and accounts
said_so_far : (file : Record) (gs : List GroupTree) (group : Record) (accounts : List AccountTree) (c : Said)
    → InGroup file gs group accounts c
    → length c.statements ≡ length (flat_map (statements_of_group file) gs) + length accounts
said_so_far file gs group accounts c k =
    ap (λ (l : List Statement). length l) k.statements
    ∙ length-append (flat_map (statements_of_group file) gs) (map (statement_of_account file group) accounts)
    ∙ ap (λ n. length (flat_map (statements_of_group file) gs) + n)
    (length-map accounts (statement_of_account file group))

walk_accounts : (known : Known) (file : Record) (gs : List GroupTree) (group : Record)
    (accounts rest : List AccountTree) (c : Said)
    → InGroup file gs group accounts c → All (AccountRules known group) rest
    → length (flat_map (statements_of_group file) gs) + length accounts + length rest ≤ 1000
    → Reaches known c (flat_map records_of_account rest) (InGroup file gs group (accounts ++ rest))
walk_accounts known file gs group accounts [] c k rules few =
    subst (λ (l : List AccountTree). InGroup file gs group l c) (sym (append-nil accounts)) k
walk_accounts known file gs group accounts (a ∷ rest) c k rules few =
    let said = said_so_far file gs group accounts c k in
    let count = length_push accounts a in
    let Q = λ (d : Said). InGroup file gs group (accounts ++ a ∷ rest) d in
    let next : (d : Said) → InGroup file gs group (accounts ++ a ∷ []) d
    → Reaches known d (flat_map records_of_account rest) Q =
    λ d h. subst
    (λ (l : List AccountTree). Reaches known d (flat_map records_of_account rest) (InGroup file gs group l))
    (append_assoc accounts (a ∷ []) rest)
    (walk_accounts known file gs group (accounts ++ a ∷ []) rest d h (All-tail (AccountRules known group) a rest rules)
    (omega arith)) in
    reach_append known (records_of_account a) (flat_map records_of_account rest) Q c
    (reach_more known (records_of_account a) (InGroup file gs group (accounts ++ a ∷ []))
    (λ d. Reaches known d (flat_map records_of_account rest) Q) c
    (walk_account known file gs group accounts a c k (All-head (AccountRules known group) a rest rules) (omega arith))
    next)

group_end : (known : Known) (file : Record) (gs : List GroupTree) (g : GroupTree) (c : Said)
    → InGroup file gs g.header g.accounts c → GroupRules known g
    → Reaches known c (g.trailer ∷ []) (InFile file (gs ++ g ∷ []))
group_end known file gs g c k rules =
    let order = follows_in_group c.last k.place in (
      passes_as known c g.trailer GroupTrailer rules.trailer order.0 order.2
          (group_trailer_holds c.of_group g.trailer.lines g.trailer.body (record {
            total = record { form = rules.total.form; value = rules.total.value ∙ sym k.of_group.total };
            parts = record { form = rules.parts.form; value = rules.parts.value ∙ sym k.of_group.parts };
            records = record { form = rules.records.form; value = rules.records.value ∙ omega arith };
          })),
      step_group_end file gs g.header g.accounts c g.trailer k rules.trailer,
    )

walk_group : (known : Known) (file : Record) (gs : List GroupTree) (g : GroupTree) (c : Said)
    → InFile file gs c → GroupRules known g
    → length (flat_map (statements_of_group file) gs) + length g.accounts ≤ 1000
    → Reaches known c (records_of_group g) (InFile file (gs ++ g ∷ []))
walk_group known file gs g c k rules few =
    let order = follows_in_file gs in
    let P = λ (d : Said). InFile file (gs ++ g ∷ []) d in
    let accounts = flat_map records_of_account g.accounts in (
      passes_as known c g.header GroupHeader rules.header.kind (ap (λ (p : Kind). is_blank p) k.place ∙ order.0)
          (ap (λ (p : Kind). may_follow p GroupHeader) k.place ∙ order.1) (group_holds g.header rules.header),
      reach_append known accounts (g.trailer ∷ []) P (after c g.header)
          (reach_more known accounts (InGroup file gs g.header g.accounts) (λ d. Reaches known d (g.trailer ∷ []) P)
          (after c g.header)
          (walk_accounts known file gs g.header [] g.accounts (after c g.header)
          (step_group file gs c g.header k rules.header.kind) rules.accounts (omega arith))
          (λ d h. group_end known file gs g d h rules)),
    )

walk_groups : (known : Known) (file : Record) (gs rest : List GroupTree) (c : Said)
    → InFile file gs c → All (GroupRules known) rest
    → length (flat_map (statements_of_group file) gs) + length (flat_map (statements_of_group file) rest) ≤ 1000
    → Reaches known c (flat_map records_of_group rest) (InFile file (gs ++ rest))
walk_groups known file gs [] c k rules few =
    subst (λ (l : List GroupTree). InFile file l c) (sym (append-nil gs)) k
walk_groups known file gs (g ∷ rest) c k rules few =
    let said = length-append (statements_of_group file g) (flat_map (statements_of_group file) rest) in
    let of_group = length-map g.accounts (statement_of_account file g.header) in
    let pushed = ap (λ (l : List Statement). length l) (flat_push (statements_of_group file) gs g)
    ∙ length-append (flat_map (statements_of_group file) gs) (statements_of_group file g) in
    let Q = λ (d : Said). InFile file (gs ++ g ∷ rest) d in
    let next : (d : Said) → InFile file (gs ++ g ∷ []) d → Reaches known d (flat_map records_of_group rest) Q =
    λ d h. subst (λ (l : List GroupTree). Reaches known d (flat_map records_of_group rest) (InFile file l))
    (append_assoc gs (g ∷ []) rest)
    (walk_groups known file (gs ++ g ∷ []) rest d h (All-tail (GroupRules known) g rest rules) (omega arith)) in
    reach_append known (records_of_group g) (flat_map records_of_group rest) Q c
    (reach_more known (records_of_group g) (InFile file (gs ++ g ∷ []))
    (λ d. Reaches known d (flat_map records_of_group rest) Q) c
    (walk_group known file gs g c k (All-head (GroupRules known) g rest rules) (omega arith))
    next)

file_end : (known : Known) (f : FileTree) (c : Said) → InFile f.header f.groups c → FileRules known f
    → Reaches known c (f.trailer ∷ []) (AtEnd (statements_of_file f))
file_end known f c k rules =
    let order = follows_in_file f.groups in (
      passes_as known c f.trailer FileTrailer rules.trailer (ap (λ (p : Kind). is_blank p) k.place ∙ order.0)
          (ap (λ (p : Kind). may_follow p FileTrailer) k.place ∙ ends_file f.groups rules.some_group)
          (file_trailer_holds c.of_file f.trailer.lines f.trailer.body (record {
            total = record { form = rules.total.form; value = rules.total.value ∙ sym k.of_file.total };
            parts = record { form = rules.parts.form; value = rules.parts.value ∙ sym k.of_file.parts };
            records = record { form = rules.records.form; value = rules.records.value ∙ omega arith };
          })),
      subst (λ (l : List Statement). AtEnd l (after c f.trailer)) k.statements
          (step_file_end c f.trailer rules.trailer),
    )

-- the whole file
pub walk_file : (known : Known) (f : FileTree) → FileRules known f
    → Reaches known (said_by []) (records_of_file f) (AtEnd (statements_of_file f))
walk_file known f rules =
    let P = λ (d : Said). AtEnd (statements_of_file f) d in
    let groups = flat_map records_of_group f.groups in
    let c = after (said_by []) f.header in (
      passes known (said_by []) f.header
          (ap (λ (k : Kind). is_blank (said_by []).last && not (is_file_header k)) rules.header.kind)
          (record {
            order = ap (λ (k : Kind). may_follow (said_by []).last k) rules.header.kind;
            own = subst (λ (k : Kind). AllHold (own_checks known (said_by []) k f.header.lines f.header.body))
                (sym rules.header.kind) (file_holds f.header rules.header);
          }),
      reach_append known groups (f.trailer ∷ []) P c
          (reach_more known groups (InFile f.header f.groups) (λ d. Reaches known d (f.trailer ∷ []) P) c
          (walk_groups known f.header [] f.groups c (step_file f.header rules.header.kind) rules.groups
          (omega (arith, rules.few_statements)))
          (λ d h. file_end known f d h rules)),
    )
