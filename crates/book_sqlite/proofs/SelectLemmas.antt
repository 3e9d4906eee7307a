-- A text that is a SELECT commits nothing, whatever the schema.
use Rattle.std.proofs.Common.{◌≡◌, ◌+◌, ℕ, List, Option, None, Ok, Err, IfOk, true, false, if◌then◌else◌, refl, subst}
use Rattle.sqlite_value.specs.Order.{Row as Entry}
use Rattle.sqlite_trees.specs.Tree.{Trees}
use Rattle.sqlite_schema.specs.declared.schema.Schema.{Schema}
use Rattle.sqlite_schema.specs.declared.command.Command.{Command}
use Rattle.sqlite_schema.specs.declared.command.Returning.{Returning}
use Rattle.sqlite_resolve.specs.declared.compiled.Compiled.{Compiled}
use Rattle.sqlite_resolve.specs.declared.error.CompileError.TheVariants.{NoSuchTable}
use Rattle.sqlite_resolve.specs.Lowering.{Checked, and_then}
use Rattle.sqlite_resolve.specs.Compile.{first, returning, command, timed, small, meaning, planned, compiled, with_command}
use Rattle.sqlite_tied.specs.Compute.{everything}
use Rattle.sqlite.specs.Listing.{is_select, if_select, listing_schema, reads_listing, understood}
use Rattle.sqlite.specs.State.{State, Survives, CommitsShowing}
use Rattle.sqlite.proofs.StateLemmas.{survives_weaker}
use Rattle.book_sqlite.proofs.Meanings.{behind_text, from_text}

-- the text begins with a statement that has no RETURNING
abbrev pub ReturnsNone : List ℕ → Type 0
ReturnsNone text = (schema : Schema) (base : ℕ) → IfOk (first text) (λ p. returning schema base p.statement ≡ Ok None)

pub behind_returns_none : ReturnsNone behind_text
unfolding first returning everything
behind_returns_none = λ schema base. refl

pub from_returns_none : ReturnsNone from_text
unfolding first returning everything
from_returns_none = λ schema base. refl

abbrev Plan : Type 0
Plan = List (List ℕ) × (Command × Option Returning)

by_command :
    (build : Plan → Compiled) → ((plan : Plan) → (build plan).returning ≡ plan.1.1) → (formats : List (List ℕ)) (r : Checked Command)
    (c : Compiled) → and_then (and_then (and_then r (λ k. Ok (k, None))) (λ found. Ok (formats, found))) (λ plan. Ok (build plan)) ≡ Ok c
    → c.returning ≡ None
by_command build shows formats (Ok k) c got =
    let same : build (formats, (k, None)) ≡ c = cc in
    subst (λ (x : Compiled). x.returning ≡ None) same (shows (formats, (k, None)))
by_command build shows formats (Err e) c got = absurd cc

compiled_bare : (schema : Schema) (text : List ℕ) (c : Compiled) → ReturnsNone text → compiled schema text ≡ Ok c → c.returning ≡ None
unfolding compiled planned meaning
compiled_bare schema text c none = elim (first text) as (λ r.
    ((schema : Schema) (base : ℕ) → IfOk r (λ p. returning schema base p.statement ≡ Ok None))
    → and_then r (λ p. and_then (planned schema p) (λ plan. Ok (with_command p plan))) ≡ Ok c → c.returning ≡ None) [
      | Ok p ↦
          λ bare got.
          let formats = timed schema p.formats p.statement in
          let base = small p.names + small formats in
          by_command (with_command p) (λ plan. refl) formats (command schema p.formats base p.statement) c (rw (bare schema base) at got)
      | Err e ↦ λ bare got. absurd cc
    ] none

listing_bare : (r : Checked Compiled) (c : Compiled) → ((k : Compiled) → r ≡ Ok k → k.returning ≡ None) → if_select r ≡ Ok c → c.returning ≡ None
listing_bare (Ok k) c bare = elim (is_select k.command) as (λ b. (if b then Ok k else Err NoSuchTable) ≡ Ok c → c.returning ≡ None) [
  | true ↦ λ got. let same : k ≡ c = cc in subst (λ (x : Compiled). x.returning ≡ None) same (bare k refl)
  | false ↦ λ got. absurd cc
]
listing_bare (Err e) c bare = λ got. absurd cc

understood_bare : (schema : Schema) (text : List ℕ) (c : Compiled) → ReturnsNone text → understood schema text ≡ Ok c → c.returning ≡ None
unfolding understood
understood_bare schema text c none = elim (reads_listing schema text) as (λ b.
    (if b then if_select (compiled listing_schema text) else compiled schema text) ≡ Ok c → c.returning ≡ None) [
      | true ↦ listing_bare (compiled listing_schema text) c (λ k. compiled_bare listing_schema text k none)
      | false ↦ compiled_bare schema text c none
    ]

never_shows : (text : List ℕ) (params : Entry) (s : State) (db : Trees) → ReturnsNone text → ¬ CommitsShowing text params s db
unfolding CommitsShowing
never_shows text params s db none h =
    let bare = understood_bare s.now.schema text h.0 none h.1.is in
    absurd (let none : false ≡ true = rw bare at h.2 in cc)

-- so a crash leaves what it left before
pub select_survives : (text : List ℕ) (params : Entry) (old new : State) → ReturnsNone text → Survives old new (CommitsShowing text params old)
    → Survives old new (λ _. ⊥)
select_survives text params old new none h =
    survives_weaker old new (CommitsShowing text params old) (λ _. ⊥) (λ clean db made. never_shows text params old db none made) h
