-- From what holds of links that were served to what holds when the program's work has ended.
use Rattle.std.proofs.Common.{◌≡◌, ℕ, List, [], ◌∷◌, Option, Some, None, inl, inr, refl, ap}
use Rattle.std.proofs.Common.{subst, Err}
use Rattle.std.specs.Prelude.{IfSome}
use Rattle.book_lines.specs.RunClause.{at}
use Rattle.book_engine.specs.Books.{machine_kept}
use Rattle.book_engine.specs.Kept.{Kept}
use Rattle.book_engine.specs.Opens.{Opens}
use Rattle.book_engine.specs.declared.fault.OpenError.{OpenError}
use Rattle.book_engine.specs.declared.fault.OpenError.TheVariants as error
use Rattle.book_serve.specs.Served.{IsServing, IsServedLink, ServedInTurn, LinkReports, ServedLink, server_state}
use Rattle.book_serve.specs.declared.serve_end.ServeEnd.{ServeEnd}
use Rattle.book_serve.specs.declared.serve_end.ServeEnd.TheVariants as end
use Rattle.book_app.specs.Numbers.{status_served, status_unopened}
use Rattle.book_app.specs.Respond.{kept_answers}
use Rattle.book_app.specs.ServeClause.{HasServedBook, NoneAccepted, PortsSeen, ServeClause}
use Rattle.book_app.specs.StatusClause.{HasLed, Keeping, MayOpenTo, NowOpensTo, OpenedTo, RowsByAnswer}
use Rattle.book_app.specs.StatusClause.{ServedRows}
use Rattle.book_app.specs.Words.{named_number, named_serve}
use Rattle.book_app.specs.declared.words.ServeWords.{ServeWords}
use Rattle.book_app.proofs.LeadsLemmas.{To, leads-through, link-leads, stays}

module _ {L : Type 0} (of : LinkReports L) where
  served-link-leads :
      (old : Kept) (before : ℕ) (link : ServedLink L) (new : Kept) (after : ℕ)
      → IsServedLink kept_answers of old before link new after → To old new
  served-link-leads old before link new after is =
      let served = is.served in
      link-leads 1000000 (at old (of.written link.accepted) before) served.read served.left served.text
      (at new (of.written link.closed) after) link.end served.clause

  -- commands lead through all links
  served-leads :
      (old : Kept) (before : ℕ) (links : List (ServedLink L)) (new : Kept) (after : ℕ)
      → ServedInTurn kept_answers of old before links new after → To old new
  served-leads old before [] new after is = stays (machine_kept old) (machine_kept new) (ap machine_kept is.0)
  served-leads old before (link ∷ more) new after is =
      leads-through (machine_kept old) (machine_kept is.0) (machine_kept new)
      (served-link-leads old before link is.0 is.1 is.2) (served-leads is.0 is.1 more new after is.3)

module _ {L : Type 0} (serve : ServeWords) (keeping : Keeping) (of : LinkReports L) (ports : PortsSeen L) where
  has_led : (ended : ServeEnd) → HasServedBook serve keeping of ports ended → HasLed keeping
  has_led ended h = record {
    first = machine_kept h.first;
    last = machine_kept h.last;
    opened = h.opened;
    led = served-leads of h.first keeping.faults_before h.served.links h.last keeping.faults_after
        h.served.served.in_turn;
    kept = h.kept;
    leaves = h.leaves;
  }

  -- what became of the keeper's rows where links were served
  pub served_rows :
      (ended : ServeEnd) → HasServedBook serve keeping of ports ended → ServedRows keeping (status_served ended)
  served_rows end.Done h = has_led end.Done h
  served_rows end.PortFault h = has_led end.PortFault h
  served_rows end.OutOfMemory h = inr (has_led end.OutOfMemory h)

  -- what became of the links
  pub served_clause :
      (ended : ServeEnd) → HasServedBook serve keeping of ports ended
      → ServeClause serve keeping of ports (status_served ended)
  served_clause end.Done h = h
  served_clause end.PortFault h = h
  served_clause end.OutOfMemory h = inr h

  -- where no book was opened, no link was accepted, and the rows are as they were
  pub unopened_links :
      (why : OpenError) → NoneAccepted ports → RowsByAnswer {T = Kept} keeping (Err why)
      → ServeClause serve keeping of ports (status_unopened why)
  unopened_links error.Keeper none held = none
  unopened_links (error.BadRows kind id) none held = none
  unopened_links (error.UnsoundBook kind id) none held = none
  unopened_links error.OutOfMemory none held = inl (none, held)

  -- links that were served from the engine which was opened, seen with the faults that were counted before
  pub has_served :
      (first last : Kept) (faults : ℕ) (ended : ServeEnd) → faults ≡ keeping.faults_before
      → OpenedTo keeping (Opens (machine_kept first)) → NowOpensTo keeping (machine_kept last)
      → MayOpenTo keeping (machine_kept last)
      → IsServing kept_answers of serve.links serve.port
      (server_state first faults ports.coming_before ports.closed_before ports.accepted_before ports.port_before)
      (server_state last keeping.faults_after ports.coming_after ports.closed_after ports.accepted_after
      ports.port_after) ended
      → HasServedBook serve keeping of ports ended
  has_served first last faults ended same opened kept leaves served = record {
    first = first;
    last = last;
    opened = opened;
    served = subst
        (λ (n : ℕ). IsServing kept_answers of serve.links serve.port
        (server_state first n ports.coming_before ports.closed_before ports.accepted_before ports.port_before)
        (server_state last keeping.faults_after ports.coming_after ports.closed_after ports.accepted_after
        ports.port_after) ended)
        same served;
    kept = kept;
    leaves = leaves;
  }

-- ports that were not asked
pub none_accepted : {L : Type 0} (coming closed : Option (List L)) (accepted port : ℕ) → NoneAccepted (record {
  coming_before = coming;
  coming_after = coming;
  closed_before = closed;
  closed_after = closed;
  accepted_before = accepted;
  accepted_after = accepted;
  port_before = port;
  port_after = port;
})
none_accepted coming closed accepted port = record { coming = refl; closed = refl; accepted = refl; port = refl }

-- the words of a sample are not those of `serve`
pub sample_serves_none :
    (words : List (List ℕ)) (number : ℕ) → Some number ≡ named_number words → named_serve words ≡ None
sample_serves_none [] number is = refl
sample_serves_none (word ∷ []) number is = refl
sample_serves_none (word ∷ other ∷ []) number is = refl
sample_serves_none (word ∷ other ∷ third ∷ more) number is = absurd cc

-- what is said of what words name is said of it where it is named otherwise
pub named_same :
    {X : Type 0} (P : X → Type 0) (one other : Option X) → one ≡ other → IfSome one P → IfSome other P
named_same P one other same h = subst (λ named. IfSome named P) same h
