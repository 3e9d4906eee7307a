-- `none` makes the one machine value of a count, and says that it stands for 0.
use mathlib.Core.Path.{◌≡◌, refl}
use mathlib.Core.List.{[], ◌∷◌}
use seplogic.Ra.Ura.{Ura}
use base.Logic.{SProp, ent, sep, emp, via, fst∗}
use prog.Wp.{Calls, Loops, WpFn}
use prog.Memory.{Memory}
use prog.Routine.{Routine}
use types.Logic.{Logic}
use types.Kit.{raw, ‵, ◌$◌, ◌∵◌, !, qed, by, move, keep, fjoin, suffices, done, use0}
use types.Run.{no_more, returns, enter}
use types.ByLocal.{alloc_all, pass_all, free_all, look_at, sets}
use types.Part.{agg}
use contract.Monad.{fact, Fun, fm→mono}
use contract.Running.{tables}
use denote.Triple.Entry.{on_entry}
use denote.Steps.{nothing}
use denote.Triple.Table.{entered, run_framed}
use denote.Triple.Walked.{says, on_exit, walk_of, Walks, ends_at, walked, walk_Meets}
use denote.Triple.Clauses.{Clauses}
use Rattle.step_counter.proofs.CountLemmas.{token, Bare, made}
use Rattle.step_counter.specs.contracts.steps.Count.none.Key.{name as #none}
use Rattle.step_counter.specs.contracts.steps.Count.none as none
use Rattle.step_counter.proofs.steps.Count.none.Statement as stated
use Rattle.step_counter.proofs.steps.Count.none.Code as code

module _ {M : Type 1} {𝓤 : Ura M} (𝓛 : Logic 𝓤) (mem : Memory → SProp 𝓤) (run : Routine → Fun 𝓤) where
  open 𝓛 use {H}

  abbrev c : Clauses 𝓤 none.ended
  c = none.clauses 𝓛 mem run

  abbrev y : (walk_of 𝓛 none.ended tt c).Ghost
  y = ((tt, tt, tt, tt, tt), tt)

  exits : ent 𝓤 (emp 𝓤) ((walk_of 𝓛 none.ended tt c).post y token)
  exits =
      qed 𝓛 [] ∵ suffices ! (sep 𝓤 (on_exit 𝓛 none.ended tt tt tt tt token record { count = 0 } tt tt) (fact 𝓤 (0 ≡ 0)))
      (ends_at 𝓛 none.ended tt c y token record { count = 0 } tt tt) $ says ! refl $
      use0 𝓛 (‵ (Bare.own_val tt (token ∷ []))) (made 𝓛) $ nothing ! $ move ! (1 ∷ 0 ∷ []) $ fjoin ! $
      nothing ! $ nothing ! $ done !

  walks : (C : Calls 𝓤 H) (Λ : Loops 𝓤 H) → Walks 𝓛 none.ended tt (WpFn 𝓤 H C Λ code.function) c
  walks C Λ = walked 𝓛 none.ended tt c (WpFn 𝓤 H C Λ code.function) (λ κs. tt) (λ κs. tt)
      (λ κs qs bounds a g are. via 𝓤 (on_entry 𝓛 none.signature tt tt tt tt) (fst∗ 𝓤 _ (emp 𝓤)) (
      qed 𝓛 (raw (on_entry 𝓛 none.signature tt tt tt tt) ∷ []) ∵ enter ! C Λ code.function [] _ $
      alloc_all ! (λ l. pass_all ! refl tt $
      sets ! (agg ! (no_more !)) refl (tt, tt) $
      returns ! (look_at ! 0 refl) $ free_all ! refl $ keep ! [] $ by ! exits)))

pub none_spec : {M : Type 1} → stated.statement M
none_spec 𝓤 𝓛 𝓜 𝓡 wired =
    walk_Meets 𝓛 none.ended tt tt (none.clauses 𝓛 𝓜.mem 𝓡.returns) (𝓡.run (𝓡.env #none))
    (λ vs. fm→mono 𝓤 (𝓡.run (𝓡.env #none) vs) (run_framed 𝓤 𝓛.H 𝓜 𝓡 (𝓡.env #none) vs))
    (entered 𝓤 𝓛.H (walk_of 𝓛 none.ended tt (none.clauses 𝓛 𝓜.mem 𝓡.returns))
    (tables 𝓤 𝓛.H 𝓜 𝓡 𝓡.env).C (tables 𝓤 𝓛.H 𝓜 𝓡 𝓡.env).Λ #none code.function (code.unfolded 𝓤 𝓛.H 𝓜 𝓡 wired)
    (walks 𝓛 𝓜.mem 𝓡.returns (tables 𝓤 𝓛.H 𝓜 𝓡 𝓡.env).C (tables 𝓤 𝓛.H 𝓜 𝓡 𝓡.env).Λ))
