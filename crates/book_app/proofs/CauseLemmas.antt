-- The causes of a status, from those of the end that it tells.
use Rattle.std.proofs.Common.{◌≡◌, ◌∙◌, ℕ, List, ap, refl, sym}
use Rattle.book_lines.specs.EndFaults.{TellsFault}
use Rattle.book_lines.specs.declared.running.RunEnd.{RunEnd}
use Rattle.book_lines.specs.declared.running.RunEnd.TheVariants as end
use Rattle.book_serve.specs.declared.serve_end.ServeEnd.{ServeEnd}
use Rattle.book_serve.specs.declared.serve_end.ServeEnd.TheVariants as close
use Rattle.book_app.specs.Causes.{HasBookCauses, HasCauses, HasStreamCauses, counted, in_streams, without_ports}
use Rattle.book_app.specs.Causes.{without_streams}
use Rattle.book_app.specs.Numbers.{status_of, status_served}
use Rattle.book_app.specs.StatusClause.{IsShownAs}
use Rattle.book_app.specs.declared.status.Status.{Status}
use Rattle.book_app.specs.declared.status.Status.TheVariants.{Usage, InputFault, OutputFault, KeeperFault, PortFault}
use Rattle.book_app.proofs.StatusClauseLemmas.{no_sample}

-- a fault that never comes leaves its count
pub tells_none : {E : Type 0} (fault ended : E) (count : ℕ) → (ended ≡ fault → ⊥) → TellsFault fault ended count count
tells_none fault ended count never = record { rose = λ is. absurd (never is); same = λ other. refl }

run_no_usage : (ended : RunEnd) → status_of ended ≡ Usage → ⊥
run_no_usage end.Done is = cc
run_no_usage end.InputLimit is = cc
run_no_usage end.InputFault is = cc
run_no_usage end.OutputFault is = cc

run_no_keeper : (ended : RunEnd) → status_of ended ≡ KeeperFault → ⊥
run_no_keeper end.Done is = cc
run_no_keeper end.InputLimit is = cc
run_no_keeper end.InputFault is = cc
run_no_keeper end.OutputFault is = cc

run_no_ports : (ended : RunEnd) → status_of ended ≡ PortFault → ⊥
run_no_ports end.Done is = cc
run_no_ports end.InputLimit is = cc
run_no_ports end.InputFault is = cc
run_no_ports end.OutputFault is = cc

-- lines were run, or an input imported, with words that name a book
pub causes_of_run :
    (no_words : Type 0) (keeper_before keeper_after input_before input_after output_before output_after : ℕ)
    (ended : RunEnd) (status : Status) → (no_words → ⊥) → status ≡ status_of ended
    → HasStreamCauses (in_streams input_before output_before) (in_streams input_after output_after) status
    → HasCauses no_words (without_ports keeper_before input_before output_before)
    (without_ports keeper_after input_after output_after) status
causes_of_run no_words keeper_before keeper_after input_before input_after output_before output_after ended status
    named is streams =
    record {
      book = record {
        usage = (λ usage. absurd (run_no_usage ended (sym is ∙ usage)), λ none. absurd (named none));
        keeper_fault = λ fault. absurd (run_no_keeper ended (sym is ∙ fault));
        port_faults = tells_none PortFault status 0 (λ fault. run_no_ports ended (sym is ∙ fault));
      };
      streams = record { input_faults = streams.input_faults; output_faults = streams.output_faults };
    }

served_no_usage : (ended : ServeEnd) → status_served ended ≡ Usage → ⊥
served_no_usage close.Done is = cc
served_no_usage close.PortFault is = cc
served_no_usage close.OutOfMemory is = cc

served_no_keeper : (ended : ServeEnd) → status_served ended ≡ KeeperFault → ⊥
served_no_keeper close.Done is = cc
served_no_keeper close.PortFault is = cc
served_no_keeper close.OutOfMemory is = cc

port_end : (ended : ServeEnd) → status_served ended ≡ PortFault → ended ≡ close.PortFault
port_end close.Done is = absurd cc
port_end close.PortFault is = refl
port_end close.OutOfMemory is = absurd cc

-- links were served, with words that name a book
pub causes_of_serving :
    (no_words : Type 0) (keeper_before keeper_after ports_before ports_after : ℕ) (ended : ServeEnd)
    (status : Status) → (no_words → ⊥) → status ≡ status_served ended
    → TellsFault close.PortFault ended ports_before ports_after
    → HasBookCauses no_words (without_streams keeper_before ports_before) (without_streams keeper_after ports_after)
    status
causes_of_serving no_words keeper_before keeper_after ports_before ports_after ended status named is ports =
    record {
      usage = (λ usage. absurd (served_no_usage ended (sym is ∙ usage)), λ none. absurd (named none));
      keeper_fault = λ fault. absurd (served_no_keeper ended (sym is ∙ fault));
      port_faults = record {
        rose = λ fault. ports.rose (port_end ended (sym is ∙ fault));
        same = λ other. ports.same (λ port. other (is ∙ ap status_served port));
      };
    }

-- a sample was shown, with words that name a number
pub causes_of_sample :
    (no_words : Type 0) (keeper input output_before output_after ports number : ℕ) (before after : List ℕ → Type 0)
    (status : Status) → (no_words → ⊥) → IsShownAs number before after status
    → TellsFault OutputFault status output_before output_after
    → HasCauses no_words (counted keeper input output_before ports) (counted keeper input output_after ports) status
causes_of_sample no_words keeper input output_before output_after ports number before after status named shown output =
    record {
      book = record {
        usage = (
          λ usage. absurd (no_sample number before after status Usage shown (λ text never. never) usage),
          λ none. absurd (named none),
        );
        keeper_fault = λ fault.
            absurd (no_sample number before after status KeeperFault shown (λ text never. never) fault);
        port_faults = tells_none PortFault status ports
            (no_sample number before after status PortFault shown (λ text never. never));
      };
      streams = record {
        input_faults = tells_none InputFault status input
            (no_sample number before after status InputFault shown (λ text never. never));
        output_faults = output;
      };
    }
