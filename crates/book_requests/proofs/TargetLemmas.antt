-- What each target asks, where its parameters are read and where one of them isn't.
use Rattle.std.proofs.Common.{◌≡◌, ◌^◌, nat_lt, ℕ, ℤ, true, false, Bool, ◌&&◌, List, Option, Some, None, Result, Ok}
use Rattle.std.proofs.Common.{Err, cond}
use Rattle.std.specs.Prelude.{IsErrAnd}
use Rattle.std.proofs.Common.{codes, refl, sym, ap, ◌∙◌, subst}
use Rattle.std.specs.Str.Parse.{digits_value}
use Rattle.book_command.specs.declared.command.Command.{Command}
use Rattle.book_command.specs.declared.command.Report.TheVariants as report
use Rattle.book_command.specs.declared.command.What.TheVariants as what
use Rattle.book_command.specs.declared.wire_error.WireError.{WireError}
use Rattle.book_command.specs.declared.wire_error.WireError.TheVariants as wire
use Rattle.book_json.specs.Forms.{day_form, day_named, whole}
use Rattle.book_json.specs.Members.{ends, flag, needed, optional}
use Rattle.book_numerals.specs.Numerals.{is_numeral, number_of}
use Rattle.book_wire.specs.Asked.{Asked, Asks, NotCommand}
use Rattle.book_wire.specs.Commands.{word_form}
use Rattle.book_requests.specs.Reading.{IsMissing, Reads, asks_what}
use Rattle.book_requests.specs.Requests.{HasAsked, asked_of_account, asked_of_day, asked_of_days, asked_of_number}
use Rattle.book_requests.specs.Requests.{asked_of_status}

pub status_asks : asked_of_status ≡ Asks (asks_what what.Status)
unfolding asked_of_status needed optional ends word_form whole
status_asks = refl

pub trial_asks : (text : List ℕ) (day : ℤ) → day_named text ≡ Some day
    → asked_of_day (codes "trial") text ≡ Asks (asks_what (what.Report (report.Trial day false)))
unfolding asked_of_day needed optional flag ends word_form whole day_form
trial_asks text day e = rw e refl

pub trial_fails : (text : List ℕ) → day_named text ≡ None
    → asked_of_day (codes "trial") text ≡ NotCommand (codes "day")
unfolding asked_of_day needed optional flag ends word_form whole day_form
trial_fails text e = rw e refl

pub sheet_asks : (text : List ℕ) (day : ℤ) → day_named text ≡ Some day
    → asked_of_day (codes "sheet") text ≡ Asks (asks_what (what.Report (report.Sheet day false)))
unfolding asked_of_day needed optional flag ends word_form whole day_form
sheet_asks text day e = rw e refl

pub sheet_fails : (text : List ℕ) → day_named text ≡ None
    → asked_of_day (codes "sheet") text ≡ NotCommand (codes "day")
unfolding asked_of_day needed optional flag ends word_form whole day_form
sheet_fails text e = rw e refl

pub income_asks : (first last : List ℕ) (from to : ℤ) → day_named first ≡ Some from → day_named last ≡ Some to
    → asked_of_days first last ≡ Asks (asks_what (what.Report (report.Income from to false)))
unfolding asked_of_days needed optional flag ends word_form whole day_form
income_asks first last from to e f = rw (e, f) refl

pub income_fails_first : (first last : List ℕ) → day_named first ≡ None
    → asked_of_days first last ≡ NotCommand (codes "from")
unfolding asked_of_days needed optional flag ends word_form whole day_form
income_fails_first first last e = rw e refl

pub income_fails_last : (first last : List ℕ) (from : ℤ) → day_named first ≡ Some from → day_named last ≡ None
    → asked_of_days first last ≡ NotCommand (codes "to")
unfolding asked_of_days needed optional flag ends word_form whole day_form
income_fails_last first last from e f = rw (e, f) refl

-- a number that a numeral spells is below the limit
below : (a b : Bool) (value n : ℕ) → cond (a && b) (Some value) None ≡ Some n → (b ≡ true) × (value ≡ n)
below true true value n e = (refl, cc)
below true false value n e = absurd cc
below false b value n e = absurd cc

below_limit : (word : List ℕ) (n : ℕ) → number_of word ≡ Some n → nat_lt n (2 ^ 62) ≡ true
below_limit word n e =
    let value = digits_value 10 word in
    let h = below (is_numeral word) (nat_lt value (2 ^ 62)) value n e in
    subst (λ m. nat_lt m (2 ^ 62) ≡ true) h.1 h.0

pub register_asks : (text : List ℕ) (account : ℕ) → number_of text ≡ Some account
    → asked_of_account (codes "register") text
    ≡ Asks (asks_what (what.Report (report.Register account None None false)))
unfolding asked_of_account needed optional flag ends word_form whole
register_asks text account e = ap (asked_of_number (codes "register")) e ∙ rw (below_limit text account e) refl

pub register_fails : (text : List ℕ) → number_of text ≡ None
    → asked_of_account (codes "register") text ≡ NotCommand (codes "account")
unfolding asked_of_account
register_fails text e = ap (asked_of_number (codes "register")) e

pub lots_asks : (text : List ℕ) (account : ℕ) → number_of text ≡ Some account
    → asked_of_account (codes "lots") text ≡ Asks (asks_what (what.Report (report.Lots account false)))
unfolding asked_of_account needed optional flag ends word_form whole
lots_asks text account e = ap (asked_of_number (codes "lots")) e ∙ rw (below_limit text account e) refl

pub lots_fails : (text : List ℕ) → number_of text ≡ None
    → asked_of_account (codes "lots") text ≡ NotCommand (codes "account")
unfolding asked_of_account
lots_fails text e = ap (asked_of_number (codes "lots")) e

missing_asks :
    {X : Type 0} (asked : Asked) (name : List ℕ) (found : Option X) (fault : WireError)
    → (found ≡ None → asked ≡ NotCommand name) → Reads found name (Err fault) → HasAsked asked (Err fault)
missing_asks asked name found (wire.NotCommand field) fails h = ap NotCommand h.1 ∙ sym (fails h.0)
missing_asks asked name found wire.OutOfMemory fails h = tt
missing_asks asked name found wire.NotJson fails h = absurd h

-- where a parameter was not read, this was asked
pub missing_asked :
    {X : Type 0} (asked : Asked) (name : List ℕ) (found : Option X) (fault : WireError)
    (result : Result Command WireError) → (found ≡ None → asked ≡ NotCommand name) → Reads found name (Err fault)
    → IsErrAnd result (λ given. given ≡ fault) → HasAsked asked result
missing_asked asked name found fault (Ok command) fails h is = absurd is
missing_asked asked name found fault (Err given) fails h is =
    subst (λ (w : WireError). HasAsked asked (Err w)) (sym is) (missing_asks asked name found fault fails h)

-- a parameter of which none is found is missing
pub missing_reads :
    {X : Type 0} (name : List ℕ) (found : Option X) (fault : WireError) → found ≡ None → IsMissing name fault
    → Reads found name (Err fault)
missing_reads name found (wire.NotCommand field) none is = (none, is)
missing_reads name found wire.OutOfMemory none is = tt
missing_reads name found wire.NotJson none is = absurd is
