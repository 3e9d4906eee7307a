-- What lines ask at values written by hand.
use Rattle.std.proofs.Common.{◌≡◌, [], Some, None, Ok, Err, codes, false, refl, pos}
use Rattle.std.proofs.Common.{true}
use Rattle.serde_json.specs.Data.{Members, null, number, string, array, object, no_items, no_members, member, unsigned}
use Rattle.serde_json.specs.Data.{boolean}
use Rattle.book_command.specs.declared.command.Update.TheVariants as update
use Rattle.book_command.specs.declared.command.What.TheVariants.{Redo, Update}
use Rattle.book_command.specs.declared.command.What.TheVariants.{Recons, Voided}
use Rattle.book_command.specs.declared.command.Format.TheVariants.{QifDayFirst}
use Rattle.book_wire.specs.Asked.{Asks, NotCommand, asked_of_data}
use Rattle.book_wire.specs.Commands.{word_form}
use Rattle.book_wire.specs.Formats.{format_form}
use Rattle.book_wire.specs.Posting.{split, edited_split}
use Rattle.book_wire.specs.Posting.{mark_form}
use Rattle.book_wire.specs.Statements.{other}
use Rattle.book_json.specs.Members.{absent, complete, ends, flag, needed, optional, text}
use Rattle.book_json.specs.Forms.{whole, whole_signed}

no_object : asked_of_data (array no_items) ≡ NotCommand []
no_object = refl

no_word : asked_of_data (object no_members) ≡ NotCommand (codes "do")
unfolding needed
no_word = refl

-- the version is read before the members of the command
version_first : asked_of_data
    (object (member (codes "at") null (member (codes "do") (string (codes "account_drop")) no_members)))
    ≡ NotCommand (codes "at")
unfolding needed optional word_form whole
version_first = refl

-- where nothing is said of force, nothing is forced
unforced : asked_of_data
    (object
    (member (codes "do") (string (codes "drop")) (member (codes "transaction") (number (unsigned 5)) no_members)))
    ≡ Asks (record { at = None; what = Update (update.Drop 5 false) })
unfolding needed optional flag ends word_form whole
unforced = refl

abbrev cleared : Members
cleared =
    member (codes "do") (string (codes "mark"))
    (member (codes "split") (number (unsigned 7)) (member (codes "state") (string (codes "c")) no_members))

marked_as_cleared : asked_of_data (object cleared)
    ≡ Asks (record { at = None; what = Update (update.Mark 7 true false) })
unfolding needed optional flag ends word_form mark_form whole
marked_as_cleared = refl

abbrev renewed : Members
renewed =
    member (codes "do") (string (codes "mark"))
    (member (codes "force") (boolean true)
    (member (codes "split") (number (unsigned 7)) (member (codes "state") (string (codes "n")) no_members)))

marked_as_new : asked_of_data (object renewed)
    ≡ Asks (record { at = None; what = Update (update.Mark 7 false true) })
unfolding needed optional flag ends word_form mark_form whole
marked_as_new = refl

abbrev reconciled : Members
reconciled =
    member (codes "do") (string (codes "mark"))
    (member (codes "split") (number (unsigned 7)) (member (codes "state") (string (codes "y")) no_members))

-- a split is marked as reconciled by a reconciliation alone
no_reconciled_by_hand : asked_of_data (object reconciled) ≡ NotCommand (codes "state")
unfolding needed optional word_form mark_form whole
no_reconciled_by_hand = refl

abbrev of_no_word : Members
of_no_word =
    member (codes "do") (string (codes "mark"))
    (member (codes "split") (number (unsigned 7)) (member (codes "state") (string (codes "x")) no_members))

no_such_state : asked_of_data (object of_no_word) ≡ NotCommand (codes "state")
unfolding needed optional word_form mark_form whole
no_such_state = refl

no_state : asked_of_data
    (object
    (member (codes "do") (string (codes "mark")) (member (codes "split") (number (unsigned 7)) no_members)))
    ≡ NotCommand (codes "state")
unfolding needed optional word_form mark_form whole
no_state = refl

-- a command on the history has no member but the version
redone : asked_of_data
    (object (member (codes "at") (number (unsigned 4)) (member (codes "do") (string (codes "redo")) no_members)))
    ≡ Asks (record { at = Some 4; what = Redo })
unfolding needed optional ends word_form whole
redone = refl

nothing_more : asked_of_data
    (object (member (codes "a") null (member (codes "do") (string (codes "redo")) no_members)))
    ≡ NotCommand (codes "a")
unfolding needed optional ends word_form whole
nothing_more = refl

abbrev numbered : Members
numbered =
    member (codes "account") (number (unsigned 3))
    (member (codes "value") (number (unsigned 1)) (member (codes "id") (number (unsigned 2)) no_members))

-- the number of a split is read in an edit, and in a post it is a member too many
number_in_a_post : complete split numbered ≡ Err (codes "id")
unfolding needed optional text ends split whole whole_signed
number_in_a_post = refl

number_in_an_edit : complete edited_split numbered
    ≡ Ok (record { account = 3; value = pos 1; quantity = pos 1; memo = []; action = []; id = Some 2 })
unfolding needed optional text ends split edited_split whole whole_signed
number_in_an_edit = refl

-- of a statement file the text is read first, and its currency last
text_first : asked_of_data
    (object
    (member (codes "currency") null
    (member (codes "do") (string (codes "import")) (member (codes "format") (string (codes "mt940")) no_members))))
    ≡ NotCommand (codes "text")
unfolding needed optional word_form format_form
text_first = refl

-- files of MT940 name their currency themselves
currency_of_mt940 : asked_of_data
    (object
    (member (codes "currency") (number (unsigned 1))
    (member (codes "do") (string (codes "import"))
    (member (codes "format") (string (codes "mt940")) (member (codes "text") (string []) no_members)))))
    ≡ NotCommand (codes "currency")
unfolding needed optional absent word_form format_form whole
currency_of_mt940 = refl

no_currency_of_qif : asked_of_data
    (object
    (member (codes "do") (string (codes "import"))
    (member (codes "format") (string (codes "qif-md")) (member (codes "text") (string []) no_members))))
    ≡ NotCommand (codes "currency")
unfolding needed optional word_form format_form whole
no_currency_of_qif = refl

currency_of_qif : asked_of_data
    (object
    (member (codes "currency") (number (unsigned 1))
    (member (codes "do") (string (codes "import"))
    (member (codes "format") (string (codes "qif-dm")) (member (codes "text") (string []) no_members)))))
    ≡ Asks (record { at = None; what = Update (update.Import (QifDayFirst 1) [] None) })
unfolding needed optional ends word_form format_form whole
currency_of_qif = refl

no_such_format : asked_of_data
    (object
    (member (codes "do") (string (codes "import")) (member (codes "format") (string (codes "qif")) no_members)))
    ≡ NotCommand (codes "format")
unfolding needed optional word_form format_form
no_such_format = refl

-- a description that is given empty is another than none
empty_description : asked_of_data
    (object
    (member (codes "description") (string [])
    (member (codes "do") (string (codes "line_add"))
    (member (codes "line") (number (unsigned 5)) (member (codes "others") (array no_items) no_members)))))
    ≡ Asks (record { at = None; what = Update (update.LineAdd 5 [] (Some [])) })
unfolding needed optional ends word_form whole
empty_description = refl

no_description : asked_of_data
    (object
    (member (codes "do") (string (codes "line_add"))
    (member (codes "line") (number (unsigned 5)) (member (codes "others") (array no_items) no_members))))
    ≡ Asks (record { at = None; what = Update (update.LineAdd 5 [] None) })
unfolding needed optional ends word_form whole
no_description = refl

abbrev with_quantity : Members
with_quantity =
    member (codes "account") (number (unsigned 3))
    (member (codes "quantity") (number (unsigned 1)) (member (codes "value") (number (unsigned 2)) no_members))

-- what stands against a line has no quantity
quantity_against_a_line : complete other with_quantity ≡ Err (codes "quantity")
unfolding needed text optional ends other whole whole_signed
quantity_against_a_line = refl

line_before_split : asked_of_data (object (member (codes "do") (string (codes "line_match")) no_members))
    ≡ NotCommand (codes "line")
unfolding needed optional word_form
line_before_split = refl

matched_with_a_split : asked_of_data
    (object
    (member (codes "do") (string (codes "line_match"))
    (member (codes "line") (number (unsigned 5)) (member (codes "split") (number (unsigned 7)) no_members))))
    ≡ Asks (record { at = None; what = Update (update.LineMatch 5 7) })
unfolding needed optional ends word_form whole
matched_with_a_split = refl

matched_in_a_week : asked_of_data
    (object
    (member (codes "account") (number (unsigned 3))
    (member (codes "do") (string (codes "match_auto")) (member (codes "window") (number (unsigned 7)) no_members))))
    ≡ Asks (record { at = None; what = Update (update.MatchAuto 3 7) })
unfolding needed optional ends word_form whole
matched_in_a_week = refl

-- the day is read before the closing balance
day_before_closing : asked_of_data
    (object
    (member (codes "account") (number (unsigned 3)) (member (codes "do") (string (codes "reconcile")) no_members)))
    ≡ NotCommand (codes "day")
unfolding needed optional word_form whole
day_before_closing = refl

-- the day and the closing balance are those of the statement, and may not be given
closing_of_the_statement : asked_of_data
    (object
    (member (codes "closing") (number (unsigned 100))
    (member (codes "do") (string (codes "reconcile_statement"))
    (member (codes "statement") (number (unsigned 6)) no_members))))
    ≡ NotCommand (codes "closing")
unfolding needed optional ends word_form whole
closing_of_the_statement = refl

recons_asked : asked_of_data
    (object
    (member (codes "account") (number (unsigned 3)) (member (codes "do") (string (codes "recons")) no_members)))
    ≡ Asks (record { at = None; what = Recons 3 })
unfolding needed optional ends word_form whole
recons_asked = refl

abbrev void_wrong : Members
void_wrong =
    member (codes "do") (string (codes "void"))
    (member (codes "force") (boolean true)
    (member (codes "reason") (string (codes "wrong")) (member (codes "transaction") (number (unsigned 13)) no_members)))

void_by_force : asked_of_data (object void_wrong)
    ≡ Asks (record { at = None; what = Update (update.Void 13 (codes "wrong") true) })
unfolding needed optional flag ends word_form whole
void_by_force = refl

-- where nothing is said of force, nothing is voided by force
void_unforced : asked_of_data
    (object
    (member (codes "do") (string (codes "void"))
    (member (codes "reason") (string (codes "wrong"))
    (member (codes "transaction") (number (unsigned 13)) no_members))))
    ≡ Asks (record { at = None; what = Update (update.Void 13 (codes "wrong") false) })
unfolding needed optional flag ends word_form whole
void_unforced = refl

-- a reason has to be given, and it is read before the force
reason_before_force : asked_of_data
    (object
    (member (codes "do") (string (codes "void"))
    (member (codes "force") null (member (codes "transaction") (number (unsigned 13)) no_members))))
    ≡ NotCommand (codes "reason")
unfolding needed optional word_form whole
reason_before_force = refl

unvoid_asked : asked_of_data
    (object
    (member (codes "do") (string (codes "unvoid"))
    (member (codes "transaction") (number (unsigned 13)) no_members)))
    ≡ Asks (record { at = None; what = Update (update.Unvoid 13) })
unfolding needed optional ends word_form whole
unvoid_asked = refl

-- `unvoid` has no member `force`, since no split of a voided transaction is reconciled
unvoid_by_force : asked_of_data
    (object
    (member (codes "do") (string (codes "unvoid"))
    (member (codes "force") (boolean true) (member (codes "transaction") (number (unsigned 13)) no_members))))
    ≡ NotCommand (codes "force")
unfolding needed optional ends word_form whole
unvoid_by_force = refl

voided_asked : asked_of_data
    (object
    (member (codes "account") (number (unsigned 3)) (member (codes "do") (string (codes "voided")) no_members)))
    ≡ Asks (record { at = None; what = Voided 3 })
unfolding needed optional ends word_form whole
voided_asked = refl
