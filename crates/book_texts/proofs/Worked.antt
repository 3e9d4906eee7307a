-- Lines at values written by hand.
use Rattle.std.proofs.Common.{◌≡◌, [], ◌∷◌, ◌++◌, Some, None, codes, refl, pos, negsuc}
use Rattle.std.proofs.Common.{true}
use Rattle.std.specs.Fmt.{digits}
use Rattle.serde_json.proofs.OnLiterals.{serde_json_on_literals}
use Rattle.serde_json.specs.Data.{Data, array, item, member, negative, no_items, no_members, null, number, object}
use Rattle.serde_json.specs.Data.{boolean}
use Rattle.serde_json.specs.Data.{string, unsigned}
use Rattle.serde_json.specs.Find.{get_member}
use Rattle.book_command.specs.declared.answer.HeldShown.{HeldShown}
use Rattle.book_command.specs.declared.answer.LineShown.{LineShown}
use Rattle.book_command.specs.declared.answer.ReconShown.{ReconShown}
use Rattle.book_command.specs.declared.answer.VoidedShown.{VoidedShown}
use Rattle.book_command.specs.declared.answer.Answer.TheVariants.{Edit, Import, Lines, Price, Redo, Sheet}
use Rattle.book_command.specs.declared.answer.Answer.TheVariants.{Statements, Status}
use Rattle.book_command.specs.declared.answer.Answer.TheVariants.{Mark, LineMatch, MatchAuto}
use Rattle.book_command.specs.declared.answer.Answer.TheVariants.{Reconcile, ReconcileStatement, Recons}
use Rattle.book_command.specs.declared.answer.Answer.TheVariants.{Void, Unvoid, Voided}
use Rattle.book_command.specs.declared.rule.Rule.TheVariants.{BadStatement, NothingToRedo, Reconciled, Unbound}
use Rattle.book_command.specs.declared.rule.Rule.TheVariants.{Unknown}
use Rattle.book_command.specs.declared.rule.Rule.TheVariants.{LineAmount, NoClosing, Difference}
use Rattle.book_command.specs.declared.rule.Rule.TheVariants.{Voided as IsVoided, NotVoided}
use Rattle.book_command.specs.declared.wire_error.WireError.TheVariants.{NotCommand}
use Rattle.book_commodity.specs.Day.{day_text}
use Rattle.book_commodity.specs.declared.counted.Counted.TheVariants.{Numbers}
use Rattle.book_commodity.specs.declared.kind.Kind.TheVariants.{Reconciliation}
use Rattle.book_statement.specs.declared.bad.Bad.TheVariants.{ControlTotal, Count, CutOff}
use Rattle.book_statement.specs.declared.count_of.CountOf.TheVariants.{AccountRecords}
use Rattle.book_statement.specs.declared.level.Level.TheVariants.{Group}
use Rattle.book_statement.specs.declared.line_state.LineState.TheVariants.{Dismissed, Matched}
use Rattle.book_texts.specs.AnswerText.{answer_bytes}
use Rattle.book_texts.specs.Reconciliations.{recon_data}
use Rattle.book_texts.specs.RefusedText.{fault_bytes, too_long_bytes}
use Rattle.book_texts.specs.RuleText.{rule_bytes}
use Rattle.book_texts.specs.Statements.{held_data, line_data, line_members}
use Rattle.book_texts.specs.Words.{kind_word, limit_word, word_text}

-- the number stands before the kind, in byte order
unknown_bytes : rule_bytes (Unknown Reconciliation 7) 9
    ≡ codes "{\"broken\":\"Unknown\",\"id\":7,\"kind\":\"reconciliation\",\"version\":9}"
unfolding digits kind_word serde_json_on_literals
unknown_bytes = refl

last_limit : limit_word Numbers ≡ codes "numbers"
unfolding limit_word
last_limit = refl

-- a quote in a name stands behind a backslash
not_command_bytes : fault_bytes (NotCommand (97 ∷ 34 ∷ []))
    ≡ Some (codes "{\"field\":\"a\\\"\",\"refused\":\"not command\"}")
unfolding fault_bytes serde_json_on_literals
not_command_bytes = refl

long_bytes : too_long_bytes 9000000 ≡ codes "{\"length\":9000000,\"refused\":\"too long\"}"
unfolding digits too_long_bytes serde_json_on_literals
long_bytes = refl

edit_bytes : answer_bytes (Edit 5 (6 ∷ 9 ∷ []) (pos 3 ∷ negsuc 2 ∷ [])) 4
    ≡ codes "{\"balances\":[\"3\",\"-3\"],\"ok\":\"edit\",\"splits\":[6,9],\"version\":4}"
unfolding digits word_text serde_json_on_literals
edit_bytes = refl

reconciled_bytes : rule_bytes (Reconciled 6) 5 ≡ codes "{\"broken\":\"Reconciled\",\"split\":6,\"version\":5}"
unfolding digits serde_json_on_literals
reconciled_bytes = refl

price_bytes : answer_bytes (Price (Some (record { num = 150; denom = 100 }))) 7
    ≡ codes "{\"ok\":\"price\",\"rate\":[150,100],\"version\":7}"
unfolding digits word_text serde_json_on_literals
price_bytes = refl

no_price_bytes : answer_bytes (Price None) 7 ≡ codes "{\"ok\":\"price\",\"rate\":null,\"version\":7}"
unfolding digits word_text serde_json_on_literals
no_price_bytes = refl

-- the end of a line stands as a backslash and the letter n
sheet_bytes : answer_bytes (Sheet (65 ∷ 10 ∷ [])) 5 ≡ codes "{\"ok\":\"sheet\",\"text\":\"A\\n\",\"version\":5}"
unfolding digits word_text serde_json_on_literals
sheet_bytes = refl

redo_bytes : answer_bytes Redo 5 ≡ codes "{\"ok\":\"redo\",\"version\":5}"
unfolding digits word_text serde_json_on_literals
redo_bytes = refl

-- the counts stand among the answer's other members, in byte order
status_bytes : answer_bytes (Status 3 0 4 256 5 2 1) 300
    ≡ codes "{\"accounts\":3,\"later\":0,\"lines\":4,\"ok\":\"status\",\"past\":256,"
    ++ codes "\"recons\":5,\"splits\":2,\"transactions\":1,\"version\":300}"
unfolding digits word_text serde_json_on_literals
status_bytes = refl

-- the status of a book with two accounts and a post
paid_status_bytes : answer_bytes (Status 3 0 0 3 0 2 1) 3
    ≡ codes "{\"accounts\":3,\"later\":0,\"lines\":0,\"ok\":\"status\",\"past\":3,"
    ++ codes "\"recons\":0,\"splits\":2,\"transactions\":1,\"version\":3}"
unfolding digits word_text serde_json_on_literals
paid_status_bytes = refl

nothing_undone_bytes : rule_bytes NothingToRedo 5 ≡ codes "{\"broken\":\"NothingToRedo\",\"version\":5}"
unfolding digits serde_json_on_literals
nothing_undone_bytes = refl

abbrev rent : LineShown
rent =
    record {
      id = 7;
      line = record {
        account = 3;
        statement = 6;
        ordinal = 0;
        body = record {
          day = pos 19727;
          value_day = pos 19728;
          amount = negsuc 19999;
          kind = codes "NTRF";
          ref_own = codes "RENT";
          ref_bank = codes "B77";
          text = codes "January rent";
          category = [];
          parts = record { category = codes "Home"; memo = []; amount = negsuc 19999 } ∷ [];
        };
        state = Matched 10;
      };
    }

abbrev rent_part : Data
rent_part =
    array (item (string (codes "Home"))
    (item (string []) (item (number (negative (negsuc 19999))) no_items)))

-- a line that is matched with a split, its members in byte order
rent_shown : line_data rent ≡ object
    (member (codes "amount") (number (negative (negsuc 19999)))
    (member (codes "category") (string [])
    (member (codes "day") (string (day_text (pos 19727)))
    (member (codes "id") (number (unsigned 7))
    (member (codes "kind") (string (codes "NTRF"))
    (member (codes "ordinal") (number (unsigned 0))
    (member (codes "parts") (array (item rent_part no_items))
    (member (codes "ref_bank") (string (codes "B77"))
    (member (codes "ref_own") (string (codes "RENT"))
    (member (codes "split") (number (unsigned 10))
    (member (codes "state") (string (codes "matched"))
    (member (codes "statement") (number (unsigned 6))
    (member (codes "text") (string (codes "January rent"))
    (member (codes "value_day") (string (day_text (pos 19728)))
    no_members))))))))))))))
rent_shown = refl

abbrev dismissed : LineShown
dismissed = record rent { line = record (rent.line) { state = Dismissed } }

-- a line that is dismissed is matched with no split
dismissed_shown : (get_member (codes "state") (line_members dismissed) ≡ Some (string (codes "dismissed")))
    × (get_member (codes "split") (line_members dismissed) ≡ Some null)
dismissed_shown = (refl, refl)

abbrev january : HeldShown
january =
    record {
      id = 6;
      held = record {
        account = 3;
        account_text = codes "ACC10";
        number = codes "185";
        opening = Some (pos 13479);
        closing = None;
        day = pos 19753;
        ties = None;
      };
    }

-- what a statement does not say is null
january_shown : held_data january ≡ object
    (member (codes "account_text") (string (codes "ACC10"))
    (member (codes "closing") null
    (member (codes "day") (string (day_text (pos 19753)))
    (member (codes "id") (number (unsigned 6))
    (member (codes "number") (string (codes "185"))
    (member (codes "opening") (number (unsigned 13479))
    (member (codes "ties") null
    no_members)))))))
january_shown = refl

lines_bytes : answer_bytes (Lines []) 9 ≡ codes "{\"lines\":[],\"ok\":\"lines\",\"version\":9}"
unfolding digits word_text serde_json_on_literals
lines_bytes = refl

statements_bytes : answer_bytes (Statements []) 26
    ≡ codes "{\"ok\":\"statements\",\"statements\":[],\"version\":26}"
unfolding digits word_text serde_json_on_literals
statements_bytes = refl

import_bytes : answer_bytes (Import (6 ∷ []) (7 ∷ 8 ∷ []) 2) 4
    ≡ codes "{\"lines\":[7,8],\"ok\":\"import\",\"seen\":2,\"statements\":[6],\"version\":4}"
unfolding digits word_text serde_json_on_literals
import_bytes = refl

control_total_bytes : rule_bytes
    (BadStatement (record { line = 7; bad = ControlTotal Group (pos 1040001) (pos 1040000) })) 3
    ≡ codes "{\"bad\":\"ControlTotal\",\"broken\":\"BadStatement\",\"level\":\"Group\",\"line\":7,"
    ++ codes "\"reckoned\":\"1040000\",\"said\":\"1040001\",\"version\":3}"
unfolding digits serde_json_on_literals
control_total_bytes = refl

count_bytes : rule_bytes (BadStatement (record { line = 14; bad = Count AccountRecords (pos 13) (pos 12) })) 14
    ≡ codes "{\"bad\":\"Count\",\"broken\":\"BadStatement\",\"line\":14,\"reckoned\":\"12\","
    ++ codes "\"said\":\"13\",\"version\":14,\"what\":\"AccountRecords\"}"
unfolding digits serde_json_on_literals
count_bytes = refl

cut_off_bytes : rule_bytes (BadStatement (record { line = 11; bad = CutOff })) 3
    ≡ codes "{\"bad\":\"CutOff\",\"broken\":\"BadStatement\",\"line\":11,\"version\":3}"
unfolding digits serde_json_on_literals
cut_off_bytes = refl

unbound_bytes : rule_bytes (Unbound (codes "NL01")) 2
    ≡ codes "{\"broken\":\"Unbound\",\"text\":\"NL01\",\"version\":2}"
unfolding digits serde_json_on_literals
unbound_bytes = refl

mark_bytes : answer_bytes Mark 6 ≡ codes "{\"ok\":\"mark\",\"version\":6}"
unfolding digits word_text serde_json_on_literals
mark_bytes = refl

line_match_bytes : answer_bytes LineMatch 7 ≡ codes "{\"ok\":\"line_match\",\"version\":7}"
unfolding digits word_text serde_json_on_literals
line_match_bytes = refl

-- each pair is a line and its split
match_auto_bytes : answer_bytes (MatchAuto (record { line = 7; split = 11 } ∷ record { line = 8; split = 14 } ∷ [])) 9
    ≡ codes "{\"ok\":\"match_auto\",\"pairs\":[[7,11],[8,14]],\"version\":9}"
unfolding digits word_text serde_json_on_literals
match_auto_bytes = refl

no_pairs_bytes : answer_bytes (MatchAuto []) 8 ≡ codes "{\"ok\":\"match_auto\",\"pairs\":[],\"version\":8}"
unfolding digits word_text serde_json_on_literals
no_pairs_bytes = refl

reconcile_bytes : answer_bytes (Reconcile 15 (11 ∷ 14 ∷ [])) 10
    ≡ codes "{\"marked\":[11,14],\"ok\":\"reconcile\",\"reconciliation\":15,\"version\":10}"
unfolding digits word_text serde_json_on_literals
reconcile_bytes = refl

reconcile_statement_bytes : answer_bytes (ReconcileStatement 15 []) 10
    ≡ codes "{\"marked\":[],\"ok\":\"reconcile_statement\",\"reconciliation\":15,\"version\":10}"
unfolding digits word_text serde_json_on_literals
reconcile_statement_bytes = refl

abbrev april : ReconShown
april =
    record {
      id = 15;
      day = pos 19843;
      opening = negsuc 4;
      closing = negsuc 104;
      marked = 2;
      intact = true;
    }

-- the opening balance of a reconciliation is a text, and its closing balance a number
april_shown : recon_data april ≡ object
    (member (codes "closing") (number (negative (negsuc 104)))
    (member (codes "day") (string (day_text (pos 19843)))
    (member (codes "id") (number (unsigned 15))
    (member (codes "intact") (boolean true)
    (member (codes "marked") (number (unsigned 2))
    (member (codes "opening") (string (codes "-5"))
    no_members))))))
unfolding digits
april_shown = refl

recons_bytes : answer_bytes (Recons []) 10 ≡ codes "{\"ok\":\"recons\",\"recons\":[],\"version\":10}"
unfolding digits word_text serde_json_on_literals
recons_bytes = refl

void_bytes : answer_bytes Void 11 ≡ codes "{\"ok\":\"void\",\"version\":11}"
unfolding digits word_text serde_json_on_literals
void_bytes = refl

unvoid_bytes : answer_bytes Unvoid 12 ≡ codes "{\"ok\":\"unvoid\",\"version\":12}"
unfolding digits word_text serde_json_on_literals
unvoid_bytes = refl

abbrev wrong : VoidedShown
wrong = record { transaction = 13; split = 14; value = negsuc 19999; quantity = negsuc 19999; reason = codes "wrong" }

-- each entry is a split, with what was kept of it
voided_bytes : answer_bytes (Voided (wrong ∷ [])) 11
    ≡ codes "{\"ok\":\"voided\",\"version\":11,\"voided\":[[13,14,-20000,-20000,\"wrong\"]]}"
unfolding digits word_text serde_json_on_literals
voided_bytes = refl

none_voided_bytes : answer_bytes (Voided []) 11 ≡ codes "{\"ok\":\"voided\",\"version\":11,\"voided\":[]}"
unfolding digits word_text serde_json_on_literals
none_voided_bytes = refl

is_voided_bytes : rule_bytes (IsVoided 13) 11 ≡ codes "{\"broken\":\"Voided\",\"transaction\":13,\"version\":11}"
unfolding digits serde_json_on_literals
is_voided_bytes = refl

not_voided_bytes : rule_bytes (NotVoided 13) 11
    ≡ codes "{\"broken\":\"NotVoided\",\"transaction\":13,\"version\":11}"
unfolding digits serde_json_on_literals
not_voided_bytes = refl

line_amount_bytes : rule_bytes (LineAmount 7) 6 ≡ codes "{\"broken\":\"LineAmount\",\"line\":7,\"version\":6}"
unfolding digits serde_json_on_literals
line_amount_bytes = refl

no_closing_bytes : rule_bytes (NoClosing 6) 9 ≡ codes "{\"broken\":\"NoClosing\",\"statement\":6,\"version\":9}"
unfolding digits serde_json_on_literals
no_closing_bytes = refl

-- the difference is a text, as every sum
difference_bytes : rule_bytes (Difference (negsuc 149)) 9
    ≡ codes "{\"broken\":\"Difference\",\"by\":\"-150\",\"version\":9}"
unfolding digits serde_json_on_literals
difference_bytes = refl
