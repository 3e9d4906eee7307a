-- What a run's parts say of it at each of its ends.
use Rattle.std.proofs.Common.{◌≡◌, ℕ, ◌+◌, ◌^◌, ◌<◌, ◌≤◌, List, [], ◌∷◌, ◌++◌, length, take, Option, refl, sym, ap}
use Rattle.std.proofs.Common.{◌∙◌, subst, arith, append_assoc, append-nil, length-append, inl, inr}
use Rattle.std.proofs.lemmas.List.{take_at}
use Rattle.std.specs.Io.KnownBytes.{Consumes, IsAtEnd}
use Rattle.book_keeper.specs.Stream.{Are}
use Rattle.book_keeper.proofs.StreamLemmas.{Are-some, Are-end, Are-Consumes}
use Rattle.book_lines.specs.Lines.{ended, whole_lines, last_piece, rest_line, all_lines, sent, lines, AreAll}
use Rattle.book_lines.specs.Marks.{marks}
use Rattle.book_lines.specs.Transcript.{AnswerRelation, Run}
use Rattle.book_lines.specs.Room.{Seen}
use Rattle.book_lines.specs.RunClause.{Moment, IsAnswered, IsBroken, IsRun}
use Rattle.book_lines.specs.Loop.{HasAnswered, HasBroken, HasTaken, HasStopped, HasEnded}
use Rattle.book_lines.specs.declared.running.RunEnd.{RunEnd}
use Rattle.book_lines.specs.declared.running.RunEnd.TheVariants.{Done, InputLimit, InputFault, OutputFault}
use Rattle.book_lines.proofs.LineLemmas.{ended-append, left_over-append, some_line, all_lines-append, sent-append}
use Rattle.book_lines.proofs.RunLemmas.{Run-length}
use Rattle.book_lines.proofs.LinesLemmas.{lines-begins, lines-all, lines-room, lines-count}
use Rattle.book_lines.proofs.LoopLemmas.{HasAnswered-append, HasBroken-append}

-- a text that stops within the answer to the last of some lines stops so among any lines that begin with these
cut_among : {S : Type 0} (answers : AnswerRelation S) (a b : Moment S) (all known later : List (List ℕ))
    → (h : HasBroken answers a known b) → all ≡ known ++ later → IsBroken answers a all h.text b
cut_among answers a b all known later h e =
    let long : length (sent known) ≡ length (marks h.text) + 1 =
    Run-length answers a.machine (sent known) (marks h.text ++ h.mark ∷ []) (h.text ++ h.more) b.machine h.run
    ∙ length-append (marks h.text) (h.mark ∷ []) in
    let front : take (length (marks h.text) + 1) (sent all) ≡ sent known =
    ap (λ l. take (length (marks h.text) + 1) l) (ap sent e ∙ sent-append known later)
    ∙ take_at (sent known) (sent later) (length (marks h.text) + 1) long in
    record {
      mark = h.mark;
      cut = record {
        more = h.more;
        some = h.some;
        run = subst (λ l. Run answers a.machine l (marks h.text ++ h.mark ∷ []) (h.text ++ h.more) b.machine)
            (sym front) h.run;
      };
      kept = h.kept;
    }

-- all that was read is within the limits
read_all : {S : Type 0} (answers : AnswerRelation S) (read : List ℕ) (a b : Moment S) (room : Seen) (count : ℕ)
    → length read ≤ 2 ^ 33 → HasTaken answers [] read a b room 0 count → AreAll read
read_all answers read a b room count fit p =
    record {
      room = fit;
      count = omega
          (arith, p.count_is, p.few, length-append (whole_lines read) (rest_line (last_piece read)));
    }

-- the input failed
pub IsRun-input : {S : Type 0} (answers : AnswerRelation S) (before after : Option (List ℕ)) (read : List ℕ)
    (a b : Moment S) (room : Seen) (count : ℕ)
    → Consumes before after read → length read ≤ 2 ^ 33 → HasTaken answers [] read a b room 0 count
    → IsRun answers before after a b InputFault
IsRun-input answers before after read a b room count took fit p =
    let left = Are-some after in
    record {
      bytes = read ++ left.0;
      read = read;
      left = left.0;
      text = p.answered.text;
      bytes_are = Are-Consumes before after read left.0 took left.1;
      left_are = left.1;
      wrote = p.answered.wrote;
      parts = refl;
      few = omega arith;
      clause = (read_all answers read a b room count fit p, p.answered.answered);
    }

-- a byte follows where all the room for bytes is taken
pub IsRun-room : {S : Type 0} (answers : AnswerRelation S) (before after : Option (List ℕ)) (read one : List ℕ)
    (a b : Moment S) (room : Seen) (count : ℕ)
    → Consumes before after (read ++ one) → length read ≡ 2 ^ 33 → 0 < length one → length one ≤ 1
    → HasTaken answers [] read a b room 0 count → IsRun answers before after a b InputLimit
IsRun-room answers before after read one a b room count took full some alone p =
    let left = Are-some after in
    let parts = append_assoc read one left.0 in
    let is : lines ((read ++ one) ++ left.0) ≡ whole_lines read =
    ap lines parts ∙ lines-room read (one ++ left.0) full (omega (arith, length-append one left.0))
    (omega (arith, p.count_is, p.few)) in
    record {
      bytes = (read ++ one) ++ left.0;
      read = read ++ one;
      left = left.0;
      text = p.answered.text;
      bytes_are = Are-Consumes before after (read ++ one) left.0 took left.1;
      left_are = left.1;
      wrote = p.answered.wrote;
      parts = refl;
      few = omega (arith, length-append read one);
      clause = (
        inl (omega (arith, length-append (read ++ one) left.0, length-append read one)),
        subst (λ l. IsAnswered answers a l p.answered.text b) (sym is) p.answered.answered,
      );
    }

-- a byte follows where all the lines that may be taken are
run_count : {S : Type 0} (answers : AnswerRelation S) (before after : Option (List ℕ)) (known rest : List ℕ)
    (a b : Moment S)
    → Consumes before after (known ++ rest) → length (known ++ rest) ≤ 2 ^ 33 + 1 → length known ≤ 2 ^ 33
    → 0 < length rest → last_piece known ≡ [] → length (whole_lines known) ≡ 1000000
    → HasAnswered answers a (whole_lines known) b → IsRun answers before after a b InputLimit
run_count answers before after known rest a b took few fit some ends full p =
    let left = Are-some after in
    let more = rest ++ left.0 in
    let parts = append_assoc known rest left.0 in
    let is : lines ((known ++ rest) ++ left.0) ≡ whole_lines known = ap lines parts
    ∙ lines-count known more fit full in
    let one : 0 < length (all_lines more) = some_line [] more (omega (arith, length-append rest left.0)) in
    let past : 1000000 < length (all_lines ((known ++ rest) ++ left.0)) =
    omega (
      arith,
      one,
      full,
      ap (λ l. length (all_lines l)) parts,
      ap length
          (all_lines-append known more ends),
      length-append (whole_lines known) (all_lines more),
    ) in
    record {
      bytes = (known ++ rest) ++ left.0;
      read = known ++ rest;
      left = left.0;
      text = p.text;
      bytes_are = Are-Consumes before after (known ++ rest) left.0 took left.1;
      left_are = left.1;
      wrote = p.wrote;
      parts = refl;
      few = few;
      clause = (inr past, subst (λ l. IsAnswered answers a l p.text b) (sym is) p.answered);
    }

-- the output failed behind known bytes
run_output : {S : Type 0} (answers : AnswerRelation S) (before after : Option (List ℕ)) (known rest : List ℕ)
    (a b : Moment S)
    → Consumes before after (known ++ rest) → length (known ++ rest) ≤ 2 ^ 33 + 1 → length known ≤ 2 ^ 33
    → length (whole_lines known) ≤ 1000000
    → HasBroken answers a (whole_lines known) b → IsRun answers before after a b OutputFault
run_output answers before after known rest a b took short fit few p =
    let left = Are-some after in
    let parts = append_assoc known rest left.0 in
    let begins = lines-begins known (rest ++ left.0) fit few in
    record {
      bytes = (known ++ rest) ++ left.0;
      read = known ++ rest;
      left = left.0;
      text = p.text;
      bytes_are = Are-Consumes before after (known ++ rest) left.0 took left.1;
      left_are = left.1;
      wrote = p.wrote;
      parts = refl;
      few = short;
      clause = cut_among answers a b (lines ((known ++ rest) ++ left.0)) (whole_lines known) begins.0 p
          (ap lines parts ∙ begins.1);
    }

-- the taking of a piece stopped
pub IsRun-stopped : {S : Type 0} (answers : AnswerRelation S) (before after : Option (List ℕ)) (read piece : List ℕ)
    (a b c : Moment S) (room : Seen) (count : ℕ) (end : RunEnd)
    → Consumes before after (read ++ piece) → length read + length piece ≤ 2 ^ 33
    → HasTaken answers [] read a b room 0 count
    → HasStopped answers (last_piece read) piece b c count end → IsRun answers before after a c end
IsRun-stopped answers before after read piece a b c room count Done took fit p h = absurd h
IsRun-stopped answers before after read piece a b c room count InputFault took fit p h = absurd h
IsRun-stopped answers before after read piece a b c room count InputLimit took fit p h =
    let known = read ++ h.0 in
    let all = ended-append [] read h.0 in
    run_count answers before after known h.1 a c
    (subst (λ l. Consumes before after l) (ap (λ l. read ++ l) h.2 ∙ sym (append_assoc read h.0 h.1)) took)
    (omega (arith, ap length h.2, length-append (read ++ h.0) h.1, length-append read h.0, length-append h.0 h.1))
    (omega (arith, ap length h.2, length-append h.0 h.1, length-append read h.0))
    h.3
    (left_over-append [] read h.0 ∙ h.5)
    (omega (arith, h.6, p.count_is, ap length all, length-append (whole_lines read) (ended (last_piece read) h.0)))
    (subst (λ l. HasAnswered answers a l c) (sym all)
    (HasAnswered-append answers a b c (whole_lines read) (ended (last_piece read) h.0) p.answered h.4))
IsRun-stopped answers before after read piece a b c room count OutputFault took fit p h =
    let known = read ++ h.0 in
    let all = ended-append [] read h.0 in
    run_output answers before after known h.1 a c
    (subst (λ l. Consumes before after l) (ap (λ l. read ++ l) h.2 ∙ sym (append_assoc read h.0 h.1)) took)
    (omega (arith, ap length h.2, length-append (read ++ h.0) h.1, length-append read h.0, length-append h.0 h.1))
    (omega (arith, ap length h.2, length-append h.0 h.1, length-append read h.0))
    (omega (arith, h.4, p.count_is, ap length all, length-append (whole_lines read) (ended (last_piece read) h.0)))
    (subst (λ l. HasBroken answers a l c) (sym all)
    (HasBroken-append answers a b c (whole_lines read) (ended (last_piece read) h.0) p.answered h.3))

-- the input was read to its end
pub IsRun-ended : {S : Type 0} (answers : AnswerRelation S) (before after : Option (List ℕ)) (read : List ℕ)
    (a b c : Moment S) (room : Seen) (count : ℕ) (end : RunEnd)
    → Consumes before after read → IsAtEnd after → length read ≤ 2 ^ 33 → HasTaken answers [] read a b room 0 count
    → HasEnded answers b (rest_line (last_piece read)) c end → IsRun answers before after a c end
IsRun-ended answers before after read a b c room count InputLimit took over fit p h = absurd h
IsRun-ended answers before after read a b c room count InputFault took over fit p h = absurd h
IsRun-ended answers before after read a b c room count Done took over fit p h =
    let all = read_all answers read a b room count fit p in
    let q = HasAnswered-append answers a b c (whole_lines read) (rest_line (last_piece read)) p.answered h in
    let nothing = Are-end after over in
    record {
      bytes = read;
      read = read;
      left = [];
      text = q.text;
      bytes_are = subst (λ l. Are before l) (append-nil read) (Are-Consumes before after read [] took nothing);
      left_are = nothing;
      wrote = q.wrote;
      parts = sym (append-nil read);
      few = omega arith;
      clause = (all, refl, subst (λ l. IsAnswered answers a l q.text c) (sym (lines-all read all)) q.answered);
    }
IsRun-ended answers before after read a b c room count OutputFault took over fit p h =
    let all = read_all answers read a b room count fit p in
    let q = HasBroken-append answers a b c (whole_lines read) (rest_line (last_piece read)) p.answered h in
    let nothing = Are-end after over in
    record {
      bytes = read;
      read = read;
      left = [];
      text = q.text;
      bytes_are = subst (λ l. Are before l) (append-nil read) (Are-Consumes before after read [] took nothing);
      left_are = nothing;
      wrote = q.wrote;
      parts = sym (append-nil read);
      few = omega arith;
      clause = cut_among answers a c (lines read) (all_lines read) [] q
          (lines-all read all ∙ sym (append-nil (all_lines read)));
    }
