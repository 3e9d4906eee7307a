-- Links one after another.
use Rattle.std.proofs.Common.{◌≡◌, ℕ, ◌+◌, ◌<◌, List, [], ◌∷◌, ◌++◌, map, length, Option, None, Some, refl, sym, ap}
use Rattle.std.proofs.Common.{◌∙◌, subst, append_assoc, append-nil, length-append, arith, inl, inr}
use Rattle.std.specs.Prelude.{option_map, All}
use Rattle.std.specs.Io.KnownBytes.{Keeps}
use Rattle.std.proofs.lemmas.List.{map-append}
use Rattle.std.proofs.lemmas.List.Elements.{All-append, All-cons, All-nil}
use Rattle.book_keeper.specs.Faults.{Rose}
use Rattle.book_keeper.specs.Stream.{Are}
use Rattle.book_lines.specs.EndFaults.{TellsFault}
use Rattle.book_lines.specs.RunClause.{at}
use Rattle.book_ports.specs.Accepting.{HasNothing, IsFirst, with_last}
use Rattle.book_serve.specs.Exchange.{RequestRelation}
use Rattle.book_serve.specs.Link.{HasAnsweredLink}
use Rattle.book_serve.specs.declared.link_end.LinkEnd.TheVariants as end
use Rattle.book_serve.specs.Served.{LinkReports, ServerState, ServedLink, ServedInTurn, HadMemory, PortAfter}
use Rattle.book_serve.specs.Served.{HasServedLinks}
use Rattle.book_serve.specs.Served.{IsServing, HasServedLink, HasServedNext, EndsServing}
use Rattle.book_serve.specs.declared.serve_end.ServeEnd.{ServeEnd}
use Rattle.book_serve.specs.declared.serve_end.ServeEnd.TheVariants.{Done, PortFault, OutOfMemory}

-- what a whole reports of bytes that its part reports too
pub Are-kept : (a b : Option (List ℕ)) (bytes : List ℕ) → Keeps a b → Are b bytes → Are a bytes
Are-kept None b bytes p q = tt
Are-kept (Some x) None bytes p q = absurd p
Are-kept (Some x) (Some y) bytes p q = sym p ∙ q

-- a count that rose from 0 is not 0
rose_some : (a b : ℕ) → a ≡ 0 → Rose a b → 0 < b
rose_some a b none rose = omega (arith, none, rose)

ServedInTurn-append : {S L : Type 0} (answers : RequestRelation S) (of : LinkReports L) (a : S) (f : ℕ)
    (xs : List (ServedLink L)) (b : S) (g : ℕ) (ys : List (ServedLink L)) (c : S) (h : ℕ)
    → ServedInTurn answers of a f xs b g → ServedInTurn answers of b g ys c h
    → ServedInTurn answers of a f (xs ++ ys) c h
ServedInTurn-append answers of a f [] b g ys c h p q =
    subst (λ s. ServedInTurn answers of s f ys c h) p.0 (subst (λ n. ServedInTurn answers of b n ys c h) p.1 q)
ServedInTurn-append answers of a f (x ∷ xs) b g ys c h p q =
    (p.0, p.1, p.2, ServedInTurn-append answers of p.0 p.1 xs b g ys c h p.3 q)

PortAfter-append : {L : Type 0} (port : ℕ) (xs ys : List (ServedLink L)) (a b c : ℕ)
    → PortAfter port xs a b → PortAfter port ys b c → PortAfter port (xs ++ ys) a c
PortAfter-append port [] ys a b c p q = subst (λ n. PortAfter port ys n c) p q
PortAfter-append port (x ∷ xs) [] a b c p q = q ∙ p
PortAfter-append port (x ∷ xs) (y ∷ ys) a b c p q = q

came_append : {L : Type 0} (xs ys : List L) (a b c : Option (List L)) → a ≡ option_map (λ others. xs ++ others) b
    → b ≡ option_map (λ others. ys ++ others) c → a ≡ option_map (λ others. (xs ++ ys) ++ others) c
came_append xs ys a b None p q = p ∙ ap (option_map (λ others. xs ++ others)) q
came_append xs ys a b (Some l) p q =
    p ∙ ap (option_map (λ others. xs ++ others)) q ∙ ap Some (sym (append_assoc xs ys l))

closed_append : {L : Type 0} (xs ys : List L) (a b c : Option (List L)) → b ≡ option_map (λ others. others ++ xs) a
    → c ≡ option_map (λ others. others ++ ys) b → c ≡ option_map (λ others. others ++ (xs ++ ys)) a
closed_append xs ys None b c p q = q ∙ ap (option_map (λ others. others ++ ys)) p
closed_append xs ys (Some l) b c p q =
    q ∙ ap (option_map (λ others. others ++ ys)) p ∙ ap Some (append_assoc l xs ys)

-- links that were served behind others
pub HasServedLinks-append : {S L : Type 0} (answers : RequestRelation S) (of : LinkReports L) (port : ℕ)
    (a b c : ServerState S L) (xs ys : List (ServedLink L)) → HasServedLinks answers of port a b xs
    → HasServedLinks answers of port b c ys
    → HasServedLinks answers of port a c (xs ++ ys)
HasServedLinks-append {S} {L} answers of port a b c xs ys p q =
    let accepted : ServedLink L → L = λ link. link.accepted in
    let closed' : ServedLink L → L = λ link. link.closed in record {
      in_turn = ServedInTurn-append answers of a.machine a.faults xs b.machine b.faults ys c.machine c.faults
          p.in_turn q.in_turn;
      came = subst (λ l. a.coming ≡ option_map (λ others. l ++ others) c.coming) (sym (map-append accepted xs ys))
          (came_append (map accepted xs) (map accepted ys) a.coming b.coming c.coming p.came q.came);
      closed = subst (λ l. c.closed ≡ option_map (λ others. others ++ l) a.closed) (sym (map-append closed' xs ys))
          (closed_append (map closed' xs) (map closed' ys) a.closed b.closed c.closed p.closed q.closed);
      counted = omega (arith, length-append xs ys, p.counted, q.counted);
      port_is = PortAfter-append port xs ys a.port b.port c.port p.port_is q.port_is;
    }

came_none : {L : Type 0} (a : Option (List L)) → a ≡ option_map (λ others. [] ++ others) a
came_none None = refl
came_none (Some l) = refl

closed_none : {L : Type 0} (a : Option (List L)) → a ≡ option_map (λ others. others ++ []) a
closed_none None = refl
closed_none (Some l) = ap Some (sym (append-nil l))

-- no link was served
pub HasServedLinks-nil : {S L : Type 0} (answers : RequestRelation S) (of : LinkReports L) (port : ℕ)
    (a : ServerState S L)
    → HasServedLinks answers of port a a []
HasServedLinks-nil answers of port a =
    record {
      in_turn = (refl, refl);
      came = came_none a.coming;
      closed = closed_none a.closed;
      counted = omega arith;
      port_is = refl;
    }

-- So many links were served, and none has ended since there was no memory.
pub record HasCounted {S L : Type 0} (answers : RequestRelation S) (of : LinkReports L) (port : ℕ)
    (old new : ServerState S L)
    (count : ℕ) : Type 0 where
  pub links : List (ServedLink L)
  pub served : HasServedLinks answers of port old new links
  pub count_is : length links ≡ count
  pub room : All HadMemory links

pub HasCounted-nil : {S L : Type 0} (answers : RequestRelation S) (of : LinkReports L) (port : ℕ) (a : ServerState S L)
    → HasCounted answers of port a a 0
HasCounted-nil answers of port a = record {
  links = [];
  served = HasServedLinks-nil answers of port a;
  count_is = refl;
  room = All-nil HadMemory;
}

-- one more link
pub HasCounted-step : {S L : Type 0} (answers : RequestRelation S) (of : LinkReports L) (port : ℕ)
    (a b c : ServerState S L)
    (count : ℕ) → HasCounted answers of port a b count → HasServedNext answers of port b c
    → HasCounted answers of port a c (count + 1)
HasCounted-step answers of port a b c count p q = record {
  links = p.links ++ q.0 ∷ [];
  served = HasServedLinks-append answers of port a b c p.links (q.0 ∷ []) p.served q.1;
  count_is = omega (arith, length-append p.links (q.0 ∷ []), p.count_is);
  room = All-append HadMemory p.links (q.0 ∷ []) p.room (All-cons HadMemory q.0 [] q.2 (All-nil HadMemory));
}

-- as many links were served as were asked for
pub IsServing-most : {S L : Type 0} (answers : RequestRelation S) (of : LinkReports L) (most port : ℕ)
    (a b : ServerState S L)
    (count : ℕ) → HasCounted answers of port a b count → count ≡ most → IsServing answers of most port a b Done
IsServing-most answers of most port a b count p full = record {
  links = p.links;
  served = p.served;
  clause =
      (let all = p.count_is ∙ full in (omega (arith, all), p.room, inl all));
}

-- the next link ends the serving
pub IsServing-ended : {S L : Type 0} (answers : RequestRelation S) (of : LinkReports L) (most port : ℕ)
    (a b c : ServerState S L)
    (count : ℕ) (end : ServeEnd) → count < most → HasCounted answers of port a b count
    → EndsServing answers of port b c end → IsServing answers of most port a c end
IsServing-ended answers of most port a b c count Done few p q = record {
  links = p.links;
  served = subst (λ s. HasServedLinks answers of port a s p.links) (sym q.0) p.served;
  clause = (omega (arith, few, p.count_is), p.room, inr q.1);
}
IsServing-ended answers of most port a b c count PortFault few p q = record {
  links = p.links;
  served = subst (λ s. HasServedLinks answers of port a s p.links) (sym q) p.served;
  clause = (omega (arith, few, p.count_is), p.room);
}
IsServing-ended answers of most port a b c count OutOfMemory few p q = record {
  links = p.links ++ q.0 ∷ [];
  served = HasServedLinks-append answers of port a b c p.links (q.0 ∷ []) p.served q.1;
  clause =
      (p.links, q.0, refl, omega (arith, few, length-append p.links (q.0 ∷ []), p.count_is), p.room, q.2);
}

-- one link was accepted, served and closed
pub served_link : {S L : Type 0} (answers : RequestRelation S) (of : LinkReports L) (port : ℕ) (a b : ServerState S L)
    (link : ServedLink L)
    (coming closed : Option (List L)) (count given : ℕ)
    → HasNothing (of.written link.accepted) → of.read_faults link.accepted ≡ 0 → of.write_faults link.accepted ≡ 0
    → HasAnsweredLink answers (of.left link.accepted) (of.left link.closed)
    (at a.machine (of.written link.accepted) a.faults)
    (at b.machine (of.written link.closed) b.faults) link.end
    → TellsFault end.ReadFault link.end (of.read_faults link.accepted) (of.read_faults link.closed)
    → TellsFault end.WriteFault link.end (of.write_faults link.accepted) (of.write_faults link.closed)
    → IsFirst link.accepted a.coming coming → b.coming ≡ coming
    → closed ≡ a.closed → b.closed ≡ with_last link.closed closed
    → count ≡ a.accepted + 1 → b.accepted ≡ count → given ≡ port → b.port ≡ given
    → HasServedLink answers of port a b link
served_link answers of port a b link coming closed count given unwritten none_read none_written served reads writes
    first coming_is closed_is last count_is accepted_is given_is port_is =
    record {
      in_turn = (
        b.machine,
        b.faults,
        record {
          unwritten = unwritten;
          served = served;
          read_fault = λ e. rose_some _ _ none_read (reads.rose e);
          no_read_fault = λ n. reads.same n ∙ none_read;
          write_fault = λ e. rose_some _ _ none_written (writes.rose e);
          no_write_fault = λ n. writes.same n ∙ none_written;
        },
        (refl, refl),
      );
      came = subst (λ l. a.coming ≡ option_map (λ others. link.accepted ∷ others) l) (sym coming_is) first;
      closed = last ∙ ap (with_last link.closed) closed_is;
      counted = accepted_is ∙ count_is;
      port_is = port_is ∙ given_is;
    }
