-- What a changed chunk, two chunks in the place of one, or one in the place of two, do to the list and to what holds
-- of it.
use Rattle.std.proofs.Common.{◌≡◌, ℕ, ◌+◌, ◌-◌, ◌*◌, ◌^◌, ◌<◌, ◌≤◌, nat_le, min, max, Bool, true, false}
use Rattle.std.proofs.Common.{List, [], ◌∷◌, ◌++◌, length, get_or, set, slice_get, Some, refl, sym, ap, ◌∙◌, subst}
use Rattle.std.proofs.Common.{arith}
use Rattle.std.proofs.Common.{append_assoc}
use Rattle.std.proofs.Math.ListN.{length-append}
use Rattle.std.proofs.lemmas.Bool.Decides.{nat_tests}
use Rattle.std.proofs.lemmas.List.{append-nil, length-set, length_push, get_or_at}
use Rattle.std.proofs.lemmas.List.Edits.{length-insert, length-remove}
use Rattle.std.specs.List.{insert, remove}
use Rattle.book_seq.specs.Chunks.{AreEmpty, AreFull, ArePacked, AreRoomy, AreSound, IsAt, IsShort, Piece, first_room}
use Rattle.book_seq.specs.Chunks.{list_of}
use Rattle.book_seq.specs.Chunks.{spare_of}
use Rattle.book_seq.specs.declared.spot.Spot.{Spot}
use Rattle.book_seq.proofs.ListLemmas.{get_here, get_middle, insert_middle, insert_next, remove_middle, remove_next}
use Rattle.book_seq.proofs.ListLemmas.{set_here}
use Rattle.book_seq.proofs.ChunkLemmas.{empty-back, empty-front, full_length, length-parts, list-parts}
use Rattle.book_seq.proofs.ChunkLemmas.{packed-back, packed-front, packed-head, packed-join, packed-least, packed-most}
use Rattle.book_seq.proofs.ChunkLemmas.{packed-set, packed-tail, packed-two, roomy-back, roomy-front, roomy-here}
use Rattle.book_seq.proofs.ChunkLemmas.{roomy-join}
use Rattle.book_seq.proofs.ChunkLemmas.{roomy-set}

pub get_next : {X : Type 0} (xs ys : List X) (x y d : X) (k : ℕ) → k ≡ length xs
    → get_or (xs ++ x ∷ y ∷ ys) (k + 1) d ≡ y
get_next xs ys x y d k is =
    ap (λ l. get_or l (k + 1) d) (sym (append_assoc xs (x ∷ []) (y ∷ ys)))
    ∙ get_or_at (xs ++ x ∷ []) y ys d (k + 1) (length_push xs x ∙ ap (λ n. n + 1) (sym is))

-- the place of an entry, by the chunk that was read there
pub record Placed {E : Type 0} (items : List (Piece E)) (place : ℕ) (spot : Spot) (h : Piece E) : Type 0 where
  pub before : List (Piece E)
  pub after : List (Piece E)
  pub parts : items ≡ before ++ h ∷ after
  pub chunk : spot.chunk ≡ length before
  pub place_is : place ≡ length (list_of before) + spot.offset
  pub within : spot.offset ≤ length h.entries
  pub below : place < length (list_of items) → spot.offset < length h.entries

-- two chunks of which the second was taken away
pub record Taken {E : Type 0} (items rest : List (Piece E)) (k : ℕ) (n h : Piece E) : Type 0 where
  pub before : List (Piece E)
  pub after : List (Piece E)
  pub parts : items ≡ before ++ h ∷ n ∷ after
  pub rest_is : rest ≡ before ++ h ∷ after
  pub place_is : k ≡ length before
  pub full : AreFull before
  pub low : length h.entries ≡ 255
  pub packed : ArePacked (n ∷ after)

-- ---- what the room for an entry tells
spare_cases : (used free room len : ℕ) → 1 ≤ spare_of used free room len → (2 ≤ used + free → ⊥)
    → 1 ≤ min 512 room - len
spare_cases used free room len some few = grind (arith, nat_tests, some, few)

spare_many : (used free room len : ℕ) → 1 ≤ spare_of used free room len → 2 ≤ used + free
    → 1 ≤ max free (256 * (used + free) - len)
spare_many used free room len some many = grind (arith, nat_tests, some, many)

pub wide_enough : (used free room len extra : ℕ) → min 512 (len + extra) ≤ room → used + free ≤ 1
    → spare_of used free room len < extra → 512 ≤ room
wide_enough used free room len extra wide one less =
    let alone : min 512 room - len < extra = grind (arith, nat_tests, less, one) in omega (arith, wide, alone)

module _ {E : Type 0} where
  pub placed : (items slice : List (Piece E)) (place : ℕ) (spot : Spot) (h : Piece E) → slice ≡ items
      → IsAt slice place spot
      → h ≡ get_or items spot.chunk h → Placed items place spot h
  placed items slice place spot h same at read =
      let parts : items ≡ at.before ++ at.here ∷ at.after = sym same ∙ at.parts in
      let here_is : h ≡ at.here =
      read ∙ ap (λ l. get_or l spot.chunk h) parts ∙ get_here at.before at.after at.here h spot.chunk at.chunk in
      record {
        before = at.before;
        after = at.after;
        parts = parts ∙ ap (λ (p : Piece E). at.before ++ p ∷ at.after) (sym here_is);
        chunk = at.chunk;
        place_is = at.place_is;
        within = subst (λ (p : Piece E). spot.offset ≤ length p.entries) (sym here_is) at.within;
        below = λ lt. subst (λ (p : Piece E). spot.offset < length p.entries) (sym here_is)
            (at.below (subst (λ l. place < length (list_of l)) (sym same) lt));
      }

  -- ---- one chunk changed
  set_is : (items : List (Piece E)) (place : ℕ) (spot : Spot) (h other : Piece E) (p : Placed items place spot h)
      → set items spot.chunk other ≡ p.before ++ other ∷ p.after
  set_is items place spot h other p =
      ap (λ l. set l spot.chunk other) p.parts ∙ set_here p.before p.after h other spot.chunk p.chunk

  pub list_is : (items : List (Piece E)) (place : ℕ) (spot : Spot) (h : Piece E) (p : Placed items place spot h)
      → list_of items ≡ list_of p.before ++ (h.entries ++ list_of p.after)
  list_is items place spot h p = ap list_of p.parts ∙ list-parts p.before p.after h

  pub set_list : (items : List (Piece E)) (place : ℕ) (spot : Spot) (h other : Piece E) (p : Placed items place spot h)
      → list_of (set items spot.chunk other) ≡ list_of p.before ++ (other.entries ++ list_of p.after)
  set_list items place spot h other p =
      ap list_of (set_is items place spot h other p) ∙ list-parts p.before p.after other

  pub got : (items : List (Piece E)) (place : ℕ) (spot : Spot) (h : Piece E) (x : E) → Placed items place spot h
      → place < length (list_of items) → slice_get h.entries spot.offset ≡ Some x
      → slice_get (list_of items) place ≡ Some x
  got items place spot h x p lt is =
      ap (λ l. slice_get l place) (list_is items place spot h p)
      ∙ ap (slice_get (list_of p.before ++ (h.entries ++ list_of p.after))) p.place_is
      ∙ get_middle (list_of p.before) h.entries (list_of p.after) spot.offset (p.below lt) ∙ is

  -- the list with an entry put in
  put_in : (items : List (Piece E)) (place : ℕ) (spot : Spot) (h : Piece E) (x : E) (p : Placed items place spot h)
      → insert (list_of items) place x ≡ list_of p.before ++ (insert h.entries spot.offset x ++ list_of p.after)
  put_in items place spot h x p =
      ap (λ l. insert l place x) (list_is items place spot h p)
      ∙ ap (λ n. insert (list_of p.before ++ (h.entries ++ list_of p.after)) n x) p.place_is
      ∙ insert_middle (list_of p.before) h.entries (list_of p.after) spot.offset x p.within

  pub inserted_list : (items : List (Piece E)) (place : ℕ) (spot : Spot) (h other : Piece E) (x : E)
      → Placed items place spot h → other.entries ≡ insert h.entries spot.offset x
      → list_of (set items spot.chunk other) ≡ insert (list_of items) place x
  inserted_list items place spot h other x p is =
      set_list items place spot h other p
      ∙ ap (λ l. list_of p.before ++ (l ++ list_of p.after)) is ∙ sym (put_in items place spot h x p)

  pub removed_list : (items : List (Piece E)) (place : ℕ) (spot : Spot) (h other : Piece E)
      → Placed items place spot h → place < length (list_of items) → other.entries ≡ remove h.entries spot.offset
      → list_of (set items spot.chunk other) ≡ remove (list_of items) place
  removed_list items place spot h other p lt is =
      set_list items place spot h other p
      ∙ ap (λ l. list_of p.before ++ (l ++ list_of p.after)) is
      ∙ sym (remove_middle (list_of p.before) h.entries (list_of p.after) spot.offset (p.below lt))
      ∙ ap (remove (list_of p.before ++ (h.entries ++ list_of p.after))) (sym p.place_is)
      ∙ ap (λ l. remove l place) (sym (list_is items place spot h p))

  count_parts : (before after : List (Piece E)) (h : Piece E)
      → length (before ++ h ∷ after) ≡ length before + (length after + 1)
  count_parts before after h = omega (arith, length-append before (h ∷ after))

  -- another chunk in the place of one: what holds then
  changed : (before after free : List (Piece E)) (h other : Piece E) (len count : ℕ)
      → AreSound (before ++ h ∷ after) free len → length other.entries ≤ 512
      → (1 ≤ length after → 256 ≤ length other.entries) → h.room ≤ other.room
      → count + length h.entries ≡ len + length other.entries → AreSound (before ++ other ∷ after) free count
  changed before after free h other len count sound most least room counted =
      let same : length (before ++ other ∷ after) ≡ length (before ++ h ∷ after) =
      count_parts before after other ∙ sym (count_parts before after h) in
      record {
        packed = packed-set before h other after sound.packed most least;
        roomy = λ two. (let r = sound.roomy (omega (arith, same, two)) in
            (roomy-set before h other after r.0 room, r.1));
        empty = sound.empty;
        first = λ none. absurd (omega (arith, count_parts before after other, none));
        few = omega (arith, same, sound.few);
        counted = omega (
          arith,
          counted,
          sound.counted,
          length-parts before after h,
          length-parts before after other,
        );
      }

  pub changed_sound : (items free : List (Piece E)) (place : ℕ) (spot : Spot) (h other : Piece E) (len count : ℕ)
      → (p : Placed items place spot h) → AreSound items free len → length other.entries ≤ 512
      → (1 ≤ length p.after → 256 ≤ length other.entries) → h.room ≤ other.room
      → count + length h.entries ≡ len + length other.entries → AreSound (set items spot.chunk other) free count
  changed_sound items free place spot h other len count p sound most least room counted =
      subst (λ l. AreSound l free count) (sym (set_is items place spot h other p))
      (changed p.before p.after free h other len count (subst
      (λ l. AreSound l free len) p.parts sound) most least room counted)

  pub here_most : (items free : List (Piece E)) (place : ℕ) (spot : Spot) (h : Piece E) (len : ℕ)
      → Placed items place spot h → AreSound items free len → length h.entries ≤ 512
  here_most items free place spot h len p sound =
      packed-most h p.after (packed-back p.before h p.after (subst ArePacked p.parts sound.packed))

  pub here_least : (items free : List (Piece E)) (place : ℕ) (spot : Spot) (h : Piece E) (len : ℕ)
      → (p : Placed items place spot h) → AreSound items free len → 1 ≤ length p.after → 256 ≤ length h.entries
  here_least items free place spot h len p sound some =
      packed-least h p.after (packed-back p.before h p.after (subst ArePacked p.parts sound.packed)) some

  pub here_roomy : (items free : List (Piece E)) (place : ℕ) (spot : Spot) (h : Piece E) (len : ℕ)
      → Placed items place spot h → AreSound items free len → 2 ≤ length items + length free → 512 ≤ h.room
  here_roomy items free place spot h len p sound two =
      roomy-here p.before p.after h (subst AreRoomy p.parts (sound.roomy two).0)

  -- an entry put into a chunk that isn't full
  pub inserted_sound : (items free : List (Piece E)) (place : ℕ) (spot : Spot) (h other : Piece E) (x : E) (len : ℕ)
      → Placed items place spot h → AreSound items free len → length h.entries < 512
      → other.entries ≡ insert h.entries spot.offset x → h.room ≤ other.room
      → AreSound (set items spot.chunk other) free (len + 1)
  inserted_sound items free place spot h other x len p sound few is room =
      let longer : length other.entries ≡ length h.entries + 1 =
      ap length is ∙ length-insert h.entries spot.offset x p.within in
      changed_sound items free place spot h other len (len + 1) p sound (omega (arith, longer, few))
      (λ some. omega (arith, longer, here_least items free place spot h len p sound some)) room (omega (arith, longer))

  -- ---- room for an entry
  alone_room : (before after free : List (Piece E)) (h : Piece E) (len : ℕ) → AreSound (before ++ h ∷ after) free len
      → length (before ++ h ∷ after) + length free ≤ 1 → 1 ≤ min 512 (first_room (before ++ h ∷ after)) - len
      → (length h.entries < h.room) × (length h.entries < 512)
  alone_room [] after free h len sound one some =
      let counted = sound.counted in
      let joined = length-append h.entries (list_of after) in
      (omega (arith, counted, joined, some), omega (arith, counted, joined, some))
  alone_room (x ∷ before) after free h len sound one some = absurd (omega (arith, one, count_parts before after h))

  pub room_here : (items free : List (Piece E)) (place : ℕ) (spot : Spot) (h : Piece E) (len : ℕ)
      → Placed items place spot h → AreSound items free len
      → 1 ≤ spare_of (length items) (length free) (first_room items) len → length h.entries < 512
      → length h.entries < h.room
  room_here items free place spot h len p sound some few =
      by_count (nat_le 2 (length items + length free)) refl
    where
      by_count : (t : Bool) → nat_le 2 (length items + length free) ≡ t → length h.entries < h.room
      by_count true is =
          let two : 2 ≤ length items + length free = grind (arith, nat_tests, is) in
          omega (arith, here_roomy items free place spot h len p sound two, few)
      by_count false is =
          let one : length items + length free ≤ 1 = grind (arith, nat_tests, is) in
          let left : 1 ≤ min 512 (first_room items) - len =
          spare_cases (length items) (length free) (first_room items) len some (λ two. omega (arith, one, two)) in
          (alone_room p.before p.after free h len (subst (λ l. AreSound l free len) p.parts sound)
          (subst (λ l. length l + length free ≤ 1) p.parts one)
          (subst (λ l. 1 ≤ min 512 (first_room l) - len) p.parts left)).0

  -- a full chunk and room for an entry: a free chunk is there
  pub free_there : (items free : List (Piece E)) (place : ℕ) (spot : Spot) (h : Piece E) (len : ℕ)
      → Placed items place spot h → AreSound items free len
      → 1 ≤ spare_of (length items) (length free) (first_room items) len → length h.entries ≡ 512
      → 1 ≤ length free
  free_there items free place spot h len p sound some full =
      by_count (nat_le 2 (length items + length free)) refl
    where
      by_count : (t : Bool) → nat_le 2 (length items + length free) ≡ t → 1 ≤ length free
      by_count true is =
          let two : 2 ≤ length items + length free = grind (arith, nat_tests, is) in
          let left = spare_many (length items) (length free) (first_room items) len some two in
          let least : 256 * length items ≤ length (list_of items) =
          subst (λ l. 256 * length l ≤ length (list_of l)) (sym p.parts)
          (full_length p.before h p.after (subst ArePacked p.parts sound.packed) full) in
          omega (arith, left, least, sound.counted)
      by_count false is =
          let one : length items + length free ≤ 1 = grind (arith, nat_tests, is) in
          let left : 1 ≤ min 512 (first_room items) - len =
          spare_cases (length items) (length free) (first_room items) len some (λ two. omega (arith, one, two)) in
          absurd (omega (
            arith,
            full,
            (alone_room p.before p.after free h len (subst (λ l. AreSound l free len) p.parts sound)
                (subst (λ l. length l + length free ≤ 1) p.parts one)
                (subst (λ l. 1 ≤ min 512 (first_room l) - len) p.parts left)).1,
          ))

  -- ---- two chunks in the place of one
  two_is : (items : List (Piece E)) (place : ℕ) (spot : Spot) (h one two : Piece E) (p : Placed items place spot h)
      → insert (set items spot.chunk one) (spot.chunk + 1) two ≡ p.before ++ one ∷ two ∷ p.after
  two_is items place spot h one two p =
      ap (λ l. insert l (spot.chunk + 1) two) (set_is items place spot h one p)
      ∙ insert_next p.before p.after one two spot.chunk p.chunk

  two_list : (before after : List (Piece E)) (one two : Piece E)
      → list_of (before ++ one ∷ two ∷ after) ≡ list_of before ++ ((one.entries ++ two.entries) ++ list_of after)
  two_list before after one two =
      list-parts before (two ∷ after) one
      ∙ ap (λ l. list_of before ++ l) (sym (append_assoc one.entries two.entries (list_of after)))

  pub split_list : (items : List (Piece E)) (place : ℕ) (spot : Spot) (h one two : Piece E) (x : E)
      → Placed items place spot h → one.entries ++ two.entries ≡ insert h.entries spot.offset x
      → list_of (insert (set items spot.chunk one) (spot.chunk + 1) two) ≡ insert (list_of items) place x
  split_list items place spot h one two x p both =
      ap list_of (two_is items place spot h one two p) ∙ two_list p.before p.after one two
      ∙ ap (λ l. list_of p.before ++ (l ++ list_of p.after)) both ∙ sym (put_in items place spot h x p)

  pub split_sound : (items free : List (Piece E)) (place : ℕ) (spot : Spot) (h one two fresh : Piece E) (x : E)
      (len : ℕ)
      → (p : Placed items place spot h) → AreSound items (free ++ fresh ∷ []) len
      → one.entries ++ two.entries ≡ insert h.entries spot.offset x
      → 256 ≤ length one.entries → length one.entries ≤ 512 → (1 ≤ length p.after → 256 ≤ length two.entries)
      → length two.entries ≤ 512 → h.room ≤ one.room → fresh.room ≤ two.room
      → AreSound (insert (set items spot.chunk one) (spot.chunk + 1) two) free (len + 1)
  split_sound items free place spot h one two fresh x len p sound both least most two_least two_most room two_room =
      let s : AreSound (p.before ++ h ∷ p.after) (free ++ fresh ∷ []) len =
      subst (λ l. AreSound l (free ++ fresh ∷ []) len) p.parts sound in
      let pushed = length_push free fresh in
      let old = count_parts p.before p.after h in
      let new : length (p.before ++ one ∷ two ∷ p.after) ≡ length p.before + (length p.after + 2) =
      omega (arith, length-append p.before (one ∷ two ∷ p.after)) in
      let many = s.roomy (omega (arith, old, pushed)) in
      let rest : AreRoomy (h ∷ p.after) = roomy-back p.before (h ∷ p.after) many.0 in
      let fresh_roomy : AreRoomy (fresh ∷ []) = roomy-back free (fresh ∷ []) many.1 in
      subst (λ l. AreSound l free (len + 1)) (sym (two_is items place spot h one two p)) (record {
        packed = packed-two p.before h one two p.after s.packed least most two_least two_most;
        roomy = λ _. (
          roomy-join p.before (one ∷ two ∷ p.after) (roomy-front p.before (h ∷ p.after) many.0)
              (omega (arith, rest.0, room), (omega (arith, fresh_roomy.0, two_room), rest.1)),
          roomy-front free (fresh ∷ []) many.1,
        );
        empty = empty-front free (fresh ∷ []) s.empty;
        first = λ none. absurd (omega (arith, new, none));
        few = omega (arith, new, old, pushed, s.few);
        counted = omega (
          arith,
          s.counted,
          length-parts p.before p.after h,
          ap length (two_list p.before p.after one two),
          length-append (list_of p.before) ((one.entries ++ two.entries) ++ list_of p.after),
          length-append (one.entries ++ two.entries) (list_of p.after),
          ap length both,
          length-insert h.entries spot.offset x p.within,
        );
      })

  -- ---- one chunk in the place of two
  pub taken : (items rest : List (Piece E)) (k : ℕ) (n h : Piece E) → IsShort items k → rest ≡ remove items (k + 1)
      → n ≡ get_or items (k + 1) n → h ≡ get_or rest k h → Taken items rest k n h
  taken items rest k n h s is n_read h_read =
      let rest_is : rest ≡ s.before ++ s.here ∷ s.after =
      is ∙ ap (λ l. remove l (k + 1)) s.parts ∙ remove_next s.before s.after s.here s.next k s.place_is in
      let next_is : n ≡ s.next =
      n_read ∙ ap (λ l. get_or l (k + 1) n) s.parts ∙ get_next s.before s.after s.here s.next n k s.place_is in
      let here_is : h ≡ s.here =
      h_read ∙ ap (λ l. get_or l k h) rest_is ∙ get_here s.before s.after s.here h k s.place_is in
      record {
        before = s.before;
        after = s.after;
        parts = s.parts ∙ ap (λ (p : Piece E). s.before ++ p ∷ s.next ∷ s.after) (sym here_is)
            ∙ ap (λ (p : Piece E). s.before ++ h ∷ p ∷ s.after) (sym next_is);
        rest_is = rest_is ∙ ap (λ (p : Piece E). s.before ++ p ∷ s.after) (sym here_is);
        place_is = s.place_is;
        full = s.full;
        low = ap (λ (p : Piece E). length p.entries) here_is ∙ s.low;
        packed = subst (λ (p : Piece E). ArePacked (p ∷ s.after)) (sym next_is) s.packed;
      }

  one_is : (items rest : List (Piece E)) (k : ℕ) (n h other : Piece E) (t : Taken items rest k n h)
      → set rest k other ≡ t.before ++ other ∷ t.after
  one_is items rest k n h other t =
      ap (λ l. set l k other) t.rest_is ∙ set_here t.before t.after h other k t.place_is

  whole : (one two : Piece E) (xs : List E) → one.entries ++ two.entries ≡ xs → two.entries ≡ [] → one.entries ≡ xs
  whole one two xs both none = sym (append-nil one.entries) ∙ ap (λ l. one.entries ++ l) (sym none) ∙ both

  pub one_list : (items rest : List (Piece E)) (k : ℕ) (n h one two : Piece E) → Taken items rest k n h
      → one.entries ++ two.entries ≡ h.entries ++ n.entries → two.entries ≡ []
      → list_of (set rest k one) ≡ list_of items
  one_list items rest k n h one two t both none =
      ap list_of (one_is items rest k n h one t) ∙ list-parts t.before t.after one
      ∙ ap (λ l. list_of t.before ++ (l ++ list_of t.after)) (whole one two (h.entries ++ n.entries) both none)
      ∙ sym (two_list t.before t.after h n) ∙ ap list_of (sym t.parts)

  pub one_packed : (items rest : List (Piece E)) (k : ℕ) (n h one two : Piece E) → Taken items rest k n h
      → one.entries ++ two.entries ≡ h.entries ++ n.entries → two.entries ≡ [] → length one.entries ≤ 512
      → ArePacked (set rest k one)
  one_packed items rest k n h one two t both none most =
      let longer = ap length (whole one two (h.entries ++ n.entries) both none) in
      let joined = length-append h.entries n.entries in
      subst ArePacked (sym (one_is items rest k n h one t)) (packed-join t.before (one ∷ t.after) t.full
      (packed-head one t.after most (λ some. omega (arith, longer, joined, t.low, packed-least n t.after t.packed some))
      (packed-tail n t.after t.packed)))

  pub one_roomy : (items rest : List (Piece E)) (k : ℕ) (n h one : Piece E) → Taken items rest k n h → AreRoomy items
      → h.room ≤ one.room → AreRoomy (set rest k one)
  one_roomy items rest k n h one t roomy room =
      let r : AreRoomy (t.before ++ h ∷ n ∷ t.after) = subst AreRoomy t.parts roomy in
      let back : AreRoomy (h ∷ n ∷ t.after) = roomy-back t.before (h ∷ n ∷ t.after) r in
      subst AreRoomy (sym (one_is items rest k n h one t))
      (roomy-join t.before (one ∷ t.after) (roomy-front t.before (h ∷ n ∷ t.after) r) (
        omega
            (arith, back.0, room),
        back.1.1,
      ))

  pub taken_rooms : (items rest : List (Piece E)) (k : ℕ) (n h : Piece E) → Taken items rest k n h → AreRoomy items
      → (512 ≤ h.room) × (512 ≤ n.room)
  taken_rooms items rest k n h t roomy =
      let back : AreRoomy (h ∷ n ∷ t.after) = roomy-back t.before (h ∷ n ∷ t.after) (subst AreRoomy t.parts roomy) in
      (back.0, back.1.0)

  again_is : (items rest new : List (Piece E)) (k : ℕ) (n h one two : Piece E) (t : Taken items rest k n h)
      → new ≡ insert (set rest k one) (k + 1) two → new ≡ t.before ++ one ∷ two ∷ t.after
  again_is items rest new k n h one two t is =
      is ∙ ap (λ l. insert l (k + 1) two) (one_is items rest k n h one t)
      ∙ insert_next t.before t.after one two k t.place_is

  pub again_list : (items rest new : List (Piece E)) (k : ℕ) (n h one two : Piece E) → Taken items rest k n h
      → new ≡ insert (set rest k one) (k + 1) two → one.entries ++ two.entries ≡ h.entries ++ n.entries
      → list_of new ≡ list_of items
  again_list items rest new k n h one two t is both =
      ap list_of (again_is items rest new k n h one two t is) ∙ two_list t.before t.after one two
      ∙ ap (λ l. list_of t.before ++ (l ++ list_of t.after)) both
      ∙ sym (two_list t.before t.after h n) ∙ ap list_of (sym t.parts)

  pub again_packed : (items rest new : List (Piece E)) (k : ℕ) (n h one two : Piece E) → Taken items rest k n h
      → new ≡ insert (set rest k one) (k + 1) two → 256 ≤ length one.entries → length one.entries ≤ 512
      → 256 ≤ length two.entries → length two.entries ≤ length n.entries → ArePacked new
  again_packed items rest new k n h one two t is least most two_least two_most =
      subst ArePacked (sym (again_is items rest new k n h one two t is)) (packed-join t.before
      (one ∷ two ∷ t.after) t.full (
        least,
        (
          most,
          packed-head two t.after (omega (arith, two_most, packed-most n t.after t.packed)) (λ _. two_least)
              (packed-tail n t.after t.packed),
        ),
      ))

  pub again_roomy : (items rest new : List (Piece E)) (k : ℕ) (n h one two : Piece E) → Taken items rest k n h
      → new ≡ insert (set rest k one) (k + 1) two → AreRoomy items → h.room ≤ one.room → n.room ≤ two.room
      → AreRoomy new
  again_roomy items rest new k n h one two t is roomy room two_room =
      let r : AreRoomy (t.before ++ h ∷ n ∷ t.after) = subst AreRoomy t.parts roomy in
      let back : AreRoomy (h ∷ n ∷ t.after) = roomy-back t.before (h ∷ n ∷ t.after) r in
      subst AreRoomy (sym (again_is items rest new k n h one two t is)) (roomy-join t.before (one ∷ two ∷ t.after)
      (roomy-front t.before (h ∷ n ∷ t.after) r) (
        omega (arith, back.0, room),
        (
          omega
              (arith, back.1.0, two_room),
          back.1.1,
        ),
      ))

  -- ---- what a place tells of two reads of its chunk
  pub same_here : (items slice : List (Piece E)) (place : ℕ) (spot : Spot) (h j : Piece E) → slice ≡ items
      → IsAt slice place spot
      → h ≡ get_or items spot.chunk h → j ≡ get_or items spot.chunk j → h ≡ j
  same_here items slice place spot h j same at read other =
      let parts : items ≡ at.before ++ at.here ∷ at.after = sym same ∙ at.parts in
      read ∙ ap (λ l. get_or l spot.chunk h) parts ∙ get_here at.before at.after at.here h spot.chunk at.chunk
      ∙ sym (other ∙ ap (λ l. get_or l spot.chunk j) parts ∙ get_here at.before at.after at.here j spot.chunk at.chunk)

  -- ---- more free chunks
  alone_roomy : (items : List (Piece E)) → length items ≤ 1 → (1 ≤ length items → 512 ≤ first_room items)
      → AreRoomy items
  alone_roomy [] one room = tt
  alone_roomy (h ∷ []) one room = (room (omega arith), tt)
  alone_roomy (h ∷ j ∷ more) one room = absurd (omega (arith, one))

  none_roomy : (items : List (Piece E)) → length items ≡ 0 → AreRoomy items
  none_roomy [] none = tt
  none_roomy (h ∷ more) none = absurd (omega (arith, none))

  pub added_sound : (items new free more : List (Piece E)) (len : ℕ) → AreSound items free len → new ≡ items
      → length new + length more ≤ 2 ^ 54 → (AreRoomy free → AreRoomy more) → (AreEmpty free → AreEmpty more)
      → 1 ≤ length items → (length items + length free ≤ 1 → 512 ≤ first_room items) → AreSound new more len
  added_sound items new free more len sound same few roomy empty some room =
      subst (λ l. AreSound l more len) (sym same) (record {
        packed = sound.packed;
        roomy = λ _. rooms (nat_le 2 (length items + length free)) refl;
        empty = empty sound.empty;
        first = λ none. absurd (omega (arith, none, some));
        few = subst (λ l. length l + length more ≤ 2 ^ 54) same few;
        counted = sound.counted;
      })
    where
      rooms : (t : Bool) → nat_le 2 (length items + length free) ≡ t → AreRoomy items × AreRoomy more
      rooms true is =
          let r = sound.roomy (grind (arith, nat_tests, is)) in (r.0, roomy r.1)
      rooms false is =
          let one : length items + length free ≤ 1 = grind (arith, nat_tests, is) in
          (alone_roomy items (omega (arith, one)) (λ _. room one), roomy (none_roomy free (omega (arith, one, some))))

  -- ---- an entry taken out
  pub read_set : (items : List (Piece E)) (place : ℕ) (spot : Spot) (h other j : Piece E) → Placed items place spot h
      → j ≡ get_or (set items spot.chunk other) spot.chunk j → j ≡ other
  read_set items place spot h other j p read =
      read ∙ ap (λ l. get_or l spot.chunk j) (set_is items place spot h other p)
      ∙ get_here p.before p.after other j spot.chunk p.chunk

  pub count_after : (items : List (Piece E)) (place : ℕ) (spot : Spot) (h : Piece E) (p : Placed items place spot h)
      → length items ≡ spot.chunk + (length p.after + 1)
  count_after items place spot h p = ap length p.parts ∙ count_parts p.before p.after h
      ∙ ap (λ n. n + (length p.after + 1)) (sym p.chunk)

  pub removed_sound : (items free : List (Piece E)) (place : ℕ) (spot : Spot) (h other : Piece E) (len : ℕ)
      → (p : Placed items place spot h) → AreSound items free len → place < length (list_of items)
      → other.entries ≡ remove h.entries spot.offset → h.room ≤ other.room
      → (1 ≤ length p.after → 256 ≤ length other.entries) → AreSound (set items spot.chunk other) free (len - 1)
  removed_sound items free place spot h other len p sound lt is room least =
      let shorter : length other.entries + 1 ≡ length h.entries =
      ap (λ l. length l + 1) is ∙ length-remove h.entries spot.offset (p.below lt) in
      changed_sound items free place spot h other len (len - 1) p sound
      (omega (arith, shorter, here_most items free place spot h len p sound)) least room
      (omega (arith, shorter, lt, sound.counted))

  short_parts : (before after : List (Piece E)) (h other : Piece E) → ArePacked (before ++ h ∷ after) → 1 ≤ length after
      → length other.entries + 1 ≡ length h.entries → length other.entries < 256
      → IsShort (before ++ other ∷ after) (length before)
  short_parts before [] h other packed some shorter low = absurd (omega (arith, some))
  short_parts before (next ∷ more) h other packed some shorter low =
      let back : ArePacked (h ∷ next ∷ more) = packed-back before h (next ∷ more) packed in
      record {
        before = before;
        here = other;
        next = next;
        after = more;
        parts = refl;
        place_is = refl;
        full = packed-front before h (next ∷ more) packed;
        low = omega (arith, shorter, low, packed-least h (next ∷ more) back some);
        packed = packed-tail h (next ∷ more) back;
      }

  pub removed_short : (items free : List (Piece E)) (place : ℕ) (spot : Spot) (h other : Piece E) (len : ℕ)
      → (p : Placed items place spot h) → AreSound items free len → place < length (list_of items)
      → other.entries ≡ remove h.entries spot.offset → 1 ≤ length p.after → length other.entries < 256
      → IsShort (set items spot.chunk other) spot.chunk
  removed_short items free place spot h other len p sound lt is some low =
      let shorter : length other.entries + 1 ≡ length h.entries =
      ap (λ l. length l + 1) is ∙ length-remove h.entries spot.offset (p.below lt) in
      subst (λ l. IsShort l spot.chunk) (sym (set_is items place spot h other p))
      (subst (λ n. IsShort (p.before ++ other ∷ p.after) n) (sym p.chunk)
      (short_parts p.before p.after h other (subst ArePacked p.parts sound.packed) some shorter low))

  pub removed_roomy : (items free : List (Piece E)) (place : ℕ) (spot : Spot) (h other : Piece E) (len : ℕ)
      → (p : Placed items place spot h) → AreSound items free len → 1 ≤ length p.after → h.room ≤ other.room
      → AreRoomy (set items spot.chunk other)
  removed_roomy items free place spot h other len p sound some room =
      let two : 2 ≤ length items + length free = omega (arith, count_after items place spot h p, some) in
      subst AreRoomy (sym (set_is items place spot h other p)) (roomy-set p.before h other p.after
      (subst AreRoomy p.parts (sound.roomy two).0) room)

  pub refilled_sound : (items free used more : List (Piece E)) (place : ℕ) (spot : Spot) (h other : Piece E) (len : ℕ)
      → Placed items place spot h → AreSound items free len → place < length (list_of items)
      → other.entries ≡ remove h.entries spot.offset → list_of used ≡ list_of (set items spot.chunk other)
      → ArePacked used → AreRoomy used → AreRoomy more → AreEmpty more → 1 ≤ length used
      → length used + length more ≡ length (set items spot.chunk other) + length free → AreSound used more (len - 1)
  refilled_sound items free used more place spot h other len p sound lt is list packed roomy rest empty some total =
      record {
        packed = packed;
        roomy = λ _. (roomy, rest);
        empty = empty;
        first = λ none. absurd (omega (arith, none, some));
        few = omega (arith, total, length-set items spot.chunk other, sound.few);
        counted = omega (
          arith,
          ap length (list ∙ removed_list items place spot h other p lt is),
          length-remove (list_of items) place lt,
          sound.counted,
        );
      }

  -- ---- the last free chunk
  pub last_free : (items free rest : List (Piece E)) (fresh : Piece E) (len : ℕ) → AreSound items free len
      → free ≡ rest ++ fresh ∷ [] → 1 ≤ length items → (fresh.entries ≡ []) × (512 ≤ fresh.room)
  last_free items free rest fresh len sound is some =
      let empty : AreEmpty (fresh ∷ []) = empty-back rest (fresh ∷ []) (subst AreEmpty is sound.empty) in
      let two : 2 ≤ length items + length free = omega (arith, ap length is, length_push rest fresh, some) in
      let roomy : AreRoomy (fresh ∷ []) = roomy-back rest (fresh ∷ []) (subst AreRoomy is (sound.roomy two).1) in
      (empty.0, roomy.0)
