-- Lists in chunks: what one chunk changed, split, filled or taken away does to the list, to the sizes and to the
-- memory.
use Rattle.std.proofs.Common.{◌≡◌, ℕ, zero, suc, ◌+◌, ◌-◌, ◌*◌, ◌/◌, ◌<◌, ◌≤◌, List, [], ◌∷◌, ◌++◌, length, take, drop}
use Rattle.std.proofs.Common.{get_or, sym, ap, ◌∙◌, arith}
use Rattle.std.proofs.Math.ListN.{length-append}
use Rattle.std.proofs.lemmas.List.{append-nil, drop_more, get_or_default, length-take-le, take_all, take_more}
use Rattle.std.proofs.lemmas.List.{take-append-drop}
use Rattle.std.proofs.lemmas.List.Concat.{flat_map-append}
use Rattle.book_seq.specs.Chunks.{AreEmpty, AreFull, ArePacked, AreRoomy, IsAt, Piece, list_of}

module _ {E : Type 0} where
  -- the list, in parts before a chunk, of the chunk, and after it
  pub list-parts : (before after : List (Piece E)) (here : Piece E)
      → list_of (before ++ here ∷ after) ≡ list_of before ++ (here.entries ++ list_of after)
  list-parts before after here = flat_map-append (λ (piece : Piece E). piece.entries) before (here ∷ after)

  -- ---- sizes
  pub packed-head : (piece : Piece E) (more : List (Piece E)) → length piece.entries ≤ 512
      → (1 ≤ length more → 256 ≤ length piece.entries) → ArePacked more → ArePacked (piece ∷ more)
  packed-head piece [] most least packed = most
  packed-head piece (next ∷ more) most least packed = (least (omega arith), (most, packed))

  pub packed-most : (piece : Piece E) (more : List (Piece E)) → ArePacked (piece ∷ more) → length piece.entries ≤ 512
  packed-most piece [] packed = packed
  packed-most piece (next ∷ more) packed = packed.1.0

  pub packed-least : (piece : Piece E) (more : List (Piece E)) → ArePacked (piece ∷ more) → 1 ≤ length more
      → 256 ≤ length piece.entries
  packed-least piece [] packed some = absurd (omega arith)
  packed-least piece (next ∷ more) packed some = packed.0

  pub packed-tail : (piece : Piece E) (more : List (Piece E)) → ArePacked (piece ∷ more) → ArePacked more
  packed-tail piece [] packed = tt
  packed-tail piece (next ∷ more) packed = packed.1.1

  pub packed-at : (pieces : List (Piece E)) (k : ℕ) (d : Piece E) → ArePacked pieces → k < length pieces
      → length (get_or pieces k d).entries ≤ 512
  packed-at [] k d packed lt = absurd (omega (arith, lt))
  packed-at (piece ∷ more) zero d packed lt = packed-most piece more packed
  packed-at (piece ∷ more) (suc k) d packed lt =
      packed-at more k d (packed-tail piece more packed) (omega (arith, lt))

  pub packed-front : (before : List (Piece E)) (here : Piece E) (after : List (Piece E))
      → ArePacked (before ++ here ∷ after) → AreFull before
  packed-front [] here after packed = tt
  packed-front (piece ∷ []) here after packed = (packed.0, (packed.1.0, tt))
  packed-front (piece ∷ next ∷ before) here after packed =
      (packed.0, (packed.1.0, packed-front (next ∷ before) here after packed.1.1))

  pub packed-back : (before : List (Piece E)) (here : Piece E) (after : List (Piece E))
      → ArePacked (before ++ here ∷ after) → ArePacked (here ∷ after)
  packed-back [] here after packed = packed
  packed-back (piece ∷ before) here after packed =
      packed-back before here after (packed-tail piece (before ++ here ∷ after) packed)

  pub packed-join : (before rest : List (Piece E)) → AreFull before → ArePacked rest → ArePacked (before ++ rest)
  packed-join [] rest full packed = packed
  packed-join (piece ∷ before) rest full packed =
      packed-head piece (before ++ rest) full.1.0 (λ some. full.0) (packed-join before rest full.1.1 packed)

  -- another chunk in the place of one
  pub packed-set : (before : List (Piece E)) (here other : Piece E) (after : List (Piece E))
      → ArePacked (before ++ here ∷ after) → length other.entries ≤ 512
      → (1 ≤ length after → 256 ≤ length other.entries) → ArePacked (before ++ other ∷ after)
  packed-set before here other after packed most least =
      packed-join before (other ∷ after) (packed-front before here after packed)
      (packed-head other after most least (packed-tail here after (packed-back before here after packed)))

  -- two chunks in the place of one
  pub packed-two : (before : List (Piece E)) (here one two : Piece E) (after : List (Piece E))
      → ArePacked (before ++ here ∷ after) → 256 ≤ length one.entries → length one.entries ≤ 512
      → (1 ≤ length after → 256 ≤ length two.entries) → length two.entries ≤ 512
      → ArePacked (before ++ one ∷ two ∷ after)
  packed-two before here one two after packed least most two_least two_most =
      packed-join before (one ∷ two ∷ after) (packed-front before here after packed) (
        least,
        (
          most,
          packed-head two after two_most two_least
              (packed-tail here after (packed-back before here after packed)),
        ),
      )

  pub length-parts : (before after : List (Piece E)) (here : Piece E) → length (list_of (before ++ here ∷ after))
      ≡ length (list_of before) + (length here.entries + length (list_of after))
  length-parts before after here =
      ap length (list-parts before after here) ∙ length-append (list_of before) (here.entries ++ list_of after)
      ∙ ap (λ n. length (list_of before) + n) (length-append here.entries (list_of after))

  length-full : (pieces : List (Piece E)) → AreFull pieces → 256 * length pieces ≤ length (list_of pieces)
  length-full [] full = omega arith
  length-full (piece ∷ more) full =
      omega (arith, length-full more full.1.1, full.0, length-append piece.entries (list_of more))

  -- each chunk but the last has 256 entries
  pub length-least : (pieces : List (Piece E)) → ArePacked pieces
      → 256 * length pieces ≤ length (list_of pieces) + 256
  length-least [] packed = omega arith
  length-least (piece ∷ []) packed = omega arith
  length-least (piece ∷ next ∷ more) packed = omega (
    arith,
    length-least (next ∷ more) packed.1.1,
    packed.0,
    length-append piece.entries (list_of (next ∷ more)),
  )

  pub length-most : (pieces : List (Piece E)) → ArePacked pieces → length (list_of pieces) ≤ 512 * length pieces
  length-most [] packed = omega arith
  length-most (piece ∷ more) packed = omega (
    arith,
    length-most more (packed-tail piece more packed),
    packed-most piece more packed,
    length-append piece.entries (list_of more),
  )

  -- so there are few chunks
  pub chunks_few : (pieces : List (Piece E)) → ArePacked pieces → length pieces ≤ length (list_of pieces) / 256 + 1
  chunks_few pieces packed = omega (arith, length-least pieces packed)

  -- with a full chunk there are at least 256 entries for each chunk
  pub full_length : (before : List (Piece E)) (here : Piece E) (after : List (Piece E))
      → ArePacked (before ++ here ∷ after) → length here.entries ≡ 512
      → 256 * length (before ++ here ∷ after) ≤ length (list_of (before ++ here ∷ after))
  full_length before here after packed is = omega (
    arith,
    length-parts before after here,
    length-append before (here ∷ after),
    length-full before (packed-front before here after packed),
    length-least after (packed-tail here after (packed-back before here after packed)),
    is,
  )

  -- ---- memory
  pub roomy-join : (xs ys : List (Piece E)) → AreRoomy xs → AreRoomy ys → AreRoomy (xs ++ ys)
  roomy-join [] ys a b = b
  roomy-join (x ∷ xs) ys a b = (a.0, roomy-join xs ys a.1 b)

  pub roomy-front : (xs ys : List (Piece E)) → AreRoomy (xs ++ ys) → AreRoomy xs
  roomy-front [] ys a = tt
  roomy-front (x ∷ xs) ys a = (a.0, roomy-front xs ys a.1)

  pub roomy-back : (xs ys : List (Piece E)) → AreRoomy (xs ++ ys) → AreRoomy ys
  roomy-back [] ys a = a
  roomy-back (x ∷ xs) ys a = roomy-back xs ys a.1

  pub roomy-here : (before after : List (Piece E)) (here : Piece E) → AreRoomy (before ++ here ∷ after)
      → 512 ≤ here.room
  roomy-here before after here a = (roomy-back before (here ∷ after) a).0

  pub roomy-set : (before : List (Piece E)) (here other : Piece E) (after : List (Piece E))
      → AreRoomy (before ++ here ∷ after) → here.room ≤ other.room → AreRoomy (before ++ other ∷ after)
  roomy-set before here other after a more =
      let rest : AreRoomy (here ∷ after) = roomy-back before (here ∷ after) a in
      roomy-join before (other ∷ after) (roomy-front before (here ∷ after) a) (omega (arith, rest.0), rest.1)

  pub empty-join : (xs ys : List (Piece E)) → AreEmpty xs → AreEmpty ys → AreEmpty (xs ++ ys)
  empty-join [] ys a b = b
  empty-join (x ∷ xs) ys a b = (a.0, empty-join xs ys a.1 b)

  pub empty-front : (xs ys : List (Piece E)) → AreEmpty (xs ++ ys) → AreEmpty xs
  empty-front [] ys a = tt
  empty-front (x ∷ xs) ys a = (a.0, empty-front xs ys a.1)

  pub empty-back : (xs ys : List (Piece E)) → AreEmpty (xs ++ ys) → AreEmpty ys
  empty-back [] ys a = a
  empty-back (x ∷ xs) ys a = empty-back xs ys a.1

  -- ---- places
  pub spot_here : (pieces : List (Piece E)) (place k o : ℕ) (here : Piece E) → k < length pieces
      → here ≡ get_or pieces k here → place ≡ length (list_of (take k pieces)) + o → o ≤ length here.entries
      → (place < length (list_of pieces) → o < length here.entries)
      → IsAt pieces place (record { chunk = k; offset = o })
  spot_here pieces place k o here lt read is within below = record {
    before = take k pieces;
    here = here;
    after = drop (k + 1) pieces;
    parts = sym (take-append-drop k pieces) ∙ ap (λ l. take k pieces ++ l) (drop_more pieces k here lt)
        ∙ ap (λ (p : Piece E). take k pieces ++ p ∷ drop (k + 1) pieces) (sym read);
    chunk = sym (length-take-le k pieces (omega (arith, lt)));
    place_is = is;
    within = within;
    below = below;
  }

  -- the list of one chunk more
  pub list_more : (pieces : List (Piece E)) (k : ℕ) (here : Piece E) → k < length pieces → here ≡ get_or pieces k here
      → list_of (take (k + 1) pieces) ≡ list_of (take k pieces) ++ here.entries
  list_more pieces k here lt read =
      ap list_of (take_more pieces k here lt ∙ ap (λ (p : Piece E). take k pieces ++ p ∷ []) (sym read))
      ∙ list-parts (take k pieces) [] here ∙ ap (λ l. list_of (take k pieces) ++ l) (append-nil here.entries)

  pub length_more : (pieces : List (Piece E)) (k : ℕ) (here : Piece E) → k < length pieces → here ≡ get_or pieces k here
      → length (list_of (take (k + 1) pieces)) ≡ length (list_of (take k pieces)) + length here.entries
  length_more pieces k here lt read =
      ap length (list_more pieces k here lt read) ∙ length-append (list_of (take k pieces)) here.entries

  -- some first chunks have no more entries than all of them
  pub length_taken : (pieces : List (Piece E)) (k : ℕ) → length (list_of (take k pieces)) ≤ length (list_of pieces)
  length_taken pieces k = omega (
    arith,
    ap (λ l. length (list_of l)) (take-append-drop k pieces),
    ap length (flat_map-append (λ (piece : Piece E). piece.entries) (take k pieces) (drop k pieces)),
    length-append (list_of (take k pieces)) (list_of (drop k pieces)),
  )

  last_here : (pieces : List (Piece E)) (place o : ℕ) (d : Piece E) → 1 ≤ length pieces
      → place ≤ length (list_of pieces)
      → place ≡ length (list_of (take (length pieces - 1) pieces)) + o
      → IsAt pieces place (record { chunk = length pieces - 1; offset = o })
  last_here pieces place o d some within is =
      let k : ℕ = length pieces - 1 in
      let here : Piece E = get_or pieces k d in
      let lt : k < length pieces = omega (arith, some) in
      let read : here ≡ get_or pieces k here = get_or_default pieces k d here lt in
      let all : take (k + 1) pieces ≡ pieces = take_all (k + 1) pieces (omega (arith, some)) in
      let longer : length (list_of pieces) ≡ length (list_of (take k pieces)) + length here.entries =
      ap (λ l. length (list_of l)) (sym all) ∙ length_more pieces k here lt read in
      spot_here pieces place k o here lt read is (omega (arith, longer, is, within)) (λ less. omega
      (arith, longer, is, less))

  pub spot_last : (pieces : List (Piece E)) (place o : ℕ) → 1 ≤ length pieces → place ≤ length (list_of pieces)
      → place ≡ length (list_of (take (length pieces - 1) pieces)) + o
      → IsAt pieces place (record { chunk = length pieces - 1; offset = o })
  spot_last [] place o some within is = absurd (omega (arith, some))
  spot_last (d ∷ more) place o some within is = last_here (d ∷ more) place o d some within is

  -- a place within the last chunk, by how many entries stand behind it
  end_at : (pieces : List (Piece E)) (here : Piece E) (place len : ℕ) → 1 ≤ length pieces
      → here ≡ get_or pieces (length pieces - 1) here → len ≡ length (list_of pieces) → place ≤ len
      → len - place ≤ length here.entries
      → place ≡ length (list_of (take (length pieces - 1) pieces)) + (length here.entries - (len - place))
  end_at pieces here place len some read is within behind =
      let k : ℕ = length pieces - 1 in
      let all : take (k + 1) pieces ≡ pieces = take_all (k + 1) pieces (omega (arith, some)) in
      let longer : length (list_of pieces) ≡ length (list_of (take k pieces)) + length here.entries =
      ap (λ l. length (list_of l)) (sym all) ∙ length_more pieces k here (omega (arith, some)) read in
      omega (arith, longer, is, within, behind)

  pub spot_end : (pieces : List (Piece E)) (here : Piece E) (place len : ℕ) → 1 ≤ length pieces
      → here ≡ get_or pieces (length pieces - 1) here → len ≡ length (list_of pieces) → place ≤ len
      → len - place ≤ length here.entries
      → IsAt pieces place (record { chunk = length pieces - 1; offset = length here.entries - (len - place) })
  spot_end pieces here place len some read is within behind =
      spot_last pieces place (length here.entries - (len - place)) some (omega (arith, is, within))
      (end_at pieces here place len some read is within behind)

  -- ---- what is left from a chunk on
  pub drop_here : (pieces : List (Piece E)) (k : ℕ) (here : Piece E) → k < length pieces → here ≡ get_or pieces k here
      → drop k pieces ≡ here ∷ drop (k + 1) pieces
  drop_here pieces k here lt read =
      drop_more pieces k here lt ∙ ap (λ (p : Piece E). p ∷ drop (k + 1) pieces) (sym read)

  pub list_here : (pieces : List (Piece E)) (k : ℕ) (here : Piece E) → k < length pieces → here ≡ get_or pieces k here
      → list_of pieces ≡ list_of (take k pieces) ++ (here.entries ++ list_of (drop (k + 1) pieces))
  list_here pieces k here lt read =
      ap list_of (sym (take-append-drop k pieces) ∙ ap (λ l. take k pieces ++ l) (drop_here pieces k here lt read))
      ∙ list-parts (take k pieces) (drop (k + 1) pieces) here
