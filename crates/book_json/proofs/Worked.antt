-- Readers, forms and texts at values written by hand.
use Rattle.std.proofs.Common.{◌≡◌, ℕ, List, [], ◌∷◌, true, false, None, Ok, Err, codes, refl}
use Rattle.serde_json.specs.Data.{unsigned, null, number, string, object, no_members, member}
use Rattle.serde_json.specs.Written.{compact_text}
use Rattle.serde_json.proofs.OnLiterals.{serde_json_on_literals}
use Rattle.book_json.specs.Members.{Reader, needed, optional, text, ends, ◌>>=◌}
use Rattle.book_json.specs.Forms.{whole, among}

-- an owner, who must be given, and a note, which may be absent
abbrev purse : Reader (ℕ × List ℕ)
purse = do
  owner ← needed whole (codes "owner")
  note ← text (codes "note")
  ends (owner, note)

absent_note : purse (member (codes "owner") (number (unsigned 3)) no_members) ≡ Ok ((3, []), no_members)
unfolding needed optional text ends whole
absent_note = refl

null_note : purse (member (codes "note") null (member (codes "owner") (number (unsigned 3)) no_members))
    ≡ Err (codes "note")
unfolding needed optional text ends whole
null_note = refl

not_listed : purse (member (codes "owner") (number (unsigned 3)) (member (codes "zoo") null no_members))
    ≡ Err (codes "zoo")
unfolding needed optional text ends whole
not_listed = refl

too_large : whole (number (unsigned 4611686018427387904)) ≡ None
unfolding whole
too_large = refl

other_case : among ((codes "yes", true) ∷ (codes "no", false) ∷ []) (string (codes "Yes")) ≡ None
other_case = refl

-- a line feed in a string is written as two other bytes
note_text : compact_text (object (member (codes "note") (string (97 ∷ 10 ∷ 98 ∷ [])) no_members))
    ≡ codes "{\"note\":\"a\\nb\"}"
unfolding serde_json_on_literals
note_text = refl
