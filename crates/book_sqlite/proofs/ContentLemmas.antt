-- What the entries of the table hold, member by member.
use Rattle.std.proofs.Common.{◌≡◌, ◌^◌, ◌*◌, ◌+◌, ℕ, ◌<◌, pos, negsuc, nat_lt, ◌==◌, ◌&&◌, Bool, true, false, cond, List, [], ◌∷◌, Option, Some, None, inl, inr, refl, sym, ap, subst, ◌∙◌, arith}
use Rattle.std.proofs.lemmas.Bool.Decides.{nat_tests}
use Rattle.sqlite_value.specs.declared.value.Value.{Value}
use Rattle.sqlite_value.specs.declared.value.Value.TheVariants.{Null, Int, Real, Text, Blob}
use Rattle.sqlite_value.specs.Order.{Row as Entry}
use Rattle.sqlite_rules.specs.Lists.{Has}
use Rattle.book_keeper.specs.declared.row.Row.{Row}
use Rattle.book_keeper.specs.Rows.{rank, with_row}
use Rattle.book_sqlite.specs.Content.{row_made, row_held, with_held, rows_of}
use Rattle.book_sqlite.specs.KnownRows.{rises_of}
use Rattle.book_sqlite.proofs.MemberLemmas.{put_member, member_put, member_kept}

-- What a row that is made tells of its values.
pub record Made (kind id body : Value) (row : Row) : Type 0 where
  pub kind_is : kind ≡ Int (pos row.key.kind)
  pub id_is : id ≡ Int (pos row.key.id)
  pub body_is : body ≡ Blob row.body
  pub low : row.key.kind < 2 ^ 8
  pub fits : row.key.id < 2 ^ 64

pub made_from : (kind id body : Value) (row : Row) → row_made kind id body ≡ Some row → Made kind id body row
made_from (Int (pos k)) (Int (pos i)) (Blob b) row h = go (nat_lt k (2 ^ 8)) (nat_lt i (2 ^ 64)) refl refl h
  where
    go :
        (low fits : Bool) → nat_lt k (2 ^ 8) ≡ low → nat_lt i (2 ^ 64) ≡ fits
        → cond (low && fits) (Some (record { key = record { kind = k; id = i }; body = b })) None ≡ Some row
        → Made (Int (pos k)) (Int (pos i)) (Blob b) row
    go true true l f is =
        let row_is : (record { key = record { kind = k; id = i }; body = b }) ≡ row = cc in
        subst (Made (Int (pos k)) (Int (pos i)) (Blob b)) row_is (record {
          kind_is = refl;
          id_is = refl;
          body_is = refl;
          low = grind (arith, nat_tests, l);
          fits = grind (arith, nat_tests, f);
        })
    go true false l f is = absurd cc
    go false fits l f is = absurd cc
made_from (Int (pos k)) (Int (pos i)) Null row h = absurd cc
made_from (Int (pos k)) (Int (pos i)) (Int n) row h = absurd cc
made_from (Int (pos k)) (Int (pos i)) (Real x) row h = absurd cc
made_from (Int (pos k)) (Int (pos i)) (Text t) row h = absurd cc
made_from (Int (pos k)) (Int (negsuc i)) body row h = absurd cc
made_from (Int (pos k)) Null body row h = absurd cc
made_from (Int (pos k)) (Real x) body row h = absurd cc
made_from (Int (pos k)) (Text t) body row h = absurd cc
made_from (Int (pos k)) (Blob b) body row h = absurd cc
made_from (Int (negsuc k)) id body row h = absurd cc
made_from Null id body row h = absurd cc
made_from (Real x) id body row h = absurd cc
made_from (Text t) id body row h = absurd cc
made_from (Blob b) id body row h = absurd cc

-- a kind of one byte and a number of 64 bits make the row
pub made_of :
    (row : Row) → row.key.kind < 2 ^ 8 → row.key.id < 2 ^ 64
    → row_made (Int (pos row.key.kind)) (Int (pos row.key.id)) (Blob row.body) ≡ Some row
made_of row low fits = grind (arith, nat_tests, low, fits)

-- ranks are equal where kinds and numbers are
pub rank_parts :
    (k i l j : ℕ) → i < 2 ^ 64 → j < 2 ^ 64 → k * 2 ^ 64 + i ≡ l * 2 ^ 64 + j → (k ≡ l) × (i ≡ j)
rank_parts k i l j low fits same = (omega (arith, low, fits, same), omega (arith, low, fits, same))

-- each row is held by an entry
pub holder : (es : List Entry) (row : Row) → Has (rows_of es) row → (e : Entry) × Has es e × (row_held e ≡ Some row)
holder [] row h = absurd h
holder (e ∷ es) row h = go (row_held e) refl h (holder es row)
  where
    go :
        (held : Option Row) → row_held e ≡ held → Has (with_held held (rows_of es)) row
        → (Has (rows_of es) row → (e : Entry) × Has es e × (row_held e ≡ Some row))
        → (f : Entry) × Has (e ∷ es) f × (row_held f ≡ Some row)
    go None is there more = let f = more there in (f.0, inr f.1, f.2)
    go (Some first) is there more = elim (put_member first (rows_of es) row (rises_of es) there) [
      | inl same ↦ (e, inl refl, is ∙ ap Some (sym same))
      | inr later ↦ let f = more later.0 in (f.0, inr f.1, f.2)
    ]

-- Entries that hold rows of equal keys hold the same row.
abbrev pub HoldOnce : List Entry → Type 0
HoldOnce es =
    (a b : Entry) (row other : Row) → Has es a → Has es b → row_held a ≡ Some row → row_held b ≡ Some other
    → rank row.key ≡ rank other.key → row ≡ other

-- the row of each entry is among the rows
pub held_in : (es : List Entry) → HoldOnce es → (e : Entry) (row : Row) → Has es e → row_held e ≡ Some row → Has (rows_of es) row
held_in [] once e row h is = absurd h
held_in (f ∷ es) once e row h is = go (row_held f) refl h (held_in es (λ a b r o ha hb. once a b r o (inr ha) (inr hb)) e row)
  where
    go :
        (held : Option Row) → row_held f ≡ held → Has (f ∷ es) e → (Has es e → row_held e ≡ Some row → Has (rows_of es) row)
        → Has (with_held held (rows_of es)) row
    go None none (inl same) more = absurd (let e_is : row_held f ≡ Some row = ap row_held (sym same) ∙ is in cc)
    go None none (inr later) more = more later is
    go (Some first) some (inl same) more =
        let row_is : first ≡ row = (let e_is : row_held f ≡ Some row = ap row_held (sym same) ∙ is in cc) in
        subst (Has (with_row first (rows_of es))) row_is (member_put first (rows_of es))
    go (Some first) some (inr later) more = go_same (rank row.key == rank first.key) refl
      where
        go_same : (t : Bool) → (rank row.key == rank first.key) ≡ t → Has (with_row first (rows_of es)) row
        go_same true t =
            let row_is = once f e first row (inl refl) (inr later) some is (grind (arith, nat_tests, t)) in
            subst (Has (with_row first (rows_of es))) row_is (member_put first (rows_of es))
        go_same false t = member_kept first (rows_of es) row (more later is) (λ k. absurd (grind (arith, nat_tests, t, k)))
