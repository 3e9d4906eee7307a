-- Rows whose keys rise, the test that computes it, and that rows which are held are one list.
use Rattle.std.proofs.Common.{◌≡◌, ◌∙◌, ℕ, ◌<◌, nat_lt, Bool, true, ◌&&◌, IsTrue, List, [], ◌∷◌, refl, sym, arith}
use Rattle.std.specs.List.{list_all}
use Rattle.std.proofs.lemmas.Bool.Decides.{nat_tests}
use Rattle.book_keeper.specs.declared.row.Row.{Row}
use Rattle.book_keeper.specs.Rows.{AllAbove, Rises, do_rise, rank}

above_where : (n : ℕ) (rows : List Row) → list_all (λ other. nat_lt n (rank other.key)) rows ≡ true → AllAbove n rows
above_where n [] all = tt
above_where n (row ∷ rows) all =
    let first : nat_lt n (rank row.key) ≡ true = grind (arith, nat_tests, all) in
    let more : list_all (λ other. nat_lt n (rank other.key)) rows ≡ true = grind (arith, nat_tests, all) in
    let here : n < rank row.key = grind (arith, nat_tests, first) in
    (here, above_where n rows more)

rises_by : (rows : List Row) → do_rise rows ≡ true → Rises rows
rises_by [] all = tt
rises_by (row ∷ rows) all =
    let first : list_all (λ other. nat_lt (rank row.key) (rank other.key)) rows ≡ true =
    grind (arith, nat_tests, all) in
    let more : do_rise rows ≡ true = grind (arith, nat_tests, all) in
    (above_where (rank row.key) rows first, rises_by rows more)

-- rows rise where they do by the test
pub rises_where : (rows : List Row) → IsTrue (do_rise rows) → Rises rows
rises_where rows all = rises_by rows (grind (arith, nat_tests, all))

below_where : (n : ℕ) (rows : List Row) → AllAbove n rows → list_all (λ other. nat_lt n (rank other.key)) rows ≡ true
below_where n [] all = refl
below_where n (row ∷ rows) all = grind (arith, nat_tests, all.0, below_where n rows all.1)

told_by : (rows : List Row) → Rises rows → do_rise rows ≡ true
told_by [] rise = refl
told_by (row ∷ rows) rise = grind (arith, nat_tests, below_where (rank row.key) rows rise.0, told_by rows rise.1)

-- the test says so where rows rise
pub told_where : (rows : List Row) → Rises rows → IsTrue (do_rise rows)
told_where rows rise = let all = told_by rows rise in grind (arith, nat_tests, all)

-- rows that are those that are held are one list
pub same_rows : (held rows other : List Row) → held ≡ rows → held ≡ other → rows ≡ other
same_rows held rows other first second = sym first ∙ second
