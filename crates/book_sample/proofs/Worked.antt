-- The first draws of the sample of 7, computed apart from this repository, and its lines around an undo.
use Rattle.std.proofs.Common.{◌≡◌, [], ◌++◌, ◌∷◌, refl, pos}
use Rattle.std.specs.Prelude.{codes}
use Rattle.book_sample.specs.LastLines.{last_two}
use Rattle.book_sample.specs.Sample.{draw_of, next_state, redo_after, state_after, undo_after}

first_draw : draw_of (state_after 7 1) ≡ record { debited = 9; credited = 10; value = 60991; day = pos 19037 }
unfolding draw_of next_state
first_draw = refl

second_draw : draw_of (state_after 7 2) ≡ record { debited = 10; credited = 5; value = 57973; day = pos 19309 }
unfolding draw_of next_state
second_draw = refl

third_draw : draw_of (state_after 7 3) ≡ record { debited = 4; credited = 6; value = 90908; day = pos 18505 }
unfolding draw_of next_state
third_draw = refl

ninth : undo_after 8 ++ redo_after 8 ≡ []
ninth = refl

tenth : undo_after 9 ++ redo_after 9 ≡ codes "{\"do\":\"undo\"}" ++ 10 ∷ []
tenth = refl

twentieth :
    undo_after 19 ++ redo_after 19
    ≡ (codes "{\"do\":\"undo\"}" ++ 10 ∷ []) ++ (codes "{\"do\":\"redo\"}" ++ 10 ∷ [])
twentieth = refl

-- of three lines the last two
three_lines :
    last_two (codes "a" ++ 10 ∷ codes "bc" ++ 10 ∷ 10 ∷ []) ≡ codes "bc" ++ 10 ∷ 10 ∷ []
unfolding last_two
three_lines = refl

one_line : last_two (codes "a" ++ 10 ∷ []) ≡ codes "a" ++ 10 ∷ []
unfolding last_two
one_line = refl
