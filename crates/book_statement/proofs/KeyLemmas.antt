-- The keys of lines, one line after another.
use Rattle.std.proofs.Common.{◌≡◌, ℕ, ◌+◌, ◌<◌, List, [], ◌∷◌, ◌++◌, length, take, count_by, get_or, sym, ap, ◌∙◌}
use Rattle.std.proofs.lemmas.List.{take_more}
use Rattle.book_statement.specs.declared.line_key.LineKey.{LineKey}
use Rattle.book_statement.specs.declared.statement_line.StatementLine.{StatementLine}
use Rattle.book_statement.specs.Keys.{is_twin, key, keys_of}
use Rattle.book_statement.proofs.ListLemmas.{each_after-push}

-- one line more has one key more, with as many twins before it as the lines have
pub keys_of-push : (account : ℕ) (lines : List StatementLine) (line : StatementLine)
    → keys_of account (lines ++ line ∷ []) ≡ keys_of account lines ++ key account line
    (count_by (is_twin line) lines) ∷ []
unfolding keys_of
keys_of-push account lines line =
    each_after-push (λ before l. key account l (count_by (is_twin l) before) ∷ []) lines line

-- a loop over the lines adds the next key
pub keys_of-next : (account : ℕ) (lines given : List StatementLine) (i ordinal : ℕ) (line : StatementLine)
    (keys new : List LineKey) (last : LineKey)
    → given ≡ lines → i < length given → line ≡ get_or given i line → keys ≡ keys_of account (take i lines)
    → ordinal ≡ count_by (is_twin line) (take i given) → last ≡ key account line ordinal → new ≡ keys ++ last ∷ []
    → new ≡ keys_of account (take (i + 1) lines)
keys_of-next account lines given i ordinal line keys new last same within item before ordinal_is last_is new_is =
    new_is
    ∙ ap (λ ks. ks ++ last ∷ []) (before ∙ ap (λ l. keys_of account (take i l)) (sym same))
    ∙ ap (λ k. keys_of account (take i given) ++ k ∷ []) (last_is ∙ ap (key account line) ordinal_is)
    ∙ sym (keys_of-push account (take i given) line)
    ∙ ap (λ l. keys_of account (take i given ++ l ∷ [])) item
    ∙ ap (keys_of account) (sym (take_more given i line within))
    ∙ ap (λ l. keys_of account (take (i + 1) l)) same
