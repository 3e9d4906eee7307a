-- The currencies that are known where no book says which ones are, with the decimals that ISO 4217 gives them.
use Rattle.std.specs.Prelude.{ℕ, List, [], ◌∷◌, codes, length}
use Rattle.std.specs.List.{fold}
use Rattle.book_commodity.specs.Table.{with_entry}
use Rattle.book_commodity.specs.declared.commodity.Commodity.{Commodity}
use Rattle.statement_texts.specs.Answers.{currency}

-- Currencies, and with them the one of this code and this fraction, under the next number.
abbrev pub with_code : ℕ → List (ℕ × Commodity) → List ℕ → List (ℕ × Commodity)
with_code fraction known code = with_entry (length known) (currency code fraction) known

-- The same with each of these codes.
abbrev pub with_codes : ℕ → List (List ℕ) → List (ℕ × Commodity) → List (ℕ × Commodity)
with_codes fraction all known = fold (with_code fraction) known all

-- The currencies with cents.
abbrev pub with_cents : List (List ℕ)
with_cents = codes "AUD" ∷ codes "CAD" ∷ codes "CHF" ∷ codes "CNY" ∷ codes "CZK" ∷ codes "DKK" ∷ codes "EUR" ∷ codes "GBP"
    ∷ codes "HUF" ∷ codes "NOK" ∷ codes "NZD" ∷ codes "PLN" ∷ codes "SEK" ∷ codes "USD" ∷ []

-- The currencies without decimals.
abbrev pub whole : List (List ℕ)
whole = codes "CLP" ∷ codes "ISK" ∷ codes "JPY" ∷ codes "KRW" ∷ codes "VND" ∷ []

-- The currencies with three decimals.
abbrev pub with_mils : List (List ℕ)
with_mils = codes "BHD" ∷ codes "JOD" ∷ codes "KWD" ∷ codes "OMR" ∷ codes "TND" ∷ []

-- All of them, with cents first.
unfoldable pub usual : List (ℕ × Commodity)
usual = with_codes 1000 with_mils (with_codes 1 whole (with_codes 100 with_cents []))
