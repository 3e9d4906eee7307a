use Rattle.std.proofs.Common.{◌≡◌, ℕ, ◌≤◌, false, List, All, Some, length, option_map, sym, subst, ◌∙◌, arith}
use Rattle.std.specs.List.{slice_get}
use Rattle.std.proofs.lemmas.List.{take_all}
use Rattle.book_commodity.specs.Table.{Entries, value_of}
use Rattle.book_prices.specs.Rate.{is_same}
use Rattle.book_prices.specs.declared.price.Price.{Price}
use Rattle.book_prices.proofs.RateLemmas.{All-take, value_of-place}
use Rattle.book_prices.proofs.prices.Prices.same.Goals as goal

pub returns-then-are_same : goal.returns-then-are_same
returns-then-are_same c =
    let there = value_of-place c.self.inside.table.entries c.loop-place.place c.number_at.result c.value_at.result.now
    c.len-place-end.ensures.rises c.value_at.ensures c.number_at.ensures in (
      c.value_at.result.now,
      subst (λ (table : Entries Price). value_of c.number_at.result table.entries ≡ Some c.value_at.result.now)
          c.self.view_is there,
      sym c.are_same.ensures ∙ c.if-are_same.true,
    )

pub loop-place-preserved : goal.loop-place-preserved
loop-place-preserved c =
    let there : option_map (λ (entry : ℕ × Price). entry.1)
    (slice_get c.args.self.now.entries c.loop-place.place) ≡ Some c.value_at.result.now =
    subst (λ (table : Entries Price). option_map (λ (entry : ℕ × Price). entry.1)
    (slice_get table.entries c.loop-place.place) ≡ Some c.value_at.result.now) c.self.view_is c.value_at.ensures in
    All-take (λ other. is_same other c.args.price.now ≡ false) c.args.self.now.entries c.loop-place.place
    c.value_at.result.now there c.loop-place.invariant (sym c.are_same.ensures ∙ c.if-are_same.false)

pub returns : goal.returns
returns c =
    let whole : length c.args.self.now.entries ≤ c.loop-place.place =
    subst (λ (table : Entries Price). length table.entries ≤ c.loop-place.place) c.self.view_is
    (omega (arith, c.len-place-end.ensures.len)) in
    subst (λ (entries : List (ℕ × Price)). All (λ entry. is_same entry.1 c.args.price.now ≡ false) entries)
    (take_all c.loop-place.place c.args.self.now.entries whole) c.loop-place.invariant
