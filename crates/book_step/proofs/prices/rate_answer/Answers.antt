use Rattle.book_sound.proofs.SoundFacts.{prices_are_kept}
use Rattle.book_step.proofs.prices.rate_answer.Goals as goal

pub rate_on-rate-requires : goal.rate_on-rate-requires
rate_on-rate-requires c =
    let plain = c.args.plain.now in
    prices_are_kept plain.commodities.entries 1000000 plain.prices.entries c.requires.prices
