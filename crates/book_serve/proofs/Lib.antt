pub mod StatusLemmas
pub mod ExchangeLemmas
pub mod LinkLemmas
pub mod ServingLemmas
pub mod ServedLemmas
pub mod CallerLemmas
mod Worked
