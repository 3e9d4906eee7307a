pub mod FieldLemmas
pub mod InboxLemmas
pub mod ResponseLemmas
pub mod RouteLemmas
pub mod RoutingLemmas
pub mod HeadLemmas
pub mod ExchangeLemmas
mod Worked
