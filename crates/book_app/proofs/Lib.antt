pub mod CauseLemmas
pub mod FreshLemmas
pub mod ImportLemmas
pub mod LeadsLemmas
pub mod ReplyLemmas
pub mod ResponseLemmas
pub mod ServeLemmas
pub mod StatusClauseLemmas
