pub mod EditLemmas
pub mod MadeLemmas
