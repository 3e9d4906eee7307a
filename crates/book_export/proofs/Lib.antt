pub mod OrderLemmas
pub mod PathLemmas
pub mod SoundLemmas
pub mod Worked
pub mod WritingLemmas
