pub mod SoundState
