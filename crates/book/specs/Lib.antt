pub mod FileRun
