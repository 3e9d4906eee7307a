pub mod VoidLaws
pub mod Worked
