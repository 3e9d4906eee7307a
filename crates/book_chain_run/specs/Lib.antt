pub mod Books
pub mod Made
