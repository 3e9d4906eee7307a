pub mod CommitCalls
pub mod Content
pub mod KeeperInSqlite
pub mod KnownRows
pub mod NewFiles
pub mod RowCalls
pub mod RowsDatabase
pub mod RowsSchema
