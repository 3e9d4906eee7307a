pub mod Reconciliation
