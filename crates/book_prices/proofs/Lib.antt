pub mod RateLemmas
