pub mod RunPostings
