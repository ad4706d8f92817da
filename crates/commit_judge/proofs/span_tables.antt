-- Tables of spans, one put in or taken out at a time.
pub mod Found
pub mod Items
pub mod Runs
pub mod Tables
