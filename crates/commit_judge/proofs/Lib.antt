pub mod judgements
pub mod plans
pub mod span_tables
pub mod starts
