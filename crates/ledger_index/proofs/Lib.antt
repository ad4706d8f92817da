pub mod LooksLaws
pub mod SinglesLaws
pub mod JudgedLaws
pub mod UnpagedLaws
pub mod NamedLaws
pub mod LedgerLaws
pub mod SeatedLaws
