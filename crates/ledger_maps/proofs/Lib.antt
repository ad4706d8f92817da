pub mod EntryLaws
pub mod PartLaws
pub mod PagesLaws
pub mod PlacedLaws
pub mod NamesLaws
