pub mod References
pub mod ReferenceRows
pub mod ExtentRow
pub mod ExtentItems
pub mod KeyedRow
pub mod GroupRow
