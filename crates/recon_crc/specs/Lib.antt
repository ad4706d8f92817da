pub mod Checksum
pub mod ChecksumLaws
