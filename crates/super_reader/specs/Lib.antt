pub mod Superblock
