pub mod SuperLaws
