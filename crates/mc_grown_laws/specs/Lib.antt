pub mod GrownLaws
