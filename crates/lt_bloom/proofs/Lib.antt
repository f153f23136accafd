pub mod FilterLaws
