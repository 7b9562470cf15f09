pub mod ChosenLaws
