pub mod LevelsLaws
pub mod CellsLaws
pub mod SidesLaws
pub mod HalvesLaws
