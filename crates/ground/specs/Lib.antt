pub mod Levels
pub mod Rectangles
pub mod RectanglesLaws
pub mod Cells
pub mod Halves
