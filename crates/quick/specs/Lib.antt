pub mod Half
pub mod HalfLaws
pub mod First
pub mod FirstLaws
pub mod Descent
pub mod DescentLaws
pub mod PassingLaws
pub mod SearchLaws
