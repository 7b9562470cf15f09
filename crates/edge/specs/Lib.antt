pub mod Edge
pub mod MissesLaws
pub mod Extreme
pub mod CrossesLaws
pub mod OnEdgeLaws
pub mod PartsLaws
