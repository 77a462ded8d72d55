pub mod Selections
pub mod Absorbing
pub mod Wave
pub mod Stage
pub mod Ordering
pub mod Ranking
pub mod Splitting
pub mod Affected
