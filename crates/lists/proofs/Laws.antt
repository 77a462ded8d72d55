pub mod Back
pub mod Gives
pub mod Scans
pub mod Occupied
pub mod Cubes
pub mod Paths
