pub mod InPlace
pub mod Roles
pub mod Concerned
pub mod StepRows
pub mod Searches
pub mod SilentReach
pub mod Theorems
