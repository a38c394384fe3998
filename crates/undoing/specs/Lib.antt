pub mod Failure
pub mod Failing
pub mod Tried
pub mod FirstGoals
pub mod HeldClauses
