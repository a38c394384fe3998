pub mod Stands
pub mod Reading
pub mod ClauseWords
pub mod Predicates
pub mod ClausePlaces
pub mod PredicatePlaces
