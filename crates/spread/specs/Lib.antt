pub mod RoundTrip
pub mod GroupLaws
pub mod WordLaws
pub mod ScanLaws
pub mod LegalLaws
pub mod ImageLaws
pub mod ListLaws
pub mod TripLaws
