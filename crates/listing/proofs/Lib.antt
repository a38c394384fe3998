pub mod StopLaws
pub mod TellLaws
pub mod OpenLaws
