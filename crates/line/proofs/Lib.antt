pub mod Sides
pub mod TreadLaws
pub mod PointLaws
pub mod StippleLaws
pub mod DrawLaws
pub mod Once
pub mod LineSamples
