pub mod MarkLaws
pub mod Search
pub mod PixelLaws
pub mod Bands
pub mod RectLaws
pub mod Fills
pub mod ExtentLaws
