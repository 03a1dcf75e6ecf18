pub mod TextLaws
pub mod PictureLaws
