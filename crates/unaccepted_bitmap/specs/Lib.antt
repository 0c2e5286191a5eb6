pub mod BitmapValue
pub mod Fits
pub mod StubMap
pub mod TableFile
