pub mod Numbers
pub mod Passing
pub mod OnePicture
pub mod Samples
