pub mod Tiff
