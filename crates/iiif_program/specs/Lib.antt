pub mod Alone
pub mod Lines
pub use Rattle.iiif_start.specs.Statuses
pub use Rattle.iiif_start.specs.Stored
