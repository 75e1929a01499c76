-- The types of other crates that the machine speaks of.
pub use Rattle.iiif_pixel.specs.Picture.{Picture}
pub use Rattle.iiif_request.specs.declared.request.Request.{Request}
pub use Rattle.iiif_request.specs.declared.request.Refusal.{Refusal}
pub use Rattle.iiif_canonical.specs.declared.resolved.Resolved.{Resolved}
pub use Rattle.iiif_source.specs.declared.ReadFault.{ReadFault}
pub use Rattle.iiif_machine.specs.declared.keys.Key.{Key}
pub use Rattle.iiif_machine.specs.declared.keys.Value.{Value}
