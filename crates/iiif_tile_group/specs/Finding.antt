-- The image of a key, and its shape.
use Rattle.std.specs.Prelude.{◌≡◌, IfErr, IfOk, Result}
use Rattle.std.specs.Borrow.{Bor}
use Rattle.iiif_source.specs.declared.Source as source
use Rattle.iiif_keys.specs.Blocks.{NamesPart}
use Rattle.iiif_keys.specs.Names.{named, IsSource}
use Rattle.iiif_keys.specs.Shapes.{shape_of, HasPicture}
use Rattle.iiif_keys.specs.declared.cache_key.CacheKey as cache_key
use Rattle.iiif_keys.specs.declared.fault.Fault.{Fault}
use Rattle.iiif_keys.specs.declared.keys.Shape.{Shape}
use Rattle.iiif_keys.specs.declared.system.System as system
use Rattle.iiif_tile_group.specs.Faults.{IsKeyFault}
use Rattle.iiif_tile_group.specs.Items.{item_of}
use Rattle.iiif_tile_group.specs.Named.{picture_in, IsImageOf}
use Rattle.iiif_tile_group.specs.declared.entry.ImageEntry.{ImageEntry}

module _ {K V S R J : Type 0} {d : _} (keys : cache_key.Ghosts K V) (sources : source.Ghosts S R) (node : system.Ghosts J) (key : K) where
  -- The image of a key that names a part of its picture, and its shape; or why the key names nothing.
  pub record FindsImage (result : Result (Bor (ImageEntry R S d) × Shape) Fault) : Type 0 where
    -- The image is the one that the key's name stands for.
    pub image : IfOk result (λ r. IsImageOf sources node (keys.name_of key) (item_of r.0.now))
    -- The shape is that of its picture.
    pub shape : IfOk result (λ r. shape_of (picture_in sources.bytes (item_of r.0.now)) ≡ r.1)
    -- So the name has a picture of that shape.
    pub known : IfOk result (λ r. HasPicture node.pictures (keys.name_of key) r.1)
    -- A source may have this picture.
    pub source : IfOk result (λ r. IsSource (named node.pictures (keys.name_of key)))
    -- The key fits an image of that shape.
    pub fits : IfOk result (λ r. keys.fits_in r.1 key)
    -- So it names a part of the picture.
    pub names : IfOk result (λ r. NamesPart node.pictures node.edge (keys.name_of key) (keys.edge_of key) (λ s. keys.fits_in s key))
    -- A fault tells why the key names none.
    pub refused : IfErr result (IsKeyFault node.pictures node.edge (keys.name_of key) (keys.edge_of key) (λ s. keys.fits_in s key))

module _ {K V J : Type 0} (keys : cache_key.Ghosts K V) (node : system.Ghosts J) (key : K) where
  -- The shape of the image of a key that names a part of its picture; or why the key names nothing.
  pub record FindsShape (result : Result Shape Fault) : Type 0 where
    -- The name has a picture of that shape.
    pub known : IfOk result (HasPicture node.pictures (keys.name_of key))
    -- A source may have this picture.
    pub source : IfOk result (λ s. IsSource (named node.pictures (keys.name_of key)))
    -- The key fits an image of that shape.
    pub fits : IfOk result (λ s. keys.fits_in s key)
    -- A fault tells why the key names none.
    pub refused : IfErr result (IsKeyFault node.pictures node.edge (keys.name_of key) (keys.edge_of key) (λ s. keys.fits_in s key))
    -- Else it names a part of the picture.
    pub names : IfOk result (λ s. NamesPart node.pictures node.edge (keys.name_of key) (keys.edge_of key) (λ s. keys.fits_in s key))
