-- Sides and rectangles are equal if their fields are.
use Rattle.std.proofs.Common.{◌≡◌}
use Rattle.iiif_pixel.specs.declared.geometry.Dim.{Dim}
use Rattle.iiif_pixel.specs.declared.geometry.Rect.{Rect}

-- sides of equal width and height
pub same_dim : (d e : Dim) → d.w ≡ e.w → d.h ≡ e.h → d ≡ e
same_dim d e w h = λ i. record { w = w i; h = h i }

-- rectangles of equal corner and sides
pub same_rect : (r s : Rect) → r.x ≡ s.x → r.y ≡ s.y → r.w ≡ s.w → r.h ≡ s.h → r ≡ s
same_rect r s x y w h = λ i. record { x = x i; y = y i; w = w i; h = h i }
