-- What a line of settings sets.
use Rattle.std.specs.Prelude.{◌≡◌, ◌⊎◌, ◌*◌, ◌<◌, ℕ, List, [], ◌∷◌, ◌++◌, Bool, true, false, codes, drop, length}
use Rattle.std.specs.List.{AllZip}
use denote.Ref.{Bor}
use Rattle.iiif_pixel.specs.declared.geometry.Dim.{Dim}
use Rattle.iiif_pixel.specs.declared.geometry.Kind.{Kind}
use Rattle.iiif_pixel.specs.declared.geometry.Depth.{Depth}
use Rattle.iiif_pixel.specs.declared.geometry.Depth.TheVariants.{Eight, Sixteen}
use Rattle.iiif_pixel.specs.Geometry.{channels_of, top_of}
use Rattle.iiif_pixel.specs.Picture.{Picture, picture_of}
use Rattle.iiif_pixel.specs.RasterPicture.{raster_picture}
use Rattle.iiif_canonical.specs.declared.resolved.Limits.{Limits}
use Rattle.iiif_world.specs.declared.contents.Item.{Item}
use Rattle.iiif_world.specs.declared.starting.Setup.{Setup}
use Rattle.iiif_event_list.specs.declared.describing.Description.{Description}
use Rattle.iiif_event_list.specs.Spellings.{IsDimAt, IsNumber, LineWords, NameAt, Names, NumberAt, WordAt}
use Rattle.iiif_event_list.specs.Texts.{kind_word}

-- What lines say of a world: the side of a tile, the limits on results, the room of a plan, whether faults are early, the pictures with
-- their names, and the nodes.
pub record Settings : Type 0 where
  pub edge : ℕ
  pub limits : Limits
  pub room : ℕ
  pub faults_early : Bool
  pub items : List Item
  pub setups : List Setup

-- what a description says
abbrev pub settings_of : Description → Settings
settings_of d = record {
  edge = d.edge;
  limits = d.limits;
  room = d.room;
  faults_early = d.faults_early;
  items = d.items.items;
  setups = d.setups.items;
}

-- the words are numbers, one each; likewise names
abbrev pub AreNumbers : LineWords → List ℕ → Type 0
AreNumbers ws ns = AllZip (λ (w : Bor (List ℕ)) (n : ℕ). IsNumber w.now n) ws ns

abbrev pub AreNames : LineWords → List (List ℕ) → Type 0
AreNames ws names = AllZip (λ (w : Bor (List ℕ)) (name : List ℕ). Names w.now name) ws names

-- how many bits a sample has
abbrev pub depth_word : Depth → List ℕ
depth_word Eight = codes "8"
depth_word Sixteen = codes "16"

-- `limits COLUMNS ROWS`, and behind them `upscale`, where results may be larger than their regions
pub record IsLimits (ws : LineWords) (l : Limits) : Type 0 where
  pub columns : NumberAt ws 1 l.max_w
  pub rows : NumberAt ws 2 l.max_h
  pub upscale : ((length ws ≡ 3) × (l.upscale ≡ false)) ⊎ ((length ws ≡ 4) × WordAt ws 3 (codes "upscale") × (l.upscale ≡ true))

-- what stands behind a picture's sides: `blank`, where each sample is 0, or each sample, row by row
abbrev pub HasSamples : LineWords → Dim → Kind → Depth → Picture → Type 0
HasSamples ws dim kind depth p =
    ((length ws ≡ 7) × WordAt ws 6 (codes "blank") × (p ≡ picture_of dim.w dim.h (channels_of kind) (top_of depth) (λ x y k. 0)))
    ⊎ ((samples : List ℕ) × AreNumbers (drop 6 ws) samples × (length samples ≡ dim.w * dim.h * channels_of kind)
    × (p ≡ raster_picture dim kind depth samples))

-- `picture NAME gray|rgb 8|16 WIDTH HEIGHT`, and what it shows
pub record IsPicture (ws : LineWords) (i : Item) : Type 0 where
  pub name : NameAt ws 1 i.name
  pub kind : Kind
  pub kinds : WordAt ws 2 (kind_word (channels_of kind))
  pub depth : Depth
  pub bits : WordAt ws 3 (depth_word depth)
  pub dim : Dim
  pub sides : IsDimAt ws 4 dim
  pub shown : HasSamples ws dim kind depth i.picture

-- `node NAME 1|2 BYTES ENTRIES NAME..`: its version, how many bytes and entries its tables keep, and the names on its ring
pub record IsNode (ws : LineWords) (s : Setup) : Type 0 where
  pub name : NameAt ws 1 s.name
  pub version : ((s.version ≡ 1) × WordAt ws 2 (codes "1")) ⊎ ((s.version ≡ 2) × WordAt ws 2 (codes "2"))
  pub bytes : NumberAt ws 3 s.limit
  pub entries : NumberAt ws 4 s.room
  pub some : 0 < s.room
  pub ring : AreNames (drop 5 ws) s.ring

-- The words of a line set this: what was said before stays, but for the one thing that the line says.
pub data IsSettingOf (ws : LineWords) (before after : Settings) : Type 0 where
  edge : (word : WordAt ws 0 (codes "edge")) (count : length ws ≡ 2) (n : ℕ) (side : NumberAt ws 1 n)
      (set : after ≡ record before { edge = n }) → IsSettingOf ws before after
  room : (word : WordAt ws 0 (codes "room")) (count : length ws ≡ 2) (n : ℕ) (sums : NumberAt ws 1 n)
      (set : after ≡ record before { room = n }) → IsSettingOf ws before after
  faults : (word : WordAt ws 0 (codes "faults")) (count : length ws ≡ 2) (early : WordAt ws 1 (codes "early"))
      (set : after ≡ record before { faults_early = true }) → IsSettingOf ws before after
  limits : (word : WordAt ws 0 (codes "limits")) (l : Limits) (read : IsLimits ws l)
      (set : after ≡ record before { limits = l }) → IsSettingOf ws before after
  picture : (word : WordAt ws 0 (codes "picture")) (i : Item) (read : IsPicture ws i)
      (set : after ≡ record before { items = before.items ++ i ∷ [] }) → IsSettingOf ws before after
  node : (word : WordAt ws 0 (codes "node")) (s : Setup) (read : IsNode ws s)
      (set : after ≡ record before { setups = before.setups ++ s ∷ [] }) → IsSettingOf ws before after
