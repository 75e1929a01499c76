-- The definitions that the proofs of the examples unfold, so that both sides of an equation compute to one value.
use Rattle.std.specs.Prelude.{⊤}
use Rattle.iiif_pixel.specs.Picture.{row_of, samples_of, sample_at}
use Rattle.iiif_pixel.specs.Operations.{crop_at, gray_at}
use Rattle.iiif_pixel.specs.Scaling.{area_sum, overlap, scaled_at, sum_from, weight_of}
use Rattle.std.specs.Fmt.{digits}
use Rattle.std.specs.Str as str
use Rattle.percent_encoding.proofs.OnLiterals.{percent_encoding_on_literals}
use Rattle.iiif_request.specs.Code as code
use Rattle.iiif_request.specs.Numerals.{is_numeral}
use Rattle.iiif_canonical.specs.Regions as regions
use Rattle.iiif_canonical.specs.Rounding.{round}
use Rattle.iiif_canonical.specs.Sizes as sizes
use Rattle.iiif_canonical.specs.Resolution.{quarters_of, resolved_of}
use Rattle.iiif_canonical.specs.Canonical as forms
use Rattle.iiif_canonical.specs.Images.{image, resolved_image}
use Rattle.iiif_canonical.specs.Escapes.{escaped}
use Rattle.iiif_canonical.specs.Texts as texts
use Rattle.iiif_tiff.specs.Tiff as tiff
use Rattle.iiif_tiff_write.specs.File as written
use Rattle.sha2.specs.Sha256 as sha
use Rattle.iiif_tables.specs.Cache as cache
use Rattle.iiif_tables.specs.Flights as flights
use Rattle.iiif_area.specs.Grid as grid
use Rattle.iiif_keys.specs.Bytes as bytes
use Rattle.iiif_keys.specs.Reading as reading
use Rattle.iiif_planner.specs.Items as items
use Rattle.iiif_planner.specs.Bands.{places_from}
use Rattle.iiif_tile_group.specs.Collection as images
use Rattle.iiif_info.specs.Information as info
use Rattle.iiif_http_front.specs.AnswerHeads as heads
use Rattle.iiif_answers.specs.BaseUrl as urls
use Rattle.iiif_answers.specs.Settings as settings
use Rattle.iiif_peer_wire.specs.Messages as messages
use Rattle.iiif_peer_wire.specs.Reading as wires
use Rattle.iiif_ring.specs.Owner as owner
use Rattle.iiif_examples.specs.Files.{tiled_ramp, written_ramp}
use Rattle.iiif_examples.specs.Requests.{canonical_words}

-- those of pictures
unfoldable pub pictures : ⊤
unfolding row_of samples_of sample_at crop_at gray_at area_sum overlap scaled_at sum_from weight_of
pictures = tt

-- those of targets and of words
unfoldable pub words : ⊤
unfolding percent_encoding_on_literals str.is_utf8 str.chars lib.Utf8.encode code.cut_of code.decimal_of code.parts_of code.region_of
    code.form_of code.size_of code.is_quarters
    code.rotation_of code.has_whole_escapes is_numeral
words = tt

-- those of what requests come to, and of how they are written
unfoldable pub requests : ⊤
unfolding pictures digits regions.clipped regions.region_of round sizes.fit sizes.largest sizes.asked_of sizes.checked sizes.size_of
    quarters_of resolved_of forms.canonical_region forms.canonical_size forms.canonical_of forms.canonical image resolved_image escaped
    texts.decimal_text texts.text_of texts.image_uri_of texts.uri_of canonical_words
requests = tt

-- those of files
unfoldable pub files : ⊤
unfolding pictures tiled_ramp written_ramp written.head_of written.row written.shorts_of written.strip tiff.gray_sample tiff.shown
    tiff.refusal_of tiff.opening tiff.header tiff.directory_fits tiff.sides tiff.samples
    tiff.grid tiff.pieces_fit tiff.needed tiff.optional tiff.only tiff.entry_fits tiff.entry tiff.entries tiff.entry_of tiff.value
    tiff.value_or tiff.values_or tiff.samples_per_pixel tiff.bits_per_sample tiff.photometric tiff.planar_configuration tiff.extra_samples
    tiff.sample_format tiff.tile_side tiff.tile_grid tiff.strip_grid tiff.piece tiff.piece_bytes tiff.first
files = tt

-- those of caches
unfoldable pub caches : ⊤
unfolding cache.touch cache.without cache.placed cache.victim cache.evict cache.evict_at_most cache.put flights.enter flights.again
    flights.land
caches = tt

-- those of keys and of what they mean
unfoldable pub keys : ⊤
unfolding pictures str.is_utf8 str.chars lib.Utf8.encode grid.sum_at grid.has_place grid.part_sum bytes.tile_key_bytes bytes.sum_key_bytes
    bytes.tile_val_bytes bytes.sum_val_bytes reading.tile_key_with reading.sum_key_with
keys = tt

-- those of plans
unfoldable pub plans : ⊤
unfolding items.row_from items.rows_from items.greatest places_from
plans = tt

-- those of messages and of owners
unfoldable pub wire : ⊤
unfolding digits sha.first_words sha.schedule sha.rounds sha.compress sha.hash_after sha.digest_bytes sha.sha256 messages.ask_text
    messages.reply_text wires.bytes_at wires.length_at wires.magic_at wires.ask_magic_at wires.ask_fields_at wires.ask_at wires.key_at
    wires.value_at wires.digest_at wires.reply_at owner.hash owner.point owner.distance
wire = tt

-- those of answers and of settings
unfoldable pub answers : ⊤
unfolding requests files is_numeral heads.status_line heads.field_line heads.length_line heads.close_line heads.head_text info.last_level
    info.scale_factors urls.is_host urls.is_port urls.is_authority urls.is_segment urls.behind_scheme urls.is_hierarchy urls.is_base_url
    urls.path_of settings.refusal_of
answers = tt

-- those of replies to targets
unfoldable pub replies : ⊤
unfolding words answers images.refusal_of_name
replies = tt
