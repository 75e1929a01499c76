use Rattle.std.proofs.Common.{refl}
use Rattle.std.specs.Fmt.{digits}
use Rattle.serde_json.proofs.OnLiterals.{serde_json_on_literals}
use Rattle.iiif_canonical.specs.Texts.{image_uri_of}
use Rattle.iiif_canonical.specs.Escapes.{escaped}
use Rattle.iiif_info.specs.Information.{last_level, scale_factors, tiles, information, info_text}
use Rattle.iiif_info.proofs.laws.sample_has_its_text.Goals as goal

pub returns-clause-sample : goal.returns-clause-sample
unfolding serde_json_on_literals digits image_uri_of escaped last_level scale_factors tiles information info_text
returns-clause-sample c = refl

pub returns-clause-larger : goal.returns-clause-larger
unfolding serde_json_on_literals digits image_uri_of escaped last_level scale_factors tiles information info_text
returns-clause-larger c = refl
