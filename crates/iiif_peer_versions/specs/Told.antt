-- The versions of files that are known.
use Rattle.std.specs.Prelude.{ℕ, List, Option, option_map}
use Rattle.std.specs.BTreeMap.{get_by_text}
use denote.Ref.{Bor}
use Rattle.iiif_peer_versions.specs.declared.file_versions.FileVersions.{FileVersions}

-- the digits of the version of the file of the image of that name
abbrev pub told : FileVersions → List ℕ → Option (List ℕ)
told versions name = get_by_text versions.digits name

-- the same, where versions are known at all
abbrev pub told_by : Option (Bor FileVersions) → Option (List ℕ → Option (List ℕ))
told_by versions = option_map (λ v. told v.now) versions

-- the same of versions that are kept
abbrev pub told_in : Option FileVersions → Option (List ℕ → Option (List ℕ))
told_in versions = option_map told versions
