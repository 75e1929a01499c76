use Rattle.std.proofs.Common.{◌≡◌, ◌≤◌, ◌++◌, length, drop}
use Rattle.iiif_peer_versions.specs.Digits.{hex_digits, version_digits}
use Rattle.iiif_peer_versions.proofs.file_version.FileVersion.digits.Given as goal

abbrev pub invariant-loop-at : goal.invariant-loop-at
invariant-loop-at l = (length l.digits ≡ 32) × (l.at ≤ 32) × (hex_digits l.at l.left ++ drop l.at l.digits ≡ version_digits l.fn.self)

abbrev pub decreases-loop-at : goal.decreases-loop-at
decreases-loop-at l = l.at
