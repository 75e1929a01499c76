-- What a file was when its source was made, and what became of it.
use Rattle.std.specs.Prelude.{ℕ, ◌==◌, ◌&&◌, Bool, nat_lt, Option, Some, None, if◌then◌else◌}
use Rattle.iiif_source.specs.Cause.{failed, ended}
use Rattle.iiif_open_files.specs.declared.known.Known.{Known}

-- the same node of the same device, made at the same time
abbrev pub is_same_file : Known → Known → Bool
is_same_file was now = now.device == was.device && now.node == was.node && now.born == was.born

-- Why a file isn't read: under its name there is another one, or its bytes were changed; or it became shorter, so that it ends too early.
abbrev pub change_of : Known → Known → Option ℕ
change_of was now =
    if is_same_file was now && now.len == was.len && now.changed == was.changed then None else (
    if is_same_file was now && nat_lt now.len was.len then Some ended else Some failed)
