use Rattle.std.proofs.Common.{◌≡◌, ◌++◌, map, take}
use Rattle.iiif_image_list.specs.Folders.{image_in}
use Rattle.iiif_image_list.proofs.list.ImageList.add_files.Given as goal

-- the files so far are taken, and counted
abbrev pub invariant-loop-file : goal.invariant-loop-file
invariant-loop-file l = (l.self ≡ l.fn.self ++ map image_in (take l.file-index l.files)) × (l.place ≡ l.file-index)
