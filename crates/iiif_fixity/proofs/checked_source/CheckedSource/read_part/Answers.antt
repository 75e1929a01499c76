use Rattle.std.proofs.Common.{◌<◌, length, ◌∙◌, ap, subst}
use Rattle.iiif_fixity.specs.Pieces.{piece_of}
use Rattle.iiif_fixity.proofs.Checking.{part_is}
use Rattle.iiif_fixity.proofs.checked_source.CheckedSource.read_part.Goals as goal

pub returns-clause-bytes : goal.returns-clause-bytes
returns-clause-bytes g c = λ told.
    let size = c.args.self.now.pieces.size in
    let bytes = g.S.Source.bytes c.args.self.now.inner in
    part_is size bytes c.deref.result.now c.copy_from_slice.new.self c.args.at (length c.args.part.now) c.requires.within c.requires.there
    c.requires.some (c.deref.ensures.len ∙ c.in_ok-bring.ensures.length)
    (λ some. c.deref.ensures.value ∙
    c.in_ok-bring.ensures.kept told (subst (λ xs. 0 < length xs) c.deref.ensures.value some) ∙
    ap (λ k. piece_of size k bytes) c.in_ok-bring.ensures.number)
    c.copy_from_slice.ensures.after
