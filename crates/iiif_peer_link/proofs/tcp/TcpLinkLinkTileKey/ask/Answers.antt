use Rattle.std.proofs.Common.{subst, sym}
use Rattle.iiif_keys.specs.Bytes.{tile_key_bytes}
use Rattle.iiif_keys.specs.Meaning.{tile_meaning}
use Rattle.iiif_peer_versions.specs.Keys.{IsSpelled}
use Rattle.iiif_peer_versions.specs.Told.{told_by}
use Rattle.iiif_peer_link.proofs.tcp.TcpLinkLinkTileKey.ask.Goals as goal

pub returns-clause-meant : goal.returns-clause-meant
returns-clause-meant g c stable honest =
    let key = c.args.key.now in
    let sure = c.args.self.now.sure honest in
    let spelled = subst (IsSpelled (told_by c.args.self.now.versions) (tile_key_bytes key)) (sym c.as_slice.ensures.value)
    c.in-Some.ensures.spelled in
    c.ask_at-came.ensures (tile_meaning g.J.System.pictures key) sure.0
    (sure.1.0 key c.args.shape.now c.as_slice.result.now stable c.requires.known spelled)
