use Rattle.std.proofs.Common.{◌≡◌, subst, sym}
use Rattle.std.specs.Prelude.{IfOk}
use Rattle.iiif_keys.specs.Meaning.{tile_meaning}
use Rattle.iiif_keys.specs.Names.{Pictures}
use Rattle.iiif_keys.specs.Shapes.{HasPicture}
use Rattle.iiif_witnesses.proofs.StableLemmas.{tile_where_stable}
use Rattle.iiif_witnesses.proofs.other.OtherLinkLinkTileKey.ask.Goals as goal

pub ask-requires-clause-known : goal.ask-requires-clause-known
ask-requires-clause-known g c =
    subst (λ (p : Pictures). HasPicture p c.args.key.now.name c.args.shape.now) (sym c.args.self.now.same) c.requires.known

pub returns-clause-meant : goal.returns-clause-meant
returns-clause-meant g c stable honest =
    subst (λ (p : Pictures). IfOk c.ask.result (λ v. v ≡ tile_meaning p c.args.key.now)) c.args.self.now.same
    (tile_where_stable (g.I.System.stable c.args.key.now.name) c.ask.result (tile_meaning g.I.System.pictures c.args.key.now)
    (c.args.self.now.stable c.args.key.now.name stable) (λ here. c.ask.ensures.meant here (c.args.self.now.honest honest)))
