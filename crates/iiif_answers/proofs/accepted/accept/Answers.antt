use Rattle.std.proofs.Common.{arith}
use Rattle.std.proofs.lemmas.Result.{err_from_is_err_and}
use Rattle.iiif_request.specs.Words.{texts}
use Rattle.iiif_tiff.specs.Tiff.{white_of}
use Rattle.iiif_tiff_read.specs.Layouts as layouts
use Rattle.iiif_tile_group.specs.Items.{item_of}
use Rattle.iiif_answers.proofs.OutcomeLemmas.{comes, refused_comes, refused_exit, quality_is, channels_fit, file_fits, lies_in_layout}
use Rattle.iiif_answers.proofs.OutcomeLemmas.{sizes_within, top_fits}
use Rattle.iiif_answers.proofs.accepted.accept.Goals as goal

pub returns-clause-accepts : goal.returns-clause-accepts
returns-clause-accepts g c =
    comes g.S.Source.bytes g.S.Source.keeps (item_of c.args.entry.now) c.args.limits.now (texts c.args.words.now) c.in_ok-request.request
    c.canonical.result c.dim-dim.result
    c.kind-kind.result c.depth.result c.in_ok-resolved.resolved c.for_quality.result
    (record {
      one = c.shows_one_picture.ensures;
      small = c.len-len.ensures.bytes;
      accepted = c.args.entry.now.accepted;
      same =
          c.args.entry.now.shown;
    })
    c.in_ok-request.ensures.says c.dim-dim.ensures.width c.dim-dim.ensures.height c.kind-kind.ensures c.depth.ensures
    c.in_ok-resolved.ensures.same_image
    c.in_ok-resolved.ensures.value c.canonical.ensures.value
    (c.canonical.ensures.spelled (record {
      image = (omega (arith, c.dim-dim.ensures.limits.width_most), omega (arith, c.dim-dim.ensures.limits.height_most));
      limits = λ _. (omega (arith, c.requires.limits.width), omega (arith, c.requires.limits.height));
    }))
    c.for_quality.ensures.kind

pub returns-in_err-resolved-clause-accepts : goal.returns-in_err-resolved-clause-accepts
returns-in_err-resolved-clause-accepts g c =
    let left = err_from_is_err_and c.from_residual-in_err-resolved.result c.from_residual-in_err-resolved.ensures.1 in
    let item = item_of c.args.entry.now in
    let refused = refused_comes g.S.Source.bytes g.S.Source.keeps item c.args.limits.now (texts c.args.words.now) c.in_ok-request.request
    c.dim-dim.result c.kind-kind.result _
    (record {
      one = c.shows_one_picture.ensures;
      small = c.len-len.ensures.bytes;
      accepted = c.args.entry.now.accepted;
      same =
          c.args.entry.now.shown;
    })
    c.in_ok-request.ensures.says c.dim-dim.ensures.width c.dim-dim.ensures.height c.kind-kind.ensures c.in_err-resolved.ensures.same_image
    in
    refused_exit g.S.Source.bytes g.S.Source.keeps item c.args.limits.now (texts c.args.words.now) c.from_residual-in_err-resolved.result
    left.0 _ left.1 left.2 refused

pub returns-clause-ready : goal.returns-clause-ready
returns-clause-ready g c =
    let resolved = c.in_ok-resolved.ensures.resolved in
    let plain = quality_is c.in_ok-request.request c.dim-dim.result c.kind-kind.result c.args.limits.now c.in_ok-resolved.resolved
    c.in_ok-resolved.ensures.value in
    record {
      inside = lies_in_layout c.in_ok-resolved.resolved.rect c.dim-dim.result (layouts.dim_of c.args.entry.now.layout)
          c.dim-dim.ensures.width c.dim-dim.ensures.height resolved.inside;
      sizes = sizes_within c.in_ok-resolved.resolved c.dim-dim.result c.kind-kind.result c.args.limits.now resolved
          c.dim-dim.ensures.limits;
      quarters = resolved.quarters;
      channels = channels_fit c.kind-kind.result c.depth.result c.in_ok-request.request.quality c.in_ok-resolved.resolved.quality
          c.args.entry.now.layout.channels c.for_quality.result plain
          c.kind-kind.ensures c.for_quality.ensures.kind;
      top = top_fits c.kind-kind.result c.depth.result c.in_ok-request.request.quality c.in_ok-resolved.resolved.quality
          (white_of c.args.entry.now.layout.bits) c.for_quality.result plain
          c.depth.ensures c.for_quality.ensures.kind;
      len = file_fits c.lengths_fit.ensures.in_32_bits c.for_quality.result c.in_ok-resolved.resolved.turn c.in_ok-resolved.resolved.size
          c.args.limits.now
          resolved.within_limits c.requires.limits.width.1 c.requires.limits.height.1;
      short = c.canonical.ensures.short;
    }
