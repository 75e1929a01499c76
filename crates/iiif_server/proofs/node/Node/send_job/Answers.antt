use Rattle.std.proofs.Common.{◌∙◌, ℕ, ◌<◌, ◌^◌, ◌++◌, length, take, ap, sym, subst, arith, length-append}
use Rattle.std.specs.Prelude.{IsTrue}
use Rattle.std.specs.Io.KnownBytes.{Appends}
use Rattle.iiif_pixel.specs.TurnPlaces.{turned_dim}
use Rattle.iiif_tiff_write.specs.File.{file, file_len, head_of}
use Rattle.iiif_canonical.specs.declared.resolved.Resolved.{Resolved}
use Rattle.iiif_tile_group.specs.Items.{item_of}
use Rattle.iiif_delivery.specs.Delivery.{result_dim}
use Rattle.iiif_server.specs.Nodes.{Service}
use Rattle.iiif_server.proofs.SendingLemmas.{fails, file_head_some, fits_channels, fits_depth, held_for, load_allowed, none_allowed}
use Rattle.iiif_server.proofs.SendingLemmas.{sent_for, whole_allowed, writer_allowed}
use Rattle.iiif_server.proofs.node.Node.send_job.Goals as goal

pub send_counted-requires-clause-sending : goal.send_counted-requires-clause-sending
send_counted-requires-clause-sending g c κs within =
    let item = item_of c.args.asked.now.entry.now in
    let a = c.args.asked.now.accepted.now in
    let of = c.requires.job in
    record {
      job = of.job;
      rows = c.band-rows.ensures.some;
      tiles = c.groups_serve_jobs.ensures.tiles;
      sums = c.groups_serve_jobs.ensures.sums;
      channels = fits_channels g.J.System.pictures g.J.System.gave g.J.System.stable g.J.System.edge g.S.Source.bytes g.S.Source.gave
          g.S.Source.keeps item a c.args.planned.now.job.now of c.requires.ready;
      depth = fits_depth g.J.System.pictures g.J.System.gave g.J.System.stable g.J.System.edge g.S.Source.bytes g.S.Source.gave
          g.S.Source.keeps item a c.args.planned.now.job.now of c.requires.ready;
      len = subst (λ (r : Resolved). file_len a.kind (turned_dim r.turn r.size) < 2 ^ 32) (sym of.resolved) c.requires.ready.len;
    }

pub returns-in-Ok : goal.returns-in-Ok
returns-in-Ok g c q p is kind =
    let item = item_of c.args.asked.now.entry.now in let a = c.args.asked.now.accepted.now in let j = c.args.planned.now.job.now in
    let part = c.args.asked.now.part in let head = c.args.planned.now.head.now in
    let kept : Type 0 = g.S.Source.keeps c.args.asked.now.entry.now.source × IsTrue g.J.System.honest in
    let s = c.args.self.now.settings in let of = c.requires.job in
    let made = c.in-Ok.ensures.whole g.J.System.pictures of.known of.source in
    let sent = sent_for g.J.System.pictures g.J.System.gave g.J.System.stable g.J.System.edge g.S.Source.bytes g.S.Source.gave
    g.S.Source.keeps g.J.System.honest item a j _ _ p made.0 of
    c.groups_serve_jobs.ensures.shown (λ k. c.picture_is_shown.ensures p k is) made.1 in
    let rows = c.band-rows.ensures.value ∙ ap (λ (n : Service g.row.S.Denot). n.settings.band) c.self.view_is in
    let held = held_for g.J.System.pictures g.J.System.gave g.J.System.stable g.J.System.edge g.S.Source.bytes g.S.Source.gave
    g.S.Source.keeps item a j p made.0 c.band-rows.result s.band
    c.in-Ok.delivered.held of is made.1.sides rows c.in-Ok.ensures.held in
    whole_allowed s part g.S.Source.gave kept item q a p
    head
    g.W.Write.contents g.W.Outlet.fails c.requires.loaded c.requires.ready.quarters kind c.requires.head
    made.0 c.args.out.now c.send_counted.new.out c.in-Ok.delivered.bytes c.in-Ok.delivered.held sent made.2 made.3 held

pub returns-in-Err-Writer : goal.returns-in-Err-Writer
returns-in-Err-Writer g c q p is kind =
    let item = item_of c.args.asked.now.entry.now in let a = c.args.asked.now.accepted.now in let j = c.args.planned.now.job.now in
    let part = c.args.asked.now.part in let head = c.args.planned.now.head.now in
    let kept : Type 0 = g.S.Source.keeps c.args.asked.now.entry.now.source × IsTrue g.J.System.honest in
    let s = c.args.self.now.settings in let of = c.requires.job in
    let made = (rw c.in-Err-Writer.field-0-is at c.in-Err-Writer.ensures.stopped) g.J.System.pictures of.known of.source in
    let sent = sent_for g.J.System.pictures g.J.System.gave g.J.System.stable g.J.System.edge g.S.Source.bytes g.S.Source.gave
    g.S.Source.keeps g.J.System.honest item a j _ _ p made.0 of
    c.groups_serve_jobs.ensures.shown (λ k. c.picture_is_shown.ensures p k is) made.1 in
    writer_allowed s part g.S.Source.gave kept item q a p
    head
    g.W.Write.contents g.W.Outlet.fails c.requires.loaded c.requires.ready.quarters kind c.requires.head
    made.0 c.args.out.now c.send_counted.new.out c.in-Err-Writer.sent sent made.2

pub returns-then-sent-eq0 : goal.returns-then-sent-eq0
returns-then-sent-eq0 g c q p is kind =
    let item = item_of c.args.asked.now.entry.now in let a = c.args.asked.now.accepted.now in let j = c.args.planned.now.job.now in
    let part = c.args.asked.now.part in let head = c.args.planned.now.head.now in
    let kept : Type 0 = g.S.Source.keeps c.args.asked.now.entry.now.source × IsTrue g.J.System.honest in
    let s = c.args.self.now.settings in let of = c.requires.job in
    let made = (rw c.in-Err-Load.field-0-is at c.in-Err-Load.ensures.stopped) g.J.System.pictures of.known of.source in
    let failed = fails g.J.System.pictures g.J.System.gave g.J.System.stable g.J.System.edge g.S.Source.bytes g.S.Source.gave
    g.S.Source.keeps item a j _ _ c.args.asked.now.accepted.now.kind _ _ c.in-Err-Load.sent
    c.in-Err-Load.fault of (rw c.in-Err-Load.field-0-is at c.in-Err-Load.ensures.fault) in
    let nothing = subst (λ (n : ℕ). Appends (g.W.Write.contents c.args.out.now) (g.W.Write.contents c.send_counted.new.out)
    (take n (head ++ file made.0 a.kind)))
    c.if-sent-eq0.true made.2.1 in
    none_allowed s part g.S.Source.gave kept item q a p
    head
    g.W.Write.contents g.W.Outlet.fails c.requires.loaded c.requires.ready.quarters kind c.requires.head
    c.args.out.now c.send_counted.new.out c.send_fault.new.out c.in-Err-Load.fault c.send_fault.result nothing failed c.send_fault.ensures

pub returns-else-sent-eq0 : goal.returns-else-sent-eq0
returns-else-sent-eq0 g c q p is kind =
    let item = item_of c.args.asked.now.entry.now in let a = c.args.asked.now.accepted.now in let j = c.args.planned.now.job.now in
    let part = c.args.asked.now.part in let head = c.args.planned.now.head.now in
    let kept : Type 0 = g.S.Source.keeps c.args.asked.now.entry.now.source × IsTrue g.J.System.honest in
    let s = c.args.self.now.settings in let of = c.requires.job in
    let made = (rw c.in-Err-Load.field-0-is at c.in-Err-Load.ensures.stopped) g.J.System.pictures of.known of.source in
    let failed = fails g.J.System.pictures g.J.System.gave g.J.System.stable g.J.System.edge g.S.Source.bytes g.S.Source.gave
    g.S.Source.keeps item a j _ _ c.args.asked.now.accepted.now.kind _ _ c.in-Err-Load.sent
    c.in-Err-Load.fault of (rw c.in-Err-Load.field-0-is at c.in-Err-Load.ensures.fault) in
    let sent = sent_for g.J.System.pictures g.J.System.gave g.J.System.stable g.J.System.edge g.S.Source.bytes g.S.Source.gave
    g.S.Source.keeps g.J.System.honest item a j _ _ p made.0 of
    c.groups_serve_jobs.ensures.shown (λ k. c.picture_is_shown.ensures p k is) made.1 in
    let front = length (head ++ head_of a.kind (result_dim j)) in
    load_allowed s part g.S.Source.gave kept item q a p
    head
    g.W.Write.contents g.W.Outlet.fails c.requires.loaded c.requires.ready.quarters kind c.requires.head
    made.0 c.args.out.now c.send_counted.new.out c.in-Err-Load.sent front c.in-Err-Load.fault sent made.2.0 made.2.1
    (omega (arith, c.if-sent-eq0.false))
    (omega (
      arith,
      length-append head (head_of a.kind (result_dim j)),
      file_head_some a.kind (result_dim j),
    )) made.2.2 failed
