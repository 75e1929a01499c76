use Rattle.std.proofs.Common.{◌≡◌, length, take, take_all, length-take-le, rules, sym, ◌∙◌, subst, arith, Some, None}
use Rattle.std.specs.Io.KnownBytes.{Consumes}
use Rattle.iiif_peer_wire.specs.Reading.{ask_at, ask_version_of}
use Rattle.iiif_peer_wire.proofs.Parts.{version_spelled}
use Rattle.iiif_peer_wire.proofs.Taken.{unread_magic, unread_short}
use Rattle.iiif_peer_wire.proofs.fields.read_ask_magic.Goals as goal
use Rattle.iiif_peer_wire.proofs.Whole.{ask_at-cut, ask_at-other}
use Rattle.iiif_peer_wire.proofs.Broken.{LeavesNoAsk, magic_unfinished}
use Rattle.iiif_peer_wire.proofs.Taken.{exit_fault}

pub returns-then-came-lt4-clause-unread : goal.returns-then-came-lt4-clause-unread
returns-then-came-lt4-clause-unread g c =
    let came = c.in_ok-came.came in
    let read = take came c.fill.new.buffer in
    let size : length read ≡ came = length-take-le came c.fill.new.buffer c.in_ok-came.ensures.within in
    unread_short g.I.Read.remaining g.I.Inlet.fails c.args.reader.now c.fill.new.reader ask_at read c.in_ok-came.ensures.bytes
    (c.in_ok-came.ensures.end (search rules))
    (ask_at-cut read (omega (arith, size)) (omega (arith, size)))

pub returns-in-None-clause-unread : goal.returns-in-None-clause-unread
returns-in-None-clause-unread g c =
    let bytes = c.fill.new.buffer in
    let full : length bytes ≡ 4 = search rules in
    let all : take c.in_ok-came.came bytes ≡ bytes = take_all c.in_ok-came.came bytes (omega (arith, full)) in
    let took : Consumes (g.I.Read.remaining c.args.reader.now) (g.I.Read.remaining c.fill.new.reader) bytes =
    subst (Consumes (g.I.Read.remaining c.args.reader.now) (g.I.Read.remaining c.fill.new.reader)) all c.in_ok-came.ensures.bytes in
    let none : ask_version_of bytes ≡ None = sym c.ask_version.ensures ∙ c.in-None.is in
    unread_magic g.I.Read.remaining g.I.Inlet.fails c.args.reader.now c.fill.new.reader ask_at bytes took
    (λ rest. ask_at-other bytes rest full none)

pub returns-in-Some-clause-whole : goal.returns-in-Some-clause-whole
returns-in-Some-clause-whole g c =
    let bytes = c.fill.new.buffer in
    let full : length bytes ≡ 4 = search rules in
    let all : take c.in_ok-came.came bytes ≡ bytes = take_all c.in_ok-came.came bytes (omega (arith, full)) in
    let named : ask_version_of bytes ≡ Some c.in-Some.version = sym c.ask_version.ensures ∙ c.in-Some.is in
    subst (Consumes (g.I.Read.remaining c.args.reader.now) (g.I.Read.remaining c.fill.new.reader))
    (all ∙ version_spelled bytes c.in-Some.version named) c.in_ok-came.ensures.bytes

pub returns-in_err-came-clause-unfinished : goal.returns-in_err-came-clause-unfinished
returns-in_err-came-clause-unfinished g c =
    let old = g.I.Read.remaining c.args.reader.now in
    let new = g.I.Read.remaining c.fill.new.reader in
    let fault = c.in_err-came.field-0.0 in
    let rest = c.in_err-came.ensures.unfinished in
    exit_fault c.from_residual.result (LeavesNoAsk old new) fault c.from_residual.ensures.1
    (magic_unfinished old new fault rest.0 rest.1 (search rules))
