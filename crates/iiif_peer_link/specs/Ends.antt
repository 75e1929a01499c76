-- How an ask ended, as the link takes it in.
use Rattle.std.specs.Prelude.{Bool, Option, Some, None, Result, Ok, Err, if◌then◌else◌}
use Rattle.iiif_breaker.specs.declared.outcome.Outcome.{Outcome}
use Rattle.iiif_breaker.specs.declared.outcome.Outcome.TheVariants.{Answered, Refused as Refuses, Failed, TimedOut}
use Rattle.iiif_peer_wire.specs.declared.fault.WireFault.TheVariants.{Magic, Short, Long, Key, Digest, Status, Io, NoMemory}
use Rattle.iiif_group.specs.declared.link.LinkFault.{LinkFault}
use Rattle.iiif_group.specs.declared.link.LinkFault.TheVariants.{Wire, Refused, Value}

-- a fault of the node: it came too late where its time was over
abbrev pub faulty : Bool → Option Outcome
faulty late = if late then Some TimedOut else Some Failed

-- A node that refuses is there, and answers. Lack of memory here says nothing of the node.
abbrev pub fault_end : LinkFault → Bool → Option Outcome
fault_end (Refused status) late = Some Refuses
fault_end Value late = faulty late
fault_end (Wire NoMemory) late = None
fault_end (Wire Magic) late = faulty late
fault_end (Wire Short) late = faulty late
fault_end (Wire Long) late = faulty late
fault_end (Wire Key) late = faulty late
fault_end (Wire Digest) late = faulty late
fault_end (Wire Status) late = faulty late
fault_end (Wire Io) late = faulty late

abbrev pub ask_end : {V : Type 0} → Result V LinkFault → Bool → Option Outcome
ask_end (Ok value) late = Some Answered
ask_end (Err fault) late = fault_end fault late
