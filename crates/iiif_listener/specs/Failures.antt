-- What a listener does that could not take a connection: accept(2) of POSIX names the causes.
use Rattle.std.specs.Prelude.{Bool, true, false, if◌then◌else◌}
use Rattle.std.specs.declared.io.ErrorKind.{ErrorKind}
use Rattle.std.specs.declared.io.ErrorKind.TheVariants as kinds
use Rattle.iiif_listener.specs.declared.retry.Retry.{Retry}
use Rattle.iiif_listener.specs.declared.retry.Retry.TheVariants.{AtOnce, Silent, Later, Never}

-- the socket doesn't listen, and won't: it is stopped, or never did
abbrev pub is_lasting : ErrorKind → Bool
is_lasting kinds.InvalidInput = true
is_lasting _ = false

-- the connection was gone before it was taken, or a signal came: the listener is as it was
abbrev pub is_passing : ErrorKind → Bool
is_passing kinds.ConnectionAborted = true
is_passing kinds.ConnectionReset = true
is_passing kinds.Interrupted = true
is_passing _ = false

-- nobody came for as long as is waited at a time: SO_RCVTIMEO of POSIX
abbrev pub is_silence : ErrorKind → Bool
is_silence kinds.WouldBlock = true
is_silence kinds.TimedOut = true
is_silence _ = false

-- what is done after a failure of this kind, however many came before it: where files, memory or the like run out, the listener
-- waits, and tries again
abbrev pub retry_after : ErrorKind → Retry
retry_after kind =
    if is_passing kind then AtOnce else (
    if is_silence kind then Silent else (
    if is_lasting kind then Never else Later))
