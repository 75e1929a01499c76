-- The words of a step.
use Rattle.std.specs.Prelude.{ℕ, ◌==◌, ◌++◌, decimal, if◌then◌else◌, Bool, true, false, List, [], codes}
use Rattle.iiif_group.specs.declared.gate.Step.{Step}
use Rattle.iiif_group.specs.declared.gate.Step.TheVariants.{Hit, Joined, Led, Refused, Asked, Answered, Failed, Landed, Read}
use Rattle.iiif_group.specs.declared.gate.Step.TheVariants.{Unread, Served, Replied, Worker, Wanted, Ended, Cut}
use Rattle.iiif_group.specs.declared.gate.Ending.{Ending}
use Rattle.iiif_group.specs.declared.gate.Ending.TheVariants.{Value, Fault, NoMemory}

-- with what a flight landed, and whether that is kept
abbrev pub landing_words : Ending → Bool → List ℕ
landing_words Value true = codes "lands value kept"
landing_words Value false = codes "lands value dropped"
landing_words Fault true = codes "lands fault kept"
landing_words Fault false = codes "lands fault dropped"
landing_words NoMemory true = codes "lands memory kept"
landing_words NoMemory false = codes "lands memory dropped"

-- a read that failed, at this place, for this cause
abbrev pub unread_words : ℕ → ℕ → List ℕ
unread_words place cause = codes "fails " ++ decimal place ++ codes " " ++ decimal cause

-- whether an owner replies with a value, with its source's fault, or with neither
abbrev pub reply_words : ℕ → List ℕ
reply_words status =
    if status == 0 then codes "replies value" else if status == 1 then codes "replies fault" else codes "replies nothing"

-- the words of a step; nothing, where it has a line of another kind
abbrev pub step_words : Step → List ℕ
step_words Hit = codes "hit"
step_words Joined = codes "joins"
step_words Led = codes "leads"
step_words Refused = codes "refused"
step_words Asked = codes "asks"
step_words Answered = codes "answered"
step_words Failed = codes "failed"
step_words (Landed ending place kept) = landing_words ending kept
step_words Read = codes "reads"
step_words (Unread place cause) = []
step_words Served = codes "serves"
step_words (Replied status) = reply_words status
step_words (Worker other) = []
step_words Wanted = []
step_words (Ended status) = []
step_words Cut = []
