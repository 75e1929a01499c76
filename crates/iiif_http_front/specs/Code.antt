-- Notions of private functions.
--   Finds bytes result              the result of the search for a call at the front of the bytes
--   IsOpen bytes                    the buffer holds no whole head and no line that is refused, and isn't full
--   EndsWith bytes fault result     the fault where no more bytes come
use Rattle.std.specs.Prelude.{◌≡◌, ℕ, ◌<◌, ◌≤◌, ◌⊎◌, List, length, drop, Result, Ok, Err}
use Rattle.httparse.specs.Grammar.{RequestHead, HasNoRequest, MayBecomeRequest}
use Rattle.iiif_http_front.specs.RequestHeads.{BeginsWithCall}
use Rattle.iiif_http_front.specs.Reading.{IsCallOf, IsBad, HasFewFields, HasNoRefusal}
use Rattle.iiif_http_front.specs.declared.head_fault.HeadFault.{HeadFault}
use Rattle.iiif_http_front.specs.declared.head_fault.HeadFault.TheVariants.{Bad, TooLong, Cut, Io, NoMemory}
use Rattle.iiif_http_front.specs.declared.search.Found.{Found}
use Rattle.iiif_http_front.specs.declared.search.Found.TheVariants.{Whole, Partial}

-- the result of the search at the front of the bytes that came
abbrev pub Finds : List ℕ → Result Found HeadFault → Type 0
Finds bytes (Ok (Whole call n)) =
    (n ≤ length bytes) × ((h : RequestHead) × BeginsWithCall bytes h (drop n bytes) × IsCallOf call h)
Finds bytes (Ok Partial) = HasNoRequest bytes × MayBecomeRequest bytes × HasFewFields bytes
Finds bytes (Err Bad) = IsBad bytes
Finds bytes (Err NoMemory) = (h : RequestHead) × (rest : List ℕ) × BeginsWithCall bytes h rest
Finds bytes (Err TooLong) = ⊥
Finds bytes (Err Cut) = ⊥
Finds bytes (Err Io) = ⊥

-- no head is whole, no line is refused, and the buffer has room for more
pub record IsOpen (bytes : List ℕ) : Type 0 where
  pub not_whole : HasNoRequest bytes
  pub not_refused : HasNoRefusal bytes
  pub short : length bytes < 8192

-- the fault where nothing follows the bytes: that of malformed bytes, or the given one where a head may have begun
abbrev pub EndsWith : List ℕ → HeadFault → HeadFault → Type 0
EndsWith bytes fault result = Finds bytes (Err result) ⊎ ((result ≡ fault) × Finds bytes (Ok Partial))
