-- Messages of the worked examples: about the first tile of the image `a`.
use Rattle.std.specs.Prelude.{ℕ, List, [], ◌∷◌, ◌++◌}
use Rattle.iiif_examples.specs.Keys.{tile_bytes}

-- the ask for it: IGA1, group 1, the length of its key, 15, and the key
abbrev pub ask : List ℕ
ask = 73 ∷ 71 ∷ 65 ∷ 49 ∷ 1 ∷ 0 ∷ 0 ∷ 0 ∷ 15 ∷ tile_bytes

-- IGR1, the length of its key, and the key: what every reply for it begins with
abbrev pub reply_front : List ℕ
reply_front = 73 ∷ 71 ∷ 82 ∷ 49 ∷ 0 ∷ 0 ∷ 0 ∷ 15 ∷ tile_bytes

-- SHA-256 of the key and 1, 2, 3, as Python's hashlib gives it
abbrev pub digest : List ℕ
digest =
    156 ∷ 185 ∷ 95 ∷ 94 ∷ 213 ∷ 109 ∷ 250 ∷ 1 ∷ 128 ∷ 51 ∷ 34 ∷ 79 ∷ 103 ∷ 194 ∷ 144 ∷ 139
    ∷ 254 ∷ 182 ∷ 62 ∷ 44 ∷ 201 ∷ 214 ∷ 149 ∷ 191 ∷ 55 ∷ 152 ∷ 253 ∷ 56 ∷ 120 ∷ 206 ∷ 251 ∷ 113 ∷ []

-- the reply with the value 1, 2, 3: status 0, the value's length, the value, the digest
abbrev pub reply : List ℕ
reply = reply_front ++ 0 ∷ 0 ∷ 0 ∷ 0 ∷ 3 ∷ 1 ∷ 2 ∷ 3 ∷ digest
