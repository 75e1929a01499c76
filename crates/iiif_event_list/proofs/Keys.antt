-- Keys behind keys.
use Rattle.std.proofs.Common.{◌≡◌, ◌+◌, ◌++◌, append_assoc, ℕ, List, [], ◌∷◌, drop, length, ◌≤◌, refl, ap, sym, subst}
use Rattle.std.proofs.lemmas.List.{drop-drop, drop_all}
use Rattle.iiif_machine.specs.declared.keys.Key.{Key}
use Rattle.iiif_event_list.specs.Spellings.{AddsKey, AreKeys, IsKey, LineWords, count_of}

-- the keys so far, and whatever keys the words from here on are, are those of all words
pub record KeysSoFar (ws : LineWords) (at : ℕ) (keys : List Key) : Type 0 where
  pub more : (others : List Key) → AreKeys (drop at ws) others → AreKeys ws (keys ++ others)

pub no_key_yet : (ws : LineWords) → KeysSoFar ws 0 []
no_key_yet ws = record { more = λ others are. are }

pub one_key_more : (ws part : LineWords) (at count m : ℕ) (keys next : List Key) → KeysSoFar ws at keys → AddsKey part keys next count →
    part ≡ drop at ws → m ≡ at + count
    → KeysSoFar ws m next
one_key_more ws part at count m keys next so_far adds rest behind = record {
  more = λ others are.
      let here : AreKeys (drop (at + count) ws) others = subst (λ n. AreKeys (drop n ws) others) behind are in
      let counted : AreKeys (drop (at + count_of adds.key) ws) others = subst (λ n. AreKeys (drop (at + n) ws) others) adds.counted here in
      let left : AreKeys (drop (count_of adds.key) (drop at ws)) others =
      subst (λ ys. AreKeys ys others) (sym (drop-drop (count_of adds.key) at ws)) counted in
      let first : IsKey (drop at ws) adds.key = subst (λ ys. IsKey ys adds.key) rest adds.spelled in
      let all : AreKeys ws (keys ++ (adds.key ∷ others)) = so_far.more (adds.key ∷ others) (first, left) in
      subst (λ ks. AreKeys ws (ks ++ others)) (sym adds.added) (subst (AreKeys ws) (sym (append_assoc keys (adds.key ∷ []) others)) all);
}

append_nothing : (keys : List Key) → keys ++ [] ≡ keys
append_nothing [] = refl
append_nothing (k ∷ ks) = ap (λ more. k ∷ more) (append_nothing ks)

pub all_keys : (ws : LineWords) (at : ℕ) (keys : List Key) → KeysSoFar ws at keys → length ws ≤ at → AreKeys ws keys
all_keys ws at keys so_far ended = subst (AreKeys ws) (append_nothing keys) (so_far.more [] (drop_all at ws ended))
