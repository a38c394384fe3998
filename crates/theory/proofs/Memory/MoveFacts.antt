-- A move gives the array that a walk from the root to its target over an empty array gives, and changes no word but those trailed below the meeting point.
-- Serves demand 3. Assumes nothing.
use Rattle.std.specs.Prelude.{List, [], ◌++◌, ◌∷◌, ◌≡◌, refl, ◌+◌, ◌<◌, ℕ, get_or}
use Rattle.std.proofs.Common.{append_assoc, ◌∙◌, sym}
use Rattle.std.proofs.Math.Path.{ap}
use Rattle.theory.proofs.Memory.ArrayFacts.{moved-elsewhere, moved-walk_words}
use Rattle.theory.specs.Memory.Arrays.{OnTrail, TrailOnce, WordEntry, Words, moved, walk_words}
use Rattle.theory.specs.Memory.Meet.{Links, Rooted, Splits, legs, path_to}
use Rattle.theory.proofs.Memory.MeetFacts.{legs-split}
use Rattle.theory.specs.Memory.Moves.{entries_into, entries_out, move_words, trails_along}

pub trails_along-append : (trail : ℕ → List WordEntry) (p r : List ℕ) → trails_along trail (p ++ r) ≡ trails_along trail p ++ trails_along trail r
unfolding trails_along
trails_along-append trail [] r = refl
trails_along-append trail (s ∷ p) r = ap (λ (l : List WordEntry). trail s ++ l) (trails_along-append trail p r) ∙ sym (append_assoc (trail s) (trails_along trail p) (trails_along trail r))

module _ (K : Links) (trail : ℕ → List WordEntry) (f s t : ℕ) where
  -- n words; the numbers trailed on the path to s are different
  pub move_words-walk : Rooted K s → Rooted K t → K.depth s + K.depth t < f → (n : ℕ) → TrailOnce (trails_along trail (path_to K s))
      → move_words K trail f s t (walk_words n (trails_along trail (path_to K s))) ≡ walk_words n (trails_along trail (path_to K t))
  unfolding move_words
  move_words-walk us ut h n once = go (legs-split K f s t us ut h)
    where
      go : Splits K s t (legs K f s t)
          → moved (entries_out K trail f s t) (entries_into K trail f s t) (walk_words n (trails_along trail (path_to K s))) ≡ walk_words n (trails_along trail (path_to K t))
      go l =
          let from = ap (trails_along trail) l.out ∙ trails_along-append trail (path_to K (legs K f s t).meet) (legs K f s t).out in
          let to = ap (trails_along trail) l.into ∙ trails_along-append trail (path_to K (legs K f s t).meet) (legs K f s t).into in
          rw (from, to) (moved-walk_words n (trails_along trail (path_to K (legs K f s t).meet)) (entries_out K trail f s t) (entries_into K trail f s t) (rw from at once))

  pub move_words-elsewhere : (a : Words) (n : ℕ) → (OnTrail n (entries_out K trail f s t) → ⊥) → (OnTrail n (entries_into K trail f s t) → ⊥)
      → get_or (move_words K trail f s t a) n 0 ≡ get_or a n 0
  unfolding move_words
  move_words-elsewhere a n o i = moved-elsewhere (entries_out K trail f s t) (entries_into K trail f s t) a n o i
