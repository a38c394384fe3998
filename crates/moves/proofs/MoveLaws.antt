-- One turn of the climb to the common ancestor and of a leg, how many entries a leg passes, and a move of its legs. Assumes nothing.
use Rattle.std.proofs.Common.{◌≡◌, refl, sym, ap, ap₂, ◌∙◌, subst, Bool, true, false, List, ◌++◌, ℕ, zero, suc, ◌+◌, ◌*◌, ◌-◌, ◌≤◌, ◌<◌, arith, eqb, get_or, set, take, drop, eq-eqb, ne_eqb, lt-ltb, le-ltb}
use Rattle.model.specs.Memory.{memory, parent, depth, entries, cell_of, with_array}
use Rattle.model.specs.Steps.{undone}
use Rattle.model.specs.Moves.{meeting, common_ancestor, Leg, leg, installed, climbed, legs, moved, move}
use Rattle.memory.proofs.FieldBounds.{entries-lt}

-- the climb after so many of its turns
module _ (nodes : List ℕ) (most : ℕ) where
  abbrev pub meeting_after : ℕ → ℕ → ℕ → ℕ
  meeting_after turns slot other = meeting (most - turns) nodes slot other

  pub meeting-end : (turns slot other : ℕ) → most ≤ turns → slot ≡ meeting_after turns slot other
  unfolding meeting
  meeting-end turns slot other h = let none : most - turns ≡ 0 = omega arith in rw none refl

  module _ (turns slot other : ℕ) (h : turns < most) where
    left : most - turns ≡ suc (most - (turns + 1))
    left = omega arith

    pub meeting-met : slot ≡ other → slot ≡ meeting_after turns slot other
    unfolding meeting
    meeting-met e = rw (left, eq-eqb slot other e, meeting) refl

    pub meeting-other : (slot ≡ other → ⊥) → depth nodes slot < depth nodes other → meeting_after (turns + 1) slot (parent nodes other) ≡ meeting_after turns slot other
    unfolding meeting
    meeting-other e d = rw (left, ne_eqb slot other e, lt-ltb (depth nodes slot) (depth nodes other) d, meeting) refl

    pub meeting-slot : (slot ≡ other → ⊥) → depth nodes other ≤ depth nodes slot → meeting_after (turns + 1) (parent nodes slot) other ≡ meeting_after turns slot other
    unfolding meeting
    meeting-slot e d = rw (left, ne_eqb slot other e, le-ltb (depth nodes slot) (depth nodes other) d, meeting) refl

module _ (change : ℕ → List ℕ → ℕ → List ℕ → List ℕ) (nodes trail : List ℕ) (ancestor : ℕ) where
  climbed-passed : (left slot : ℕ) (array : List ℕ) (passed : ℕ) → (climbed change left nodes trail ancestor slot array passed).passed ≤ passed + 16 * left
  unfolding climbed
  climbed-passed zero slot array passed = omega arith
  climbed-passed (suc left) slot array passed =
      go (eqb slot ancestor) refl (climbed-passed left (parent nodes slot) (change (entries nodes slot) trail (cell_of slot 0) array) (passed + entries nodes slot))
    where
      go : (t : Bool) → eqb slot ancestor ≡ t
          → (climbed change left nodes trail ancestor (parent nodes slot) (change (entries nodes slot) trail (cell_of slot 0) array) (passed + entries nodes slot)).passed ≤ passed + entries nodes slot + 16 * left
          → (climbed change (suc left) nodes trail ancestor slot array passed).passed ≤ passed + 16 * suc left
      go true q h = rw (q, climbed) (omega arith)
      go false q h = rw (q, climbed) (omega (arith, entries-lt nodes slot, h))

-- a leg's count, as a climb answers it
pub leg-passed : (change : ℕ → List ℕ → ℕ → List ℕ → List ℕ) (nodes trail : List ℕ) (ancestor most slot : ℕ) (array : List ℕ) (before : ℕ) (after : List ℕ) (passed : ℕ)
    → leg after passed ≡ climbed change most nodes trail ancestor slot array before → passed ≤ before + 16 * most
leg-passed change nodes trail ancestor most slot array before after passed e =
    subst (λ (l : Leg). l.passed ≤ before + 16 * most) (sym e) (climbed-passed change nodes trail ancestor most slot array before)

-- the second leg after the first
pub legs-of : (nodes trail : List ℕ) (here target : ℕ) (array : List ℕ) (ancestor above below : ℕ) (up : List ℕ) (passed : ℕ)
    → ancestor ≡ common_ancestor nodes here target → above ≡ depth nodes here → below ≡ depth nodes target
    → leg up passed ≡ climbed undone above nodes trail ancestor here array 0
    → climbed installed below nodes trail ancestor target up passed ≡ legs nodes trail here target array
unfolding legs
legs-of nodes trail here target array ancestor above below up passed ea eu eb e =
    ap (λ (l : Leg). climbed installed below nodes trail ancestor target l.array l.passed) e
    ∙ ap₂ (λ (a b : ℕ). down a above b) ea eb ∙ ap (λ (a : ℕ). down (common_ancestor nodes here target) a (depth nodes target)) eu
  where
    down : ℕ → ℕ → ℕ → Leg
    down ancestor above below =
        climbed installed below nodes trail ancestor target (climbed undone above nodes trail ancestor here array 0).array (climbed undone above nodes trail ancestor here array 0).passed

-- the worker's own part of the arrays, moved and put back
pub moved_by : (nodes cells trail arrays workers : List ℕ) (worker target here k : ℕ) (array : List ℕ) (passed : ℕ) (after : List ℕ)
    → k ≡ 2048 → here ≡ get_or workers worker 0 → leg array passed ≡ legs nodes trail here target (take k (drop (2048 * worker) arrays)) → after ≡ set workers worker target
    → moved passed (memory nodes cells trail (take (2048 * worker) arrays ++ (array ++ drop k (drop (2048 * worker) arrays))) after) ≡ move (memory nodes cells trail arrays workers) worker target
unfolding move
moved_by nodes cells trail arrays workers worker target here k array passed after ek eh e ew =
    ap₂ (λ (n : ℕ) (ws : List ℕ). moved passed (memory nodes cells trail (take (2048 * worker) arrays ++ (array ++ drop n (drop (2048 * worker) arrays))) ws)) ek ew
    ∙ ap (λ (l : Leg). moved l.passed (memory nodes cells trail (with_array arrays worker l.array) (set workers worker target)))
    (e ∙ ap₂ (λ (h n : ℕ). legs nodes trail h target (take n (drop (2048 * worker) arrays))) eh ek)
