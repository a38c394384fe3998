-- Definitions: the goals of a used slot as its stored spot (frame and goal index) spells them, and the climb to the next goal.
-- Renders "the next goal is found by climbing from frame to parent frame" of document 01. Assumes nothing.
use Rattle.std.specs.Prelude.{false, true, List, [], ◌++◌, ◌≢◌, ◌≡◌, ◌<◌, suc, zero, ℕ, eqb, ltb, drop, length}
use Rattle.std.proofs.Math.Option.{Option, none, some}
use Rattle.theory.specs.Memory.Fit.{Spot}

-- what the climb reads of a slot; own: its clause's goals with its base
pub record Info (G : Type 0) : Type 0 where
  pub parent : ℕ
  pub own : List G
  pub spot : Option Spot

module _ (G : Type 0) where
  abbrev pub Infos : Type 0
  Infos = ℕ → Option (Info G)

  -- gs are the goals from place i of f's clause on; d bounds the climb; On: the slots that may be read
  pub data Spells (X : Infos) (On : ℕ → Type 0) : ℕ → List G → ℕ → ℕ → Type 0 where
    at-root : {d : ℕ} {gs : List G} {f i : ℕ} (v : Info G) → On f → X f ≡ some v → f ≡ 0 → gs ≡ drop i v.own → Spells X On d gs f i
    at-child : {d : ℕ} {gs : List G} {f i : ℕ} (v u : Info G) (p : Spot) (rest : List G) → On f → X f ≡ some v → f ≢ 0 → On v.parent → X v.parent ≡ some u
        → u.spot ≡ some p
        → gs ≡ drop i v.own ++ rest → Spells X On d rest p.frame (suc p.index) → Spells X On (suc d) gs f i

  -- the climb by stored spots: i is past the clause's goals, so go on after the parent's first goal
  unfoldable pub spot_after : Option (Info G) → Option Spot
  spot_after none = none
  spot_after (some u) = u.spot

  -- climb d: with f's info and the way on
  unfoldable pub climb : ℕ → Infos → ℕ → ℕ → Option Spot
  climb zero X f i = elim (X f) [ none ↦ none | some v ↦ elim (ltb i (length v.own)) [ true ↦ some (record { frame = f; index = i }) | false ↦ none ] ]
  climb (suc d) X f i =
      elim (X f) [
        | none ↦ none
        | some v ↦
            elim (ltb i (length v.own)) [
              | true ↦ some (record { frame = f; index = i })
              | false ↦ elim (eqb f 0) [ true ↦ none | false ↦ elim (spot_after (X v.parent)) [ none ↦ none | some p ↦ climb d X p.frame (suc p.index) ] ]
            ]
      ]

  -- what the climb answers: no goal, or the spot of the first
  pub data Stands (X : Infos) (On : ℕ → Type 0) (gs : List G) : Option Spot → Type 0 where
    no-goal : gs ≡ [] → Stands X On gs none
    a-goal : {p : Spot} (d : ℕ) (v : Info G) → X p.frame ≡ some v → p.index < length v.own → Spells X On d gs p.frame p.index → Stands X On gs (some p)
