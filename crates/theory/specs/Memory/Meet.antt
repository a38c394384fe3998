-- Definitions: parents and depths of slots, the path from the root by slots, and the climb from two slots to the one where they meet.
-- Renders "the lowest common ancestor" of demand 3 by the depths in document 01's node words. Assumes nothing.
use Rattle.std.specs.Prelude.{false, true, List, [], ◌++◌, ◌∷◌, ◌≢◌, ◌≡◌, suc, zero, ℕ, eqb, ltb}

pub record Links : Type 0 where
  pub parent : ℕ → ℕ
  pub depth : ℕ → ℕ

-- a used slot: the root, or one below its parent
pub data Rooted (K : Links) : ℕ → Type 0 where
  is-root : {s : ℕ} → s ≡ 0 → K.depth s ≡ 0 → Rooted K s
  is_below : {s : ℕ} → K.depth s ≡ suc (K.depth (K.parent s)) → Rooted K (K.parent s) → Rooted K s

module _ (K : Links) where
  -- the slots from the root down to s, the root left out; d is s's depth
  unfoldable pub path : ℕ → ℕ → List ℕ
  path zero s = []
  path (suc d) s = path d (K.parent s) ++ (s ∷ [])

  abbrev pub path_to : ℕ → List ℕ
  path_to s = path (K.depth s) s

  pub record Legs : Type 0 where
    pub meet : ℕ
    pub out : List ℕ
    pub into : List ℕ

  abbrev pub add_out : Legs → ℕ → Legs
  add_out l s = record { meet = l.meet; out = l.out ++ (s ∷ []); into = l.into }

  abbrev pub add_into : Legs → ℕ → Legs
  add_into l t = record { meet = l.meet; out = l.out; into = l.into ++ (t ∷ []) }

  -- climb from the deeper of the two until they meet
  unfoldable pub legs : ℕ → ℕ → ℕ → Legs
  legs zero s t = record { meet = s; out = []; into = [] }
  legs (suc f) s t =
      elim (eqb s t) [
        | true ↦ record { meet = s; out = []; into = [] }
        | false ↦ elim (ltb (K.depth s) (K.depth t)) [ true ↦ add_into (legs f s (K.parent t)) t | false ↦ add_out (legs f (K.parent s) t) s ]
      ]

  pub record Splits (s t : ℕ) (l : Legs) : Type 0 where
    pub out : path_to s ≡ path_to l.meet ++ l.out
    pub into : path_to t ≡ path_to l.meet ++ l.into

  -- the meeting point is the lowest: where both legs go on, they go on differently
  unfoldable pub Parts : Legs → Type 0
  Parts l = (a b : ℕ) (p q : List ℕ) → l.out ≡ a ∷ p → l.into ≡ b ∷ q → a ≢ b
