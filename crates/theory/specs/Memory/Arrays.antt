-- Definitions: a worker's array as a list of words, a trail installed and undone, the walk from the root over an empty array, and a move.
-- Renders "A move takes w to any used slot" and "Going to the parent takes N's trailed words out of w's array" of document 01. Assumes nothing.
use Rattle.std.specs.Prelude.{false, true, List, [], ◌∷◌, ◌⊎◌, ◌≡◌, ℕ, eqb, get_or, replicate, set}

pub record WordEntry : Type 0 where
  pub number : ℕ
  pub value : ℕ

abbrev pub Words : Type 0
Words = List ℕ

-- put the entries in, the first first
unfoldable pub install : List WordEntry → Words → Words
install [] a = a
install (e ∷ t) a = install t (set a e.number e.value)

-- the last first, as a climb from below does it
unfoldable pub install_up : List WordEntry → Words → Words
install_up [] a = a
install_up (e ∷ t) a = set (install_up t a) e.number e.value

-- take them out, the last first
unfoldable pub undo : List WordEntry → Words → Words
undo [] a = a
undo (e ∷ t) a = set (undo t a) e.number 0

-- number n stands in t
unfoldable pub OnTrail : ℕ → List WordEntry → Type 0
OnTrail n [] = ⊥
OnTrail n (e ∷ t) = (n ≡ e.number) ⊎ OnTrail n t

-- the numbers along a path are different
unfoldable pub TrailOnce : List WordEntry → Type 0
TrailOnce [] = Unit {0}
TrailOnce (e ∷ t) = (OnTrail e.number t → ⊥) × TrailOnce t

-- all of t's numbers are unbound in a
abbrev pub Clear : List WordEntry → Words → Type 0
Clear t a = (n : ℕ) → OnTrail n t → get_or a n 0 ≡ 0

-- the value that t has for n
unfoldable pub trail_value : List WordEntry → ℕ → ℕ
trail_value [] n = 0
trail_value (e ∷ t) n = elim (eqb n e.number) [ true ↦ e.value | false ↦ trail_value t n ]

abbrev pub zeros : ℕ → Words
zeros n = replicate n 0

-- the walk from the root over an empty array
unfoldable pub walk_words : ℕ → List WordEntry → Words
walk_words n t = install t (zeros n)

-- a move: out along x, in along y
unfoldable pub moved : List WordEntry → List WordEntry → Words → Words
moved x y a = install y (undo x a)
