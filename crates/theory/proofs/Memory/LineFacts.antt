-- Facts of lines of frames: numbers rise along a line, one frame more keeps that, and no number has two cells on a line.
-- Serves "A variable number is never a cell address" of document 01. Assumes nothing.
use mathlib.Core.List.Memᴰ
use mathlib.Core.List.{List, Memᴰ, [], ◌++◌, ◌∷◌}
use Rattle.std.specs.Prelude.{◌⊎◌, ◌≡◌, refl, ◌%◌, ◌+◌, ◌<◌, ◌≤◌, ℕ}
use Rattle.std.proofs.Common.{inl, inr, ◌∙◌, ap, sym, arith}
use Rattle.theory.specs.Memory.Lines.{Chain, Frame, Numbered, line_end, place_on}
use Rattle.theory.specs.Memory.Represents.{OneCell}

-- bases do not fall along a chain
pub chain-low : (b : ℕ) (l : List Frame) → Chain b l → (f : Frame) → Memᴰ f l → b ≤ f.base
unfolding Chain
chain-low b [] c f m = absurd (Memᴰ.not-nil m)
chain-low b (g ∷ l) (e, v, c) f m = go (Memᴰ.cases_cons m) (chain-low (b + g.variables) l c f)
  where
    go : (f ≡ g) ⊎ Memᴰ f l → (Memᴰ f l → b + g.variables ≤ f.base) → b ≤ f.base
    go (inl q) ih = rw q (omega arith)
    go (inr k) ih = omega (arith, ih k)

-- two frames with a common number are one
pub chain-one : (b : ℕ) (l : List Frame) → Chain b l → (f g : Frame) (i j : ℕ) → Memᴰ f l → Memᴰ g l → i < f.variables → j < g.variables
    → f.base + i ≡ g.base + j → f ≡ g
unfolding Chain
chain-one b [] c f g i j m k p q e = absurd (Memᴰ.not-nil m)
chain-one b (h ∷ l) (z, v, c) f g i j m k p q e = go (Memᴰ.cases_cons m) (Memᴰ.cases_cons k) (chain-one (b + h.variables) l c f g i j)
  where
    go : (f ≡ h) ⊎ Memᴰ f l → (g ≡ h) ⊎ Memᴰ g l → (Memᴰ f l → Memᴰ g l → i < f.variables → j < g.variables → f.base + i ≡ g.base + j → f ≡ g)
        → f ≡ g
    go (inl x) (inl y) ih = x ∙ sym y
    go (inl x) (inr y) ih =
        let low = chain-low (b + h.variables) l c g y in
        absurd (omega (arith, ap (λ (r : Frame). r.base) x, ap (λ (r : Frame). r.variables) x))
    go (inr x) (inl y) ih =
        let low = chain-low (b + h.variables) l c f x in
        absurd (omega (arith, ap (λ (r : Frame). r.base) y, ap (λ (r : Frame). r.variables) y))
    go (inr x) (inr y) ih = ih x y p q e

pub line-one_cell : (l : List Frame) (number : ℕ → ℕ) → Chain 0 l → Numbered l number → OneCell (place_on l number)
unfolding Numbered
line-one_cell l number c p a b o q e =
    let x = sym (p a o) ∙ e ∙ p b q in
    let f = chain-one 0 l c o.frame q.frame (a % 32) (b % 32) o.among q.among o.low q.low x in
    let s = o.slot ∙ ap (λ (r : Frame). r.slot) f ∙ sym q.slot in
    let t = ap (λ (r : Frame). r.base) f in
    omega arith

pub chain_snoc : (b : ℕ) (l : List Frame) (f : Frame) → Chain b l → f.base ≡ line_end b l → f.variables ≤ 32 → Chain b (l ++ (f ∷ []))
unfolding Chain line_end
chain_snoc b [] f c e v = (e, v, tt)
chain_snoc b (g ∷ l) f (x, y, c) e v = (x, y, chain_snoc (b + g.variables) l f c e v)

pub line_end-snoc : (b : ℕ) (l : List Frame) (f : Frame) → line_end b (l ++ (f ∷ [])) ≡ line_end b l + f.variables
unfolding line_end
line_end-snoc b [] f = refl
line_end-snoc b (g ∷ l) f = line_end-snoc (b + g.variables) l f

pub chain-high : (b : ℕ) (l : List Frame) → Chain b l → (f : Frame) → Memᴰ f l → f.base + f.variables ≤ line_end b l
unfolding Chain line_end
chain-high b [] c f m = absurd (Memᴰ.not-nil m)
chain-high b (g ∷ l) (e, v, c) f m = go (Memᴰ.cases_cons m) (chain-high (b + g.variables) l c f) (up (b + g.variables) l)
  where
    up : (b : ℕ) (l : List Frame) → b ≤ line_end b l
    up b [] = omega arith
    up b (g ∷ l) = let h = up (b + g.variables) l in omega arith

    go : (f ≡ g) ⊎ Memᴰ f l → (Memᴰ f l → f.base + f.variables ≤ line_end (b + g.variables) l) → b + g.variables ≤ line_end (b + g.variables) l
        → f.base + f.variables ≤ line_end (b + g.variables) l
    go (inl q) ih u = rw q (omega arith)
    go (inr k) ih u = ih k
