-- Rule 7 in memory: a blank child's frame is added to the line, its cells are blank, and unifying its head agrees with the definition's.
-- Serves rule 7 of document 01's steps. Assumes nothing.
use mathlib.Core.List.Memᴰ
use mathlib.Core.List.{List, Memᴰ, [], ◌++◌, ◌∷◌}
use Rattle.std.specs.Prelude.{◌⊎◌, ◌≡◌, ◌%◌, ◌+◌, ◌/◌, ◌<◌, ◌≤◌, ℕ}
use Rattle.std.proofs.Common.{inl, inr, ◌∙◌, arith}
use Rattle.std.proofs.Math.Option.{none}
use Rattle.std.proofs.Math.Path.{ap, refl}
use Rattle.model.specs.Definition.{Binding, lookup, unify_head}
use Rattle.model.specs.Rules.{Argument}
use Rattle.theory.specs.Definition.Sane.{Sane, VariablesBelow}
use Rattle.theory.proofs.Memory.Heads.{unify_head_stored-agrees}
use Rattle.theory.proofs.Memory.LineFacts.{chain-high, chain_snoc, line-one_cell}
use Rattle.theory.specs.Memory.Lines.{Chain, Frame, Numbered, OnLine, line_end, place_on}
use Rattle.theory.specs.Memory.Represents.{FrameCells, Fresh, HeadAgrees, Place, Represents}
use Rattle.theory.specs.Memory.Store.{Store, Word, Work, cell_else_array, con_word, lookup_stored, ref_word, unbound_word, unify_head_stored, value}
use Rattle.theory.proofs.Memory.Tracks.{fresh-represents}

module _ (l : List Frame) (f : Frame) (number : ℕ → ℕ) (ch : Chain 0 l) (at-end : f.base ≡ line_end 0 l) (small : f.variables ≤ 32) (bs : Numbered (l ++ (f ∷ [])) number) where
  abbrev pub parent_place : Place
  parent_place = place_on l number

  abbrev pub child_place : Place
  child_place = place_on (l ++ (f ∷ [])) number

  pub on-up : (a : ℕ) → OnLine l a → OnLine (l ++ (f ∷ [])) a
  on-up a o = record { frame = o.frame; among = Memᴰ.append_left (f ∷ []) o.among; slot = o.slot; low = o.low }

  -- a cell on the longer line is on the line, or it is the child's
  pub on-cases : (a : ℕ) → OnLine (l ++ (f ∷ [])) a → OnLine l a ⊎ ((a / 32 ≡ f.slot) × (a % 32 < f.variables))
  on-cases a o = go (Memᴰ.append_cases l o.among)
    where
      go : Memᴰ o.frame l ⊎ Memᴰ o.frame (f ∷ []) → OnLine l a ⊎ ((a / 32 ≡ f.slot) × (a % 32 < f.variables))
      go (inl m) = inl (record { frame = o.frame; among = m; slot = o.slot; low = o.low })
      go (inr m) = let e = Memᴰ.eq_of_singleton m in inr (o.slot ∙ ap (λ (r : Frame). r.slot) e, rw (ap (λ (r : Frame). r.variables) e) at o.low)

  own_on : (a : ℕ) → a / 32 ≡ f.slot → a % 32 < f.variables → OnLine (l ++ (f ∷ [])) a
  own_on a e h = record { frame = f; among = Memᴰ.append_right l (Memᴰ.head refl); slot = e; low = h }

  pub own-number : (a : ℕ) → a / 32 ≡ f.slot → (h : a % 32 < f.variables) → number a ≡ line_end 0 l + a % 32
  unfolding own_on Numbered
  own-number a e h = bs a (own_on a e h) ∙ ap (λ (n : ℕ). n + a % 32) at-end

  pub old-low : (a : ℕ) → OnLine l a → number a < line_end 0 l
  unfolding Numbered on-up
  old-low a o = let h = chain-high 0 l ch o.frame o.among in let z = bs a (on-up a o) in omega (arith, o.low)

  -- the parent's cells represent B; the child's are blank; no binding and no array word at or past the end of the line
  pub record Blank (B : List Binding) (S : Store) : Type 0 where
    pub rep : Represents parent_place B S
    pub cells : (a : ℕ) → a / 32 ≡ f.slot → S.cell a ≡ unbound_word
    pub array : (n : ℕ) → line_end 0 l ≤ n → S.array n ≡ unbound_word
    pub low : (n : ℕ) → line_end 0 l ≤ n → lookup B n ≡ none

  blank-fresh : (B : List Binding) (S : Store) → Blank B S → Fresh child_place (line_end 0 l) B S
  unfolding lookup_stored cell_else_array value
  blank-fresh B S k =
      record {
        old = λ a o h. old a h (on-cases a o);
        kept = λ a b o h e. kept a b h e (on-cases a o);
        blank = λ a o h. blank a h (on-cases a o);
        low = k.low;
      }
    where
      same : (w : Word) → value parent_place.number w ≡ value child_place.number w
      same unbound_word = refl
      same (con_word c) = refl
      same (ref_word b) = refl

      old : (a : ℕ) → number a < line_end 0 l → OnLine l a ⊎ ((a / 32 ≡ f.slot) × (a % 32 < f.variables))
          → lookup B (number a) ≡ value child_place.number (lookup_stored child_place.number S a)
      old a h (inl o) = k.rep.same a o ∙ same (lookup_stored parent_place.number S a)
      old a h (inr (e, r)) = absurd (let z = own-number a e r in omega arith)

      kept : (a b : ℕ) → number a < line_end 0 l → lookup_stored child_place.number S a ≡ ref_word b → OnLine l a ⊎ ((a / 32 ≡ f.slot) × (a % 32 < f.variables))
          → OnLine (l ++ (f ∷ [])) b
      kept a b h q (inl o) = on-up b (k.rep.kept a b o q)
      kept a b h q (inr (e, r)) = absurd (let z = own-number a e r in omega arith)

      blank : (a : ℕ) → line_end 0 l ≤ number a → OnLine l a ⊎ ((a / 32 ≡ f.slot) × (a % 32 < f.variables)) → lookup_stored child_place.number S a ≡ unbound_word
      blank a h (inl o) = absurd (let z = old-low a o in omega arith)
      blank a h (inr (e, r)) = rw (k.cells a e) (k.array (number a) h)

  -- rule 7 of one worker: unification in memory agrees with the definition's
  pub head-agrees : (B : List Binding) (W : Work) → Blank B W.store → Sane B → (goal_base goal_variables : ℕ) (goal_cell head_cell : ℕ → ℕ)
      → FrameCells child_place (line_end 0 l) f.variables head_cell → FrameCells child_place goal_base goal_variables goal_cell
      → (hs gs : List Argument) → VariablesBelow f.variables hs → VariablesBelow goal_variables gs
      → HeadAgrees child_place B W (unify_head B (line_end 0 l) hs goal_base gs) (unify_head_stored child_place.number (line_end 0 l) W head_cell hs goal_cell gs)
  head-agrees B W k s goal_base goal_variables goal_cell head_cell fh fg hs gs bh bg =
      unify_head_stored-agrees child_place (line-one_cell (l ++ (f ∷ [])) number (chain_snoc 0 l f ch at-end small) bs) (line_end 0 l) f.variables head_cell goal_base goal_variables goal_cell fh fg hs gs B W bh bg s (fresh-represents child_place (line_end 0 l) B W.store (blank-fresh B W.store k))
