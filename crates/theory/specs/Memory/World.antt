-- Definitions: every used slot fits its node; the walk to a slot; frames come from the parent's line; and, for all workers, each array the walk to its slot.
-- Serves demand 3. Assumes nothing.
use mathlib.Core.List.{Memᴰ}
use Rattle.std.specs.Prelude.{◌≢◌, ◌⊎◌, ◌≡◌, ◌<◌, ℕ}
use Rattle.std.proofs.Math.Option.{Option, none, some}
use Rattle.model.specs.Definition.{Node, definition}
use Rattle.model.specs.Machine.{Slots, UsedSlot}
use Rattle.model.specs.Rules.{Clause, Rules}
use Rattle.model.specs.Search.{Search}
use Rattle.theory.specs.Memory.Fit.{Fit, Ghost, Memory, empty_array}
use Rattle.theory.specs.Memory.Lines.{Frame}
use Rattle.theory.specs.Memory.Store.{Word, install_map}

-- the node of each used slot, as the machine over the tree has it
abbrev pub Nodes : Type 0
Nodes = ℕ → Option Node

pub record World (M : Nodes) (X : Memory) (Γ : ℕ → Ghost) : Type 0 where
  pub fits : (s : ℕ) (N : Node) → M s ≡ some N → Fit X (Γ s) N
  pub free : (s : ℕ) → M s ≡ none → X s ≡ none

-- the walk to a slot
abbrev pub walk : Ghost → ℕ → Word
walk G = install_map G.entries empty_array

-- rule 4: a slot without a child stands on nobody else's line
pub record Lineage (T : Search) (S : Slots T) (Γ : ℕ → Ghost) : Type 0 where
  pub top : (f : Frame) → Memᴰ f (Γ 0).line → f.slot ≡ 0
  pub up : (s : ℕ) (e : UsedSlot T) → S s ≡ some e → s ≢ 0 → (f : Frame) → Memᴰ f (Γ s).line → (f.slot ≡ s) ⊎ Memᴰ f (Γ e.parent).line

module _ (R : Rules) (q : Clause) where
  unfoldable pub node_in : Option (UsedSlot (definition R q)) → Option Node
  node_in none = none
  node_in (some e) = some e.node

  unfoldable pub nodes_of : Slots (definition R q) → Nodes
  nodes_of S s = node_in (S s)

  pub record InStep (S : Slots (definition R q)) (at : ℕ → ℕ) (X : Memory) (array : ℕ → ℕ → Word) (Γ : ℕ → Ghost) (W : ℕ) : Type 0 where
    pub world : World (nodes_of S) X Γ
    pub arrays : (w : ℕ) → w < W → array w ≡ walk (Γ (at w))
