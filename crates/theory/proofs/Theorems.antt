-- The theorems, each in a line from the file behind it: first demand 2 as `model` states it, then what demand 3 rests on.
-- Serves demands 2 and 3. Assumes nothing.
use Rattle.std.specs.Prelude.{List, ◌≡◌, ◌*◌, ◌+◌, ◌<◌, ◌≤◌, suc, ℕ, get_or, length}
use Rattle.std.proofs.Math.Option.{some}
use Rattle.model.specs.Definition.{Binding, Node, conditionals, definition, lookup, ref, root, unify_head}
use Rattle.model.specs.Demands.{AloneInOrder, FinishedIsExact, OrderIsOne, ReportsDemandAlways, RunsSplit}
use Rattle.model.specs.Machine.{Call, Size, UsedSlot, after}
use Rattle.model.specs.Rules.{Argument, Clause, Rules}
use Rattle.model.specs.Search.{ClausePath, node_at}
use Rattle.theory.proofs.Definition.Laws.{definition-laws}
use Rattle.theory.proofs.Definition.NodeNumbers.{definition-below, definition-small}
use Rattle.theory.proofs.Definition.Nodes.{definition-sane}
use Rattle.theory.specs.Definition.Sane.{BoundBelow, BoundOnce, GoalsBelow, RulesBelow, RulesSmall, Sane, VariablesBelow}
use Rattle.theory.proofs.Machine.Calls.{after-good}
use Rattle.theory.proofs.Machine.Depth.{good-depth}
use Rattle.theory.proofs.Machine.Finished.{finished-exactly}
use Rattle.theory.proofs.Machine.Order.{alone-order}
use Rattle.theory.proofs.Machine.Runs.{run-split}
use Rattle.theory.proofs.Machine.Unique.{exactly-unique}
use Rattle.theory.specs.Memory.Arrays.{OnTrail, TrailOnce, WordEntry, Words, walk_words}
use Rattle.theory.specs.Memory.Fit.{Ghost, Memory, number_of}
use Rattle.theory.proofs.Memory.Heads.{unify_head_stored-agrees}
use Rattle.theory.specs.Memory.Meet.{Links, Rooted, path_to}
use Rattle.theory.proofs.Memory.MoveFacts.{move_words-elsewhere, move_words-walk}
use Rattle.theory.specs.Memory.Moves.{entries_into, entries_out, move_words, trails_along}
use Rattle.theory.specs.Memory.Represents.{FrameCells, HeadAgrees, OneCell, Place, Represents}
use Rattle.theory.specs.Memory.Store.{Work, unify_head_stored, value}
use Rattle.theory.specs.Memory.World.{Nodes, World, walk}
use Rattle.theory.proofs.Memory.WorldFacts.{world-array}

-- Demand 2 for the machine: Finished is exact, a worker alone reports in clause order, that order is one list, runs split.
pub reports-demand : ReportsDemandAlways
unfolding ReportsDemandAlways FinishedIsExact AloneInOrder OrderIsOne RunsSplit
reports-demand R q Z goal slot =
    record {
      finished_is_exact = finished-exactly (definition R q) Z (definition-laws R q goal) slot;
      alone_in_order = alone-order (definition R q) Z (definition-laws R q goal) slot;
      order_is_one = exactly-unique (definition R q);
      runs_split = run-split (definition R q) Z;
    }

-- Every worker stands at a used slot, whatever was called since the load.
pub workers-stand : (R : Rules) (q : Clause) (Z : Size) → 0 < length q.goals → 0 < Z.slots → (cs : List Call) (w : ℕ) → w < Z.workers
    → (e : UsedSlot (definition R q)) × ((after (definition R q) Z cs).slots ((after (definition R q) Z cs).at w) ≡ some e)
workers-stand R q Z goal slot cs w l = (after-good (definition R q) Z (definition-laws R q goal) slot cs).stands w l

-- References fall, and no number is bound twice on a path.
pub references-fall : (R : Rules) (q : Clause) (d : ClausePath) (N : Node) → node_at (definition R q) (root q) d ≡ some N → (n m : ℕ)
    → lookup N.bindings n ≡ some (ref m) → m < n
references-fall R q d N e = (definition-sane R q d N e).falls

pub numbers-bound-once : (R : Rules) (q : Clause) (d : ClausePath) (N : Node) → node_at (definition R q) (root q) d ≡ some N → BoundOnce N.bindings
numbers-bound-once R q d N e = (definition-sane R q d N e).bound_once

-- A used slot's path is shorter than the slot count, and a path of n clauses leads to numbers below 32 (n + 1): depths and numbers stay in their fields.
pub depths-below : (R : Rules) (q : Clause) (Z : Size) → 0 < length q.goals → 0 < Z.slots → (cs : List Call) (s : ℕ) (e : UsedSlot (definition R q))
    → (after (definition R q) Z cs).slots s ≡ some e
    → length e.path < Z.slots
depths-below R q Z goal slot cs s e u = good-depth (definition R q) Z (after (definition R q) Z cs) (after-good (definition R q) Z (definition-laws R q goal) slot cs) s e u

pub numbers-below : (R : Rules) (q : Clause) → RulesSmall R → q.variables ≤ 32 → (d : ClausePath) (N : Node) → node_at (definition R q) (root q) d ≡ some N
    → N.base + N.variables ≤ 32 * suc (length d)
numbers-below R q small v d N e = definition-small R q small v d N e

-- No number at or past the end of a node's variables is bound: a child's own variables are unbound when its head is unified.
pub numbers-bound-below : (R : Rules) (q : Clause) → RulesBelow R → GoalsBelow q.variables q.goals → (d : ClausePath) (N : Node)
    → node_at (definition R q) (root q) d ≡ some N → BoundBelow (N.base + N.variables) N.bindings
numbers-bound-below R q legal goals d N e = (definition-below R q legal goals d N e).bound

-- A move over the common ancestor gives the walk from the root, and changes only what is trailed below it.
pub move-walks : (K : Links) (trail : ℕ → List WordEntry) (f s t : ℕ) → Rooted K s → Rooted K t → K.depth s + K.depth t < f → (n : ℕ)
    → TrailOnce (trails_along trail (path_to K s))
    → move_words K trail f s t (walk_words n (trails_along trail (path_to K s))) ≡ walk_words n (trails_along trail (path_to K t))
move-walks K trail f s t us ut h n once = move_words-walk K trail f s t us ut h n once

pub move-changes : (K : Links) (trail : ℕ → List WordEntry) (f s t : ℕ) (a : Words) (n : ℕ) → (OnTrail n (entries_out K trail f s t) → ⊥)
    → (OnTrail n (entries_into K trail f s t) → ⊥)
    → get_or (move_words K trail f s t a) n 0 ≡ get_or a n 0
move-changes K trail f s t a n o i = move_words-elsewhere K trail f s t a n o i

-- Unifying a head in cells and array agrees with unifying it by number: both fail, or both succeed and the memory represents the new bindings.
pub unifying-agrees : (A : Place) → OneCell A → (base variables : ℕ) (head_cell : ℕ → ℕ) (goal_base goal_variables : ℕ) (goal_cell : ℕ → ℕ)
    → FrameCells A base variables head_cell → FrameCells A goal_base goal_variables goal_cell
    → (hs gs : List Argument) (B : List Binding) (W : Work) → VariablesBelow variables hs → VariablesBelow goal_variables gs → Sane B → Represents A B W.store
    → HeadAgrees A B W (unify_head B base hs goal_base gs) (unify_head_stored A.number base W head_cell hs goal_cell gs)
unifying-agrees A = unify_head_stored-agrees A

-- Where every used slot fits its node, the walk to a slot holds at every number the conditional binding of its node, and nothing elsewhere.
pub array-holds : (M : Nodes) (X : Memory) (Γ : ℕ → Ghost) → World M X Γ → (s : ℕ) (N : Node) → M s ≡ some N → (n : ℕ)
    → value (number_of X) (walk (Γ s) n) ≡ lookup (conditionals N.bindings) n
array-holds M X Γ w s N e n = world-array M X Γ w s N e n
