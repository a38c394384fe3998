-- DEMAND 2 for the machine over the definition's tree, as types; the proofs are in `theory`, in its file of theorems.
-- "Load one legal image and query. Make any steps, runs and moves with that pair, refused ones too. .. Once Finished is reported, the answers
-- reported since the load are the definition's, one for each derivation; a worker stepping alone from the load gives them depth first in clause order."
-- A legal query has a goal (refusal 42); of image and query nothing else is used. Two derivations may have equal answers, so these types speak of the
-- paths that were reported; the answer of each is `answer` of the definition. Assumes nothing.
use Rattle.std.specs.Prelude.{◌≡◌, ℕ, ◌+◌, ◌<◌, length}
use Rattle.std.proofs.Math.Option.{some}
use mathlib.Core.List.{List, [], ◌∷◌, ◌++◌, Memᴰ}
use Rattle.model.specs.declared.Outcome.TheVariants.{Finished, Spent}
use Rattle.model.specs.Rules.{Clause, Rules}
use Rattle.model.specs.Search.{Search, ClausePath, Derivation}
use Rattle.model.specs.Definition.{definition}
use Rattle.model.specs.Machine.{Size, Machine, Call, step_by, run_by, make_call, after, run}

-- none twice
pub data NoneTwice : List ClausePath → Type 0 where
  nothing-reported : NoneTwice []
  one_more : {d : ClausePath} {l : List ClausePath} → (Memᴰ d l → ⊥) → NoneTwice l → NoneTwice (d ∷ l)

-- the members of l are the derivations from the root, each once
pub record Exactly (T : Search) (l : List ClausePath) : Type 0 where
  pub sound : (d : ClausePath) → Memᴰ d l → Derivation T T.root d
  pub complete : (d : ClausePath) → Derivation T T.root d → Memᴰ d l
  pub none_twice : NoneTwice l

-- d comes before e, depth first in clause order: they part at a node, and d takes the earlier clause there
pub record Before (d e : ClausePath) : Type 0 where
  pub common : ClausePath
  pub earlier : ℕ
  pub later : ℕ
  pub rest_earlier : ClausePath
  pub rest_later : ClausePath
  pub left : d ≡ common ++ (earlier ∷ rest_earlier)
  pub right : e ≡ common ++ (later ∷ rest_later)
  pub less : earlier < later

-- newest first: each comes after all that were reported before it
pub data ClauseOrder : List ClausePath → Type 0 where
  order-nothing : ClauseOrder []
  order-more : {d : ClausePath} {l : List ClausePath} → ((e : ClausePath) → Memᴰ e l → Before e d) → ClauseOrder l → ClauseOrder (d ∷ l)

-- steps and runs by w and nobody else
pub data Alone (w : ℕ) : List Call → Type 0 where
  alone-load : Alone w []
  alone-step : {cs : List Call} → Alone w cs → Alone w (step_by w ∷ cs)
  alone-run : {n : ℕ} {cs : List Call} → Alone w cs → Alone w (run_by w n ∷ cs)

module _ (R : Rules) (q : Clause) (Z : Size) where
  abbrev pub tree : Search
  tree = definition R q

  -- whatever was called since the load, once a call reports Finished the reports are exactly the derivations
  unfoldable pub FinishedIsExact : Type 0
  FinishedIsExact = (cs : List Call) (c : Call) → (make_call tree Z (after tree Z cs) c).outcome ≡ some Finished → Exactly tree (after tree Z (c ∷ cs)).reported

  -- what a worker alone has reported is at any time in clause order
  unfoldable pub AloneInOrder : Type 0
  AloneInOrder = (w : ℕ) (cs : List Call) → Alone w cs → ClauseOrder (after tree Z cs).reported

  -- one list and no other is exact and in that order
  unfoldable pub OrderIsOne : Type 0
  OrderIsOne = (l k : List ClausePath) → Exactly tree l → Exactly tree k → ClauseOrder l → ClauseOrder k → l ≡ k

  -- a run that ends Spent, followed by a second, is one run of the sum: same stop, same machine, counts that add up
  unfoldable pub RunsSplit : Type 0
  RunsSplit = (a b w : ℕ) (M : Machine tree) → (run tree Z a M w).outcome ≡ Spent
      → run tree Z (a + b) M w ≡ record {
        outcome = (run tree Z b (run tree Z a M w).machine w).outcome;
        count = (run tree Z a M w).count + (run tree Z b (run tree Z a M w).machine w).count;
        machine = (run tree Z b (run tree Z a M w).machine w).machine;
      }

  pub record ReportsDemand : Type 0 where
    pub finished_is_exact : FinishedIsExact
    pub alone_in_order : AloneInOrder
    pub order_is_one : OrderIsOne
    pub runs_split : RunsSplit

-- for every set of rules, every query with a goal, and every size with a slot for the root
unfoldable pub ReportsDemandAlways : Type 0
ReportsDemandAlways = (R : Rules) (q : Clause) (Z : Size) → 0 < length q.goals → 0 < Z.slots → ReportsDemand R q Z
