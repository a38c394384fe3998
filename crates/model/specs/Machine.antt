-- The machine of rules 1 to 7 over a search tree: used slots, workers, steps, runs, moves, refused calls. No words and no bindings.
-- Renders "The steps" of document 01 from "A node is live" on, and of "Refused calls" what a caller of a loaded memory can meet: 22, 23 and 24.
-- Each used slot also has its path from the root, and the machine the paths that were reported; both serve to state the demands. Assumes nothing.
use Rattle.std.specs.Prelude.{Bool, true, false, not, ◌&&◌, List, [], ◌∷◌, ◌++◌, ℕ, zero, suc, eqb, ltb}
use Rattle.std.proofs.Math.Option.{Option, none, some}
use Rattle.model.specs.declared.Outcome.{Outcome}
use Rattle.model.specs.declared.Outcome.TheVariants.{Tried, Extended, Answer, Back, Left, Wait, Finished, Spent, Full}
use Rattle.model.specs.Maps.{put, any_below, lowest_below}
use Rattle.model.specs.Search.{Search, ClausePath}

-- The numbers that the page gives in brackets.
unfoldable pub outcome_number : Outcome → ℕ
outcome_number Tried = 0
outcome_number Extended = 1
outcome_number Answer = 2
outcome_number Back = 3
outcome_number Left = 4
outcome_number Wait = 5
outcome_number Finished = 6
outcome_number Spent = 7
outcome_number Full = 24

-- "A run takes steps until Answer, Wait or Finished (counted), Full (not counted, steps before it stand) or until its budget is used: Spent."
pub data Stopping : Type 0 where
  goes_on stops_counted stops_uncounted : Stopping

-- No step says Spent.
unfoldable pub stopping : Outcome → Stopping
stopping Tried = goes_on
stopping Extended = goes_on
stopping Answer = stops_counted
stopping Back = goes_on
stopping Left = goes_on
stopping Wait = stops_counted
stopping Finished = stops_counted
stopping Spent = goes_on
stopping Full = stops_uncounted

-- What callers do after a load.
pub data Call : Type 0 where
  step_by : ℕ → Call
  run_by : ℕ → ℕ → Call
  move_to : ℕ → ℕ → Call

pub record Size : Type 0 where
  pub slots : ℕ
  pub workers : ℕ

-- "four workers, 64 node slots"
abbrev pub base_size : Size
base_size = record { slots = 64; workers = 4 }

module _ (T : Search) where
  pub record UsedSlot : Type 0 where
    pub node : T.Node
    pub path : ClausePath
    pub parent : ℕ
    pub tried : ℕ

  -- none: the slot is free
  abbrev pub Slots : Type 0
  Slots = ℕ → Option UsedSlot

  -- "N's tried count rises"
  abbrev pub raised : UsedSlot → UsedSlot
  raised e = record { node = e.node; path = e.path; parent = e.parent; tried = suc e.tried }

  unfoldable pub raise : Slots → ℕ → UsedSlot → Slots
  raise S s e = put S s (some (raised e))

  -- the child M of slot s by the clause that s takes next
  abbrev pub child_slot : ℕ → UsedSlot → T.Node → UsedSlot
  child_slot s e M = record { node = M; path = e.path ++ (e.tried ∷ []); parent = s; tried = 0 }

  unfoldable pub grow : Slots → ℕ → UsedSlot → ℕ → T.Node → Slots
  grow S s e c M = put (raise S s e) c (some (child_slot s e M))

  unfoldable pub free : Slots → ℕ → Slots
  free S s = put S s none

  abbrev pub root_slot : UsedSlot
  root_slot = record { node = T.root; path = []; parent = 0; tried = 0 }

  -- reported: the paths of the nodes at which Answer was said, newest first
  pub record Machine : Type 0 where
    pub slots : Slots
    pub at : ℕ → ℕ
    pub reported : List ClausePath

  pub record Done : Type 0 where
    pub outcome : Outcome
    pub machine : Machine

  pub record Ran : Type 0 where
    pub outcome : Outcome
    pub count : ℕ
    pub machine : Machine

  -- what a call reports; none for a move and for a refused call
  pub record Called : Type 0 where
    pub outcome : Option Outcome
    pub machine : Machine

  unfoldable pub goes : Machine → ℕ → ℕ → Machine
  goes M w s = record { slots = M.slots; at = put M.at w s; reported = M.reported }

  -- "A node is live if it has a first goal with clauses untried."
  unfoldable pub live : UsedSlot → Bool
  live e = ltb e.tried (T.clause_count e.node)

  -- The root is nobody's child, although its parent is 0.
  unfoldable pub is_child : Option UsedSlot → ℕ → ℕ → Bool
  is_child none s t = false
  is_child (some e) s t = not (eqb t 0) && eqb e.parent s

  unfoldable pub is_free : Option UsedSlot → Bool
  is_free none = true
  is_free (some e) = false

  -- "Load .. sets memory afresh, all workers at slot 0."
  unfoldable pub load : Machine
  load = record { slots = put (λ _. none) 0 (some root_slot); at = λ _. 0; reported = [] }

  module _ (Z : Size) where
    unfoldable pub has_child : Machine → ℕ → Bool
    has_child M s = any_below Z.slots (λ t. is_child (M.slots t) s t)

    unfoldable pub another_there : Machine → ℕ → ℕ → Bool
    another_there M w s = any_below Z.workers (λ v. not (eqb v w) && eqb (M.at v) s)

    unfoldable pub lowest_free : Machine → Option ℕ
    lowest_free M = lowest_below Z.slots (λ t. is_free (M.slots t))

    -- "A step by worker w at node N, first rule that fits". Below, s is N's slot and e what it holds; a clause for each rule, in the page's order.
    -- Rules 1 to 4, N dead. Has N a child; is it the root; is another worker there.
    unfoldable pub dead_rule : Bool → Bool → Bool → Machine → ℕ → ℕ → UsedSlot → Done
    dead_rule false true o M w s e = record { outcome = Finished; machine = M }
    dead_rule true r o M w s e = record { outcome = Wait; machine = M }
    dead_rule false false true M w s e = record { outcome = Left; machine = goes M w e.parent }
    dead_rule false false false M w s e =
        record { outcome = Back; machine = record { slots = free M.slots s; at = put M.at w e.parent; reported = M.reported } }

    -- Rules 5 to 7. Is N's predicate sequential and has N a child; the lowest free slot; the child by the next clause, none if its head fails.
    -- "Failure: Tried; only that count has changed. Success: a child in the lowest free slot, w goes there; Answer if it has no goal, else Extended."
    unfoldable pub live_rule : Bool → Option ℕ → Option T.Node → Machine → ℕ → ℕ → UsedSlot → Done
    live_rule true room child M w s e = record { outcome = Wait; machine = M }
    live_rule false none child M w s e = record { outcome = Full; machine = M }
    live_rule false (some c) none M w s e =
        record { outcome = Tried; machine = record { slots = raise M.slots s e; at = M.at; reported = M.reported } }
    live_rule false (some c) (some m) M w s e =
        elim (T.without_goals m) [
          | true ↦
              record { outcome = Answer; machine = record { slots = grow M.slots s e c m; at = put M.at w c; reported = (e.path ++ (e.tried ∷ [])) ∷ M.reported } }
          | false ↦ record { outcome = Extended; machine = record { slots = grow M.slots s e c m; at = put M.at w c; reported = M.reported } }
        ]

    unfoldable pub node_rule : Bool → Machine → ℕ → ℕ → UsedSlot → Done
    node_rule false M w s e = dead_rule (has_child M s) (eqb s 0) (another_there M w s) M w s e
    node_rule true M w s e = live_rule (T.sequential e.node && has_child M s) (lowest_free M) (T.child e.node e.tried) M w s e

    -- A worker of a loaded machine stands at a used slot; the first clause only makes the function total.
    unfoldable pub slot_rule : Option UsedSlot → Machine → ℕ → ℕ → Done
    slot_rule none M w s = record { outcome = Wait; machine = M }
    slot_rule (some e) M w s = node_rule (live e) M w s e

    unfoldable pub step : Machine → ℕ → Done
    step M w = slot_rule (M.slots (M.at w)) M w (M.at w)

    -- "Budget 0 is Spent with 0. A stop on the last step is reported as that stop."
    unfoldable pub run : ℕ → Machine → ℕ → Ran
    run zero M w = record { outcome = Spent; count = 0; machine = M }
    run (suc n) M w =
        elim (stopping (step M w).outcome) [
          | goes_on ↦ let r = run n (step M w).machine w in record { outcome = r.outcome; count = suc r.count; machine = r.machine }
          | stops_counted ↦ record { outcome = (step M w).outcome; count = 1; machine = (step M w).machine }
          | stops_uncounted ↦ record { outcome = (step M w).outcome; count = 0; machine = M }
        ]

    -- "22 worker above 3; then 23 (move: slot above 63 or free)", "All leave memory unchanged". 24 is rule 6. The first test: nothing refuses the call.
    unfoldable pub step_call : Bool → Machine → ℕ → Called
    step_call true M w = record { outcome = some (step M w).outcome; machine = (step M w).machine }
    step_call false M w = record { outcome = none; machine = M }

    unfoldable pub run_call : Bool → ℕ → Machine → ℕ → Called
    run_call true n M w = record { outcome = some (run n M w).outcome; machine = (run n M w).machine }
    run_call false n M w = record { outcome = none; machine = M }

    -- "A move takes w to any used slot".
    unfoldable pub move_call : Bool → Machine → ℕ → ℕ → Called
    move_call true M w s = record { outcome = none; machine = goes M w s }
    move_call false M w s = record { outcome = none; machine = M }

    unfoldable pub make_call : Machine → Call → Called
    make_call M (step_by w) = step_call (ltb w Z.workers) M w
    make_call M (run_by w n) = run_call (ltb w Z.workers) n M w
    make_call M (move_to w s) = move_call (ltb w Z.workers && (ltb s Z.slots && not (is_free (M.slots s)))) M w s

    -- the machine after calls since the load, the last call first
    unfoldable pub after : List Call → Machine
    after [] = load
    after (c ∷ cs) = (make_call (after cs) c).machine
