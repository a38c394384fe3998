-- The definition and the machine tried: what they compute for each case equals what the case says.
-- Serves "The steps" of document 01, and of "Bench examples" P6, P7 to P9, P10 and P11 as far as they speak of no words. Assumes nothing.
use Rattle.std.specs.Prelude.{Bool, true, false, ◌&&◌, ℕ, zero, suc, ◌+◌, T, eqb, length}
use Rattle.std.proofs.Math.Option.{Option, none, some}
use mathlib.Core.List.{List, [], ◌∷◌, map, reverse, flat_map}
use Rattle.model.specs.declared.Outcome.{Outcome}
use Rattle.model.specs.Maps.{any_below, lowest_below}
use Rattle.model.specs.Rules.{Argument, con, var, Clause, Rules, clauses_of, sequential_of}
use Rattle.model.specs.Search.{Search, ClausePath, node_at}
use Rattle.model.specs.Definition.{
  Value,
  const,
  ref,
  lookup,
  dereference_in,
  dereference,
  dereference_argument,
  unify,
  unify_head,
  extend,
  goal_clauses,
  goal_sequential,
  goal_child,
  clauses_of_first,
  sequential_of_first,
  child_by_first,
  no_goals,
  root,
  definition,
  index_in,
  with_number,
  renumber,
  numbers_from,
  answer_at,
  answer,
  conditionals,
}
use Rattle.model.specs.Machine.{
  outcome_number,
  stopping,
  Machine,
  Call,
  step_by,
  run_by,
  move_to,
  raise,
  grow,
  free,
  goes,
  live,
  is_child,
  is_free,
  load,
  base_size,
  Size,
  has_child,
  another_there,
  lowest_free,
  dead_rule,
  live_rule,
  node_rule,
  slot_rule,
  step,
  run,
  step_call,
  run_call,
  move_call,
  make_call,
}
use Rattle.model.specs.Cases.{Case, cases, History, histories}

abbrev same_numbers : List ℕ → List ℕ → Bool
same_numbers [] [] = true
same_numbers [] (y ∷ ys) = false
same_numbers (x ∷ xs) [] = false
same_numbers (x ∷ xs) (y ∷ ys) = eqb x y && same_numbers xs ys

abbrev same_lists : List (List ℕ) → List (List ℕ) → Bool
same_lists [] [] = true
same_lists [] (y ∷ ys) = false
same_lists (x ∷ xs) [] = false
same_lists (x ∷ xs) (y ∷ ys) = same_numbers x y && same_lists xs ys

-- a VAR or CON word of the image
abbrev argument_word : Argument → ℕ
argument_word (con c) = 0x20000000 + c
argument_word (var i) = 0x10000000 + i

-- a value word of the memory, a REF by its variable's number
abbrev value_word : Value → ℕ
value_word (const c) = 0x40000000 + c
value_word (ref n) = 0x20000000 + n

-- the derivations from N that are no longer than the fuel, depth first in clause order
unfoldable pub derivations_within : (T : Search) → ℕ → T.Node → List ClausePath
derivations_within T zero N = []
derivations_within T (suc f) N =
    elim (T.without_goals N) [
      | true ↦ [] ∷ []
      | false ↦ flat_map (λ k. elim (T.child N k) [ none ↦ [] | some M ↦ map (λ d. k ∷ d) (derivations_within T f M) ]) (numbers_from 0 (T.clause_count N))
    ]

unfoldable pub conditional_words : Rules → Clause → ClausePath → List ℕ
conditional_words R q d =
    elim (node_at (definition R q) (root q) d) [ none ↦ [] | some N ↦ flat_map (λ b. b.number ∷ value_word b.value ∷ []) (conditionals N.bindings) ]

-- n steps by worker 0 alone
pub record AloneRun : Type 0 where
  pub outcomes : List ℕ
  pub reported : List ClausePath

unfoldable pub steps_alone : (T : Search) → ℕ → Machine T → AloneRun
steps_alone T zero M = record { outcomes = []; reported = M.reported }
steps_alone T (suc n) M =
    let d = step T base_size M 0 in
    let r = steps_alone T n d.machine in
    record { outcomes = outcome_number d.outcome ∷ r.outcomes; reported = r.reported }

unfoldable pub case_holds : Case → Bool
case_holds c =
    let T = definition c.rules c.query in
    let r = steps_alone T (length c.outcomes) (load T) in
    same_lists (derivations_within T 16 (root c.query)) c.derivations
    && (same_lists (map (λ d. map argument_word (answer c.rules c.query d)) c.derivations) c.answers
    && (same_lists (map (conditional_words c.rules c.query) c.derivations) c.conditionals
    && (same_numbers r.outcomes c.outcomes
    && same_lists (reverse r.reported) c.derivations)))

unfoldable pub report_of : Option Outcome → List ℕ → List ℕ
report_of none l = l
report_of (some o) l = outcome_number o ∷ l

unfoldable pub call_report : (T : Search) (Z : Size) → Machine T → Machine T → Option Outcome → Call → List ℕ
call_report T Z M K o (step_by w) = report_of o (K.at w ∷ [])
call_report T Z M K o (run_by w n) = report_of o (K.at w ∷ (run T Z n M w).count ∷ [])
call_report T Z M K o (move_to w s) = report_of o (K.at w ∷ [])

unfoldable pub reports_of : (T : Search) (Z : Size) → Machine T → List Call → List (List ℕ)
reports_of T Z M [] = []
reports_of T Z M (c ∷ cs) =
    let r = make_call T Z M c in
    call_report T Z M r.machine r.outcome c ∷ reports_of T Z r.machine cs

unfoldable pub history_holds : History → Bool
history_holds h =
    let T = definition h.rules h.query in
    same_lists (reports_of T h.size (load T) h.calls) h.reports

abbrev all {ℓ} : {A : Type ℓ} → (A → Bool) → List A → Bool
all p [] = true
all p (x ∷ xs) = elim (p x) [ true ↦ all p xs | false ↦ false ]

pub cases-hold : T (all case_holds cases)
unfolding case_holds steps_alone conditional_words derivations_within flat_map lookup dereference_in dereference dereference_argument unify unify_head extend goal_clauses goal_sequential goal_child clauses_of_first sequential_of_first child_by_first no_goals root index_in with_number renumber numbers_from answer_at answer conditionals clauses_of sequential_of node_at outcome_number raise grow free goes live is_child is_free load has_child another_there lowest_free dead_rule live_rule node_rule slot_rule step any_below lowest_below
cases-hold = tt

pub histories-hold : T (all history_holds histories)
unfolding history_holds reports_of call_report report_of flat_map lookup dereference_in dereference dereference_argument unify unify_head extend goal_clauses goal_sequential goal_child clauses_of_first sequential_of_first child_by_first no_goals root numbers_from clauses_of sequential_of outcome_number stopping raise grow free goes live is_child is_free load has_child another_there lowest_free dead_rule live_rule node_rule slot_rule step run step_call run_call move_call make_call any_below lowest_below
histories-hold = tt
