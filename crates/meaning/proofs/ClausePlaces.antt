-- Inside a clause: where its goals and arguments stand, what their words are and decode to, and that every variable is below the clause's count. Document 01, "Rule image",
-- "A clause is its CLAUSE word, its head arguments, then each GOAL word with its arguments". For the clauses of an image and for a query alike. Assumes nothing.
use Rattle.std.proofs.Math.Path.{◌≡◌, ap}
use Rattle.std.proofs.Common.{◌∙◌, arith, add-zero}
use Rattle.std.proofs.Math.Option.{some}
use mathlib.Core.List.{List, [], ◌∷◌, map, flat_map}
use Prim.Native.Nat.{ℕ, zero, suc, ◌+◌, ◌≤◌}
use Rattle.std.proofs.Math.ListN.{length, get_elem?}
use Rattle.model.specs.Rules.{Argument, Goal, call, Clause, Rules}
use Rattle.model.specs.Encoding.{Each, encode_arg, encode_call, encode_goal, encode_clause, goal_args, clause_args, seen_after, WellFormedGoal, WellFormedClause}
use Rattle.model.specs.Decoding.{decode_arg, goal_next, goal_from, goal_at}
use Rattle.meaning.specs.Stands.{Stands}
use Rattle.meaning.specs.Reading.{Read}
use Rattle.meaning.proofs.Reading.{read_left, read_right, args-below}
use Rattle.meaning.proofs.Arguments.{arg-decode}
use Rattle.meaning.proofs.Goals.{Declares, goal_next-is, goal-here, goal-decode}
use Rattle.meaning.proofs.Clauses.{clause-here, clause-there, clause-heads, clause-goals, clause-decode}
use Rattle.meaning.specs.ClausePlaces.{ArgPlace, GoalPlace, ClausePlace}

pub args-place : (words : List ℕ) (args : List Argument) {declared at seen end after : ℕ} → declared ≤ 64 → Read words (map encode_arg args) args declared at seen end after
    → (i : ℕ) (arg : Argument) → get_elem? args i ≡ some arg → ArgPlace words declared (at + i) arg
unfolding seen_after
args-place words [] few r i arg e = let z : ◌≡◌ {A = ℕ} 0 1 = cc in absurd (omega arith)
args-place words (one ∷ args) {declared} {at} {seen} few r zero arg e =
    let same : one ≡ arg = cc in
    let first = read_left (encode_arg one ∷ []) (map encode_arg args) (one ∷ []) args r in
    let decoded = ap decode_arg first.stands.1 ∙ arg-decode one seen first.numbered.0 (omega (arith, first.kept)) in
    rw (add-zero, ← same) (record { there = first.stands.0; word = first.stands.1; decoded = decoded; below = (args-below declared seen (one ∷ []) first.kept).0 })
args-place words (one ∷ args) {declared} {at} {seen} few r (suc i) arg e =
    let rest = args-place words args few (read_right (encode_arg one ∷ []) (map encode_arg args) (one ∷ []) args r) i arg e in
    let shift : at + 1 + i ≡ at + suc i = omega arith in
    rw shift at rest

module _ {image : List ℕ} {program : Rules} (known : Declares image program) (words : List ℕ) where
  goal-place : (goal : Goal) {declared at seen end after : ℕ} → declared ≤ 64 → WellFormedGoal program goal → Read words (encode_goal goal) (goal_args goal) declared at seen end after
      → GoalPlace image words program declared at goal
  unfolding encode_goal goal_args seen_after
  goal-place (call predicate args) {declared} {at} few good r =
      let rest = read_right (encode_call predicate ∷ []) (map encode_arg args) [] args r in
      let f = goal-here known words predicate args at good r.stands in
      record {
        there = r.stands.0;
        stands = r.stands;
        decoded = goal-decode known words (call predicate args) few good r;
        good = good;
        exists = omega (arith, f.0.is_predicate, good.0, known.count);
        arity = f.1;
        args = args-place words args few rest;
      }

  -- following the goals from the first on visits each
  goals-place : (all : List Goal) {declared at seen end after : ℕ} → declared ≤ 64 → Each (WellFormedGoal program) all
      → Read words (flat_map encode_goal all) (flat_map goal_args all) declared at seen end after → (j : ℕ) (goal : Goal) → get_elem? all j ≡ some goal
      → GoalPlace image words program declared (goal_from image words at j) goal
  unfolding flat_map goal_from
  goals-place [] few good r j goal e = let z : ◌≡◌ {A = ℕ} 0 1 = cc in absurd (omega arith)
  goals-place (one ∷ all) few good r zero goal e =
      let same : one ≡ goal = cc in
      rw (← same) (goal-place one few good.0 (read_left (encode_goal one) (flat_map encode_goal all) (goal_args one) (flat_map goal_args all) r))
  goals-place (one ∷ all) {at = at} few good r (suc j) goal e =
      let first = read_left (encode_goal one) (flat_map encode_goal all) (goal_args one) (flat_map goal_args all) r in
      let rest = read_right (encode_goal one) (flat_map encode_goal all) (goal_args one) (flat_map goal_args all) r in
      let next : goal_next image words at ≡ at + length (encode_goal one) =
      goal_next-is image words at ∙ ap (λ (g : Goal). at + length (encode_goal g)) (goal-decode known words one few good.0 first) in
      rw next (goals-place all few good.1 rest j goal e)

  -- a well-formed clause whose encoding stands at a place is there with all its parts
  pub clause-place : (head_arity : ℕ) → head_arity ≤ 15 → (one : Clause) (at : ℕ) → WellFormedClause program head_arity one → Stands words at (encode_clause one)
      → ClausePlace image words program head_arity at one
  unfolding goal_at
  clause-place head_arity narrow one at good h =
      let few : one.variables ≤ 64 = omega (arith, good.variables) in
      record {
        there = clause-there words one at h;
        stands = h;
        decoded = clause-decode known head_arity narrow words one at good h;
        good = good;
        fields = clause-here known head_arity narrow words one at good h;
        heads = args-place words one.head few (clause-heads known head_arity narrow words one at good h);
        goals = goals-place one.goals few good.calls (clause-goals known head_arity narrow words one at good h);
        variables = args-below one.variables 0 (clause_args one) (omega (arith, good.declared));
      }
